-- Turns from a number on are turns from 1 on, where what is recorded is for that many turns earlier.
use Rattle.std.specs.Prelude.{◌≡◌, ◌⊎◌, ◌≤◌, ◌+◌, ◌-◌, ◌==◌, ◌&&◌, ◌++◌, ℕ, Bool, true, false, cond, List, [], ◌∷◌, filter, map}
use Rattle.std.proofs.Common.{suc, refl, sym, ap, subst, inl, inr, arith}
use Rattle.std.proofs.lemmas.Bool.Decides.{nat_tests}
use Rattle.std.specs.List.{flat_map}
use mathlib.Core.Bool.{beq}
use Rattle.px_terms.specs.declared.atom.Atom.{Atom}
use Rattle.px_terms.specs.declared.problem.Problem.{Problem}
use Rattle.px_table.specs.declared.table.Table.{Table}
use Rattle.px_planex.specs.declared.event.Event.{Event}
use Rattle.px_planex.specs.declared.event.Event.TheVariants.{Sense, Act}
use Rattle.px_planex.specs.declared.event.Outcome.{Outcome}
use Rattle.px_planex.specs.declared.event.Outcome.TheVariants.{Sensed, Acted, Slipped, Goal, NoKernel}
use Rattle.px_planex.specs.Execution.{Memory, Running, Traces, nothing_sensed}
use Rattle.px_planex.specs.Executors.{running}
use Rattle.px_planex.specs.Existing.{TracesExist}
use Rattle.px_planex.specs.RunTraces.{all_disturbed, disturbing, run_events, run_outcomes, turn_events, turn_outcomes}
use Rattle.px_planex.specs.Turns.{AtGoal, AtNoKernel, ByActing, BySlipping, IsLastTurn, Recorded, TakesTurn, TakesTurns, TurnEnd, TurnValue, edits_at, is_at}
use Rattle.px_planex.proofs.TracedRuns.{runs_are_traces}
use Rattle.px_terms.specs.Validity.{IsValid}
use Rattle.px_table.specs.Tables.{IsTable}
use Rattle.px_totality.proofs.EndingRuns.{runs_end}

-- ---- edits

same-turn : (turn j m n : ℕ) → m ≡ j + n → 1 ≤ n → (turn - j == n) ≡ (turn == m)
same-turn turn j m n is some = by (turn - j == n) refl (turn == m) refl
  where
    by : (a : Bool) → (turn - j == n) ≡ a → (b : Bool) → (turn == m) ≡ b → a ≡ b
    by true e true f = refl
    by true e false f = absurd (grind (arith, nat_tests, e, f, is, some))
    by false e true f = absurd (grind (arith, nat_tests, e, f, is, some))
    by false e false f = refl

module _ {E : Type 0} (j : ℕ) where
  abbrev earlier : Recorded E → Recorded E
  earlier one = record { turn = one.turn - j; between = one.between; edits = one.edits }

  abbrev pub all_earlier : List (Recorded E) → List (Recorded E)
  all_earlier recorded = map earlier recorded

  abbrev edits_of : List (Recorded E) → List E
  edits_of recorded = flat_map (λ (r : Recorded E). r.edits) recorded

  edits-same : (recorded : List (Recorded E)) (m n : ℕ) (between : Bool) → m ≡ j + n → 1 ≤ n
      → edits_at (all_earlier recorded) n between ≡ edits_at recorded m between
  edits-same [] m n between is some = refl
  edits-same (one ∷ recorded) m n between is some =
      subst (λ (b : Bool). edits_of (cond ((one.turn - j == n) && beq one.between between)
      (earlier one ∷ filter (is_at n between) (all_earlier recorded)) (filter (is_at n between) (all_earlier recorded)))
      ≡ edits_of (cond b (one ∷ filter (is_at m between) recorded) (filter (is_at m between) recorded)))
      (ap (λ (b : Bool). b && beq one.between between) (same-turn one.turn j m n is some))
      (by ((one.turn - j == n) && beq one.between between) (edits-same recorded m n between is some))
    where
      by : (b : Bool) → edits_at (all_earlier recorded) n between ≡ edits_at recorded m between
          → edits_of (cond b (earlier one ∷ filter (is_at n between) (all_earlier recorded))
          (filter (is_at n between) (all_earlier recorded)))
          ≡ edits_of (cond b (one ∷ filter (is_at m between) recorded) (filter (is_at m between) recorded))
      by true rest = ap (λ (es : List E). one.edits ++ es) rest
      by false rest = rest

  -- ---- turns

  module _ (leaves : E → List Atom → List Atom) (problem : Problem) (table : Table) (bound : List (ℕ × ℕ))
      (recorded : List (Recorded E)) where
    abbrev Turn : (before between : List E) → Running → TurnValue → Running → Type 0
    Turn before between old turn new = TakesTurn leaves problem table bound before between old turn new

    pub turns-earlier : (turns : List TurnValue) (m n : ℕ) (old new : Running) → m ≡ j + n → 1 ≤ n
        → TakesTurns leaves problem table bound recorded m old turns new
        → TakesTurns leaves problem table bound (all_earlier recorded) n old turns new
    turns-earlier [] m n old new is some takes = absurd takes
    turns-earlier (turn ∷ turns) m n old new is some (mid, takes, goes) = (
      mid,
      subst (λ (es : List E). Turn es (edits_at (all_earlier recorded) n true) old turn mid) (sym (edits-same recorded m n false is some))
          (subst (λ (es : List E). Turn (edits_at recorded m false) es old turn mid) (sym (edits-same recorded m n true is some)) takes),
      after goes (λ more. turns-earlier turns (suc m) (suc n) mid new (omega (arith, is)) (omega arith) more),
    )
      where
        after : ((IsLastTurn turn.end × (turns ≡ []) × (new ≡ mid))
            ⊎ ((¬ IsLastTurn turn.end) × TakesTurns leaves problem table bound recorded (suc m) mid turns new))
            → (TakesTurns leaves problem table bound recorded (suc m) mid turns new
            → TakesTurns leaves problem table bound (all_earlier recorded) (suc n) mid turns new)
            → (IsLastTurn turn.end × (turns ≡ []) × (new ≡ mid))
            ⊎ ((¬ IsLastTurn turn.end) × TakesTurns leaves problem table bound (all_earlier recorded) (suc n) mid turns new)
        after (inl last) more = inl last
        after (inr later) more = inr (later.0, more later.1)

    pub turns-later : (turns : List TurnValue) (m n : ℕ) (old new : Running) → m ≡ j + n → 1 ≤ n
        → TakesTurns leaves problem table bound (all_earlier recorded) n old turns new
        → TakesTurns leaves problem table bound recorded m old turns new
    turns-later [] m n old new is some takes = absurd takes
    turns-later (turn ∷ turns) m n old new is some (mid, takes, goes) = (
      mid,
      subst (λ (es : List E). Turn es (edits_at recorded m true) old turn mid) (edits-same recorded m n false is some)
          (subst (λ (es : List E). Turn (edits_at (all_earlier recorded) n false) es old turn mid) (edits-same recorded m n true is some)
          takes),
      after goes (λ more. turns-later turns (suc m) (suc n) mid new (omega (arith, is)) (omega arith) more),
    )
      where
        after : ((IsLastTurn turn.end × (turns ≡ []) × (new ≡ mid))
            ⊎ ((¬ IsLastTurn turn.end) × TakesTurns leaves problem table bound (all_earlier recorded) (suc n) mid turns new))
            → (TakesTurns leaves problem table bound (all_earlier recorded) (suc n) mid turns new
            → TakesTurns leaves problem table bound recorded (suc m) mid turns new)
            → (IsLastTurn turn.end × (turns ≡ []) × (new ≡ mid))
            ⊎ ((¬ IsLastTurn turn.end) × TakesTurns leaves problem table bound recorded (suc m) mid turns new)
        after (inl last) more = inl last
        after (inr later) more = inr (later.0, more later.1)

  -- ---- events

  module _ (recorded : List (Recorded E)) (m n : ℕ) (is : m ≡ j + n) (some : 1 ≤ n) where
    events-one : (end : TurnEnd) → turn_events (all_earlier recorded) n end ≡ turn_events recorded m end
    events-one AtGoal = ap (λ (es : List E). disturbing es ++ Sense ∷ []) (edits-same recorded m n false is some)
    events-one AtNoKernel = ap (λ (es : List E). disturbing es ++ Sense ∷ []) (edits-same recorded m n false is some)
    events-one ByActing =
        let before = edits-same recorded m n false is some in
        let between = edits-same recorded m n true is some in
        λ i. disturbing (before i) ++ Sense ∷ (disturbing (between i) ++ Act ∷ [])
    events-one BySlipping =
        let before = edits-same recorded m n false is some in
        let between = edits-same recorded m n true is some in
        λ i. disturbing (before i) ++ Sense ∷ (disturbing (between i) ++ Act ∷ [])

    outcomes-one : (kernel : ℕ) (end : TurnEnd) → turn_outcomes (all_earlier recorded) n kernel end ≡ turn_outcomes recorded m kernel end
    outcomes-one kernel AtGoal = ap (λ (es : List E). all_disturbed es ++ Goal ∷ []) (edits-same recorded m n false is some)
    outcomes-one kernel AtNoKernel = ap (λ (es : List E). all_disturbed es ++ NoKernel ∷ []) (edits-same recorded m n false is some)
    outcomes-one kernel ByActing =
        let before = edits-same recorded m n false is some in
        let between = edits-same recorded m n true is some in
        λ i. all_disturbed (before i) ++ Sensed kernel ∷ (all_disturbed (between i) ++ Acted ∷ [])
    outcomes-one kernel BySlipping =
        let before = edits-same recorded m n false is some in
        let between = edits-same recorded m n true is some in
        λ i. all_disturbed (before i) ++ Sensed kernel ∷ (all_disturbed (between i) ++ Slipped ∷ [])

  events-same : (recorded : List (Recorded E)) (turns : List TurnValue) (m n : ℕ) → m ≡ j + n → 1 ≤ n
      → run_events (all_earlier recorded) n turns ≡ run_events recorded m turns
  events-same recorded [] m n is some = refl
  events-same recorded (turn ∷ turns) m n is some =
      let here = events-one recorded m n is some turn.end in
      let rest = events-same recorded turns (suc m) (suc n) (omega (arith, is)) (omega arith) in
      λ i. here i ++ rest i

  outcomes-same : (recorded : List (Recorded E)) (turns : List TurnValue) (m n : ℕ) → m ≡ j + n → 1 ≤ n
      → run_outcomes (all_earlier recorded) n turns ≡ run_outcomes recorded m turns
  outcomes-same recorded [] m n is some = refl
  outcomes-same recorded (turn ∷ turns) m n is some =
      let here = outcomes-one recorded m n is some turn.kernel turn.end in
      let rest = outcomes-same recorded turns (suc m) (suc n) (omega (arith, is)) (omega arith) in
      λ i. here i ++ rest i

-- ---- runs from a number on

module _ {E : Type 0} (leaves : E → List Atom → List Atom) (problem : Problem) (table : Table) (bound : List (ℕ × ℕ))
    (recorded : List (Recorded E)) (number : ℕ) (some : 1 ≤ number) (atoms : List Atom) where
  from-one : number ≡ (number - 1) + 1
  from-one = omega (arith, some)

  -- a run is a trace of its events
  pub turns-traced : (turns : List TurnValue) (after : List Atom) (memory : Memory)
      → TakesTurns leaves problem table bound recorded number (running atoms nothing_sensed) turns (running after memory)
      → (last : Memory) × Traces leaves problem table bound (running atoms nothing_sensed) (run_events recorded number turns)
      (run_outcomes recorded number turns) (running after last)
  turns-traced turns after memory takes =
      let first = turns-earlier (number - 1) leaves problem table bound recorded turns number 1 (running atoms nothing_sensed)
      (running after memory) from-one (omega arith) takes in
      let traced = runs_are_traces leaves problem table bound (all_earlier (number - 1) recorded) atoms turns after (memory, first) in
      let events = events-same (number - 1) recorded turns number 1 from-one (omega arith) in
      let outcomes = outcomes-same (number - 1) recorded turns number 1 from-one (omega arith) in (
        traced.0,
        subst (λ (os : List Outcome). Traces leaves problem table bound (running atoms nothing_sensed) (run_events recorded number turns) os
            (running after traced.0)) outcomes
            (subst (λ (es : List (Event E)). Traces leaves problem table bound (running atoms nothing_sensed) es
            (run_outcomes (all_earlier (number - 1) recorded) 1 turns) (running after traced.0)) events traced.1),
      )

  -- each run ends
  pub turns-end : TracesExist leaves → IsValid problem → IsTable problem table
      → (turns : List TurnValue) × ((after : List Atom) × ((memory : Memory)
      × TakesTurns leaves problem table bound recorded number (running atoms nothing_sensed) turns (running after memory)))
  turns-end traces-exist valid is_table =
      let run = runs_end leaves traces-exist problem table bound (all_earlier (number - 1) recorded) atoms valid is_table in (
        run.0,
        (
          run.1.0,
          (
            run.1.1.0,
            turns-later (number - 1) leaves problem table bound recorded run.0 number 1 (running atoms nothing_sensed)
                (running run.1.0 run.1.1.0) from-one (omega arith) run.1.1.1,
          ),
        ),
      )
