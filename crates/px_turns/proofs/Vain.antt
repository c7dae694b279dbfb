-- A run at whose start some kernel fits, and that ends where none does, uses a disturbance.
use Rattle.std.specs.Prelude.{◌≡◌, ◌⊎◌, ◌<◌, ◌≤◌, ◌+◌, ◌==◌, ◌&&◌, ℕ, Bool, true, false, cond, nat_le, None, List, [], ◌∷◌, length, filter}
use Rattle.std.proofs.Common.{suc, refl, sym, ap, ◌∙◌, subst, inl, inr, arith}
use mathlib.Core.Bool.{beq}
use Rattle.std.proofs.lemmas.Bool.Decides.{nat_tests}
use Rattle.std.specs.List.{flat_map}
use Rattle.px_terms.specs.declared.atom.Atom.{Atom}
use Rattle.px_terms.specs.declared.problem.Problem.{Problem}
use Rattle.px_terms.specs.Validity.{IsValid}
use Rattle.px_table.specs.declared.table.Table.{Table}
use Rattle.px_table.specs.Tables.{IsTable}
use Rattle.px_match.specs.Matching.{NoKernelFits}
use Rattle.px_planex.specs.declared.event.Event.TheVariants.{Sense, Act}
use Rattle.px_planex.specs.declared.event.Outcome.{Outcome}
use Rattle.px_planex.specs.declared.event.Outcome.TheVariants.{Disturbed, Sensed, Acted, Slipped, Goal, NoKernel, NotSensed}
use Rattle.px_planex.specs.Execution.{Happens, Running}
use Rattle.px_planex.specs.Turns.{AtGoal, AtNoKernel, ByActing, BySlipping, EndsTurn, IsLastTurn, Recorded, TakesTurns, TurnEnd, TurnValue, disturbed_by, edits_at, is_at}
use Rattle.px_planex.proofs.Progressing.{acts_here}
use Rattle.px_turns.specs.Told.{EndsRun}
use Rattle.px_turns.specs.Vain.{VainRunsUse, count_from}

-- ---- counts

later_turn : (m n turn : ℕ) → m ≤ n → nat_le n turn ≡ true → nat_le m turn ≡ true
later_turn m n turn less is = grind (arith, nat_tests)

this_turn : (number turn : ℕ) (b : Bool) → (turn == number) && b ≡ true
    → (nat_le number turn ≡ true) × (nat_le (suc number) turn ≡ false)
this_turn number turn true is = (grind (arith, nat_tests), grind (arith, nat_tests))
this_turn number turn false is = (grind (arith, nat_tests), grind (arith, nat_tests))

count_step : (a b : Bool) (m n : ℕ) → (a ≡ true → b ≡ true) → m ≤ n → cond a 1 0 + m ≤ cond b 1 0 + n
count_step true true m n h g = omega arith
count_step true false m n h g = absurd (let e : false ≡ true = h refl in cc)
count_step false true m n h g = omega arith
count_step false false m n h g = omega arith

count_less : (a b : Bool) (m n : ℕ) → (a ≡ true → b ≡ true) → m < n → cond a 1 0 + m < cond b 1 0 + n
count_less true true m n h g = omega arith
count_less true false m n h g = absurd (let e : false ≡ true = h refl in cc)
count_less false true m n h g = omega arith
count_less false false m n h g = omega arith

count_used : (a b : Bool) (m n : ℕ) → (b ≡ true) × (a ≡ false) → m ≤ n → cond a 1 0 + m < cond b 1 0 + n
count_used true b m n h g = absurd (cc)
count_used false true m n h g = omega arith
count_used false false m n h g = absurd (cc)

module _ {E : Type 0} where
  pub count-falls : (m n : ℕ) (rs : List (Recorded E)) → m ≤ n → count_from n rs ≤ count_from m rs
  count-falls m n [] less = omega arith
  count-falls m n (r ∷ rs) less =
      count_step (nat_le n r.turn) (nat_le m r.turn) (count_from n rs) (count_from m rs) (later_turn m n r.turn less)
      (count-falls m n rs less)

  -- no edit is recorded for the turn and point, or fewer disturbances are recorded for later turns
  none_or_fewer : (number : ℕ) (between : Bool) (rs : List (Recorded E))
      → (edits_at rs number between ≡ []) ⊎ (count_from (suc number) rs < count_from number rs)
  none_or_fewer number between [] = inl refl
  none_or_fewer number between (r ∷ rs) =
      by ((r.turn == number) && beq r.between between) refl (none_or_fewer number between rs)
    where
      by : (b : Bool) → (r.turn == number) && beq r.between between ≡ b
          → (edits_at rs number between ≡ []) ⊎ (count_from (suc number) rs < count_from number rs)
          → (flat_map (λ (r : Recorded E). r.edits) (cond b (r ∷ filter (is_at number between) rs) (filter (is_at number between) rs)) ≡ [])
          ⊎ (count_from (suc number) (r ∷ rs) < count_from number (r ∷ rs))
      by true e h =
          inr (count_used (nat_le (suc number) r.turn) (nat_le number r.turn) (count_from (suc number) rs) (count_from number rs)
          (this_turn number r.turn (beq r.between between) e) (count-falls number (suc number) rs (omega arith)))
      by false e (inl h) = inl h
      by false e (inr h) =
          inr (count_less (nat_le (suc number) r.turn) (nat_le number r.turn) (count_from (suc number) rs) (count_from number rs)
          (later_turn number (suc number) r.turn (omega arith)) h)

-- ---- ends of turns

not_both : AtGoal ≡ AtNoKernel → ⊥
not_both e = cc (e)

-- ---- runs

module _ (p : Problem) (valid : IsValid p) (t : Table) (table : IsTable p t) (bound : List (ℕ × ℕ)) {E : Type 0}
    (leaves : E → List Atom → List Atom) (recorded : List (Recorded E)) where
  abbrev Uses : ℕ → List TurnValue → Type 0
  Uses number run = count_from (number + length run) recorded < count_from number recorded

  fewer : (number : ℕ) (turn : TurnValue) (turns : List TurnValue) → count_from (suc number) recorded < count_from number recorded
      → Uses number (turn ∷ turns)
  fewer number turn turns less =
      let rest = count-falls (suc number) (number + length (turn ∷ turns)) recorded (omega arith) in
      omega (arith, less, rest)

  -- what the turns after this one use, if some kernel fits before them
  abbrev RestUses : ℕ → List TurnValue → Running → Type 0
  RestUses number turns new = (mid : Running) → (¬ NoKernelFits p t bound mid.atoms)
      → TakesTurns leaves p t bound recorded (suc number) mid turns new → EndsRun AtNoKernel turns → Uses (suc number) turns

  abbrev Goes : ℕ → TurnValue → List TurnValue → Running → Running → Type 0
  Goes number turn turns mid new = (IsLastTurn turn.end × (turns ≡ []) × (new ≡ mid))
      ⊎ ((¬ IsLastTurn turn.end) × TakesTurns leaves p t bound recorded (suc number) mid turns new)

  ends_rest : (turn : TurnValue) (turns : List TurnValue) (end : TurnEnd) → turn.end ≡ end → (¬ IsLastTurn end)
      → EndsRun AtNoKernel (turn ∷ turns) → EndsRun AtNoKernel turns
  ends_rest turn [] end is not_last ends = absurd (not_last (subst IsLastTurn (sym ends ∙ is) tt))
  ends_rest turn (next ∷ turns) end is not_last ends = ends

  at_goal : (number : ℕ) (turn : TurnValue) (turns : List TurnValue) (mid new : Running) → turn.end ≡ AtGoal
      → Goes number turn turns mid new → EndsRun AtNoKernel (turn ∷ turns) → ⊥
  at_goal number turn turns mid new is (inr goes) ends = goes.0 (subst IsLastTurn (sym is) tt)
  at_goal number turn turns mid new is (inl last) ends =
      not_both (sym is ∙ subst (λ (ts : List TurnValue). EndsRun AtNoKernel (turn ∷ ts)) last.1 ends)

  -- an action that nothing comes before is taken, and some kernel fits then
  acted : (number i : ℕ) (turn : TurnValue) (turns : List TurnValue) (old sensed mid new : Running) (end : TurnEnd) (outcome : Outcome)
      → turn.end ≡ end → (¬ IsLastTurn end) → Happens leaves p t bound old Sense (Sensed i) sensed
      → Happens leaves p t bound sensed Act outcome mid → Goes number turn turns mid new → EndsRun AtNoKernel (turn ∷ turns)
      → RestUses number turns new → Uses number (turn ∷ turns)
  acted number i turn turns old sensed mid new end outcome is not_last senses acts (inl last) ends rest =
      absurd (not_last (subst IsLastTurn is last.0))
  acted number i turn turns old sensed mid new end outcome is not_last senses acts (inr goes) ends rest =
      let on = acts_here p valid t table bound E leaves old sensed mid i outcome senses acts in
      let some : ¬ NoKernelFits p t bound mid.atoms = λ none. let next = on.1 None none in absurd (cc (next.1)) in
      let used = rest mid some goes.1 (ends_rest turn turns end is not_last ends) in
      let falls = count-falls number (suc number) recorded (omega arith) in
      let same : suc number + length turns ≡ number + length (turn ∷ turns) = omega arith in
      subst (λ n. count_from n recorded < count_from number recorded) same (omega (arith, used, falls))

  acting : (not_acting : ¬ IsLastTurn ByActing) (not_slipping : ¬ IsLastTurn BySlipping) (number i : ℕ) (turn : TurnValue)
      (turns : List TurnValue) (old sensed mid new : Running)
      → Happens leaves p t bound old Sense (Sensed i) sensed → EndsTurn leaves p t bound [] sensed (Sensed i) turn mid
      → Goes number turn turns mid new → EndsRun AtNoKernel (turn ∷ turns) → RestUses number turns new → Uses number (turn ∷ turns)
  acting not_acting not_slipping number i turn turns old sensed mid new senses (inl e) goes ends rest =
      acted number i turn turns old sensed mid new ByActing Acted (ap (λ (t : TurnValue). t.end) e.0) not_acting senses e.1 goes ends rest
  acting not_acting not_slipping number i turn turns old sensed mid new senses (inr e) goes ends rest =
      acted number i turn turns old sensed mid new BySlipping Slipped (ap (λ (t : TurnValue). t.end) e.0) not_slipping senses e.1 goes ends
      rest

  quiet : (number : ℕ) (turn : TurnValue) (turns : List TurnValue) (old sensed mid new : Running) (outcome : Outcome)
      → (¬ NoKernelFits p t bound old.atoms) → Happens leaves p t bound old Sense outcome sensed
      → EndsTurn leaves p t bound (edits_at recorded number true) sensed outcome turn mid
      → Goes number turn turns mid new → EndsRun AtNoKernel (turn ∷ turns) → RestUses number turns new → Uses number (turn ∷ turns)
  quiet number turn turns old sensed mid new Disturbed some senses takes goes ends rest = absurd senses
  quiet number turn turns old sensed mid new Acted some senses takes goes ends rest = absurd senses
  quiet number turn turns old sensed mid new Slipped some senses takes goes ends rest = absurd senses
  quiet number turn turns old sensed mid new NotSensed some senses takes goes ends rest = absurd senses
  quiet number turn turns old sensed mid new NoKernel some senses takes goes ends rest = absurd (some senses.0)
  quiet number turn turns old sensed mid new Goal some senses takes goes ends rest =
      absurd (at_goal number turn turns mid new (ap (λ (t : TurnValue). t.end) takes.0) goes ends)
  quiet number turn turns old sensed mid new (Sensed i) some senses takes goes ends rest = elim (none_or_fewer number true recorded) [
    | inr less ↦ fewer number turn turns less
    | inl none ↦ acting (λ x. x) (λ x. x) number i turn turns old sensed mid new senses
        (subst (λ (xs : List E). EndsTurn leaves p t bound xs sensed (Sensed i) turn mid) none takes) goes ends rest
  ]

  uses : (run : List TurnValue) (number : ℕ) (old new : Running) → (¬ NoKernelFits p t bound old.atoms)
      → TakesTurns leaves p t bound recorded number old run new → EndsRun AtNoKernel run → Uses number run
  uses [] number old new some takes ends = absurd takes
  uses (turn ∷ turns) number old new some takes ends =
      by takes.1.0 takes.1.1 (λ mid s t e. uses turns (suc number) mid new s t e)
    where
      by : (outcome : Outcome)
          → ((sensed : Running) × Happens leaves p t bound (disturbed_by leaves (edits_at recorded number false) old) Sense outcome sensed
          × EndsTurn leaves p t bound (edits_at recorded number true) sensed outcome turn takes.0)
          → RestUses number turns new → Uses number (turn ∷ turns)
      by outcome turned rest = elim (none_or_fewer number false recorded) [
        | inr less ↦ fewer number turn turns less
        | inl none ↦ quiet number turn turns old turned.0 takes.0 new outcome some
            (subst (λ (xs : List E). Happens leaves p t bound (disturbed_by leaves xs old) Sense outcome turned.0) none turned.1) turned.2
            takes.2 ends rest
      ]

pub vain_runs_use : {E : Type 0} (leaves : E → List Atom → List Atom) → VainRunsUse leaves
vain_runs_use leaves problem table bound recorded number old new run valid is_table some takes ends =
    uses problem valid table is_table bound leaves recorded run number old new some takes ends
