-- A run that nothing disturbs any more climbs from kernel to kernel, up to the goal.
use Rattle.std.specs.Prelude.{◌≡◌, ◌⊎◌, ℕ, ◌≤◌, ◌+◌, true, false, Some, None, Option, List, [], ◌∷◌, ◌++◌, length, map}
use Rattle.std.proofs.Common.{suc, refl, sym, ap, ◌∙◌, subst, inl, inr, arith}
use Rattle.std.proofs.lemmas.List.{length-map, map-append}
use Rattle.px_base.specs.Answers.{some_same}
use Rattle.px_terms.specs.declared.atom.Atom.{Atom}
use Rattle.px_terms.specs.declared.problem.Problem.{Problem}
use Rattle.px_terms.specs.Validity.{IsValid}
use Rattle.px_table.specs.declared.table.Table.{Table}
use Rattle.px_table.specs.Tables.{IsTable}
use Rattle.px_match.specs.Matching.{IsSensed, KernelInstance}
use Rattle.px_planex.specs.declared.event.Event.TheVariants.{Sense}
use Rattle.px_planex.specs.declared.event.Outcome.{Outcome}
use Rattle.px_planex.specs.declared.event.Outcome.TheVariants.{Disturbed, Sensed, Acted, Slipped, Goal, NoKernel, NotSensed}
use Rattle.px_planex.specs.Execution.{Happens, Running}
use Rattle.px_planex.specs.Turns.{AtGoal, EndsTurn, IsLastTurn, Recorded, RunsTable, TakesTurns, TurnValue, disturbed_by, edits_at}
use Rattle.px_planex.proofs.Progressing.{acts_here}
use Rattle.px_printer.specs.declared.turn.Turn.{Turn}
use Rattle.px_printer.specs.declared.turn.TurnEnd.{TurnEnd}
use Rattle.px_printer.specs.declared.turn.TurnEnd.TheVariants as told_end
use Rattle.px_session.specs.Demo.{ends_in_goal, is_goal}
use Rattle.px_session.specs.Lawful.{end_told, turn_told}
use Rattle.px_session.specs.Sessions.{Edit, leaves_edit}
use Rattle.px_session.specs.Undisturbed.{IsUndisturbedAfter, ReachesGoal, UndisturbedRuns}
use Rattle.px_session.proofs.OneLearning.{any-right}
use Rattle.px_session.proofs.ToldRuns.{runs-of}

-- the last of the turns is at the goal
abbrev EndsAtGoal : List TurnValue → Type 0
EndsAtGoal [] = ⊥
EndsAtGoal (turn ∷ []) = turn.end ≡ AtGoal
EndsAtGoal (turn ∷ next ∷ turns) = EndsAtGoal (next ∷ turns)

-- ---- the last turn of a list

ends-later : (turn : TurnValue) (turns : List TurnValue) → EndsAtGoal turns → EndsAtGoal (turn ∷ turns)
ends-later turn [] ends = absurd ends
ends-later turn (next ∷ turns) ends = ends

ends-after : (before turns : List TurnValue) → EndsAtGoal turns → EndsAtGoal (before ++ turns)
ends-after [] turns ends = ends
ends-after (turn ∷ before) turns ends = ends-later turn (before ++ turns) (ends-after before turns ends)

not-nothing : (before : List TurnValue) (turn : TurnValue) (after : List TurnValue) → ¬ (before ++ turn ∷ after ≡ [])
not-nothing [] turn after e = cc
not-nothing (first ∷ before) turn after e = cc

module _ (problem : Problem) (valid : IsValid problem) (table : Table)
    (is_table : IsTable problem table) (bound : List (ℕ × ℕ)) (recorded : List (Recorded Edit)) where
  abbrev Turns : ℕ → Running → List TurnValue → Running → Type 0
  Turns number old turns new = TakesTurns leaves_edit problem table bound recorded number old turns new

  -- what is sensed in the atoms is at least this kernel
  abbrev Finds : ℕ → List Atom → Type 0
  Finds i atoms = (answer : Option KernelInstance) → IsSensed problem table bound atoms answer
      → (next : KernelInstance) × (answer ≡ Some next) × (i ≤ next.number)

  -- the turns end at the goal, and the first has this kernel
  abbrev Climbs : ℕ → List TurnValue → Type 0
  Climbs i turns = EndsAtGoal turns × (length turns + i ≤ length table.steps + 2)

  abbrev Goes : ℕ → Running → TurnValue → List TurnValue → Running → Type 0
  Goes number mid turn turns new =
      (IsLastTurn turn.end × (turns ≡ []) × (new ≡ mid)) ⊎ ((¬ IsLastTurn turn.end) × Turns (suc number) mid turns new)

  -- ---- one turn

  at-goal : (number : ℕ) (mid new : Running) (turn : TurnValue) (turns : List TurnValue) → turn.kernel ≡ length table.steps + 1
      → turn.end ≡ AtGoal → Goes number mid turn turns new → Climbs turn.kernel (turn ∷ turns)
  at-goal number mid new turn turns kernel end (inl (last, none, same)) =
      subst (λ (ts : List TurnValue). Climbs turn.kernel (turn ∷ ts)) (sym none) (end, omega (arith, kernel))
  at-goal number mid new turn turns kernel end (inr (not_last, more)) = absurd (not_last (subst IsLastTurn (sym end) tt))

  acted : (number i : ℕ) (mid new : Running) (turn : TurnValue) (turns : List TurnValue) → turn.kernel ≡ i
      → (IsLastTurn turn.end → ⊥) → Finds (suc i) mid.atoms
      → ((mid : Running) → Finds (suc i) mid.atoms → Turns (suc number) mid turns new → Climbs (suc i) turns)
      → Goes number mid turn turns new → Climbs turn.kernel (turn ∷ turns)
  acted number i mid new turn turns kernel goes_on finds rest (inl (last, none, same)) = absurd (goes_on last)
  acted number i mid new turn turns kernel goes_on finds rest (inr (not_last, more)) =
      let climbs = rest mid finds more in (ends-later turn turns climbs.0, omega (arith, kernel, climbs.1))

  -- after kernel `i` was sensed and nothing came between, the step is taken
  undisturbed : (number i : ℕ) (old sensed mid new : Running) (turn : TurnValue) (turns : List TurnValue)
      → Happens leaves_edit problem table bound old Sense (Sensed i) sensed → EndsTurn leaves_edit problem table bound [] sensed (Sensed i) turn mid
      → ((mid : Running) → Finds (suc i) mid.atoms → Turns (suc number) mid turns new → Climbs (suc i) turns)
      → Goes number mid turn turns new → Climbs turn.kernel (turn ∷ turns)
  undisturbed number i old sensed mid new turn turns sense (inl (turn_is, acts)) rest goes =
      let next = acts_here problem valid table is_table bound Edit leaves_edit old sensed mid i Acted sense acts in
      acted number i mid new turn turns (ap (λ (t : TurnValue). t.kernel) turn_is)
      (subst (λ (t : TurnValue). IsLastTurn t.end → ⊥) (sym turn_is) (λ none. none))
      (λ answer senses. let found = next.1 answer senses in (found.0, found.1, omega (arith, found.2))) rest goes
  undisturbed number i old sensed mid new turn turns sense (inr (turn_is, slips)) rest goes =
      let next = acts_here problem valid table is_table bound Edit leaves_edit old sensed mid i Slipped sense slips in absurd (cc (next.0))

  by-outcome : (number : ℕ) (old sensed mid new : Running) (turn : TurnValue) (turns : List TurnValue) (outcome : Outcome)
      → 1 ≤ turn.kernel → Happens leaves_edit problem table bound old Sense outcome sensed
      → EndsTurn leaves_edit problem table bound [] sensed outcome turn mid
      → ((i : ℕ) (mid : Running) → Finds (suc i) mid.atoms → Turns (suc number) mid turns new → Climbs (suc i) turns)
      → Goes number mid turn turns new → Climbs turn.kernel (turn ∷ turns)
  by-outcome number old sensed mid new turn turns Disturbed some sense ends rest goes = absurd ends
  by-outcome number old sensed mid new turn turns Acted some sense ends rest goes = absurd ends
  by-outcome number old sensed mid new turn turns Slipped some sense ends rest goes = absurd ends
  by-outcome number old sensed mid new turn turns NotSensed some sense ends rest goes = absurd ends
  by-outcome number old sensed mid new turn turns NoKernel some sense ends rest goes =
      absurd (omega (arith, some, ap (λ (t : TurnValue). t.kernel) ends.0))
  by-outcome number old sensed mid new turn turns Goal some sense ends rest goes =
      at-goal number mid new turn turns (ap (λ (t : TurnValue). t.kernel) ends.0) (ap (λ (t : TurnValue). t.end) ends.0) goes
  by-outcome number old sensed mid new turn turns (Sensed i) some sense ends rest goes =
      undisturbed number i old sensed mid new turn turns sense ends (rest i) goes

  -- ---- all turns

  -- the first turn, whatever comes before its sensing, where the rest climbs
  pub turn-climbs : (number : ℕ) (old new : Running) (turn : TurnValue) (turns : List TurnValue) → edits_at recorded number true ≡ []
      → 1 ≤ turn.kernel
      → ((i : ℕ) (mid : Running) → Finds (suc i) mid.atoms → Turns (suc number) mid turns new → Climbs (suc i) turns)
      → Turns number old (turn ∷ turns) new → Climbs turn.kernel (turn ∷ turns)
  turn-climbs number old new turn turns between some rest (mid, (outcome, (sensed, sense, ends)), goes) =
      by-outcome number (disturbed_by leaves_edit (edits_at recorded number false) old) sensed mid new turn turns outcome some sense
      (subst (λ (edits : List Edit). EndsTurn leaves_edit problem table bound edits sensed outcome turn mid) between ends) rest goes

  -- where no kernel below `i` can be sensed the turn has one from `i` on
  kernel-from : (i : ℕ) (old sensed mid : Running) (turn : TurnValue) (outcome : Outcome) → Finds i old.atoms
      → Happens leaves_edit problem table bound old Sense outcome sensed → EndsTurn leaves_edit problem table bound [] sensed outcome turn mid
      → i ≤ turn.kernel
  kernel-from i old sensed mid turn Disturbed finds sense ends = absurd ends
  kernel-from i old sensed mid turn Acted finds sense ends = absurd ends
  kernel-from i old sensed mid turn Slipped finds sense ends = absurd ends
  kernel-from i old sensed mid turn NotSensed finds sense ends = absurd ends
  kernel-from i old sensed mid turn NoKernel finds sense ends = absurd (let next = finds None sense.0 in cc (next.1))
  kernel-from i old sensed mid turn Goal finds sense ends =
      let next = finds (Some sense.0) sense.1 in
      let same : sense.0 ≡ next.0 = some_same next.1 in
      omega (arith, next.2, ap (λ (k : KernelInstance). k.number) same, sense.2, ap (λ (t : TurnValue). t.kernel) ends.0)
  kernel-from i old sensed mid turn (Sensed j) finds sense ends =
      let next = finds (Some sense.0) sense.1 in
      let same : sense.0 ≡ next.0 = some_same next.1 in
      omega (arith, next.2, ap (λ (k : KernelInstance). k.number) same, sense.2, kernel-is ends)
    where
      kernel-is : EndsTurn leaves_edit problem table bound [] sensed (Sensed j) turn mid → turn.kernel ≡ j
      kernel-is (inl (turn_is, acts)) = ap (λ (t : TurnValue). t.kernel) turn_is
      kernel-is (inr (turn_is, slips)) = ap (λ (t : TurnValue). t.kernel) turn_is

  climb : (turns : List TurnValue) (number i : ℕ) (old new : Running) → IsUndisturbedAfter recorded number → Finds (suc i) old.atoms
      → Turns (suc number) old turns new → Climbs (suc i) turns
  climb [] number i old new quiet finds run = absurd run
  climb (turn ∷ turns) number i old new quiet finds (mid, (outcome, (sensed, sense, ends)), goes) =
      let before = quiet.later (suc number) false (omega arith) in
      let between = quiet.later (suc number) true (omega arith) in
      let sense' = subst (λ (edits : List Edit). Happens leaves_edit problem table bound (disturbed_by leaves_edit edits old) Sense outcome sensed) before
      sense in
      let ends' = subst (λ (edits : List Edit). EndsTurn leaves_edit problem table bound edits sensed outcome turn mid) between ends in
      let above = kernel-from (suc i) old sensed mid turn outcome finds sense' ends' in
      let quiet' : IsUndisturbedAfter recorded (suc number) =
      record { between = between; later = λ later point less. quiet.later later point (omega (arith, less)) } in
      let climbs = by-outcome (suc number) old sensed mid new turn turns outcome (omega (arith, above)) sense' ends'
      (λ j mid finds run. climb turns (suc number) j mid new quiet' finds run) goes in
      (climbs.0, omega (arith, climbs.1, above))

  -- the turns from one of them on
  skip : (before : List TurnValue) (turn : TurnValue) (after : List TurnValue) (number : ℕ) (old new : Running)
      → Turns number old (before ++ turn ∷ after) new → (mid : Running) × Turns (length before + number) mid (turn ∷ after) new
  skip [] turn after number old new run =
      let same : number ≡ length {A = TurnValue} [] + number = omega arith in
      (old, subst (λ n. Turns n old (turn ∷ after) new) same run)
  skip (first ∷ before) turn after number old new (mid, takes, inl (last, none, same)) = absurd (not-nothing before turn after none)
  skip (first ∷ before) turn after number old new (mid, takes, inr (not_last, more)) =
      let rest = skip before turn after (suc number) mid new more in
      let same : length before + suc number ≡ suc (length before) + number = omega arith in
      (rest.0, subst (λ n. Turns n rest.0 (turn ∷ after) new) same rest.1)

  pub reaches : (before after : List TurnValue) (turn : TurnValue) (old new : Running) → Turns 1 old (before ++ turn ∷ after) new
      → 1 ≤ turn.kernel → IsUndisturbedAfter recorded (length before + 1)
      → EndsAtGoal (before ++ turn ∷ after) × (length after + turn.kernel ≤ length table.steps + 1)
  reaches before after turn old new run some quiet =
      let rest = skip before turn after 1 old new run in
      let climbs = turn-climbs (length before + 1) rest.0 new turn after quiet.between some
      (λ i mid finds more. climb after (length before + 1) i mid new quiet finds more) rest.1 in
      (ends-after before (turn ∷ after) climbs.0, omega (arith, climbs.1))

-- ---- turns as they are told

goal-told : (end : TurnEnd) → end_told end ≡ AtGoal → is_goal end ≡ true
goal-told told_end.Goal e = refl
goal-told told_end.NoKernel e = absurd (cc)
goal-told told_end.Acted e = absurd (cc)
goal-told told_end.Slipped e = absurd (cc)

ends-told : (told : List Turn) → EndsAtGoal (map turn_told told) → ends_in_goal told ≡ true
ends-told [] ends = absurd ends
ends-told (turn ∷ []) ends = goal-told turn.end ends
ends-told (turn ∷ next ∷ told) ends = ends-told (next ∷ told) ends

module _ (problem : Problem) (valid : IsValid problem) (table : Table) (is_table : IsTable problem table) (bound : List (ℕ × ℕ))
    (recorded : List (Recorded Edit)) (atoms last : List Atom) (told : List Turn)
    (runs : RunsTable leaves_edit problem table bound recorded atoms (map turn_told told) last) where
  reached-told : ReachesGoal table recorded told
  reached-told before after turn told_is some quiet =
      let same : map turn_told told ≡ map turn_told before ++ turn_told turn ∷ map turn_told after =
      ap (λ (turns : List Turn). map turn_told turns) told_is ∙ map-append turn_told before (turn ∷ after) in
      let here = subst (λ n. IsUndisturbedAfter recorded (n + 1)) (sym (length-map before turn_told)) quiet in
      let run = subst (λ (turns : List TurnValue). TakesTurns leaves_edit problem table bound recorded 1
      (record { atoms = atoms; memory = Rattle.px_planex.specs.Execution.nothing_sensed }) turns
      (record { atoms = last; memory = runs.0 })) same runs.1 in
      let climbs = reaches problem valid table is_table bound recorded (map turn_told before) (map turn_told after) (turn_told turn) _ _ run
      some here in (
        ends-told told (subst EndsAtGoal (sym same) climbs.0),
        omega (arith, climbs.1, length-map after turn_told),
      )

pub undisturbed_runs : UndisturbedRuns
undisturbed_runs = record {
  reached = λ problem old name given bound table told new valid session named is.
      reached-told problem valid table (any-right problem old session.plans session.learned name table named) bound old.recorded old.atoms
      is.1.after told (runs-of problem old name bound told new table named is.1);
}
