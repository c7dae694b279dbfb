-- Each run ends: turn by turn, fewer turns are left.
use Rattle.std.specs.Prelude.{◌≡◌, ◌⊎◌, ◌<◌, ◌≤◌, ◌+◌, ◌-◌, ◌*◌, ℕ, true, false, Option, Some, None, List, [], ◌∷◌, length}
use Rattle.std.proofs.Common.{zero, suc, refl, sym, ap, subst, inl, inr, arith}
use Rattle.px_terms.specs.declared.atom.Atom.{Atom}
use Rattle.px_terms.specs.declared.problem.Problem.{Problem}
use Rattle.px_terms.specs.Validity.{IsValid}
use Rattle.px_table.specs.declared.table.Table.{Table}
use Rattle.px_table.specs.Tables.{IsTable}
use Rattle.px_match.specs.Matching.{IsSensed, KernelInstance}
use Rattle.px_planex.specs.declared.event.Event.{Event}
use Rattle.px_planex.specs.declared.event.Event.TheVariants.{Sense, Act}
use Rattle.px_planex.specs.declared.event.Outcome.{Outcome}
use Rattle.px_planex.specs.declared.event.Outcome.TheVariants.{Disturbed, Sensed, Acted, Slipped, Goal, NoKernel, NotSensed}
use Rattle.px_planex.specs.Execution.{Happens, Running, Traces, nothing_sensed, remembered_step}
use Rattle.px_planex.specs.Executors.{IsActable}
use Rattle.px_planex.specs.Turns.{AtGoal, AtNoKernel, ByActing, BySlipping, EndsTurn, IsLastTurn, Recorded, TakesTurn, TakesTurns, TurnEnd, TurnValue, after_edits, disturbed_by, edits_at}
use Rattle.px_planex.specs.Existing.{TracesExist}
use Rattle.px_planex.proofs.InAtoms.{TurnInAtoms, turn_in_atoms}
use Rattle.px_planex.proofs.TurnBound.{count_after, turns-fall, turns_left-any}
use Rattle.px_totality.specs.RunsEnd.{RunsEnd}

last-or-not : (end : TurnEnd) → IsLastTurn end ⊎ (¬ IsLastTurn end)
last-or-not AtGoal = inl tt
last-or-not AtNoKernel = inl tt
last-or-not ByActing = inr (λ h. h)
last-or-not BySlipping = inr (λ h. h)

none-some : {A G : Type 0} (o : Option A) (a : A) → o ≡ None → o ≡ Some a → G
none-some o a e f = absurd (cc)

module _ (problem : Problem) (valid : IsValid problem) (table : Table) (is_table : IsTable problem table) (bound : List (ℕ × ℕ))
    {E : Type 0} (leaves : E → List Atom → List Atom) (traces-exist : TracesExist leaves) where
  abbrev CanAct : Running → Type 0
  CanAct old = IsActable problem table old.memory.remembered

  -- ---- one event

  abbrev Comes : Running → Event E → Type 0
  Comes old event = (outcome : Outcome) × ((new : Running) × Happens leaves problem table bound old event outcome new)

  only-one : (old new : Running) (event : Event E) (outcomes : List Outcome)
      → Traces leaves problem table bound old (event ∷ []) outcomes new → Comes old event
  only-one old new event [] traces = absurd traces
  only-one old new event (outcome ∷ outcomes) traces = (outcome, (traces.0, traces.1))

  comes : (old : Running) (event : Event E) → CanAct old → Comes old event
  comes old event can =
      let found = traces-exist problem table bound old (event ∷ []) valid is_table can in
      only-one old found.1.0 event found.0 found.1.1

  -- ---- one turn

  module _ (before between : List E) where
    -- the turn, and what is remembered after it can be acted by
    pub record HasTurn (old : Running) : Type 0 where
      pub turn : TurnValue
      pub new : Running
      pub outcome : Outcome
      pub sensed : Running
      pub senses : Happens leaves problem table bound (disturbed_by leaves before old) Sense outcome sensed
      pub ends : EndsTurn leaves problem table bound between sensed outcome turn new
      pub can : (¬ IsLastTurn turn.end) → CanAct new

    nothing-left : (new : Running) → new.memory.remembered ≡ None → CanAct new
    nothing-left new same = subst (IsActable problem table) (sym same) tt

    by-acting : (old sensed : Running) (i : ℕ) → Happens leaves problem table bound (disturbed_by leaves before old) Sense (Sensed i) sensed
        → (outcome : Outcome) (new : Running)
        → Happens leaves problem table bound (disturbed_by leaves between sensed) Act outcome new → HasTurn old
    by-acting old sensed i senses Disturbed new acts = absurd acts
    by-acting old sensed i senses (Sensed j) new acts = absurd acts
    by-acting old sensed i senses Goal new acts = absurd acts
    by-acting old sensed i senses NoKernel new acts = absurd acts
    by-acting old sensed i senses NotSensed new acts =
        none-some sensed.memory.remembered senses.0 acts.0 (ap (λ (r : Running). r.memory.remembered) senses.4)
    by-acting old sensed i senses Acted new acts = record {
      turn = record { kernel = i; op = remembered_step table sensed.memory; end = ByActing };
      new = new;
      outcome = Sensed i;
      sensed = sensed;
      senses = senses;
      ends = inl (refl, acts);
      can = λ goes_on. nothing-left new (ap (λ (r : Running). r.memory.remembered) acts.3.2);
    }
    by-acting old sensed i senses Slipped new acts = record {
      turn = record { kernel = i; op = remembered_step table sensed.memory; end = BySlipping };
      new = new;
      outcome = Sensed i;
      sensed = sensed;
      senses = senses;
      ends = inr (refl, acts);
      can = λ goes_on. nothing-left new (ap (λ (r : Running). r.memory.remembered) acts.3);
    }

    acts-there : (old sensed : Running) (i : ℕ)
        → Happens leaves problem table bound (disturbed_by leaves before old) Sense (Sensed i) sensed → HasTurn old
    acts-there old sensed i senses =
        let kernel = senses.0 in
        let fits = senses.1.fits in
        let remembered : sensed.memory.remembered ≡ Some kernel = ap (λ (r : Running). r.memory.remembered) senses.4 in
        let within : kernel.number ≤ length table.steps = omega (arith, senses.2, senses.3) in
        let can = subst (IsActable problem table) (sym remembered) (fits.from_one, within, fits.instantiation) in
        let act = comes (disturbed_by leaves between sensed) Act can in
        by-acting old sensed i senses act.0 act.1.0 act.1.1

    by-sensing : (old : Running) (outcome : Outcome) (sensed : Running)
        → Happens leaves problem table bound (disturbed_by leaves before old) Sense outcome sensed → HasTurn old
    by-sensing old Disturbed sensed senses = absurd senses
    by-sensing old Acted sensed senses = absurd senses
    by-sensing old Slipped sensed senses = absurd senses
    by-sensing old NotSensed sensed senses = absurd senses
    by-sensing old (Sensed i) sensed senses = acts-there old sensed i senses
    by-sensing old NoKernel sensed senses = record {
      turn = record { kernel = 0; op = None; end = AtNoKernel };
      new = sensed;
      outcome = NoKernel;
      sensed = sensed;
      senses = senses;
      ends = (refl, refl);
      can = λ goes_on. absurd (goes_on tt);
    }
    by-sensing old Goal sensed senses = record {
      turn = record { kernel = length table.steps + 1; op = None; end = AtGoal };
      new = sensed;
      outcome = Goal;
      sensed = sensed;
      senses = senses;
      ends = (refl, refl);
      can = λ goes_on. absurd (goes_on tt);
    }

    turn-there : (old : Running) → CanAct old → HasTurn old
    turn-there old can =
        let sense = comes (disturbed_by leaves before old) Sense can in by-sensing old sense.0 sense.1.0 sense.1.1

  -- ---- all turns

  module _ (recorded : List (Recorded E)) where
    abbrev before_of : ℕ → List E
    before_of number = edits_at recorded number false

    abbrev between_of : ℕ → List E
    between_of number = edits_at recorded number true

    abbrev left : Option KernelInstance → ℕ → ℕ
    left None number = 1
    left (Some kernel) number = (length table.steps + 2 - kernel.number) + (length table.steps + 1) * count_after number recorded

    -- whatever is sensed in the turn, fewer turns than this are left
    abbrev HasFuel : ℕ → ℕ → Running → Type 0
    HasFuel fuel number old = (answer : Option KernelInstance)
        → IsSensed problem table bound (after_edits leaves (before_of number) old.atoms) answer → left answer number < fuel

    abbrev Runs : ℕ → Running → Type 0
    Runs number old =
        (turns : List TurnValue) × ((new : Running) × TakesTurns leaves problem table bound recorded number old turns new)

    falls : (fuel number : ℕ) (old new : Running) (turn : TurnValue) (answer : Option KernelInstance) → (¬ IsLastTurn turn.end)
        → IsSensed problem table bound (after_edits leaves (before_of number) old.atoms) answer
        → TurnInAtoms problem table answer (after_edits leaves (before_of number) old.atoms)
        (after_edits leaves (between_of number) (after_edits leaves (before_of number) old.atoms)) turn new.atoms
        → left answer number < suc fuel → HasFuel fuel (suc number) new
    falls fuel number old new turn None goes_on senses takes enough next sensed =
        absurd (goes_on (subst IsLastTurn (sym takes.0) tt))
    falls fuel number old new turn (Some kernel) goes_on senses takes enough None sensed =
        let less = turns-fall problem valid table is_table bound leaves recorded kernel number turn
        (after_edits leaves (before_of number) old.atoms) new.atoms None senses.fits goes_on takes sensed in
        omega (arith, less, enough)
    falls fuel number old new turn (Some kernel) goes_on senses takes enough (Some next) sensed =
        let less = turns-fall problem valid table is_table bound leaves recorded kernel number turn
        (after_edits leaves (before_of number) old.atoms) new.atoms (Some next) senses.fits goes_on takes sensed in
        omega (arith, less, enough)

    taken : (number : ℕ) (old : Running) (has : HasTurn (before_of number) (between_of number) old)
        → TakesTurn leaves problem table bound (before_of number) (between_of number) old has.turn has.new
    taken number old has = (has.outcome, (has.sensed, has.senses, has.ends))

    ends-here : (number : ℕ) (old : Running) (has : HasTurn (before_of number) (between_of number) old) → IsLastTurn has.turn.end
        → Runs number old
    ends-here number old has last = (has.turn ∷ [], (has.new, (has.new, taken number old has, inl (last, refl, refl))))

    goes-on : (number : ℕ) (old : Running) (has : HasTurn (before_of number) (between_of number) old) → (¬ IsLastTurn has.turn.end)
        → Runs (suc number) has.new → Runs number old
    goes-on number old has goes_on rest =
        (has.turn ∷ rest.0, (rest.1.0, (has.new, taken number old has, inr (goes_on, rest.1.1))))

    sensed-in : (number : ℕ) (old : Running) (has : HasTurn (before_of number) (between_of number) old)
        → (answer : Option KernelInstance) × IsSensed problem table bound (after_edits leaves (before_of number) old.atoms) answer
        × TurnInAtoms problem table answer (after_edits leaves (before_of number) old.atoms)
        (after_edits leaves (between_of number) (after_edits leaves (before_of number) old.atoms)) has.turn has.new.atoms
    sensed-in number old has =
        turn_in_atoms leaves problem table bound (before_of number) (between_of number) old has.sensed has.new has.turn has.outcome has.senses
        has.ends

    runs : (fuel number : ℕ) (old : Running) → CanAct old → HasFuel fuel number old → Runs number old
    runs zero number old can fuel =
        let has = turn-there (before_of number) (between_of number) old can in
        let found = sensed-in number old has in
        absurd (omega (arith, fuel found.0 found.1))
    runs (suc fuel) number old can enough =
        let has = turn-there (before_of number) (between_of number) old can in
        let found = sensed-in number old has in
        elim (last-or-not has.turn.end) [
          | inl last ↦ ends-here number old has last
          | inr on ↦ goes-on number old has on
              (runs fuel (suc number) has.new (has.can on)
              (falls fuel number old has.new has.turn found.0 on found.1 found.2 (enough found.0 found.1)))
        ]

    enough-at-first : (atoms : List Atom) → HasFuel (suc ((length table.steps + 1) + (length table.steps + 1) * count_after 1 recorded)) 1
        (record { atoms = atoms; memory = nothing_sensed })
    enough-at-first atoms None senses =
        let any = turns_left-any problem valid table is_table bound leaves recorded None 1 _ senses in omega (arith, any)
    enough-at-first atoms (Some kernel) senses =
        let any = turns_left-any problem valid table is_table bound leaves recorded (Some kernel) 1 _ senses in omega (arith, any)

pub runs_end : {E : Type 0} (leaves : E → List Atom → List Atom) → TracesExist leaves → RunsEnd leaves
runs_end leaves traces-exist problem table bound recorded atoms valid is_table =
    let found = runs problem valid table is_table bound leaves traces-exist recorded
    (suc ((length table.steps + 1) + (length table.steps + 1) * count_after 1 recorded)) 1
    (record { atoms = atoms; memory = nothing_sensed }) tt (enough-at-first problem valid table is_table bound leaves traces-exist recorded atoms) in
    (found.0, (found.1.0.atoms, (found.1.0.memory, found.1.1)))
