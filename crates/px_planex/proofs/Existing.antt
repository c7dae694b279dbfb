-- Each list of events has a trace: whether a kernel's instance fits can be decided, and there are finitely many instances.
use Rattle.std.specs.Prelude.{◌≡◌, ◌≢◌, ◌⊎◌, ◌<◌, ◌≤◌, ◌+◌, ℕ, Bool, true, false, Option, Some, None, List, [], ◌∷◌, length, slice_get, slice_index, All, Contains}
use Rattle.std.proofs.Common.{zero, suc, refl, sym, ap, ◌∙◌, subst, inl, inr, arith}
use Rattle.std.proofs.lemmas.Bool.{cases_eq, cases_lt, cases_order}
use Rattle.px_base.specs.Answers.{some_or_none, some_same}
use Rattle.px_base.specs.ListLaws.{All-at, Contains-cases, Contains-first, Contains-later, Contains-none}
use Rattle.px_base.proofs.Loops.{level_or_below}
use Rattle.px_terms.specs.declared.atom.Atom.{Atom}
use Rattle.px_terms.specs.declared.instance.OpInst.{OpInst}
use Rattle.px_terms.specs.declared.problem.Problem.{Problem}
use Rattle.px_terms.specs.Operators.{IsDeleted, deletes, result_of, schema_of}
use Rattle.px_terms.specs.Sorts.{FitsSort}
use Rattle.px_terms.specs.Instances.{IsGround}
use Rattle.px_terms.specs.Validity.{IsAtomOf, IsGroundInstanceOf, IsInstanceOf, IsValid}
use Rattle.px_terms.specs.ValidityLaws.{atom_of-is_ground, deletes-false, deletes-true, instance-is_ground}
use Rattle.px_proof.specs.PlaceLaws.{All-got}
use Rattle.px_table.specs.declared.mark.Mark.{Mark}
use Rattle.px_table.specs.declared.table.Table.{Table}
use Rattle.px_table.specs.Kernels.{IsInstantiation, IsProper, atom_under, instance_under, kernel_under, mark_under, steps_under}
use Rattle.px_table.specs.Marks.{IsKept, step_at}
use Rattle.px_table.specs.Tables.{IsStepOf, IsTable}
use Rattle.px_table.specs.WellSorted.{ParametersFit}
use Rattle.px_table.specs.UnderLaws.{atom_under-is_of, from_map, step_at-map, step_under-is_of}
use Rattle.px_match.specs.Matching.{Extends, IsSensed, KernelFits, KernelInstance}
use Rattle.px_planex.specs.declared.event.Event.{Event}
use Rattle.px_planex.specs.declared.event.Event.TheVariants.{Disturb, Sense, Act}
use Rattle.px_planex.specs.declared.event.Outcome.{Outcome}
use Rattle.px_planex.specs.declared.event.Outcome.TheVariants.{Disturbed, Sensed, Acted, Slipped, Goal, NoKernel, NotSensed}
use Rattle.px_planex.specs.Execution.{Happens, RowFails, KernelRowHolds, Running, Traces, forgetting, sensing, step_of_kernel}
use Rattle.px_planex.specs.Executors.{IsActable}
use Rattle.px_planex.specs.Existing.{TracesExist}
use Rattle.px_planex.proofs.Decided.{Decided, decided-all, decided-below, decided-contains, decided-if, decided-le, decided-lt, decided-not}
use Rattle.px_planex.proofs.FirstLists.{FirstOrNone, first-list}

-- ---- the binding

abbrev IsBoundTo : List ℕ → ℕ × ℕ → Type 0
IsBoundTo objects pair = (k : ℕ) × (pair.0 ≡ suc k) × (slice_get objects k ≡ Some pair.1)

decided-bound : (objects : List ℕ) (pair : ℕ × ℕ) → Decided (IsBoundTo objects pair)
decided-bound objects (zero, object) = inr (λ is. absurd (omega (arith, is.1)))
decided-bound objects (suc k, object) = by (slice_get objects k) refl
  where
    same-place : (is : IsBoundTo objects (suc k, object)) → slice_get objects k ≡ Some object
    same-place is = let same : k ≡ is.0 = omega (arith, is.1) in ap (slice_get objects) same ∙ is.2

    by : (o : Option ℕ) → slice_get objects k ≡ o → Decided (IsBoundTo objects (suc k, object))
    by None at = inr (λ is. some_or_none (sym (same-place is) ∙ at))
    by (Some n) at = elim (cases_eq n object) [
      | inl same ↦ inl (k, refl, at ∙ ap Some same)
      | inr other ↦ inr (λ is. other (some_same (sym at ∙ same-place is)))
    ]

-- ---- steps of a table

some-step : (steps : List OpInst) (k : ℕ) → 1 ≤ k → k ≤ length steps → (inst : OpInst) × (step_at steps k ≡ Some inst)
some-step steps zero low high = absurd (omega (arith, low))
some-step [] (suc k) low high = absurd (omega (arith, high))
some-step (first ∷ steps) (suc zero) low high = (first, refl)
some-step (first ∷ steps) (suc (suc k)) low high = some-step steps (suc k) (omega arith) (omega (arith, high))

module _ (problem : Problem) (valid : IsValid problem) (table : Table) (is_table : IsTable problem table) where
  module _ (objects : List ℕ) (instantiation : IsInstantiation problem table objects) where
    step-is_of : (k : ℕ) (inst : OpInst) → step_at (steps_under table objects) k ≡ Some inst → IsInstanceOf problem inst
    step-is_of zero inst at = absurd (cc)
    step-is_of (suc k) inst at =
        let from = from_map (instance_under objects) table.steps k inst at in
        let is_step = All-got (IsStepOf problem table.params) table.steps k from.0 is_table.in_range.steps from.1 in
        subst (IsInstanceOf problem) from.2 (step_under-is_of problem table objects from.0 instantiation is_step)

    module _ (mark : Mark) (has : Contains table.marks mark) (first : ℕ) where
      abbrev atom : Atom
      atom = atom_under objects mark.atom

      decided-deleted : (k : ℕ) (inst : OpInst) → step_at (steps_under table objects) k ≡ Some inst
          → Decided (IsDeleted (schema_of problem inst) inst atom)
      decided-deleted k inst at =
          by (instance-is_ground problem inst (step-is_of k inst at))
          (atom_of-is_ground problem atom (atom_under-is_of problem table objects mark.atom instantiation
          (All-at (λ (m : Mark). IsAtomOf problem table.params m.atom) table.marks mark is_table.atoms has)))
          (deletes problem inst atom) refl
        where
          by : IsGroundInstanceOf problem inst → IsGround atom → (b : Bool) → deletes problem inst atom ≡ b
              → Decided (IsDeleted (schema_of problem inst) inst atom)
          by is_ground is_fact true deleted = inl (deletes-true problem inst atom valid is_ground is_fact deleted)
          by is_ground is_fact false stays = inr (deletes-false problem inst atom valid is_ground is_fact stays)

      -- no step before the end deletes it
      abbrev KeptUpTo : ℕ → Type 0
      KeptUpTo end = (k : ℕ) (inst : OpInst) → k < end → first ≤ k → mark.column < k → k < mark.row
          → step_at (steps_under table objects) k ≡ Some inst
          → ¬ IsDeleted (schema_of problem inst) inst atom

      abbrev KeptAt : ℕ → OpInst → Type 0
      KeptAt k inst = first ≤ k → mark.column < k → k < mark.row → ¬ IsDeleted (schema_of problem inst) inst atom

      decided-at : (k : ℕ) (inst : OpInst) → step_at (steps_under table objects) k ≡ Some inst → Decided (KeptAt k inst)
      decided-at k inst at =
          decided-if (first ≤ k) (mark.column < k → k < mark.row → ¬ IsDeleted (schema_of problem inst) inst atom) (decided-le first k)
          (decided-if (mark.column < k) (k < mark.row → ¬ IsDeleted (schema_of problem inst) inst atom) (decided-lt mark.column k)
          (decided-if (k < mark.row) (¬ IsDeleted (schema_of problem inst) inst atom) (decided-lt k mark.row)
          (decided-not (IsDeleted (schema_of problem inst) inst atom) (decided-deleted k inst at))))

      kept-more : (k : ℕ) (o : Option OpInst) → step_at (steps_under table objects) k ≡ o → KeptUpTo k → Decided (KeptUpTo (suc k))
      kept-more k None at before = inl (λ j inst below low column row step. elim (level_or_below j k (omega (arith, below))) [
        | inl less ↦ before j inst less low column row step
        | inr same ↦ some_or_none (sym step ∙ ap (step_at (steps_under table objects)) same ∙ at)
      ])
      kept-more k (Some here) at before = by (decided-at k here at)
        where
          by : Decided (KeptAt k here) → Decided (KeptUpTo (suc k))
          by (inr never) = inr (λ all. never (λ low column row. all k here (omega arith) low column row at))
          by (inl kept) = inl (λ j inst below low column row step. elim (level_or_below j k (omega (arith, below))) [
            | inl less ↦ before j inst less low column row step
            | inr same ↦
                let is : here ≡ inst = some_same (sym at ∙ ap (step_at (steps_under table objects)) (sym same) ∙ step) in
                subst (λ (o : OpInst). ¬ IsDeleted (schema_of problem o) o atom) is
                (kept (omega (arith, low, same)) (omega (arith, column, same)) (omega (arith, row, same)))
          ])

      decided-up-to : (end : ℕ) → Decided (KeptUpTo end)
      decided-up-to zero = inl (λ k inst below low column row step. absurd (omega (arith, below)))
      decided-up-to (suc end) = by (decided-up-to end)
        where
          by : Decided (KeptUpTo end) → Decided (KeptUpTo (suc end))
          by (inl before) = kept-more end (step_at (steps_under table objects) end) refl before
          by (inr never) = inr (λ all. never (λ k inst below low column row step. all k inst (omega (arith, below)) low column row step))

      decided-kept : Decided (IsKept problem (steps_under table objects) first (mark_under objects mark))
      decided-kept = by (decided-up-to mark.row)
        where
          by : Decided (KeptUpTo mark.row) → Decided (IsKept problem (steps_under table objects) first (mark_under objects mark))
          by (inl kept) = inl (λ k inst low column row step. kept k inst row low column row step)
          by (inr never) = inr (λ kept. never (λ k inst below low column row step. kept k inst low column row step))

    decided-proper : (i : ℕ) → Decided (IsProper problem table objects i)
    decided-proper i =
        decided-all (λ (mark : Mark). IsKept problem (steps_under table objects) i (mark_under objects mark)) table.marks
        (λ mark has. decided-kept mark has i)

  -- ---- kernels

  decided-instantiation : (objects : List ℕ) → Decided (IsInstantiation problem table objects)
  decided-instantiation objects = by (cases_eq (length objects) table.params) (decided-all (λ n. n < problem.objects) objects
      (λ n has. decided-lt n problem.objects))
    where
      by : Decided (length objects ≡ table.params) → Decided (All (λ n. n < problem.objects) objects)
          → Decided (IsInstantiation problem table objects)
      by (inl count) (inl below) = inl (record { count = count; objects = below })
      by (inl count) (inr never) = inr (λ is. never is.objects)
      by (inr never) below = inr (λ is. never is.count)

  decided-fitting : (objects : List ℕ) → Decided (ParametersFit problem.object_sorts table objects)
  decided-fitting objects =
      decided-below (λ v. FitsSort problem.object_sorts (slice_index table.param_sorts v) (slice_index objects v)) (length objects) (λ v below.
      decided-if (slice_index table.param_sorts v ≢ 0) (slice_index problem.object_sorts (slice_index objects v)
      ≡ slice_index table.param_sorts v) (decided-not (slice_index table.param_sorts v ≡ 0) (cases_eq (slice_index table.param_sorts v) 0))
      (cases_eq (slice_index problem.object_sorts (slice_index objects v)) (slice_index table.param_sorts v)))

  module _ (bound : List (ℕ × ℕ)) (atoms : List Atom) where
    decided-fits : (i : ℕ) → 1 ≤ i → i ≤ length table.steps + 1 → (objects : List ℕ)
        → Decided (KernelFits problem table bound atoms i objects)
    decided-fits i low high objects = by (decided-instantiation objects)
      where
        whole : IsInstantiation problem table objects → Decided (Extends bound objects)
            → Decided (ParametersFit problem.object_sorts table objects) → Decided (IsProper problem table objects i)
            → Decided (All (Contains atoms) (kernel_under table objects i)) → Decided (KernelFits problem table bound atoms i objects)
        whole is (inl extends) (inl fitting) (inl proper) (inl holds) = inl (record {
          from_one = low;
          to_goal = high;
          instantiation = is;
          extends = extends;
          fitting = fitting;
          proper = proper;
          holds = holds;
        })
        whole is (inl extends) (inl fitting) (inl proper) (inr never) = inr (λ fits. never fits.holds)
        whole is (inl extends) (inl fitting) (inr never) holds = inr (λ fits. never fits.proper)
        whole is (inl extends) (inr never) proper holds = inr (λ fits. never fits.fitting)
        whole is (inr never) fitting proper holds = inr (λ fits. never fits.extends)

        by : Decided (IsInstantiation problem table objects) → Decided (KernelFits problem table bound atoms i objects)
        by (inr never) = inr (λ fits. never fits.instantiation)
        by (inl is) =
            whole is (decided-all (IsBoundTo objects) bound (λ pair has. decided-bound objects pair)) (decided-fitting objects)
            (decided-proper objects is i) (decided-all (Contains atoms) (kernel_under table objects i) (λ atom has. decided-contains atoms atom))

    -- what sensing finds, where no kernel above fits
    abbrev Senses : Type 0
    Senses = (answer : Option KernelInstance) × IsSensed problem table bound atoms answer

    abbrev NoneAbove : ℕ → Type 0
    NoneAbove i = (j : ℕ) (objects : List ℕ) → i < j → ¬ KernelFits problem table bound atoms j objects

    sensed-from : (i : ℕ) → i ≤ length table.steps + 1 → NoneAbove i → Senses
    sensed-from zero high none = (None, λ j objects fits. none j objects (omega (arith, fits.from_one)) fits)
    sensed-from (suc i) high none =
        by (first-list problem.objects table.params (KernelFits problem table bound atoms (suc i)) (decided-fits (suc i) (omega arith) high)
        (λ objects fits. (fits.instantiation.count, fits.instantiation.objects))) (sensed-from i (omega (arith, high)))
      where
        by : FirstOrNone (KernelFits problem table bound atoms (suc i)) → (NoneAbove i → Senses) → Senses
        by (inl (objects, first)) next = (
          Some (record { number = suc i; objects = objects }),
          record {
            fits = first.0;
            highest = λ j others fits. elim (cases_lt (suc i) j) [ inl above ↦ absurd (none j others above fits) | inr below ↦ below ];
            first = first.1;
          },
        )
        by (inr never) next = next (λ j objects above fits. elim (cases_eq j (suc i)) [
          | inl same ↦ never objects (subst (λ n. KernelFits problem table bound atoms n objects) same fits)
          | inr other ↦ none j objects (above-next i j above other) fits
        ])
          where
            above-next : (i j : ℕ) → i < j → ¬ (j ≡ suc i) → suc i < j
            above-next i j above other = elim (cases_order j (suc i)) [
              | inl same ↦ absurd (other same)
              | inr (inl less) ↦ absurd (omega (arith, less, above))
              | inr (inr more) ↦ more
            ]

    senses : Senses
    senses = sensed-from (length table.steps + 1) (omega arith) (λ j objects above fits. omega (arith, above, fits.to_goal))

  -- ---- rows

  decided-row : (kernel : KernelInstance) (atoms : List Atom) → KernelRowHolds table kernel atoms ⊎ RowFails table kernel atoms
  decided-row kernel atoms = each table.marks
    where
      Row : List Mark → Type 0
      Row marks = ((mark : Mark) → Contains marks mark → mark.row ≡ kernel.number → Contains atoms (atom_under kernel.objects mark.atom))
          ⊎ ((mark : Mark) × Contains marks mark × (mark.row ≡ kernel.number) × (¬ Contains atoms (atom_under kernel.objects mark.atom)))

      one : (mark : Mark) (marks : List Mark) → Row marks → Decided (mark.row ≡ kernel.number)
          → Decided (Contains atoms (atom_under kernel.objects mark.atom)) → Row (mark ∷ marks)
      one mark marks (inr (failing, has, row, fails)) is there = inr (failing, Contains-later mark marks failing has, row, fails)
      one mark marks (inl hold) (inl row) (inr fails) = inr (mark, Contains-first mark marks, row, fails)
      one mark marks (inl hold) (inl row) (inl holds) = inl (λ other has is. elim (Contains-cases mark marks other has) [
        | inl same ↦ subst (λ (m : Mark). Contains atoms (atom_under kernel.objects m.atom)) same holds
        | inr later ↦ hold other later is
      ])
      one mark marks (inl hold) (inr not_here) there = inl (λ other has is. elim (Contains-cases mark marks other has) [
        | inl same ↦ absurd (not_here (ap (λ (m : Mark). m.row) same ∙ is))
        | inr later ↦ hold other later is
      ])

      each : (marks : List Mark) → Row marks
      each [] = inl (λ mark has is. absurd (Contains-none mark has))
      each (mark ∷ marks) = one mark marks (each marks) (cases_eq mark.row kernel.number) (decided-contains atoms
          (atom_under kernel.objects mark.atom))

  -- ---- events

  module _ {E : Type 0} (leaves : E → List Atom → List Atom) (bound : List (ℕ × ℕ)) where
    -- something comes of the event, and what is remembered then can be acted by
    abbrev Comes : Running → Event E → Type 0
    Comes old event = (outcome : Outcome) × ((new : Running)
        × (Happens leaves problem table bound old event outcome new × IsActable problem table new.memory.remembered))

    sense-comes : (old : Running) (answer : Option KernelInstance) → IsSensed problem table bound old.atoms answer → Comes old Sense
    sense-comes old None is = (NoKernel, (forgetting old old.atoms, ((is, refl), tt)))
    sense-comes old (Some kernel) is = elim (cases_lt (length table.steps) kernel.number) [
      | inl above ↦ (Goal, (sensing old None kernel, ((kernel, is, omega (arith, above, is.fits.to_goal), refl), tt)))
      | inr at_most ↦ (
        Sensed kernel.number,
        (
          sensing old (Some kernel) kernel,
          (
            (kernel, is, refl, at_most, refl),
            (is.fits.from_one, at_most, is.fits.instantiation),
          ),
        ),
      )
    ]

    act-comes : (old : Running) (remembered : Option KernelInstance) → old.memory.remembered ≡ remembered
        → IsActable problem table remembered → Comes old Act
    act-comes old None is can = (NotSensed, (old, ((is, refl), subst (IsActable problem table) (sym is) can)))
    act-comes old (Some kernel) is can = by (decided-row kernel old.atoms)
      where
        by : KernelRowHolds table kernel old.atoms ⊎ RowFails table kernel old.atoms → Comes old Act
        by (inr fails) = (Slipped, (forgetting old old.atoms, ((kernel, is, fails, refl), tt)))
        by (inl holds) =
            let step = some-step table.steps kernel.number can.0 can.1 in
            let inst = instance_under kernel.objects step.0 in
            let here : step_of_kernel table kernel ≡ Some inst =
            step_at-map (instance_under kernel.objects) table.steps kernel.number step.0 step.1 in
            (Acted, (forgetting old (result_of problem old.atoms inst), ((kernel, is, holds, (inst, here, refl)), tt)))

    comes : (event : Event E) (old : Running) → IsActable problem table old.memory.remembered → Comes old event
    comes (Disturb edit) old can = (Disturbed, (record { atoms = leaves edit old.atoms; memory = old.memory }, (refl, can)))
    comes Sense old can = let found = senses bound old.atoms in sense-comes old found.0 found.1
    comes Act old can = act-comes old old.memory.remembered refl can

    traces : (events : List (Event E)) (old : Running) → IsActable problem table old.memory.remembered
        → (outcomes : List Outcome) × ((new : Running) × Traces leaves problem table bound old events outcomes new)
    traces [] old can = ([], (old, refl))
    traces (event ∷ events) old can =
        let first = comes event old can in
        let rest = traces events first.1.0 first.1.1.1 in
        (first.0 ∷ rest.0, (rest.1.0, (first.1.0, first.1.1.0, rest.1.1)))

pub traces_exist : {E : Type 0} (leaves : E → List Atom → List Atom) → TracesExist leaves
traces_exist leaves problem table bound old events valid is_table can = traces problem valid table is_table leaves bound events old can
