-- In a world that nothing disturbs each action that was sensed is taken, and the next sensing finds a greater kernel.
use Rattle.std.specs.Prelude.{◌≡◌, ℕ, ◌<◌, ◌≤◌, Some, None, Option, List, length, slice_get, Contains}
use Rattle.std.proofs.Common.{zero, suc, refl, sym, ap, ◌∙◌, subst, inl, inr, arith}
use Rattle.px_base.specs.ListLaws.{All-at, All-each}
use Rattle.px_base.proofs.Loops.{level_or_below}
use Rattle.px_terms.specs.declared.atom.Atom.{Atom}
use Rattle.px_terms.specs.declared.instance.OpInst.{OpInst}
use Rattle.px_terms.specs.declared.problem.Problem.{Problem}
use Rattle.px_terms.specs.OperatorLaws.{result_by-members}
use Rattle.px_terms.specs.Operators.{adds, result_of, schema_of}
use Rattle.px_terms.specs.Validity.{IsValid, IsAtomOf}
use Rattle.px_terms.specs.ValidityLaws.{atom_of-is_ground, deletes-passed, instance-is_ground}
use Rattle.px_base.specs.Answers.{some_same}
use Rattle.px_proof.specs.PlaceLaws.{All-got, Contains-mapped}
use Rattle.px_table.specs.declared.mark.Mark.{Mark}
use Rattle.px_table.specs.declared.table.Table.{Table}
use Rattle.px_table.specs.Carrying.{contains_at}
use Rattle.px_table.specs.KernelLaws.{Contains-from_map, from_kernel, kernel-has}
use Rattle.px_table.specs.Kernels.{atom_under, instance_under, kernel_of, kernel_under, mark_under, steps_under}
use Rattle.px_table.specs.Marks.{IsKept, IsNamed, step_at}
use Rattle.px_table.specs.Tables.{IsTable, IsStepOf}
use Rattle.px_table.specs.UnderLaws.{IsNamed-under, atom_under-is_of, from_map, step_under-is_of}
use Rattle.px_match.specs.Matching.{KernelFits, KernelInstance, IsSensed}
use Rattle.px_planex.specs.Execution.{Happens, KernelRowHolds, Running}
use Rattle.px_planex.specs.Progress.{ActsAndGoesOn}
use Rattle.px_planex.specs.declared.event.Event.TheVariants.{Sense, Act}
use Rattle.px_planex.specs.declared.event.Outcome.{Outcome}
use Rattle.px_planex.specs.declared.event.Outcome.TheVariants.{Disturbed, Sensed, Acted, Slipped, Goal, NoKernel, NotSensed}

module _ (problem : Problem) (valid : IsValid problem) (table : Table) (is_table : IsTable problem table) (bound : List (ℕ × ℕ)) where
  mark_holds : (atoms : List Atom) (i : ℕ) (objects : List ℕ) → KernelFits problem table bound atoms i objects → (mark : Mark)
      → Contains table.marks mark → i ≤ mark.row → mark.column < i → Contains atoms (atom_under objects mark.atom)
  mark_holds atoms i objects fits mark has row column =
      All-at (Contains atoms) (kernel_under table objects i) (atom_under objects mark.atom) fits.holds
      (Contains-mapped (atom_under objects) (kernel_of table i) mark.atom (kernel-has table i mark has row column))

  -- where a kernel fits, so do the marks of its row
  pub row_of_kernel_holds : (atoms : List Atom) (kernel : KernelInstance)
      → KernelFits problem table bound atoms kernel.number kernel.objects → KernelRowHolds table kernel atoms
  row_of_kernel_holds atoms kernel fits mark has e =
      let named = All-at (IsNamed problem table.steps) table.marks mark is_table.named has in
      mark_holds atoms kernel.number kernel.objects fits mark has (omega arith) (omega (arith, named.earlier))

  module _ (atoms : List Atom) (i : ℕ) (objects : List ℕ) (inst : OpInst) (fits : KernelFits problem table bound atoms (suc i) objects)
      (at : step_at (steps_under table objects) (suc i) ≡ Some inst) where
    kept_atom : (mark : Mark) → Contains table.marks mark → Contains atoms (atom_under objects mark.atom)
        → ¬ Rattle.px_terms.specs.Operators.IsDeleted (schema_of problem inst) inst (atom_under objects mark.atom)
        → Contains (result_of problem atoms inst) (atom_under objects mark.atom)
    kept_atom mark has there stays =
        let from = from_map (instance_under objects) table.steps i inst at in
        let is_step = All-got (IsStepOf problem table.params) table.steps i from.0 is_table.in_range.steps from.1 in
        let is_inst =
        subst (λ x. Rattle.px_terms.specs.Validity.IsInstanceOf problem x) from.2
        (step_under-is_of problem table objects from.0 fits.instantiation is_step) in
        let is_atom =
        atom_under-is_of problem table objects mark.atom fits.instantiation
        (All-at (λ (m : Mark). IsAtomOf problem table.params m.atom) table.marks mark is_table.atoms has) in
        (result_by-members (schema_of problem inst) atoms inst (atom_under objects mark.atom)).1
        (inl (
          there,
          deletes-passed problem inst (atom_under objects mark.atom) valid (instance-is_ground problem inst is_inst)
              (atom_of-is_ground problem (atom_under objects mark.atom) is_atom) stays,
        ))

    from_mark : (mark : Mark) → Contains table.marks mark → suc (suc i) ≤ mark.row → mark.column < suc (suc i)
        → Contains (result_of problem atoms inst) (atom_under objects mark.atom)
    from_mark mark has row column = elim (level_or_below mark.column (suc i) (omega (arith, column))) [
      | inl before ↦ kept_atom mark has (mark_holds atoms (suc i) objects fits mark has (omega arith) before)
          (All-at (λ m. IsKept problem (steps_under table objects) (suc i) (mark_under objects m)) table.marks mark fits.proper has
          (suc i) inst (omega arith) before row at)
      | inr here ↦
          let named =
          IsNamed-under problem table.steps objects mark (All-at (IsNamed problem table.steps) table.marks mark is_table.named has) in
          let add = named.added (omega (arith, here)) in
          let same : add.0 ≡ inst = some_same (sym add.1 ∙ ap (step_at (steps_under table objects)) here ∙ at) in
          let added : slice_get (adds problem inst) mark.index ≡ Some (atom_under objects mark.atom) =
          subst (λ (x : OpInst). slice_get (adds problem x) mark.index ≡ Some (atom_under objects mark.atom)) same add.2 in
          (result_by-members (schema_of problem inst) atoms inst (atom_under objects mark.atom)).1
          (inr (contains_at (adds problem inst) mark.index (atom_under objects mark.atom) added))
    ]

    from_atom : (atom : Atom) → Contains (kernel_under table objects (suc (suc i))) atom → Contains (result_of problem atoms inst) atom
    from_atom atom has =
        let from = Contains-from_map (atom_under objects) (kernel_of table (suc (suc i))) atom has in
        let mark = from_kernel table (suc (suc i)) from.0 from.1 in
        subst (λ (x : Atom). Contains (result_of problem atoms inst) x) (ap (atom_under objects) mark.2 ∙ from.2)
        (from_mark mark.0 mark.1 mark.3 mark.4)

    -- after its step the next kernel fits, with the same objects
    pub next_kernel-fits : suc i ≤ length table.steps → KernelFits problem table bound (result_of problem atoms inst) (suc (suc i)) objects
    next_kernel-fits within = record {
      from_one = omega arith;
      to_goal = omega arith;
      instantiation = fits.instantiation;
      extends = fits.extends;
      fitting = fits.fitting;
      proper = λ k d h j q low. fits.proper k d h j q (omega arith);
      holds = All-each (Contains (result_of problem atoms inst)) (kernel_under table objects (suc (suc i))) (λ a has. from_atom a has);
    }

  pub next_kernel_fits : (atoms : List Atom) (i : ℕ) (objects : List ℕ) (inst : OpInst) → KernelFits problem table bound atoms i objects
      → i ≤ length table.steps
      → step_at (steps_under table objects) i ≡ Some inst → KernelFits problem table bound (result_of problem atoms inst) (suc i) objects
  next_kernel_fits atoms zero objects inst fits within at = absurd (omega (arith, fits.from_one))
  next_kernel_fits atoms (suc i) objects inst fits within at = next_kernel-fits atoms i objects inst fits at within

  greater : (atoms : List Atom) (k i : ℕ) (objects : List ℕ) → k ≡ i → KernelFits problem table bound atoms (suc k) objects
      → (answer : Option KernelInstance) → IsSensed problem table bound atoms answer
      → (next : KernelInstance) × (answer ≡ Some next) × (i < next.number)
  greater atoms k i objects e fits None senses = absurd (senses (suc k) objects fits)
  greater atoms k i objects e fits (Some next) senses = (next, refl, omega (arith, senses.highest (suc k) objects fits))

  pub acts_here : (E : Type 0) (leaves : E → List Atom → List Atom) (old sensed acted : Running) (i : ℕ) (outcome : Outcome)
      → Happens leaves problem table bound old Sense (Sensed i) sensed → Happens leaves problem table bound sensed Act outcome acted
      → (outcome ≡ Acted) × ((answer : Option KernelInstance) → IsSensed problem table bound acted.atoms answer
      → (next : KernelInstance) × (answer ≡ Some next) × (i < next.number))
  acts_here E leaves old sensed acted i (Sensed j) sense act = absurd act
  acts_here E leaves old sensed acted i Disturbed sense act = absurd act
  acts_here E leaves old sensed acted i Goal sense act = absurd act
  acts_here E leaves old sensed acted i NoKernel sense act = absurd act
  acts_here E leaves old sensed acted i NotSensed sense act =
      let e = ap (λ (r : Running). r.memory.remembered) sense.4 in absurd (cc (e, act.0))
  acts_here E leaves old sensed acted i Slipped sense act =
      let e = ap (λ (r : Running). r.memory.remembered) sense.4 in
      let same : sense.0 ≡ act.0 = cc (e, act.1) in
      let atoms : sensed.atoms ≡ old.atoms = ap (λ (r : Running). r.atoms) sense.4 in
      let holds : KernelRowHolds table act.0 sensed.atoms = subst (λ (k : KernelInstance). KernelRowHolds table k sensed.atoms) same
      (subst (λ (xs : List Atom). KernelRowHolds table sense.0 xs) (sym atoms) (row_of_kernel_holds old.atoms sense.0 sense.1.fits)) in
      absurd (act.2.3 (holds act.2.0 act.2.1 act.2.2))
  acts_here E leaves old sensed acted i Acted sense act =
      let e = ap (λ (r : Running). r.memory.remembered) sense.4 in
      let same : act.0 ≡ sense.0 = cc (e, act.1) in
      let atoms : sensed.atoms ≡ old.atoms = ap (λ (r : Running). r.atoms) sense.4 in
      let fits : KernelFits problem table bound sensed.atoms act.0.number act.0.objects =
      subst (λ (k : KernelInstance). KernelFits problem table bound sensed.atoms k.number k.objects) (sym same)
      (subst (λ (xs : List Atom). KernelFits problem table bound xs sense.0.number sense.0.objects) (sym atoms) sense.1.fits) in
      let number : act.0.number ≡ i = ap (λ (k : KernelInstance). k.number) same ∙ sense.2 in
      let next = next_kernel_fits sensed.atoms act.0.number act.0.objects act.3.0 fits (omega (arith, sense.3, number)) act.3.1 in
      let next_here : KernelFits problem table bound acted.atoms (suc act.0.number) act.0.objects =
      subst (λ (r : Running). KernelFits problem table bound r.atoms (suc act.0.number) act.0.objects) (sym act.3.2) next in
      (refl, λ answer senses. greater acted.atoms act.0.number i act.0.objects number next_here answer senses)

pub acts_and_goes_on : {E : Type 0} (leaves : E → List Atom → List Atom) → ActsAndGoesOn leaves
acts_and_goes_on {E} leaves problem table bound old sensed acted i outcome valid is_table sense act =
    acts_here problem valid table is_table bound E leaves old sensed acted i outcome sense act
