-- Where the other's steps spare its marks, an executor that has sensed a kernel is never hindered.
use Rattle.std.specs.Prelude.{◌≡◌, ◌⊎◌, ℕ, Bool, true, false, ◌≤◌, ◌+◌, Some, None, Option, List, [], ◌∷◌, ◌++◌, length, All, Contains}
use Rattle.std.proofs.Common.{zero, suc, refl, sym, ap, ◌∙◌, subst, inl, inr, arith}
use Rattle.std.proofs.lemmas.List.Elements.{All-head, All-tail}
use Rattle.px_base.specs.Answers.{some_same}
use Rattle.px_base.specs.ListLaws.{All-at, All-each}
use Rattle.px_terms.specs.declared.atom.Atom.{Atom}
use Rattle.px_terms.specs.declared.instance.OpInst.{OpInst}
use Rattle.px_terms.specs.declared.problem.Problem.{Problem}
use Rattle.px_terms.specs.Instances.{IsGround}
use Rattle.px_terms.specs.OperatorLaws.{result_by-members}
use Rattle.px_terms.specs.Operators.{IsDeleted, adds, deletes, result_of, schema_of}
use Rattle.px_terms.specs.Validity.{IsAtomOf, IsInstanceOf, IsValid}
use Rattle.px_terms.specs.ValidityLaws.{atom_of-is_ground, deletes-true, instance-is_ground}
use Rattle.px_proof.specs.PlaceLaws.{All-got}
use Rattle.px_table.specs.declared.mark.Mark.{Mark}
use Rattle.px_table.specs.declared.table.Table.{Table}
use Rattle.px_table.specs.Carrying.{contains_at}
use Rattle.px_table.specs.KernelLaws.{Contains-from_map, from_kernel}
use Rattle.px_table.specs.Kernels.{IsInstantiation, atom_under, instance_under, kernel_of, kernel_under, steps_under}
use Rattle.px_table.specs.Marks.{step_at}
use Rattle.px_table.specs.Tables.{IsStepOf, IsTable}
use Rattle.px_table.specs.UnderLaws.{atom_under-is_of, from_map, step_under-is_of}
use Rattle.px_match.specs.Matching.{KernelFits, KernelInstance}
use Rattle.px_planex.specs.Execution.{Happens, KernelRowHolds, Memory, Running, step_of_kernel}
use Rattle.px_planex.specs.Executors.{IsActable, KernelObjectsFit}
use Rattle.px_planex.specs.declared.event.Event.{Event}
use Rattle.px_planex.specs.declared.event.Event.TheVariants.{Sense, Act}
use Rattle.px_planex.specs.declared.event.Outcome.{Outcome}
use Rattle.px_planex.specs.declared.event.Outcome.TheVariants.{Disturbed, Sensed, Acted, Slipped, Goal, NoKernel, NotSensed}
use Rattle.px_planex.proofs.OneTrace.{ActGives, act_gives}
use Rattle.px_planex.proofs.Progressing.{next_kernel_fits, row_of_kernel_holds}
use Rattle.px_duo.specs.Duos.{DuoRunning, DuoTraces, HappensInDuo, IsReady, Pair, alone, come_to, other_than, own}
use Rattle.px_duo.specs.Sparing.{AreObjectsOf, IsNoEdit, IsUnhindered, SparedAreUnhindered, Spares, own_event, own_events, own_outcome, own_outcomes}
use Rattle.px_duo.specs.declared.event.DuoEvent.{DuoEvent}
use Rattle.px_duo.specs.declared.event.DuoEvent.TheVariants as duo
use Rattle.px_duo.specs.declared.event.Who.{Who}
use Rattle.px_duo.proofs.Outcomes.{act_readies, sense_keeps, sense_readies}
use Rattle.px_duo.proofs.Whose.{came, came-atoms, came-memory, one_or_other, other-stays, own-here, own-not, own-stays}

step_contained : (xs : List OpInst) (n : ℕ) (x : OpInst) → step_at xs n ≡ Some x → Contains xs x
step_contained xs zero x at = absurd (cc (at))
step_contained xs (suc k) x at = contains_at xs k x at

module _ {E : Type 0} (leaves : E → List Atom → List Atom) (problem : Problem) (valid : IsValid problem) (tables : Pair Table)
    (are_tables : (by : Who) → IsTable problem (own by tables)) (who : Who)
    (spares : Spares problem (own (other_than who) tables) (own who tables)) where
  abbrev mine : Table
  mine = own who tables

  abbrev theirs : Table
  theirs = own (other_than who) tables

  abbrev Fits : List Atom → ℕ → List ℕ → Type 0
  Fits atoms i objects = KernelFits problem mine [] atoms i objects

  -- ---- a step that takes away none of the marks leaves each kernel that fits

  -- a mark that is deleted is added again
  abbrev AddsAgain : OpInst → List ℕ → Mark → Type 0
  AddsAgain inst objects mark =
      IsDeleted (schema_of problem inst) inst (atom_under objects mark.atom) → Contains (adds problem inst) (atom_under objects mark.atom)

  kept_mark : (atoms : List Atom) (inst : OpInst) (objects : List ℕ) (mark : Mark) → IsInstanceOf problem inst
      → IsInstantiation problem mine objects → Contains mine.marks mark → AddsAgain inst objects mark
      → Contains atoms (atom_under objects mark.atom) → Contains (result_of problem atoms inst) (atom_under objects mark.atom)
  kept_mark atoms inst objects mark is_inst given has again there =
      let is_atom =
      atom_under-is_of problem mine objects mark.atom given
      (All-at (λ (m : Mark). IsAtomOf problem mine.params m.atom) mine.marks mark (are_tables who).atoms has) in
      (result_by-members (schema_of problem inst) atoms inst (atom_under objects mark.atom)).1
      (by (atom_of-is_ground problem (atom_under objects mark.atom) is_atom) (deletes problem inst (atom_under objects mark.atom)) refl)
    where
      by : IsGround (atom_under objects mark.atom) → (b : Bool) → deletes problem inst (atom_under objects mark.atom) ≡ b
          → (Contains atoms (atom_under objects mark.atom) × (deletes problem inst (atom_under objects mark.atom) ≡ false))
          ⊎ Contains (adds problem inst) (atom_under objects mark.atom)
      by is_ground true found =
          inr (again (deletes-true problem inst (atom_under objects mark.atom) valid (instance-is_ground problem inst is_inst) is_ground found))
      by is_ground false stays = inl (there, stays)

  kept_fits : (atoms : List Atom) (inst : OpInst) (i : ℕ) (objects : List ℕ) → IsInstanceOf problem inst
      → ((mark : Mark) → Contains mine.marks mark → AddsAgain inst objects mark)
      → Fits atoms i objects → Fits (result_of problem atoms inst) i objects
  kept_fits atoms inst i objects is_inst again fits = record {
    from_one = fits.from_one;
    to_goal = fits.to_goal;
    instantiation = fits.instantiation;
    extends = fits.extends;
    fitting = fits.fitting;
    proper = fits.proper;
    holds = All-each (Contains (result_of problem atoms inst)) (kernel_under mine objects i)
        (λ atom has.
        let from = Contains-from_map (atom_under objects) (kernel_of mine i) atom has in
        let mark = from_kernel mine i from.0 from.1 in
        let same = ap (atom_under objects) mark.2 ∙ from.2 in
        subst (λ (x : Atom). Contains (result_of problem atoms inst) x) same
        (kept_mark atoms inst objects mark.0 is_inst fits.instantiation mark.1 (again mark.0 mark.1)
        (subst (λ (x : Atom). Contains atoms x) (sym same) (All-at (Contains atoms) (kernel_under mine objects i) atom fits.holds has))));
  }

  step_is_instance : (objects : List ℕ) (n : ℕ) (inst : OpInst) → IsInstantiation problem theirs objects
      → step_at (steps_under theirs objects) n ≡ Some inst → IsInstanceOf problem inst
  step_is_instance objects zero inst given at = absurd (cc (at))
  step_is_instance objects (suc k) inst given at =
      let from = from_map (instance_under objects) theirs.steps k inst at in
      subst (IsInstanceOf problem) from.2
      (step_under-is_of problem theirs objects from.0 given
      (All-got (IsStepOf problem theirs.params) theirs.steps k from.0 (are_tables (other_than who)).in_range.steps from.1))

  -- ---- what an event of the other leaves

  abbrev Keeps : List Atom → List Atom → Type 0
  Keeps old new = (i : ℕ) (objects : List ℕ) → Fits old i objects → Fits new i objects

  same_keep : (old new : List Atom) → new ≡ old → Keeps old new
  same_keep old new is i objects fits = subst (λ (xs : List Atom). Fits xs i objects) (sym is) fits

  abbrev IsReadyFor : Option KernelInstance → Type 0
  IsReadyFor remembered = IsActable problem theirs remembered × KernelObjectsFit problem theirs remembered

  acting_spares : (old new : Running) (remembered : Option KernelInstance) (outcome : Outcome) → IsReadyFor remembered
      → ActGives leaves problem theirs [] old remembered outcome new → Keeps old.atoms new.atoms
  acting_spares old new None outcome ready gives = same_keep old.atoms new.atoms (ap (λ (r : Running). r.atoms) gives.1)
  acting_spares old new (Some kernel) outcome ready (inl gives) = same_keep old.atoms new.atoms (ap (λ (r : Running). r.atoms) gives.2)
  acting_spares old new (Some kernel) outcome ready (inr gives) =
      let inst = gives.2.0 in
      let given : AreObjectsOf problem theirs kernel.objects = record { instantiation = ready.0.2; fitting = ready.1 } in
      let taken = step_contained (steps_under theirs kernel.objects) kernel.number inst gives.2.1 in
      λ i objects fits. subst (λ (xs : List Atom). Fits xs i objects) (sym (ap (λ (r : Running). r.atoms) gives.2.2))
      (kept_fits old.atoms inst i objects (step_is_instance kernel.objects kernel.number inst ready.0.2 gives.2.1)
      (λ mark has. spares kernel.objects objects inst mark given
      (record { instantiation = fits.instantiation; fitting = fits.fitting }) taken has) fits)

  act_spares : (old new : Running) (outcome : Outcome) → IsReady problem theirs old.memory → Happens leaves problem theirs [] old Act outcome new
      → Keeps old.atoms new.atoms
  act_spares old new outcome ready h =
      acting_spares old new old.memory.remembered outcome ready (act_gives leaves problem theirs [] old new outcome h)

  -- ---- where the one stands

  -- it remembers this kernel, which fits
  abbrev Holding : ℕ → DuoRunning → Type 0
  Holding i old = (kernel : KernelInstance) × ((own who old.memories).remembered ≡ Some kernel) × (kernel.number ≡ i)
      × (i ≤ length mine.steps) × Fits old.atoms kernel.number kernel.objects

  -- some kernel from this one on fits
  abbrev SomeFits : ℕ → List Atom → Type 0
  SomeFits least atoms = (j : ℕ) × ((objects : List ℕ) × (least ≤ j) × Fits atoms j objects)

  -- it remembers no kernel, and some kernel from this one on fits
  abbrev Resting : ℕ → DuoRunning → Type 0
  Resting least old = ((own who old.memories).remembered ≡ None) × SomeFits least old.atoms

  abbrev Stands : Bool → ℕ → DuoRunning → Type 0
  Stands true least old = Holding least old
  Stands false least old = Resting least old

  abbrev Ready : DuoRunning → Type 0
  Ready old = IsReady problem theirs (own (other_than who) old.memories)

  some_fits : (remembers : Bool) (least : ℕ) (old : DuoRunning) → Stands remembers least old → SomeFits least old.atoms
  some_fits true least old h = (h.0.number, (h.0.objects, omega (arith, h.2), h.4))
  some_fits false least old h = h.1

  -- what is to be shown of the rest
  abbrev Onward : List (DuoEvent E) → List Outcome → DuoRunning → Type 0
  Onward es os mid = (remembers : Bool) (least : ℕ) → Stands remembers least mid
      → IsUnhindered (length mine.steps) remembers least (own_events who es) (own_outcomes who es os)

  abbrev Going : List (DuoEvent E) → List Outcome → Type 0
  Going events outcomes = (old new : DuoRunning) → Ready old → DuoTraces leaves problem tables old events outcomes new → All IsNoEdit events
      → Onward events outcomes old

  -- ---- events of the other

  abbrev Shifts : DuoRunning → DuoRunning → Type 0
  Shifts old mid = Ready mid × ((remembers : Bool) (least : ℕ) → Stands remembers least old → Stands remembers least mid)

  other_shifts : (old mid : DuoRunning) (seen : Running) → mid ≡ come_to (other_than who) seen old → IsReady problem theirs seen.memory
      → Keeps old.atoms seen.atoms → Shifts old mid
  other_shifts old mid seen is ready keeps =
      (subst (IsReady problem theirs) (sym (came-memory (other_than who) old mid seen is)) ready, stands)
    where
      remembered : (own who mid.memories).remembered ≡ (own who old.memories).remembered
      remembered = ap (λ (m : Memory). m.remembered) (own-stays who old mid seen is)

      fits : Keeps old.atoms mid.atoms
      fits i objects h = subst (λ (xs : List Atom). Fits xs i objects) (sym (came-atoms (other_than who) old mid seen is)) (keeps i objects h)

      stands : (remembers : Bool) (least : ℕ) → Stands remembers least old → Stands remembers least mid
      stands true least h = (h.0, remembered ∙ h.1, h.2, h.3, fits h.0.number h.0.objects h.4)
      stands false least h = (remembered ∙ h.0, (h.1.0, (h.1.1.0, h.1.1.1, fits h.1.0 h.1.1.0 h.1.1.2)))

  sense_shifts : (o : Outcome) (old mid : DuoRunning) → Ready old
      → HappensInDuo leaves problem tables old (duo.Sense (other_than who)) o mid → Shifts old mid
  sense_shifts o old mid ready h =
      other_shifts old mid h.0 h.2 (sense_readies leaves problem theirs (alone (other_than who) old) h.0 o h.1)
      (same_keep old.atoms h.0.atoms (sense_keeps leaves problem theirs (alone (other_than who) old) h.0 o h.1))

  act_shifts : (o : Outcome) (old mid : DuoRunning) → Ready old
      → HappensInDuo leaves problem tables old (duo.Act (other_than who)) o mid → Shifts old mid
  act_shifts o old mid ready h =
      other_shifts old mid h.0 h.2 (act_readies leaves problem theirs (alone (other_than who) old) h.0 o ready h.1)
      (act_spares (alone (other_than who) old) h.0 o ready h.1)

  -- an event of the other is passed over
  other_goes : (event : DuoEvent E) (o : Outcome) (es : List (DuoEvent E)) (os : List Outcome) → own_event who event ≡ []
      → own_outcome who event o ≡ []
      → ((old mid : DuoRunning) → Ready old → HappensInDuo leaves problem tables old event o mid → Shifts old mid)
      → Going es os → Going (event ∷ es) (o ∷ os)
  other_goes event o es os no_event no_outcome shifts rest old new ready trace edits remembers least is =
      let shifted = shifts old trace.0 ready trace.1 in
      subst (λ (xs : List (Event E)). IsUnhindered (length mine.steps) remembers least (xs ++ own_events who es)
      (own_outcome who event o ++ own_outcomes who es os)) (sym no_event)
      (subst (λ (xs : List Outcome). IsUnhindered (length mine.steps) remembers least (own_events who es) (xs ++ own_outcomes who es os))
      (sym no_outcome)
      (rest trace.0 new shifted.0 trace.2 (All-tail IsNoEdit event es edits) remembers least (shifted.1 remembers least is)))

  -- ---- events of the one

  sensed_goes : (o : Outcome) (es : List (DuoEvent E)) (os : List Outcome) (old mid : DuoRunning) (remembers : Bool) (least : ℕ)
      (seen : Running)
      → Happens leaves problem mine [] (alone who old) Sense o seen → mid ≡ come_to who seen old → SomeFits least old.atoms
      → Onward es os mid
      → IsUnhindered (length mine.steps) remembers least (Sense ∷ own_events who es) (o ∷ own_outcomes who es os)
  sensed_goes Disturbed es os old mid remembers least seen h is some rest = absurd h
  sensed_goes Acted es os old mid remembers least seen h is some rest = absurd h
  sensed_goes Slipped es os old mid remembers least seen h is some rest = absurd h
  sensed_goes NotSensed es os old mid remembers least seen h is some rest = absurd h
  sensed_goes NoKernel es os old mid remembers least seen h is some rest = absurd (h.0 some.0 some.1.0 some.1.2)
  sensed_goes Goal es os old mid remembers least seen h is some rest =
      let here = came who old mid seen is ∙ h.3 in
      rest false (length mine.steps + 1) (
        ap (λ (r : Running). r.memory.remembered) here,
        (
          h.0.number,
          (
            h.0.objects,
            omega (arith, h.2),
            subst (λ (xs : List Atom). Fits xs h.0.number h.0.objects) (sym (ap (λ (r : Running). r.atoms) here)) h.1.fits,
          ),
        ),
      )
  sensed_goes (Sensed k) es os old mid remembers least seen h is some rest =
      let here = came who old mid seen is ∙ h.4 in
      let holds : Holding k mid = (
        h.0,
        ap (λ (r : Running). r.memory.remembered) here,
        h.2,
        h.3,
        subst (λ (xs : List Atom). Fits xs h.0.number h.0.objects) (sym (ap (λ (r : Running). r.atoms) here)) h.1.fits,
      ) in
      (omega (arith, h.1.highest some.0 some.1.0 some.1.2, some.1.1, h.2), h.3, rest true k holds)

  -- where it remembers a kernel its action is taken
  taken_goes : (o : Outcome) (es : List (DuoEvent E)) (os : List Outcome) (old mid : DuoRunning) (least : ℕ) (seen : Running)
      → Happens leaves problem mine [] (alone who old) Act o seen → mid ≡ come_to who seen old → Holding least old → Onward es os mid
      → IsUnhindered (length mine.steps) true least (Act ∷ own_events who es) (o ∷ own_outcomes who es os)
  taken_goes Disturbed es os old mid least seen h is holds rest = absurd h
  taken_goes (Sensed k) es os old mid least seen h is holds rest = absurd h
  taken_goes Goal es os old mid least seen h is holds rest = absurd h
  taken_goes NoKernel es os old mid least seen h is holds rest = absurd h
  taken_goes NotSensed es os old mid least seen h is holds rest = absurd (cc (h.0, holds.1))
  taken_goes Slipped es os old mid least seen h is holds rest =
      let same : h.0 ≡ holds.0 = some_same (sym h.1 ∙ holds.1) in
      let row = row_of_kernel_holds problem valid mine (are_tables who) [] old.atoms holds.0 holds.4 in
      absurd (h.2.3 (subst (λ (k : KernelInstance). KernelRowHolds mine k old.atoms) (sym same) row h.2.0 h.2.1 h.2.2))
  taken_goes Acted es os old mid least seen h is holds rest =
      let same : h.0 ≡ holds.0 = some_same (sym h.1 ∙ holds.1) in
      let at : step_of_kernel mine holds.0 ≡ Some h.3.0 =
      subst (λ (k : KernelInstance). step_of_kernel mine k ≡ Some h.3.0) same h.3.1 in
      let next : Fits (result_of problem old.atoms h.3.0) (suc holds.0.number) holds.0.objects =
      next_kernel_fits problem valid mine (are_tables who) [] old.atoms holds.0.number holds.0.objects h.3.0 holds.4
      (omega (arith, holds.2, holds.3)) at in
      let here = came who old mid seen is ∙ h.3.2 in
      let atoms : mid.atoms ≡ result_of problem old.atoms h.3.0 = ap (λ (r : Running). r.atoms) here in (
        refl,
        rest false (least + 1) (
          ap (λ (r : Running). r.memory.remembered) here,
          (
            suc holds.0.number,
            (
              holds.0.objects,
              omega (arith, holds.2),
              subst (λ (xs : List Atom). Fits xs (suc holds.0.number) holds.0.objects) (sym atoms) next,
            ),
          ),
        ),
      )

  -- and where it remembers none it has none to take
  rested_goes : (o : Outcome) (es : List (DuoEvent E)) (os : List Outcome) (old mid : DuoRunning) (least : ℕ) (seen : Running)
      → Happens leaves problem mine [] (alone who old) Act o seen → mid ≡ come_to who seen old → Resting least old → Onward es os mid
      → IsUnhindered (length mine.steps) false least (Act ∷ own_events who es) (o ∷ own_outcomes who es os)
  rested_goes Disturbed es os old mid least seen h is rests rest = absurd h
  rested_goes (Sensed k) es os old mid least seen h is rests rest = absurd h
  rested_goes Goal es os old mid least seen h is rests rest = absurd h
  rested_goes NoKernel es os old mid least seen h is rests rest = absurd h
  rested_goes Slipped es os old mid least seen h is rests rest = absurd (cc (h.1, rests.0))
  rested_goes Acted es os old mid least seen h is rests rest = absurd (cc (h.1, rests.0))
  rested_goes NotSensed es os old mid least seen h is rests rest =
      let here = came who old mid seen is ∙ h.1 in (
        refl,
        rest false least (
          ap (λ (r : Running). r.memory.remembered) here ∙ rests.0,
          (
            rests.1.0,
            (
              rests.1.1.0,
              rests.1.1.1,
              subst (λ (xs : List Atom). Fits xs rests.1.0 rests.1.1.0) (sym (ap (λ (r : Running). r.atoms) here)) rests.1.1.2,
            ),
          ),
        ),
      )

  acted_goes : (remembers : Bool) (o : Outcome) (es : List (DuoEvent E)) (os : List Outcome) (old mid : DuoRunning) (least : ℕ)
      (seen : Running)
      → Happens leaves problem mine [] (alone who old) Act o seen → mid ≡ come_to who seen old → Stands remembers least old
      → Onward es os mid
      → IsUnhindered (length mine.steps) remembers least (Act ∷ own_events who es) (o ∷ own_outcomes who es os)
  acted_goes true o es os old mid least seen h is stands rest = taken_goes o es os old mid least seen h is stands rest
  acted_goes false o es os old mid least seen h is stands rest = rested_goes o es os old mid least seen h is stands rest

  ready_own : (old mid : DuoRunning) (seen : Running) → mid ≡ come_to who seen old → Ready old → Ready mid
  ready_own old mid seen is ready = subst (IsReady problem theirs) (sym (other-stays who old mid seen is)) ready

  -- an event of the one is the next of its own
  own_goes : (event : Event E) (one : DuoEvent E) (o : Outcome) (es : List (DuoEvent E)) (os : List Outcome) (remembers : Bool) (least : ℕ)
      → own_event who one ≡ event ∷ [] → own_outcome who one o ≡ o ∷ []
      → IsUnhindered (length mine.steps) remembers least (event ∷ own_events who es) (o ∷ own_outcomes who es os)
      → IsUnhindered (length mine.steps) remembers least (own_events who (one ∷ es)) (own_outcomes who (one ∷ es) (o ∷ os))
  own_goes event one o es os remembers least is_event is_outcome goes =
      subst (λ (xs : List (Event E)). IsUnhindered (length mine.steps) remembers least (xs ++ own_events who es)
      (own_outcome who one o ++ own_outcomes who es os)) (sym is_event)
      (subst (λ (xs : List Outcome). IsUnhindered (length mine.steps) remembers least (event ∷ own_events who es)
      (xs ++ own_outcomes who es os)) (sym is_outcome) goes)

  sense_goes : (o : Outcome) (es : List (DuoEvent E)) (os : List Outcome) → Going es os → Going (duo.Sense who ∷ es) (o ∷ os)
  sense_goes o es os rest old new ready trace edits remembers least is =
      let seen = trace.1 in
      own_goes Sense (duo.Sense who) o es os remembers least (own-here who (Sense ∷ []) []) (own-here who (o ∷ []) [])
      (sensed_goes o es os old trace.0 remembers least seen.0 seen.1 seen.2 (some_fits remembers least old is)
      (rest trace.0 new (ready_own old trace.0 seen.0 seen.2 ready) trace.2 (All-tail IsNoEdit (duo.Sense who) es edits)))

  act_goes : (o : Outcome) (es : List (DuoEvent E)) (os : List Outcome) → Going es os → Going (duo.Act who ∷ es) (o ∷ os)
  act_goes o es os rest old new ready trace edits remembers least is =
      let seen = trace.1 in
      own_goes Act (duo.Act who) o es os remembers least (own-here who (Act ∷ []) []) (own-here who (o ∷ []) [])
      (acted_goes remembers o es os old trace.0 least seen.0 seen.1 seen.2 is
      (rest trace.0 new (ready_own old trace.0 seen.0 seen.2 ready) trace.2 (All-tail IsNoEdit (duo.Act who) es edits)))

  -- ---- all events

  sense_by : (by : Who) (o : Outcome) (es : List (DuoEvent E)) (os : List Outcome) → Going es os → Going (duo.Sense by ∷ es) (o ∷ os)
  sense_by by o es os rest = elim (one_or_other who by) [
    | inl is ↦ subst (λ (b : Who). Going (duo.Sense b ∷ es) (o ∷ os)) (sym is) (sense_goes o es os rest)
    | inr is ↦ subst (λ (b : Who). Going (duo.Sense b ∷ es) (o ∷ os)) (sym is)
        (other_goes (duo.Sense (other_than who)) o es os (own-not who (Sense ∷ []) []) (own-not who (o ∷ []) []) (sense_shifts o) rest)
  ]

  act_by : (by : Who) (o : Outcome) (es : List (DuoEvent E)) (os : List Outcome) → Going es os → Going (duo.Act by ∷ es) (o ∷ os)
  act_by by o es os rest = elim (one_or_other who by) [
    | inl is ↦ subst (λ (b : Who). Going (duo.Act b ∷ es) (o ∷ os)) (sym is) (act_goes o es os rest)
    | inr is ↦ subst (λ (b : Who). Going (duo.Act b ∷ es) (o ∷ os)) (sym is)
        (other_goes (duo.Act (other_than who)) o es os (own-not who (Act ∷ []) []) (own-not who (o ∷ []) []) (act_shifts o) rest)
  ]

  goes : (events : List (DuoEvent E)) (outcomes : List Outcome) → Going events outcomes
  goes [] [] old new ready trace edits remembers least is = tt
  goes [] (o ∷ os) old new ready trace edits remembers least is = absurd trace
  goes (e ∷ es) [] old new ready trace edits remembers least is = absurd trace
  goes (duo.Disturb edit ∷ es) (o ∷ os) old new ready trace edits remembers least is =
      absurd (All-head IsNoEdit (duo.Disturb edit) es edits)
  goes (duo.Sense by ∷ es) (o ∷ os) old new ready trace edits remembers least is =
      sense_by by o es os (goes es os) old new ready trace edits remembers least is
  goes (duo.Act by ∷ es) (o ∷ os) old new ready trace edits remembers least is =
      act_by by o es os (goes es os) old new ready trace edits remembers least is

  -- where the one has sensed a kernel it holds it
  sensed_holds : (old sensed : DuoRunning) (i : ℕ) → HappensInDuo leaves problem tables old (duo.Sense who) (Sensed i) sensed
      → Holding i sensed
  sensed_holds old sensed i h =
      let here = came who old sensed h.0 h.2 ∙ h.1.4 in (
        h.1.0,
        ap (λ (r : Running). r.memory.remembered) here,
        h.1.2,
        h.1.3,
        subst (λ (xs : List Atom). Fits xs h.1.0.number h.1.0.objects) (sym (ap (λ (r : Running). r.atoms) here)) h.1.1.fits,
      )

  pub after_sensing : (old sensed new : DuoRunning) (i : ℕ) (events : List (DuoEvent E)) (outcomes : List Outcome) → Ready old
      → HappensInDuo leaves problem tables old (duo.Sense who) (Sensed i) sensed
      → DuoTraces leaves problem tables sensed events outcomes new → All IsNoEdit events
      → IsUnhindered (length mine.steps) true i (own_events who events) (own_outcomes who events outcomes)
  after_sensing old sensed new i events outcomes ready senses trace edits =
      goes events outcomes sensed new (ready_own old sensed senses.0 senses.2 ready) trace edits true i (sensed_holds old sensed i senses)

pub spared_are_unhindered : {E : Type 0} (leaves : E → List Atom → List Atom) → SparedAreUnhindered leaves
spared_are_unhindered leaves problem tables who old sensed new i events outcomes valid are_tables spares ready senses trace edits =
    after_sensing leaves problem valid tables are_tables who spares old sensed new i events outcomes ready senses trace edits
