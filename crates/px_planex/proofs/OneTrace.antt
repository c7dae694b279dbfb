-- What comes of events is determined.
use Rattle.std.specs.Prelude.{◌≡◌, ◌⊎◌, ℕ, ◌+◌, ◌≤◌, Some, None, Option, List, [], ◌∷◌, length}
use Rattle.std.proofs.Common.{refl, sym, ap, ◌∙◌, subst, inl, inr, arith}
use Rattle.px_terms.specs.declared.atom.Atom.{Atom}
use Rattle.px_terms.specs.declared.instance.OpInst.{OpInst}
use Rattle.px_terms.specs.declared.problem.Problem.{Problem}
use Rattle.px_terms.specs.Operators.{result_of}
use Rattle.px_base.specs.Answers.{some_same}
use Rattle.px_table.specs.declared.table.Table.{Table}
use Rattle.px_match.specs.Matching.{IsSensed, KernelInstance}
use Rattle.px_match.proofs.Sensing.{sensed_is_one}
use Rattle.px_planex.specs.declared.event.Event.{Event}
use Rattle.px_planex.specs.declared.event.Event.TheVariants.{Disturb, Sense, Act}
use Rattle.px_planex.specs.declared.event.Outcome.{Outcome}
use Rattle.px_planex.specs.declared.event.Outcome.TheVariants.{Disturbed, Sensed, Acted, Slipped, Goal, NoKernel, NotSensed}
use Rattle.px_planex.specs.Execution.{Happens, RowFails, KernelRowHolds, Running, Traces, TracesAreOne, forgetting, sensing, step_of_kernel}

module _ {E : Type 0} (leaves : E → List Atom → List Atom) (problem : Problem) (table : Table) (bound : List (ℕ × ℕ)) where
  abbrev Comes : Running → Event E → Outcome → Running → Type 0
  Comes = Happens leaves problem table bound

  -- ---- sensing

  -- what comes of a sensing that finds this
  abbrev pub SenseGives : Running → Option KernelInstance → Outcome → Running → Type 0
  SenseGives old None outcome new = (outcome ≡ NoKernel) × (new ≡ forgetting old old.atoms)
  SenseGives old (Some kernel) outcome new =
      ((kernel.number ≡ length table.steps + 1) × (outcome ≡ Goal) × (new ≡ sensing old None kernel))
      ⊎ ((kernel.number ≤ length table.steps) × (outcome ≡ Sensed kernel.number) × (new ≡ sensing old (Some kernel) kernel))

  pub sense_gives : (old new : Running) (outcome : Outcome) → Comes old Sense outcome new
      → (answer : Option KernelInstance) × IsSensed problem table bound old.atoms answer × SenseGives old answer outcome new
  sense_gives old new Disturbed h = absurd h
  sense_gives old new Acted h = absurd h
  sense_gives old new Slipped h = absurd h
  sense_gives old new NotSensed h = absurd h
  sense_gives old new NoKernel h = (None, h.0, (refl, h.1))
  sense_gives old new Goal h = (Some h.0, h.1, inl (h.2, refl, h.3))
  sense_gives old new (Sensed i) h = (Some h.0, h.1, inr (omega (arith, h.2, h.3), ap (λ n. Sensed n) (sym h.2), h.4))

  sense_one : (old new later : Running) (answer : Option KernelInstance) (outcome other : Outcome) → SenseGives old answer outcome new
      → SenseGives old answer other later → (outcome ≡ other) × (new ≡ later)
  sense_one old new later None outcome other a b = (a.0 ∙ sym b.0, a.1 ∙ sym b.1)
  sense_one old new later (Some kernel) outcome other (inl a) (inl b) = (a.1 ∙ sym b.1, a.2 ∙ sym b.2)
  sense_one old new later (Some kernel) outcome other (inr a) (inr b) = (a.1 ∙ sym b.1, a.2 ∙ sym b.2)
  sense_one old new later (Some kernel) outcome other (inl a) (inr b) = absurd (omega (arith, a.0, b.0))
  sense_one old new later (Some kernel) outcome other (inr a) (inl b) = absurd (omega (arith, a.0, b.0))

  -- ---- acting

  -- what comes of an action where this is remembered
  abbrev pub ActGives : Running → Option KernelInstance → Outcome → Running → Type 0
  ActGives old None outcome new = (outcome ≡ NotSensed) × (new ≡ old)
  ActGives old (Some kernel) outcome new =
      (RowFails table kernel old.atoms × (outcome ≡ Slipped) × (new ≡ forgetting old old.atoms))
      ⊎ (KernelRowHolds table kernel old.atoms × (outcome ≡ Acted)
      × ((inst : OpInst) × (step_of_kernel table kernel ≡ Some inst) × (new ≡ forgetting old (result_of problem old.atoms inst))))

  pub act_gives : (old new : Running) (outcome : Outcome) → Comes old Act outcome new → ActGives old old.memory.remembered outcome new
  act_gives old new Disturbed h = absurd h
  act_gives old new Goal h = absurd h
  act_gives old new NoKernel h = absurd h
  act_gives old new (Sensed i) h = absurd h
  act_gives old new NotSensed h = subst (λ (o : Option KernelInstance). ActGives old o NotSensed new) (sym h.0) (refl, h.1)
  act_gives old new Slipped h = subst (λ (o : Option KernelInstance). ActGives old o Slipped new) (sym h.1) (inl (h.2, refl, h.3))
  act_gives old new Acted h = subst (λ (o : Option KernelInstance). ActGives old o Acted new) (sym h.1) (inr (h.2, refl, h.3))

  act_one : (old new later : Running) (remembered : Option KernelInstance) (outcome other : Outcome) → ActGives old remembered outcome new
      → ActGives old remembered other later → (outcome ≡ other) × (new ≡ later)
  act_one old new later None outcome other a b = (a.0 ∙ sym b.0, a.1 ∙ sym b.1)
  act_one old new later (Some kernel) outcome other (inl a) (inl b) = (a.1 ∙ sym b.1, a.2 ∙ sym b.2)
  act_one old new later (Some kernel) outcome other (inl a) (inr b) = absurd (a.0.3 (b.0 a.0.0 a.0.1 a.0.2))
  act_one old new later (Some kernel) outcome other (inr a) (inl b) = absurd (b.0.3 (a.0 b.0.0 b.0.1 b.0.2))
  act_one old new later (Some kernel) outcome other (inr a) (inr b) =
      let same : a.2.0 ≡ b.2.0 = some_same (sym a.2.1 ∙ b.2.1) in
      (a.1 ∙ sym b.1, a.2.2 ∙ ap (λ (inst : OpInst). forgetting old (result_of problem old.atoms inst)) same ∙ sym b.2.2)

  -- ---- any event

  pub disturb_gives : (edit : E) (old new : Running) (outcome : Outcome) → Comes old (Disturb edit) outcome new
      → (outcome ≡ Disturbed) × (new ≡ record { atoms = leaves edit old.atoms; memory = old.memory })
  disturb_gives edit old new Disturbed h = (refl, h)
  disturb_gives edit old new Acted h = absurd h
  disturb_gives edit old new Slipped h = absurd h
  disturb_gives edit old new NotSensed h = absurd h
  disturb_gives edit old new Goal h = absurd h
  disturb_gives edit old new NoKernel h = absurd h
  disturb_gives edit old new (Sensed i) h = absurd h

  pub happens_once : (event : Event E) (old new later : Running) (outcome other : Outcome) → Comes old event outcome new
      → Comes old event other later → (outcome ≡ other) × (new ≡ later)
  happens_once (Disturb edit) old new later outcome other a b =
      let one = disturb_gives edit old new outcome a in
      let two = disturb_gives edit old later other b in
      (one.0 ∙ sym two.0, one.1 ∙ sym two.1)
  happens_once Sense old new later outcome other a b =
      let one = sense_gives old new outcome a in
      let two = sense_gives old later other b in
      let same : two.0 ≡ one.0 = sensed_is_one problem table bound old.atoms two.0 one.0 two.1 one.1 in
      sense_one old new later one.0 outcome other one.2 (subst (λ (o : Option KernelInstance). SenseGives old o other later) same two.2)
  happens_once Act old new later outcome other a b =
      act_one old new later old.memory.remembered outcome other (act_gives old new outcome a) (act_gives old later other b)

  traced_once : (events : List (Event E)) (old new later : Running) (outcomes others : List Outcome)
      → Traces leaves problem table bound old events outcomes new → Traces leaves problem table bound old events others later
      → (outcomes ≡ others) × (new ≡ later)
  traced_once [] old new later [] [] a b = (refl, a ∙ sym b)
  traced_once [] old new later (o ∷ os) others a b = absurd a
  traced_once [] old new later [] (p ∷ ps) a b = absurd b
  traced_once (e ∷ es) old new later [] others a b = absurd a
  traced_once (e ∷ es) old new later (o ∷ os) [] a b = absurd b
  traced_once (e ∷ es) old new later (o ∷ os) (p ∷ ps) a b =
      let one = happens_once e old a.0 b.0 o p a.1 b.1 in
      let rest =
      traced_once es b.0 new later os ps (subst (λ (r : Running). Traces leaves problem table bound r es os new) one.1 a.2) b.2 in
      ((λ i. one.0 i ∷ rest.0 i), rest.1)

pub traces_are_one : {E : Type 0} (leaves : E → List Atom → List Atom) → TracesAreOne leaves
traces_are_one leaves problem table bound old events outcomes others new later a b =
    traced_once leaves problem table bound events old new later outcomes others a b
