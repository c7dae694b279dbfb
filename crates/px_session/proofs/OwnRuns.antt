-- The steps that a run tries are instances of the problem's operators, and what it leaves of atoms of the problem are such.
use Rattle.std.specs.Prelude.{◌≡◌, ℕ, true, false, Option, Some, None, List, [], ◌∷◌, All, Contains}
use Rattle.std.proofs.Common.{zero, suc, refl, sym, ap, ◌∙◌, subst, inl, inr, arith}
use Rattle.std.proofs.lemmas.List.Elements.{All-cons, All-map, All-nil}
use Rattle.px_base.specs.ListLaws.{All-at, All-each, Contains-cases}
use Rattle.px_base.specs.SetLaws.{with_item-members}
use Rattle.px_terms.specs.declared.atom.Atom.{Atom}
use Rattle.px_terms.specs.declared.instance.OpInst.{OpInst}
use Rattle.px_terms.specs.declared.problem.Problem.{Problem}
use Rattle.px_terms.specs.AtomSets.{with_atom}
use Rattle.px_terms.specs.OperatorLaws.{result_by-members}
use Rattle.px_terms.specs.Operators.{adds, atoms_of, result_of, schema_of}
use Rattle.px_terms.specs.Order.{atom_cmp}
use Rattle.px_terms.specs.OrderLaws.{atom_cmp-same, atom_cmp-total}
use Rattle.px_terms.specs.Validity.{IsAtomOf, IsInstanceOf, IsValid}
use Rattle.px_terms.specs.ValidityLaws.{adds-are_of}
use Rattle.px_ops.specs.ModelLaws.{without_atom-members}
use Rattle.px_proof.specs.PlaceLaws.{All-got}
use Rattle.px_table.specs.declared.table.Table.{Table}
use Rattle.px_table.specs.Kernels.{IsInstantiation, instance_under, steps_under}
use Rattle.px_table.specs.Marks.{step_at}
use Rattle.px_table.specs.Tables.{IsStepOf, IsTable}
use Rattle.px_table.specs.UnderLaws.{step_under-is_of}
use Rattle.px_world.specs.declared.edits.AtomEdit.TheVariants.{Add, Remove}
use Rattle.px_world.specs.declared.edits.RoomEdit.{RoomEdit}
use Rattle.px_world.specs.declared.edits.RoomEdit.TheVariants as room_edit
use Rattle.px_rooms.specs.Changes.{edit_schema, facts_edited}
use Rattle.px_match.specs.Matching.{KernelInstance}
use Rattle.px_planex.specs.declared.event.Event.TheVariants.{Sense, Act}
use Rattle.px_planex.specs.declared.event.Outcome.{Outcome}
use Rattle.px_planex.specs.declared.event.Outcome.TheVariants.{Disturbed, Sensed, Acted, Slipped, Goal, NoKernel, NotSensed}
use Rattle.px_planex.specs.Execution.{Happens, Memory, Running, remembered_step, step_of_kernel}
use Rattle.px_planex.specs.Executors.{IsActable}
use Rattle.px_planex.specs.Turns.{EndsTurn, Recorded, RunsTable, TakesTurn, TakesTurns, TurnValue, disturbed_by, edits_at}
use Rattle.px_session.specs.OwnStates.{AreOwnEdits, IsOwnEdit}
use Rattle.px_session.specs.Sessions.{Edit, leaves_edit, of_atoms, of_rooms}
use Rattle.px_session.proofs.Walks.{turns-keep}

-- the step, if there is one, is an instance of an operator of the problem
abbrev pub IsOwnStep : Problem → Option OpInst → Type 0
IsOwnStep problem None = Unit {0}
IsOwnStep problem (Some inst) = IsInstanceOf problem inst

-- ---- the steps

module _ (problem : Problem) (table : Table) (is_table : IsTable problem table) (bound : List (ℕ × ℕ)) where
  abbrev CanAct : Running → Type 0
  CanAct running = IsActable problem table running.memory.remembered

  steps-own : (sigma : List ℕ) → IsInstantiation problem table sigma → All (IsInstanceOf problem) (steps_under table sigma)
  steps-own sigma given =
      All-map (IsInstanceOf problem) (instance_under sigma) table.steps
      (All-each (λ (step : OpInst). IsInstanceOf problem (instance_under sigma step)) table.steps
      (λ step has. step_under-is_of problem table sigma step given
      (All-at (IsStepOf problem table.params) table.steps step is_table.in_range.steps has)))

  step-own : (steps : List OpInst) (number : ℕ) (inst : OpInst) → All (IsInstanceOf problem) steps → step_at steps number ≡ Some inst
      → IsInstanceOf problem inst
  step-own steps zero inst all at = absurd (cc)
  step-own steps (suc k) inst all at = All-got (IsInstanceOf problem) steps k inst all at

  pub kernel-own : (kernel : KernelInstance) (inst : OpInst) → IsInstantiation problem table kernel.objects
      → step_of_kernel table kernel ≡ Some inst
      → IsInstanceOf problem inst
  kernel-own kernel inst given at = step-own (steps_under table kernel.objects) kernel.number inst (steps-own kernel.objects given) at

  maybe-own : (kernel : KernelInstance) → IsInstantiation problem table kernel.objects → (step : Option OpInst)
      → step_of_kernel table kernel ≡ step
      → IsOwnStep problem step
  maybe-own kernel given None at = tt
  maybe-own kernel given (Some inst) at = kernel-own kernel inst given at

  pub remembered-own : (remembered : Option KernelInstance) (instance : List ℕ) → IsActable problem table remembered
      → IsOwnStep problem (remembered_step table (record { remembered = remembered; instance = instance }))
  remembered-own None instance can = tt
  remembered-own (Some kernel) instance can = maybe-own kernel can.2 (step_of_kernel table kernel) refl

  -- what is sensed can be acted by
  pub sense-can : (outcome : Outcome) (old new : Running) → Happens leaves_edit problem table bound old Sense outcome new → CanAct new
  sense-can NoKernel old new is = subst CanAct (sym is.1) tt
  sense-can Goal old new is = subst CanAct (sym is.3) tt
  sense-can (Sensed i) old new is = subst CanAct (sym is.4) (is.1.fits.from_one, omega (arith, is.2, is.3), is.1.fits.instantiation)
  sense-can Disturbed old new is = absurd is
  sense-can NotSensed old new is = absurd is
  sense-can Slipped old new is = absurd is
  sense-can Acted old new is = absurd is

  told-own : (step : Option OpInst) (turn : TurnValue) → turn.op ≡ step → IsOwnStep problem step → IsOwnStep problem turn.op
  told-own step turn same own = subst (IsOwnStep problem) (sym same) own

  ends-step : (between : List Edit) (sensed : Running) (outcome : Outcome) (turn : TurnValue) (new : Running)
      → EndsTurn leaves_edit problem table bound between sensed outcome turn new → CanAct sensed → IsOwnStep problem turn.op
  ends-step between sensed NoKernel turn new is can = told-own None turn (ap (λ (t : TurnValue). t.op) is.0) tt
  ends-step between sensed Goal turn new is can = told-own None turn (ap (λ (t : TurnValue). t.op) is.0) tt
  ends-step between sensed (Sensed i) turn new (inl (told, acts)) can =
      told-own (remembered_step table sensed.memory) turn (ap (λ (t : TurnValue). t.op) told)
      (remembered-own sensed.memory.remembered sensed.memory.instance can)
  ends-step between sensed (Sensed i) turn new (inr (told, slips)) can =
      told-own (remembered_step table sensed.memory) turn (ap (λ (t : TurnValue). t.op) told)
      (remembered-own sensed.memory.remembered sensed.memory.instance can)
  ends-step between sensed Disturbed turn new is can = absurd is
  ends-step between sensed NotSensed turn new is can = absurd is
  ends-step between sensed Slipped turn new is can = absurd is
  ends-step between sensed Acted turn new is can = absurd is

  abbrev HasOwnStep : TurnValue → Type 0
  HasOwnStep turn = IsOwnStep problem turn.op

  turn-step : (before between : List Edit) (old : Running) (turn : TurnValue) (new : Running)
      → TakesTurn leaves_edit problem table bound before between old turn new → HasOwnStep turn
  turn-step before between old turn new (outcome, (sensed, senses, ends)) =
      ends-step between sensed outcome turn new ends (sense-can outcome (disturbed_by leaves_edit before old) sensed senses)

  pub turns-steps : (recorded : List (Recorded Edit)) (number : ℕ) (old : Running) (turns : List TurnValue) (new : Running)
      → TakesTurns leaves_edit problem table bound recorded number old turns new → All HasOwnStep turns
  turns-steps recorded number old [] new is = absurd is
  turns-steps recorded number old (turn ∷ turns) new (mid, takes, inl (last, none, same)) =
      All-cons HasOwnStep turn turns (turn-step (edits_at recorded number false) (edits_at recorded number true) old turn mid takes)
      (subst (All HasOwnStep) (sym none) (All-nil HasOwnStep))
  turns-steps recorded number old (turn ∷ turns) new (mid, takes, inr (goes_on, later)) =
      All-cons HasOwnStep turn turns (turn-step (edits_at recorded number false) (edits_at recorded number true) old turn mid takes)
      (turns-steps recorded (suc number) mid turns new later)

  pub run-steps : (recorded : List (Recorded Edit)) (atoms : List Atom) (turns : List TurnValue) (after : List Atom)
      → RunsTable leaves_edit problem table bound recorded atoms turns after → All (λ turn. IsOwnStep problem turn.op) turns
  run-steps recorded atoms turns after (memory, takes) = turns-steps recorded 1 _ turns _ takes

-- ---- the atoms

module _ (problem : Problem) where
  abbrev pub AreOwn : List Atom → Type 0
  AreOwn atoms = All (IsAtomOf problem 0) atoms

  -- what an edit of rooms adds has no variable
  adds-plain : (one : RoomEdit) → atoms_of (edit_schema one).add (record { op = 0; args = [] }) ≡ (edit_schema one).add
  adds-plain (room_edit.Robot r) = refl
  adds-plain (room_edit.Box b r) = refl
  adds-plain (room_edit.Door d true) = refl
  adds-plain (room_edit.Door d false) = refl

  edit-own : (edit : Edit) (atoms : List Atom) → IsOwnEdit problem edit → AreOwn atoms → AreOwn (leaves_edit edit atoms)
  edit-own (of_atoms (Add atom)) atoms of own =
      All-each (IsAtomOf problem 0) (with_atom atom atoms) (λ q has.
      elim (Contains-cases atom atoms q ((with_item-members atom_cmp atom_cmp-total atom_cmp-same atom atoms q).0 has)) [
        | inl same ↦ subst (IsAtomOf problem 0) same of
        | inr later ↦ All-at (IsAtomOf problem 0) atoms q own later
      ])
  edit-own (of_atoms (Remove atom)) atoms of own =
      All-each (IsAtomOf problem 0) (leaves_edit (of_atoms (Remove atom)) atoms)
      (λ q has. All-at (IsAtomOf problem 0) atoms q own ((without_atom-members atom atoms q).0 has).0)
  edit-own (of_rooms one) atoms of own =
      All-each (IsAtomOf problem 0) (facts_edited one atoms) (λ q has.
      elim ((result_by-members (edit_schema one) atoms (record { op = 0; args = [] }) q).0 has) [
        | inl stays ↦ All-at (IsAtomOf problem 0) atoms q own stays.0
        | inr added ↦ All-at (IsAtomOf problem 0) (edit_schema one).add q of
            (subst (λ (l : List Atom). Contains l q) (adds-plain one) added)
      ])

  module _ (valid : IsValid problem) where
    pub result-own : (atoms : List Atom) (inst : OpInst) → IsInstanceOf problem inst → AreOwn atoms → AreOwn (result_of problem atoms inst)
    result-own atoms inst is own =
        All-each (IsAtomOf problem 0) (result_of problem atoms inst) (λ q has.
        elim ((result_by-members (schema_of problem inst) atoms inst q).0 has) [
          | inl stays ↦ All-at (IsAtomOf problem 0) atoms q own stays.0
          | inr added ↦ All-at (IsAtomOf problem 0) (adds problem inst) q (adds-are_of problem inst valid is) added
        ])

    module _ (table : Table) (is_table : IsTable problem table) (bound : List (ℕ × ℕ)) where
      acts-own : (outcome : Outcome) (old sensed before new : Running) → Happens leaves_edit problem table bound old Sense outcome sensed
          → before.memory ≡ sensed.memory → Happens leaves_edit problem table bound before Act Acted new → AreOwn before.atoms
          → AreOwn new.atoms
      acts-own outcome old sensed before new senses same (kernel, remembered, holds, (inst, at, left)) own =
          let can = sense-can problem table is_table bound outcome old sensed senses in
          let able : IsActable problem table (Some kernel) =
          subst (IsActable problem table) (ap (λ (m : Memory). m.remembered) (sym same) ∙ remembered) can in
          subst (λ (r : Running). AreOwn r.atoms) (sym left)
          (result-own before.atoms inst (kernel-own problem table is_table bound kernel inst able.2 at) own)

      -- turns from any number on
      pub turns-own : (recorded : List (Recorded Edit)) (number : ℕ) (old : Running) (turns : List TurnValue) (new : Running)
          → AreOwnEdits problem recorded
          → TakesTurns leaves_edit problem table bound recorded number old turns new → AreOwn old.atoms → AreOwn new.atoms
      turns-own recorded number old turns new edits takes own =
          turns-keep leaves_edit problem table bound AreOwn (IsOwnEdit problem) edit-own acts-own recorded number old turns new edits takes own

      pub run-own : (recorded : List (Recorded Edit)) (atoms : List Atom) (turns : List TurnValue) (after : List Atom)
          → AreOwnEdits problem recorded
          → RunsTable leaves_edit problem table bound recorded atoms turns after → AreOwn atoms → AreOwn after
      run-own recorded atoms turns after edits (memory, takes) own = turns-own recorded 1 _ turns _ edits takes own
