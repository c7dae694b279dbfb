-- Turns by the atoms alone: what a sensing finds in them, and what the action leaves of them.
use Rattle.std.specs.Prelude.{◌≡◌, ◌⊎◌, ℕ, true, false, ◌+◌, Some, None, Option, List, [], ◌∷◌, length}
use Rattle.std.proofs.Common.{suc, sym, ap, ◌∙◌, subst, inl, inr}
use Rattle.px_terms.specs.declared.atom.Atom.{Atom}
use Rattle.px_terms.specs.declared.instance.OpInst.{OpInst}
use Rattle.px_terms.specs.declared.problem.Problem.{Problem}
use Rattle.px_terms.specs.Operators.{result_of}
use Rattle.px_base.specs.Answers.{some_same}
use Rattle.px_table.specs.declared.table.Table.{Table}
use Rattle.px_match.specs.Matching.{IsSensed, KernelInstance}
use Rattle.px_planex.specs.declared.event.Event.TheVariants.{Sense}
use Rattle.px_planex.specs.declared.event.Outcome.{Outcome}
use Rattle.px_planex.specs.declared.event.Outcome.TheVariants.{Disturbed, Sensed, Acted, Slipped, Goal, NoKernel, NotSensed}
use Rattle.px_planex.specs.Execution.{Happens, RowFails, Running, sensing, step_of_kernel}
use Rattle.px_planex.specs.Turns.{AtGoal, AtNoKernel, EndsTurn, IsLastTurn, Recorded, TakesTurns, TurnValue, after_edits, disturbed_by, edits_at}

-- the turn that senses this in the first atoms, acts in the second, and leaves the last
abbrev pub TurnInAtoms : Problem → Table → Option KernelInstance → List Atom → List Atom → TurnValue → List Atom → Type 0
TurnInAtoms problem table None sensed acted turn after = (turn.end ≡ AtNoKernel) × (after ≡ sensed)
TurnInAtoms problem table (Some kernel) sensed acted turn after =
    ((kernel.number ≡ length table.steps + 1) × (turn.end ≡ AtGoal) × (after ≡ sensed))
    ⊎ (RowFails table kernel acted ⊎ ((inst : OpInst) × (step_of_kernel table kernel ≡ Some inst) × (after ≡ result_of problem acted inst)))

-- the turns from that number on, up to the first that ends the run, and the atoms after them
abbrev pub RunInAtoms : {E : Type 0} → (E → List Atom → List Atom) → Problem → Table → List (ℕ × ℕ) → List (Recorded E) → ℕ → List Atom
    → List TurnValue → List Atom → Type 0
RunInAtoms leaves problem table bound recorded number atoms [] after = ⊥
RunInAtoms leaves problem table bound recorded number atoms (turn ∷ turns) after =
    let sensed = after_edits leaves (edits_at recorded number false) atoms in
    (answer : Option KernelInstance) × IsSensed problem table bound sensed answer
    × ((mid : List Atom) × TurnInAtoms problem table answer sensed (after_edits leaves (edits_at recorded number true) sensed) turn mid
    × ((IsLastTurn turn.end × (turns ≡ []) × (after ≡ mid))
    ⊎ ((¬ IsLastTurn turn.end) × RunInAtoms leaves problem table bound recorded (suc number) mid turns after)))

module _ {E : Type 0} (leaves : E → List Atom → List Atom) (problem : Problem) (table : Table) (bound : List (ℕ × ℕ)) where
  abbrev InAtoms : List E → List E → List Atom → TurnValue → List Atom → Type 0
  InAtoms before between atoms turn after =
      let sensed = after_edits leaves before atoms in
      (answer : Option KernelInstance) × IsSensed problem table bound sensed answer
      × TurnInAtoms problem table answer sensed (after_edits leaves between sensed) turn after

  -- after a kernel was sensed and the world was disturbed, the action is that kernel's
  acts_in_atoms : (between : List E) (before : Running) (kernel : KernelInstance) (turn : TurnValue) (new : Running)
      → EndsTurn leaves problem table bound between (sensing before (Some kernel) kernel) (Sensed kernel.number) turn new
      → TurnInAtoms problem table (Some kernel) before.atoms (after_edits leaves between before.atoms) turn new.atoms
  acts_in_atoms between before kernel turn new (inl (turn_is, acts)) =
      let same : acts.0 ≡ kernel = some_same (sym acts.1) in
      inr (inr (
        acts.3.0,
        subst (λ (k : KernelInstance). step_of_kernel table k ≡ Some acts.3.0) same acts.3.1,
        ap (λ (r : Running). r.atoms) acts.3.2,
      ))
  acts_in_atoms between before kernel turn new (inr (turn_is, acts)) =
      let same : acts.0 ≡ kernel = some_same (sym acts.1) in
      inr (inl (subst (λ (k : KernelInstance). RowFails table k (after_edits leaves between before.atoms)) same acts.2))

  pub turn_in_atoms : (before between : List E) (old sensed new : Running) (turn : TurnValue) (outcome : Outcome)
      → Happens leaves problem table bound (disturbed_by leaves before old) Sense outcome sensed
      → EndsTurn leaves problem table bound between sensed outcome turn new → InAtoms before between old.atoms turn new.atoms
  turn_in_atoms before between old sensed new turn Disturbed sense ends = absurd ends
  turn_in_atoms before between old sensed new turn Acted sense ends = absurd ends
  turn_in_atoms before between old sensed new turn Slipped sense ends = absurd ends
  turn_in_atoms before between old sensed new turn NotSensed sense ends = absurd ends
  turn_in_atoms before between old sensed new turn NoKernel sense ends =
      (None, sense.0, (ap (λ (t : TurnValue). t.end) ends.0, ap (λ (r : Running). r.atoms) (ends.1 ∙ sense.1)))
  turn_in_atoms before between old sensed new turn Goal sense ends =
      (Some sense.0, sense.1, inl (sense.2, ap (λ (t : TurnValue). t.end) ends.0, ap (λ (r : Running). r.atoms) (ends.1 ∙ sense.3)))
  turn_in_atoms before between old sensed new turn (Sensed i) sense ends = (
    Some sense.0,
    sense.1,
    acts_in_atoms between (disturbed_by leaves before old) sense.0 turn new
        (subst (λ (r : Running). EndsTurn leaves problem table bound between r (Sensed sense.0.number) turn new) sense.4
        (subst (λ (n : ℕ). EndsTurn leaves problem table bound between sensed (Sensed n) turn new) (sym sense.2) ends)),
  )

  pub run_in_atoms : (recorded : List (Recorded E)) (turns : List TurnValue) (number : ℕ) (old new : Running)
      → TakesTurns leaves problem table bound recorded number old turns new
      → RunInAtoms leaves problem table bound recorded number old.atoms turns new.atoms
  run_in_atoms recorded [] number old new run = absurd run
  run_in_atoms recorded (turn ∷ turns) number old new (mid, (outcome, (sensed, sense, ends)), goes) =
      let taken = turn_in_atoms (edits_at recorded number false) (edits_at recorded number true) old sensed mid turn outcome sense ends in
      (taken.0, taken.1, (mid.atoms, taken.2, after goes (λ more. run_in_atoms recorded turns (suc number) mid new more)))
    where
      after : ((IsLastTurn turn.end × (turns ≡ []) × (new ≡ mid))
          ⊎ ((¬ IsLastTurn turn.end) × TakesTurns leaves problem table bound recorded (suc number) mid turns new))
          → (TakesTurns leaves problem table bound recorded (suc number) mid turns new
          → RunInAtoms leaves problem table bound recorded (suc number) mid.atoms turns new.atoms)
          → ((IsLastTurn turn.end × (turns ≡ []) × (new.atoms ≡ mid.atoms))
          ⊎ ((¬ IsLastTurn turn.end) × RunInAtoms leaves problem table bound recorded (suc number) mid.atoms turns new.atoms))
      after (inl (last, empty, same)) rest = inl (last, empty, ap (λ (r : Running). r.atoms) same)
      after (inr (not_last, more)) rest = inr (not_last, rest more)
