-- The facts carry to the goal the steps whose preconditions are in the successive models.
use Rattle.std.specs.Prelude.{◌≡◌, List, [], ◌∷◌, length, All, Contains, slice_index_or}
use Rattle.std.proofs.Common.{refl, inl, inr, arith}
use Rattle.std.proofs.lemmas.List.Elements.{All-head, All-tail}
use Rattle.px_base.specs.ListLaws.{All-at}
use Rattle.px_terms.specs.declared.atom.Atom.{Atom}
use Rattle.px_terms.specs.declared.instance.OpInst.{OpInst}
use Rattle.px_terms.specs.declared.problem.Problem.{Problem}
use Rattle.px_terms.specs.OperatorLaws.{result_by-members}
use Rattle.px_terms.specs.Operators.{precondition, adds, result_of, schema_of}
use Rattle.px_terms.specs.Plans.{IsRun, MeetsEach, Carries, GoalHolds, Achieves, FactsHold, last_of}
use Rattle.px_terms.specs.States.{State, Holds, Described}
use Rattle.px_terms.specs.Validity.{IsAtomOf, IsValid, IsInstanceOf}
use Rattle.px_terms.specs.ValidityLaws.{atom_of-is_ground, deletes-false, instance-is_ground, precondition-is_of}

-- atoms of the problem that are among the facts hold where the facts do
hold_all : (problem : Problem) (facts atoms : List Atom) (state : State) → FactsHold problem facts state → All (IsAtomOf problem 0) atoms
    → All (Contains facts) atoms → All (Holds state) atoms
hold_all problem facts atoms state hold are there = λ k d below. hold (slice_index_or atoms k d) (are k d below) (there k d below)

-- where the facts hold, what a met step leaves of them holds in each state that it may leave
pub result_holds : (problem : Problem) (facts : List Atom) (step : OpInst) (state next : State) → IsValid problem
    → IsInstanceOf problem step → Described problem step state next
    → FactsHold problem facts state → All (Holds state) (precondition problem step) → FactsHold problem (result_of problem facts step) next
result_holds problem facts step state next valid is described hold met atom of there =
    elim ((result_by-members (schema_of problem step) facts step atom).0 there) [
      | inl kept ↦ described.kept met atom of (hold atom of kept.0)
          (deletes-false problem step atom valid (instance-is_ground problem step is) (atom_of-is_ground problem atom of) kept.1)
      | inr added ↦ All-at (Holds next) (adds problem step) atom (described.added met) added
    ]

carried : (problem : Problem) (facts : List Atom) (steps : List OpInst) (goal : List Atom) → IsValid problem
    → All (IsInstanceOf problem) steps → All (IsAtomOf problem 0) goal
    → Achieves problem facts steps goal → (state : State) (later : List State) → IsRun problem (state ∷ later) steps
    → FactsHold problem facts state
    → MeetsEach problem (state ∷ later) steps × (length later ≡ length steps → GoalHolds (last_of state later) 0 goal)
carried problem facts [] goal valid are of achieves state [] run hold =
    (tt, λ _. ([], (refl, λ k d below. absurd (omega (arith, below))), hold_all problem facts goal state hold of achieves))
carried problem facts [] goal valid are of achieves state (next ∷ later) run hold = absurd run
carried problem facts (step ∷ steps) goal valid are of achieves state [] run hold =
    let is = All-head (IsInstanceOf problem) step steps are in (
      (hold_all problem facts (precondition problem step) state hold (precondition-is_of problem step valid is) achieves.0, tt),
      λ same. absurd (omega (arith, same)),
    )
carried problem facts (step ∷ steps) goal valid are of achieves state (next ∷ later) run hold =
    let is = All-head (IsInstanceOf problem) step steps are in
    let met = hold_all problem facts (precondition problem step) state hold (precondition-is_of problem step valid is) achieves.0 in
    let rest = carried problem (result_of problem facts step) steps goal valid (All-tail (IsInstanceOf problem) step steps are) of
    achieves.1 next later run.2
    (result_holds problem facts step state next valid is run.1 hold met) in
    ((met, rest.0), λ same. rest.1 (omega (arith, same)))

-- by induction over the steps, along each run
pub achieves_carries : (problem : Problem) (facts : List Atom) (steps : List OpInst) (goal : List Atom) → IsValid problem
    → All (IsInstanceOf problem) steps
    → All (IsAtomOf problem 0) goal → Achieves problem facts steps goal → Carries problem facts steps 0 goal
achieves_carries problem facts steps goal valid are of achieves =
    record {
      meets = λ state later run holds. (carried problem facts steps goal valid are of achieves state later run
          (λ atom _ there. All-at (Holds state) facts atom holds there)).0;
      ends = λ state later run holds. (carried problem facts steps goal valid are of achieves state later run
          (λ atom _ there. All-at (Holds state) facts atom holds there)).1;
    }
