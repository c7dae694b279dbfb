-- An action whose precondition is met makes a run, from each interpretation of the state to each of the state that it leaves.
use Rattle.std.specs.Prelude.{◌≡◌, Contains}
use Rattle.std.proofs.Common.{refl, sym, subst}
use Rattle.px_base.specs.ListLaws.{All-at, All-each}
use Rattle.px_terms.specs.declared.atom.Atom.{Atom}
use Rattle.px_terms.specs.declared.instance.OpInst.{OpInst}
use Rattle.px_terms.specs.declared.problem.Problem.{Problem}
use Rattle.px_terms.specs.Operators.{adds, result_of}
use Rattle.px_terms.specs.States.{Described, Holds, State}
use Rattle.px_terms.specs.Validity.{IsAtomOf, IsInstanceOf}
use Rattle.px_terms.specs.ValidityLaws.{atom_of-is_ground}
use Rattle.px_rooms.specs.Changes.{acted, instance_of_action}
use Rattle.px_rooms.specs.Following.{ActionsAreRuns, IsInterpretationOf}
use Rattle.px_rooms.specs.States.{RoomState, building_rules, rendering}
use Rattle.px_rooms.proofs.Actions.{action-leaves, left-rules}
use Rattle.px_rooms.proofs.Instanced.{added-belongs, comes, stays}
use Rattle.px_rooms.proofs.Interpreting.{interpreted}

-- the instance may leave each interpretation of a state of the same building whose facts are its result
described : (old new : RoomState) (inst : OpInst) (before after : State) → IsInstanceOf (building_rules old) inst
    → building_rules new ≡ building_rules old → rendering new ≡ result_of (building_rules old) (rendering old) inst
    → IsInterpretationOf old before → IsInterpretationOf new after → Described (building_rules old) inst before after
described old new inst before after is same facts first last = record {
  kept = λ _ atom of_rules holds undeleted.
      let is_ground = atom_of-is_ground (building_rules old) atom of_rules in
      holds_later atom of_rules (stays old inst is atom is_ground ((first.facts atom of_rules).0 holds) undeleted);
  added = λ _. All-each (Holds after) (adds (building_rules old) inst) (λ atom has.
      let of_rules = All-at (IsAtomOf (building_rules old) 0) (adds (building_rules old) inst) atom (added-belongs old inst is) has in
      holds_later atom of_rules (comes old inst is atom has));
} where
  holds_later : (atom : Atom) → IsAtomOf (building_rules old) 0 atom → Contains (result_of (building_rules old) (rendering old) inst) atom
      → Holds after atom
  holds_later atom of_rules has = (last.facts atom (subst (λ (p : Problem). IsAtomOf p 0 atom) (sym same) of_rules)).1
      (subst (λ atoms. Contains atoms atom) (sym facts) has)

pub actions-are-runs : ActionsAreRuns
actions-are-runs = record {
  interpreted = interpreted;
  each = λ state one before after is of_rules met first last.
      let leaves = action-leaves state is one met in
      let same = left-rules state (acted one state) (acted one state) refl leaves.left in (
        (first.is_state, first.axioms),
        described state (acted one state) (instance_of_action one) before after of_rules same leaves.facts first last,
        (last.is_state, last.axioms),
      );
}
