-- What actions and edits change in a state is what operators and edits say of its facts.
use Rattle.std.specs.Prelude.{◌≡◌, ◌↔◌, ◌≤◌, ◌+◌, ◌*◌, [], ◌∷◌, length, All, Contains}
use Rattle.px_terms.specs.declared.atom.Atom.{Atom}
use Rattle.px_terms.specs.declared.instance.OpInst.{OpInst}
use Rattle.px_terms.specs.Instances.{IsGround}
use Rattle.px_terms.specs.Operators.{precondition, result_of}
use Rattle.px_terms.specs.Plans.{IsRun}
use Rattle.px_terms.specs.States.{AxiomsHold, Holds, IsState, State}
use Rattle.px_terms.specs.Validity.{IsAtomOf, IsInstanceOf}
use Rattle.px_world.specs.declared.edits.RoomEdit.{RoomEdit}
use Rattle.px_world.specs.Worlds.{IsActionRefused}
use Rattle.px_rooms.specs.declared.action.RoomAction.{RoomAction}
use Rattle.px_rooms.specs.Changes.{IsAdmitted, acted, facts_edited, instance_of_action, state_edited}
use Rattle.px_rooms.specs.States.{IsRoomState, RoomState, building_rules, rendering}

-- each atom of the precondition is a fact
abbrev pub IsMet : RoomState → OpInst → Type 0
IsMet state inst = All (Contains (rendering state)) (precondition (building_rules state) inst)

-- an action whose precondition is met leaves a state of the building, whose facts are the operator's result
abbrev pub ActionsAreResults : Type 0
ActionsAreResults = (state : RoomState) (one : RoomAction) → IsRoomState state → IsMet state (instance_of_action one)
    → IsRoomState (acted one state) × (rendering (acted one state)
    ≡ result_of (building_rules state) (rendering state) (instance_of_action one))

-- in the interpretation the axiom holds, and of the building's atoms exactly the facts are true
pub record IsInterpretationOf (state : RoomState) (interpretation : State) : Type 0 where
  pub is_state : IsState interpretation
  pub axioms : AxiomsHold (building_rules state) interpretation
  pub facts : (atom : Atom) → IsAtomOf (building_rules state) 0 atom → Holds interpretation atom ↔ Contains (rendering state) atom

-- each state of a building has an interpretation. An action whose precondition is met makes a run of one step from each interpretation of
-- the state to each of the state that it leaves
pub record ActionsAreRuns : Type 0 where
  pub interpreted : (state : RoomState) → IsRoomState state → (interpretation : State) × IsInterpretationOf state interpretation
  pub each : (state : RoomState) (one : RoomAction) (before after : State) → IsRoomState state
      → IsInstanceOf (building_rules state) (instance_of_action one) → IsMet state (instance_of_action one)
      → IsInterpretationOf state before → IsInterpretationOf (acted one state) after
      → IsRun (building_rules state) (before ∷ after ∷ []) (instance_of_action one ∷ [])

-- each instance of an operator over the building's objects is that of one action
pub record InstancesAreActions : Type 0 where
  pub each : (state : RoomState) (inst : OpInst) → IsInstanceOf (building_rules state) inst → (action : RoomAction)
      × (inst ≡ instance_of_action action)
  pub once : (one other : RoomAction) → instance_of_action one ≡ instance_of_action other → one ≡ other

-- an edit that is admitted leaves a state of the building, whose facts are those that the edit leaves
abbrev pub EditsAreEdits : Type 0
EditsAreEdits = (state : RoomState) (one : RoomEdit) → IsRoomState state → IsAdmitted state one
    → IsRoomState (state_edited one state) × (rendering (state_edited one state) ≡ facts_edited one (rendering state))

-- where an atom of the precondition isn't a fact, a world may refuse the action: the axiom and the facts don't make it true
abbrev pub RefusalsAreAllowed : Type 0
RefusalsAreAllowed = (state : RoomState) (inst : OpInst) (atom : Atom) → IsRoomState state → IsInstanceOf (building_rules state) inst
    → Contains (precondition (building_rules state) inst) atom
    → ¬ Contains (rendering state) atom → IsActionRefused (building_rules state) (rendering state) inst

-- each fact is ground, and there are at most four for each thing and two more
abbrev pub FactsAreFew : Type 0
FactsAreFew = (state : RoomState) → IsRoomState state → All IsGround (rendering state)
    × (length (rendering state) ≤ 4 * length state.things + 2)
