-- The world of a session's run: the session's atoms, or its building.
use Rattle.std.specs.Prelude.{◌≡◌, ℕ, Option, Some, None, List}
use Rattle.px_base.specs.Bounds.{u64_max}
use Rattle.px_terms.specs.declared.atom.Atom.{Atom}
use Rattle.px_terms.specs.declared.problem.Problem.{Problem}
use Rattle.px_world.specs.Worlds.{HaveSameRules, IsGroundEdit}
use Rattle.px_rooms.specs.Changes.{IsAdmitted}
use Rattle.px_rooms.specs.States.{RoomState, building_rules, rendering}
use Rattle.px_planex.specs.Turns.{Recorded}
use Rattle.px_turns.specs.Told.{AdmitSame, AdmitsAll}
use Rattle.px_session.specs.declared.run_world.RunWorld.{RunWorld}
use Rattle.px_session.specs.declared.run_world.RunWorld.TheVariants.{Atoms, Rooms}
use Rattle.px_session.specs.Sessions.{Edit, SessionState, of_atoms, of_rooms}

-- ---- edits

-- the edits that a session's world takes: those of ground atoms, or those that its building admits
abbrev pub Takes : Option RoomState → Edit → Type 0
Takes None (of_atoms one) = IsGroundEdit one
Takes None (of_rooms one) = ⊥
Takes (Some building) (of_atoms one) = ⊥
Takes (Some building) (of_rooms one) = IsAdmitted building one

-- it takes all that are recorded
abbrev pub TakesAll : Option RoomState → List (Recorded Edit) → Type 0
TakesAll building recorded = AdmitsAll (Takes building) recorded

-- both take the same edits
abbrev pub TakeSame : Option RoomState → Option RoomState → Type 0
TakeSame old new = AdmitSame (Takes old) (Takes new)

-- ---- the world of a run

-- what holds in it
abbrev pub run_world_atoms : RunWorld → List Atom
run_world_atoms (Atoms world) = world.atoms
run_world_atoms (Rooms building) = rendering building

-- the problem whose operators act in it
abbrev pub run_world_rules : RunWorld → Problem
run_world_rules (Atoms world) = world.rules
run_world_rules (Rooms building) = building_rules building

-- how many further atoms it has room for
abbrev pub run_world_spare : RunWorld → ℕ
run_world_spare (Atoms world) = world.spare
run_world_spare (Rooms building) = u64_max

-- its building, if it is one
abbrev pub building_of : RunWorld → Option RoomState
building_of (Atoms world) = None
building_of (Rooms building) = Some building

-- it takes the edit
abbrev pub RunWorldTakes : RunWorld → Edit → Type 0
RunWorldTakes place edit = Takes (building_of place) edit

-- ---- a session's building

-- with a building the atoms are its facts, and the problem has its rules
abbrev pub IsWorldInBuilding : Problem → List Atom → Option RoomState → Type 0
IsWorldInBuilding problem atoms None = Unit {0}
IsWorldInBuilding problem atoms (Some building) = (atoms ≡ rendering building) × HaveSameRules (building_rules building) problem

-- with a building the state's atoms are its facts, and the problem has its rules; and all edits that are recorded are taken
pub record IsPlaced (problem : Problem) (building : Option RoomState) (state : SessionState) : Type 0 where
  pub place : IsWorldInBuilding problem state.atoms building
  pub edits : TakesAll building state.recorded
