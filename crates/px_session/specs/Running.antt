-- Two executors in a session's world: how many places they may take.
use Rattle.std.specs.Prelude.{◌≤◌, ◌+◌, ℕ, length}
use Rattle.px_world.specs.Worlds.{HaveSameRules}
use Rattle.px_duo.specs.DuoValue.{DuoValue}
use Rattle.px_turns.specs.Turning.{HasTaken}
use Rattle.px_session.specs.declared.run_world.RunWorld.{RunWorld}
use Rattle.px_session.specs.RunWorlds.{RunWorldTakes, run_world_atoms, run_world_rules, run_world_spare}

-- The world has the executors' rules, and at least this many places. With this many more atoms there is room for its atoms.
pub record HasDuoPlaces (duo : DuoValue) (places : ℕ) (world : RunWorld) : Type 0 where
  pub rules : HaveSameRules (run_world_rules world) duo.problem
  pub spare : places ≤ run_world_spare world
  pub room : length (run_world_atoms world) + places ≤ duo.room

-- what was done in the world took at most this many places
abbrev pub TookPlaces : ℕ → RunWorld → RunWorld → Type 0
TookPlaces places old new = HasTaken run_world_rules run_world_atoms run_world_spare RunWorldTakes places old new
