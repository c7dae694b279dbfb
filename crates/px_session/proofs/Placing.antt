-- Which edits a session's world takes, and that its atoms are its building's facts.
use Rattle.std.specs.Prelude.{◌≡◌, ℕ, Bool, Option, Result, Ok, Err, IfOk, OnOk, List, [], All}
use Rattle.std.proofs.Common.{refl, sym, subst}
use Rattle.std.proofs.lemmas.List.Elements.{All-nil, All-push}
use Rattle.px_terms.specs.declared.atom.Atom.{Atom}
use Rattle.px_terms.specs.declared.problem.Problem.{Problem}
use Rattle.px_world.specs.Worlds.{HaveSameRules}
use Rattle.px_rooms.specs.States.{RoomState}
use Rattle.px_planex.specs.Turns.{Recorded}
use Rattle.px_printer.specs.declared.reply.Reply.{Reply}
use Rattle.px_printer.specs.declared.reply.Reply.TheVariants as reply
use Rattle.px_script.specs.declared.command.Command.{Command}
use Rattle.px_script.specs.declared.command.Command.TheVariants as command
use Rattle.px_session.specs.declared.run_world.RunWorld.{RunWorld}
use Rattle.px_session.specs.declared.run_world.RunWorld.TheVariants.{Atoms, Rooms}
use Rattle.px_session.specs.Lawful.{Lawful, Notes, recorded_for}
use Rattle.px_session.specs.OwnStates.{edits_given}
use Rattle.px_session.specs.RunWorlds.{IsWorldInBuilding, IsPlaced, TakeSame, Takes, TakesAll, building_of, run_world_atoms, run_world_rules}
use Rattle.px_session.specs.RoomRuns.{HasTakenEdits}
use Rattle.px_session.specs.Sessions.{Edit, SessionState}
use Rattle.px_turns.proofs.Admitting.{admit-both, admit-same, admitted-later, all-later}
use Rattle.px_session.proofs.Replied.{replied}

-- ---- the same edits

pub same_taken : (building : Option RoomState) → TakeSame building building
same_taken building = admit-same (Takes building)

pub same-both : (old mid new : Option RoomState) → TakeSame old mid → TakeSame mid new → TakeSame old new
same-both old mid new first second = admit-both (Takes old) (Takes mid) (Takes new) first second

pub takes-later : (old new : Option RoomState) (edits : List Edit) → TakeSame old new → All (Takes old) edits → All (Takes new) edits
takes-later old new edits same all = admitted-later (Takes old) (Takes new) edits same all

pub takes-all-later : (old new : Option RoomState) (recorded : List (Recorded Edit)) → TakeSame old new → TakesAll old recorded
    → TakesAll new recorded
takes-all-later old new recorded same all = all-later (Takes old) (Takes new) recorded same all

-- ---- the building

-- a world with the rules of the problem is in its building
pub place-left : (problem : Problem) (place : RunWorld) → HaveSameRules (run_world_rules place) problem
    → IsWorldInBuilding problem (run_world_atoms place) (building_of place)
place-left problem (Atoms world) same = tt
place-left problem (Rooms building) same = (refl, same)

-- ---- after each command that runs no table

-- the command runs nothing
abbrev pub RunsNothing : Command → Type 0
RunsNothing (command.Run name bound) = ⊥
RunsNothing (command.Duo first second numbers) = ⊥
RunsNothing (command.Pursue name goal variable_count) = ⊥
RunsNothing _ = Unit {0}

pub placed-later : (problem : Problem) (building : Option RoomState) (old : SessionState) → IsPlaced problem building old
    → (given : Command)
    → RunsNothing given → HasTakenEdits building given → (answer : Reply) (new : SessionState) → Lawful problem old given answer new
    → IsPlaced problem building new
placed-later problem building old placed given no_run taken answer new is =
    replied problem old given (IsPlaced problem building) placed
    (λ name goal variable_count count steps new by is. record { place = placed.place; edits = placed.edits })
    (λ name source params steps new by is. subst (IsPlaced problem building) (sym is.learned)
    (record { place = placed.place; edits = placed.edits }))
    (λ name source prefix wanted params steps new by is. subst (IsPlaced problem building) (sym is.learned)
    (record { place = placed.place; edits = placed.edits }))
    (λ turn between. record {
      place = placed.place;
      edits = All-push (λ (r : Recorded Edit). All (Takes building) r.edits) old.recorded
          (recorded_for turn between (edits_given given)) placed.edits taken;
    })
    (λ name bound told new by is. absurd (subst RunsNothing by no_run))
    (λ first second numbers lines new by is. absurd (subst RunsNothing by no_run))
    (λ name goal variable_count searches told end new by is. absurd (subst RunsNothing by no_run))
    answer new is

-- what is noted is placed, where its edits are taken
pub placed-note : {E : Type 0} (problem : Problem) (building : Option RoomState) (old new : SessionState) (turn : ℕ) (between : Bool)
    (edits : List Edit) (answer : Result Reply E) → IsPlaced problem building old → All (Takes building) edits
    → IfOk answer (λ told. Notes old (recorded_for turn between edits) told new) → OnOk answer (IsPlaced problem building new)
placed-note problem building old new turn between edits (Ok (reply.Noted count)) placed taken told =
    subst (IsPlaced problem building) (sym told.1)
    (record {
      place = placed.place;
      edits = All-push (λ (r : Recorded Edit). All (Takes building) r.edits) old.recorded (recorded_for turn between edits) placed.edits taken;
    })
placed-note problem building old new turn between edits (Ok _) placed taken told = absurd told
placed-note problem building old new turn between edits (Err e) placed taken told = tt

-- ---- what a run leaves

pub placed-run : (problem : Problem) (building : Option RoomState) (new : SessionState) (atoms : List Atom) → new.atoms ≡ atoms
    → new.recorded ≡ []
    → IsWorldInBuilding problem atoms building → IsPlaced problem building new
placed-run problem building new atoms atoms_are none place = record {
  place = subst (λ (a : List Atom). IsWorldInBuilding problem a building) (sym atoms_are) place;
  edits = subst (TakesAll building) (sym none) (All-nil (λ (r : Recorded Edit). All (Takes building) r.edits));
}

-- what two executors leave, where what is recorded stays
pub placed-duo : (problem : Problem) (building left : Option RoomState) (old new : SessionState) (atoms : List Atom)
    → new ≡ record old { atoms = atoms } → TakesAll building old.recorded → TakeSame building left
    → IsWorldInBuilding problem atoms left → IsPlaced problem left new
placed-duo problem building left old new atoms is edits same place =
    subst (IsPlaced problem left) (sym is) (record { place = place; edits = takes-all-later building left old.recorded same edits })
