use Rattle.std.specs.Prelude.{Err, List, Ok, OnErr, Option, Result}
use Rattle.std.proofs.Common.{sym, ap, subst}
use Rattle.px_terms.specs.declared.atom.Atom.{Atom}
use Rattle.px_terms.specs.declared.problem.Problem.{Problem}
use Rattle.px_world.specs.Worlds.{HaveSameRules}
use Rattle.px_rooms.specs.States.{RoomState}
use Rattle.px_duo.specs.DuoValue.{DuoValue}
use Rattle.px_session.specs.RunWorlds.{IsWorldInBuilding, run_world_atoms, run_world_rules}
use Rattle.px_session.proofs.Placing.{place-left}
use Rattle.px_session.proofs.duo_run.run_duo.Goals as goal

said-anyway : {T E P : Type 0} (result : Result T E) → P → OnErr result P
said-anyway (Ok one) known = tt
said-anyway (Err error) known = known

pub returns-in_err-world-clause-kept : goal.returns-in_err-world-clause-kept
returns-in_err-world-clause-kept c = said-anyway c.from_residual-in_err-world.result c.in_err-world.ensures.kept

pub returns-clause-place : goal.returns-clause-place
returns-clause-place c =
    let problem = c.args.problem.now in
    let world = c.take_lines-lines.new.world in
    let rules : HaveSameRules (run_world_rules world) problem = subst (λ (p : Problem). HaveSameRules (run_world_rules world) p)
    (ap (λ (d : DuoValue). d.problem) c.in_ok-duo.ensures.value) c.take_lines-lines.ensures.rules in
    subst (λ (atoms : List Atom). IsWorldInBuilding problem atoms c.leave.result) (sym c.sense.ensures.atoms)
    (subst (λ (building : Option RoomState). IsWorldInBuilding problem (run_world_atoms world) building) (sym c.leave.ensures)
    (place-left problem world rules))
