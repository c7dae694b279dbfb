use Rattle.std.specs.Prelude.{◌≡◌, IfOk}
use Rattle.std.proofs.Common.{◌∙◌, subst, arith}
use Rattle.px_rooms.specs.Domain.{building_problem}
use Rattle.px_rooms.proofs.Starting.{objects_are, valid-of}
use Rattle.px_rooms.proofs.Valid.{buildings_are_valid}
use Rattle.px_rooms.proofs.problem.rooms_problem.Goals as goal

pub returns-clause-problem : goal.returns-clause-problem
returns-clause-problem c =
    let objects = c.len-objects.ensures ∙ objects_are c.args.building.now.things c.requires.building.0 in
    subst (λ n. IfOk c.problem_of.result (λ p. p ≡ building_problem n c.args.height c.args.nodes c.args.shapes)) objects
    c.problem_of.ensures

pub returns-clause-valid : goal.returns-clause-valid
returns-clause-valid c =
    let objects = c.len-objects.ensures ∙ objects_are c.args.building.now.things c.requires.building.0 in
    valid-of c.problem_of.result (building_problem c.len-objects.result c.args.height c.args.nodes c.args.shapes) c.problem_of.ensures
    (buildings_are_valid c.len-objects.result c.args.height c.args.nodes c.args.shapes
    (omega (arith, objects), omega (arith, c.len-objects.ensures, c.requires.short)) c.requires.height c.requires.nodes c.requires.shapes)
