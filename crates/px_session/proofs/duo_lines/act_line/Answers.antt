use Rattle.std.proofs.Common.{arith}
use Rattle.px_planex.specs.Execution.{remembered_step}
use Rattle.px_duo.specs.Duos.{own}
use Rattle.px_turns.proofs.RunPlaces.{places-few}
use Rattle.px_session.proofs.duo_lines.act_line.Goals as goal

pub step-requires-clause-places : goal.step-requires-clause-places
step-requires-clause-places c =
    let few = places-few c.args.duo.now.problem
    (remembered_step (own c.who_of.result c.args.duo.now.tables) (own c.who_of.result c.args.duo.now.memories)) in
    omega (arith, few, c.requires.places.spare)

pub returns-clause-taken : goal.returns-clause-taken
returns-clause-taken c =
    let few = places-few c.args.duo.now.problem
    (remembered_step (own c.who_of.result c.args.duo.now.tables) (own c.who_of.result c.args.duo.now.memories)) in
    record {
      number = omega (arith, few, c.step.ensures.number);
      spare = omega (arith, few, c.step.ensures.spare);
      rules = c.step.ensures.rules;
      edits = record { same = c.step.ensures.edits };
    }
