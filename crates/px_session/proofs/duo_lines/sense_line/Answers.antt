use Rattle.std.proofs.Common.{refl}
use Rattle.std.specs.Prelude.{None}
use Rattle.px_planex.specs.declared.event.Outcome.TheVariants as outcome
use Rattle.px_printer.specs.declared.duo_line.DuoEnd.TheVariants as told
use Rattle.px_session.specs.RunWorlds.{run_world_atoms}
use Rattle.px_session.proofs.DuosUnderway.{sensed-line}
use Rattle.px_session.proofs.duo_lines.sense_line.Goals as goal

pub returns-in-NoKernel-clause-line : goal.returns-in-NoKernel-clause-line
returns-in-NoKernel-clause-line c =
    sensed-line c.args.duo.now c.step.new.self c.args.number c.who_of-who.result (run_world_atoms c.args.world.now)
    (run_world_atoms c.step.new.world) told.NoKernel outcome.NoKernel None c.who_of-who.ensures c.requires.forgets refl c.step.ensures.frame
    c.in-NoKernel.ensures.happens refl
