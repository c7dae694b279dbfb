use Rattle.std.proofs.Common.{true}
use Rattle.px_prover.specs.GapAsking.{gap_setting}
use Rattle.px_prover.proofs.LastPlaces.{going-later}
use Rattle.px_prover.proofs.Moves.{standing-sound}
use Rattle.px_prover.proofs.gap_question.least_after.Goals as goal

pub are_two_open-requires-clause-arena : goal.are_two_open-requires-clause-arena
are_two_open-requires-clause-arena c =
    (standing-sound true (gap_setting c.args._question.now) c.args._question.now.formula.now c.args._question.now.variable_count c.args.state.now
    c.requires).arena

pub are_two_open-requires-clause-within : goal.are_two_open-requires-clause-within
are_two_open-requires-clause-within c =
    (standing-sound true (gap_setting c.args._question.now) c.args._question.now.formula.now c.args._question.now.variable_count c.args.state.now
    c.requires).within

pub returns-clause-rest : goal.returns-clause-rest
returns-clause-rest c = λ u going.
    going-later (gap_setting c.args._question.now) c.args._question.now.formula.now c.args._question.now.variable_count c.args.state.now c.requires
    c.if-are_two_open.ensures 4294967295 u going
