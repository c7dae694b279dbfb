use Rattle.std.proofs.Common.{arith}
use Rattle.px_prover.specs.GapAsking.{gap_setting}
use Rattle.px_prover.proofs.Beginnings.{begins-possible, begins-standing, limit-told}
use Rattle.px_prover.proofs.limiting.shapes_at_limit.Goals as goal

pub new-requires : goal.new-requires
new-requires c = omega (arith, c.requires.proper.few_variables)

pub walk_to_end-requires-clause-stands : goal.walk_to_end-requires-clause-stands
walk_to_end-requires-clause-stands c =
    begins-standing (gap_setting c.args.question.now) c.args.question.now.formula.now c.args.question.now.variable_count c.requires.proper
    c.in_ok-state.state c.in_ok-state.ensures

pub walk_to_end-requires-clause-possible : goal.walk_to_end-requires-clause-possible
walk_to_end-requires-clause-possible c =
    begins-possible (gap_setting c.args.question.now) c.args.question.now.formula.now c.args.question.now.variable_count c.requires.proper
    c.in_ok-state.state c.in_ok-state.ensures c.requires.some_atom

pub returns : goal.returns
returns c =
    limit-told (gap_setting c.args.question.now) c.args.question.now.formula.now c.args.question.now.variable_count c.requires.proper
    c.walk_to_end.result (λ shapes. shapes.items) c.walk_to_end.ensures.limited
