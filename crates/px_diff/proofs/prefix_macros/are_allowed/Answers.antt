use Rattle.std.specs.Prelude.{slice_index}
use Rattle.px_table.specs.Prefixes.{IsAllowedNumber}
use Rattle.px_table.proofs.PrefixSteps.{each_next}
use Rattle.px_diff.proofs.prefix_macros.are_allowed.Goals as goal

pub loop-parameter-preserved : goal.loop-parameter-preserved
loop-parameter-preserved c =
    each_next (λ v. IsAllowedNumber c.args.prefix.now.request.problem.now c.args.prefix.now.table.now c.args.prefix.now.count v
    (slice_index c.args.sigma.now v)) c.loop-parameter.parameter c.loop-parameter.invariant
    (c.is_allowed.ensures.0 c.if-not-is_allowed.false)
