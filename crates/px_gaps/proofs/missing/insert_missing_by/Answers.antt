use Rattle.std.proofs.Common.{◌⊎◌, List, subst, arith}
use Rattle.std.specs.Prelude.{◌↔◌, Contains}
use Rattle.std.proofs.lemmas.List.{take_all}
use Rattle.px_prover.specs.declared.pattern.GapPattern.{GapPattern}
use Rattle.px_gaps.specs.Closings.{OneOf}
use Rattle.px_gaps.specs.Described.{IsMissingBy}
use Rattle.px_gaps.proofs.Describing.{missing-by, then-same}
use Rattle.px_gaps.proofs.Grows.{grouped, grown, nothing_comes, one_next, one_none}
use Rattle.px_gaps.proofs.missing.insert_missing_by.Goals as goal

pub loop-pattern-init : goal.loop-pattern-init
loop-pattern-init c = λ q. nothing_comes (one_none (λ (pattern : GapPattern). IsMissingBy c.args.limit c.args.provable.now.atoms pattern q))

pub loop-pattern-preserved : goal.loop-pattern-preserved
loop-pattern-preserved c = λ q. grown (c.loop-pattern.invariant q) (c.in_ok-insert_missing.ensures q)
    (grouped (one_next (λ (pattern : GapPattern). IsMissingBy c.args.limit c.args.provable.now.atoms pattern q) c.args.patterns.now
    c.loop-pattern.pattern-index c.pattern-item.result c.loop-pattern-test.true c.pattern-item.is))

pub returns : goal.returns
returns c = λ q.
    then-same (subst (λ (ps : List GapPattern). Contains c.loop-pattern.found.atoms q
    ↔ (Contains c.args.found.now.atoms q ⊎ OneOf ps (λ (pattern : GapPattern). IsMissingBy c.args.limit c.args.provable.now.atoms pattern q)))
    (take_all c.loop-pattern.pattern-index c.args.patterns.now (omega (arith, c.loop-pattern-test.false))) (c.loop-pattern.invariant q))
    (missing-by c.args.limit c.args.patterns.now c.args.provable.now.atoms q)
