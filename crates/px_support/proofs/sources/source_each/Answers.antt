use Rattle.px_support.proofs.SourceLaws.{sources-next}
use Rattle.px_support.proofs.sources.source_each.Goals as goal

pub loop-leaf-preserved : goal.loop-leaf-preserved
loop-leaf-preserved c =
    sources-next c.args.problem.now c.args.steps.now c.args.leaves.now c.loop-leaf.leaf-index c.leaf-item.result c.source_of-source.result
    c.loop-leaf.parts.items c.push.new.items.items
    c.loop-leaf-test.true c.leaf-item.is c.loop-leaf.invariant c.source_of-source.ensures.source c.source_of-source.ensures.atom
    c.in_ok-push.ensures.ok
