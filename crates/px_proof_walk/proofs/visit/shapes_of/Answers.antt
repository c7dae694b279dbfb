use Rattle.std.proofs.Common.{[], ap, ◌∙◌}
use Rattle.std.proofs.lemmas.List.{take_all}
use Rattle.px_proof_walk.proofs.Trails.{along-more, along-visits, led-more, shapes_along}
use Rattle.px_proof_walk.proofs.visit.shapes_of.Goals as goal

pub loop-visit-preserved : goal.loop-visit-preserved
loop-visit-preserved c = record {
  there =
      led-more c.args.trail.now c.loop-visit.visit-index _ c.loop-visit-test.true c.loop-visit.ticks.items c.move_to.new.ticks.items
      c.loop-visit.invariant.there c.in_ok-move_to.ensures;
  made =
      along-more c.args.trail.now c.loop-visit.visit-index _ c.loop-visit-test.true c.loop-visit.ticks.items c.move_to.new.ticks.items
      c.loop-visit.invariant.there c.in_ok-move_to.ensures c.deref.result.now c.in_ok-shape.shape c.deref.ensures.value
      c.in_ok-shape.ensures c.loop-visit.shapes.items c.push.new.items.items c.loop-visit.invariant.made c.in_ok-push.ensures.ok;
}

pub returns : goal.returns
returns c = λ places seen are.
    c.loop-visit.invariant.made
    ∙ ap (shapes_along []) (take_all c.loop-visit.visit-index c.args.trail.now c.loop-visit-test.false)
    ∙ along-visits places [] seen c.args.trail.now are.each are.branches
