use Rattle.std.proofs.Common.{[], ◌∷◌, ap, length, arith}
use Rattle.std.proofs.lemmas.List.{length-append}
use Rattle.px_support.specs.Asking.{task_for}
use Rattle.px_search.proofs.TreeNodes.{tells-more, tells-none}
use Rattle.px_search.proofs.trees.tree_nodes.Goals as goal

pub loop-place-init : goal.loop-place-init
loop-place-init c = record {
  within = omega arith;
  counted = c.new-estimates.ensures (task_for c.args.asked.now) c.args.explored.now.cache.numbers;
  long = ap length c.new-nodes.ensures.items;
  told = λ found are. tells-none (task_for c.args.asked.now) c.args.explored.now.cache.numbers found c.new-nodes.result.items
      c.new-nodes.ensures.items;
}

pub loop-place-preserved : goal.loop-place-preserved
loop-place-preserved c =
    let task = task_for c.args.asked.now in
    record {
      within = omega (arith, c.loop-place-test.true);
      counted = c.in_ok-node.ensures.counted;
      long = omega (
        arith,
        ap length c.in_ok-push.ensures.ok,
        length-append c.loop-place.nodes.items (c.in_ok-node.node ∷ []),
        c.loop-place.invariant.long,
      );
      told = λ found are. tells-more task c.args.explored.now.cache.numbers found c.loop-place.nodes.items
          c.push.new.items.items c.in_ok-node.node c.loop-place.place
          (c.loop-place.invariant.told found are) c.in_ok-push.ensures.ok c.loop-place.invariant.long
          (λ moves at. c.in_ok-node.ensures.node found moves are at);
    }
