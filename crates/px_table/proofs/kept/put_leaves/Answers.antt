use Rattle.std.proofs.Common.{map, take, sym, ap, ◌∙◌}
use Rattle.px_table.specs.Marks.{mark_eq, mark_of}
use Rattle.px_table.specs.Once.{put_each, put_once}
use Rattle.px_table.specs.OnceLaws.{put_each-more}
use Rattle.px_table.proofs.kept.put_leaves.Goals as goal

pub loop-leaf-preserved : goal.loop-leaf-preserved
loop-leaf-preserved c =
    let before = put_each mark_eq c.args.marks.now.keys (map (mark_of c.args.row) (take c.loop-leaf.leaf-index c.args.leaves.now)) in
    c.in_ok-put_mark.ensures
    ∙ ap (λ l. put_once mark_eq l c.leaf_mark.result) c.loop-leaf.invariant
    ∙ ap (put_once mark_eq before) (c.leaf_mark.ensures ∙ ap (mark_of c.args.row) c.leaf-item.is)
    ∙ sym (put_each-more mark_eq c.args.marks.now.keys
    (mark_of c.args.row) c.args.leaves.now c.loop-leaf.leaf-index c.leaf-item.result c.loop-leaf-test.true)
