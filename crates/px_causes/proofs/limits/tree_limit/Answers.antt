use Rattle.std.specs.Prelude.{◌+◌}
use Rattle.px_causes.proofs.Common.{[], ◌∷◌, map, length, declared_of}
use Rattle.px_causes.proofs.FirstLimits.{or-limits}
use Rattle.px_lines.specs.ItemViews.{signed_view}
use Rattle.px_script.specs.Declarations.{variable_names_of}
use Rattle.px_script.specs.Faults.{outside, over}
use Rattle.px_script.specs.Limits.{of_tree}
use Rattle.px_script.specs.declared.limits.Limit.TheVariants as limit
use Rattle.px_causes.proofs.limits.tree_limit.Goals as goal

pub returns : goal.returns
returns c = let d = declared_of c.args.so_far.now in
    rw c.or.ensures (or-limits _ _ (over d limit.Variables (length (variable_names_of (map signed_view c.args.goal.now)))
    ∷ over d limit.GoalAtoms (length c.args.goal.now) ∷ over d limit.Commands (length c.args.so_far.now.commands.items + 1) ∷ [])
    (outside of_tree c.args.nodes ∷ []) c.in_ok-limit.ensures c.outside.ensures)
