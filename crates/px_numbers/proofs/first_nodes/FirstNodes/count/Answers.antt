use Rattle.std.proofs.Common.{◌∙◌, List, ap, length, sym}
use Rattle.px_table.specs.declared.node.Node.{Node}
use Rattle.px_numbers.specs.Nodewise.{kept_node}
use Rattle.px_numbers.proofs.NodewiseLaws.{length-take_map}
use Rattle.px_numbers.proofs.first_nodes.FirstNodes.count.Goals as goal

pub returns : goal.returns
returns c =
    sym (length-take_map (kept_node c.self.inside.numbers) c.self.inside.keys c.self.inside.count c.self.invariant.few)
    ∙ ap (λ (l : List Node). length l) c.self.view_is
