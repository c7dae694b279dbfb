use Rattle.std.proofs.Common.{◌≡◌, ◌∙◌, List, Some, ap, arith, length, slice_get, subst, sym}
use Rattle.px_base.proofs.Loops.{ok_map}
use Rattle.px_table.specs.declared.node.Node.{Node}
use Rattle.px_numbers.specs.NumberLaws.{node_of_key}
use Rattle.px_numbers.specs.Nodewise.{kept_node, nodes_of}
use Rattle.px_numbers.specs.Numbers.{IsKeyOf}
use Rattle.px_numbers.proofs.NodewiseLaws.{length-take_map, some_take}
use Rattle.px_numbers.proofs.first_nodes.FirstNodes.node.Goals as goal

pub node-requires : goal.node-requires
node-requires c =
    let all = length-take_map (kept_node c.self.inside.numbers) c.self.inside.keys c.self.inside.count c.self.invariant.few in
    omega (arith, c.requires, all, ap (λ (l : List Node). length l) c.self.view_is, c.self.invariant.few)

pub node_at-requires : goal.node_at-requires
node_at-requires c =
    let there =
    node_of_key c.self.inside.numbers c.self.inside.keys
    (nodes_of c.self.inside.numbers c.self.inside.keys) c.args.place c.node.result c.self.invariant.stand c.node.ensures in
    (there.0, there.2)

pub returns : goal.returns
returns c =
    let all = nodes_of c.self.inside.numbers c.self.inside.keys in
    let there = node_of_key c.self.inside.numbers c.self.inside.keys all c.args.place c.node.result c.self.invariant.stand c.node.ensures in
    let few = length-take_map (kept_node c.self.inside.numbers) c.self.inside.keys c.self.inside.count c.self.invariant.few in
    let here =
    some_take all c.self.inside.count c.args.place there.0
    (omega (arith, c.requires, few, ap (λ (l : List Node). length l) c.self.view_is)) there.1 in
    ok_map (λ made. (node : Node) → IsKeyOf c.self.inside.numbers c.node.result node → made ≡ node)
    (λ made. slice_get c.args.self.now c.args.place ≡ Some made)
    (λ made is. subst (λ (l : List Node). slice_get l c.args.place ≡ Some made) c.self.view_is (here ∙ ap Some (sym (is there.0 there.2))))
    c.node_at.result c.node_at.ensures
