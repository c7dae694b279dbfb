use Rattle.std.proofs.Common.{subst}
use Rattle.std.specs.Prelude.{IfOk}
use Rattle.px_numbers.proofs.Equality.{node_eq, node_eq-decides}
use Rattle.px_ops.specs.Keeping.{Keeps}
use Rattle.px_ops.specs.KeepLaws.{keeps}
use Rattle.px_numbers.proofs.nodes.NodeSet.intern.Goals as goal

pub returns-clause-kept : goal.returns-clause-kept
returns-clause-kept c =
    subst (λ old. IfOk c.keep.result (Keeps old c.keep.new.set.keys c.args.node)) c.self.view_is
    (keeps node_eq node_eq-decides c.self.inside.nodes.keys c.keep.new.set.keys c.args.node c.keep.result c.keep.ensures.keys
    c.keep.ensures.stored)
