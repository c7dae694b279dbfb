use Rattle.std.proofs.Common.{subst}
use Rattle.std.specs.Prelude.{IfOk}
use Rattle.std.specs.Prelude.{nat_eq}
use Rattle.std.proofs.lemmas.Bool.Decides.{Decides-eqb}
use Rattle.std.specs.Cmp.Lexicographic.{pointwise, pointwise_decides}
use Rattle.px_ops.specs.Keeping.{Keeps}
use Rattle.px_ops.specs.KeepLaws.{keeps}
use Rattle.px_numbers.proofs.lists.NumberLists.intern.Goals as goal

pub returns-clause-kept : goal.returns-clause-kept
returns-clause-kept c =
    subst (λ old. IfOk c.keep.result (Keeps old c.keep.new.set.keys c.args.list)) c.self.view_is
    (keeps (pointwise nat_eq) (pointwise_decides Decides-eqb) c.self.inside.lists.keys c.keep.new.set.keys c.args.list c.keep.result
    c.keep.ensures.keys c.keep.ensures.stored)
