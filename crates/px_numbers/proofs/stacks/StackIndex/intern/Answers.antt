use Rattle.std.proofs.Common.{subst}
use Rattle.std.specs.Prelude.{IfOk}
use Rattle.px_numbers.proofs.Equality.{frame_eq, frame_eq-decides}
use Rattle.px_ops.specs.Keeping.{Keeps}
use Rattle.px_ops.specs.KeepLaws.{keeps}
use Rattle.px_numbers.proofs.stacks.StackIndex.intern.Goals as goal

pub returns-clause-kept : goal.returns-clause-kept
returns-clause-kept c =
    subst (λ old. IfOk c.keep.result (Keeps old c.keep.new.set.keys c.args.frame)) c.self.view_is
    (keeps frame_eq frame_eq-decides c.self.inside.frames.keys c.keep.new.set.keys c.args.frame c.keep.result c.keep.ensures.keys
    c.keep.ensures.stored)
