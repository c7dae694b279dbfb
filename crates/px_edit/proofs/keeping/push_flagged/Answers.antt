use Rattle.std.proofs.Common.{◌+◌, sym, subst}
use Rattle.px_edit.specs.Keeping.{AreFlagged}
use Rattle.px_edit.proofs.Flags.{no-flag, numbers-push, numbers-skip, read-flag}
use Rattle.px_edit.proofs.keeping.push_flagged.Goals as goal

pub returns-then-not-flags-k : goal.returns-then-not-flags-k
returns-then-not-flags-k c =
    numbers-skip c.args.flags.now c.args.k c.args.numbers.now.items
    (no-flag c.args.flags.now c.args.k _ c.requires.within c.if-not-flags-k.true)

pub returns : goal.returns
returns c = λ are.
    subst (AreFlagged c.args.flags.now (c.args.k + 1)) (sym c.in_ok-push.ensures.items)
    (numbers-push c.args.flags.now c.args.k c.args.numbers.now.items c.requires.least
    (read-flag c.args.flags.now c.args.k _ c.requires.within c.if-not-flags-k.false) are)
