use Rattle.std.proofs.Common.{◌-◌, ◌<◌, length, subst, sym, arith}
use Rattle.px_numbers.specs.Numbers.{Kept}
use Rattle.px_numbers.proofs.NumberSteps.{stack_split}
use Rattle.px_numbers.proofs.numbers.Numbers.top.Goals as goal

pub frame-requires : goal.frame-requires
frame-requires c =
    subst (λ (k : Kept). c.args.stack - 1 < length k.frames) (sym c.self.view_is)
    (stack_split c.args.self.now c.args.stack c.requires.0 c.requires.1 (λ e. omega (arith, e, c.if-stack-eq0.false)))
