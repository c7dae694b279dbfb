use Rattle.std.proofs.Common.{◌≡◌, ◌-◌, ◌<◌, Some, length, slice_get, subst, sym, arith}
use Rattle.px_base.proofs.Loops.{is_false, is_true}
use Rattle.px_numbers.specs.Numbers.{Kept, AreEachOnce}
use Rattle.px_numbers.proofs.NumberSteps.{stack_split, look_on, look_found, look_none, some_below}
use Rattle.px_numbers.proofs.numbers.Numbers.is_stacked.Goals as goal

pub frame-frame-requires : goal.frame-frame-requires
frame-frame-requires c =
    subst (λ (k : Kept). c.loop-rest.rest - 1 < length k.frames) (sym c.self.view_is)
    (stack_split c.args.self.now c.loop-rest.rest c.loop-rest.invariant.some.0 c.loop-rest.invariant.some.1
    (λ e. omega (arith, e, c.loop-rest-test.true)))

pub returns-then-frame-entry : goal.returns-then-frame-entry
returns-then-frame-entry c = λ entries one is at.
    let frame_at =
    subst (λ (k : Kept). slice_get k.frames (c.loop-rest.rest - 1) ≡ Some c.frame-frame.result) c.self.view_is c.frame-frame.ensures in
    is_true (look_found c.args.self.now c.args.stack c.args.entry c.loop-rest.rest c.frame-frame.result c.loop-rest.invariant.looked
    (λ e. omega (arith, e, c.loop-rest-test.true)) frame_at c.if-frame-entry.true
    entries one is at)

pub loop-rest-preserved : goal.loop-rest-preserved
loop-rest-preserved c =
    let frame_at =
    subst (λ (k : Kept). slice_get k.frames (c.loop-rest.rest - 1) ≡ Some c.frame-frame.result) c.self.view_is c.frame-frame.ensures in
    let once = subst AreEachOnce c.self.view_is c.self.invariant.once in
    record {
      some =
          some_below c.args.self.now c.loop-rest.rest c.frame-frame.result c.loop-rest.invariant.some
          (λ e. omega (arith, e, c.loop-rest-test.true)) frame_at;
      looked =
          look_on c.args.self.now once c.args.stack c.args.entry c.loop-rest.rest c.frame-frame.result c.loop-rest.invariant.looked
          (λ e. omega (arith, e, c.loop-rest-test.true)) frame_at
          (λ e. omega (arith, e, c.if-frame-entry.false));
    }

pub returns : goal.returns
returns c = λ entries one is at.
    is_false (look_none c.args.self.now c.args.stack c.args.entry c.loop-rest.rest c.loop-rest.invariant.looked
    (omega (arith, c.loop-rest-test.false)) entries one is at)
