use Rattle.std.proofs.Common.{◌∙◌, reverse, arith}
use Rattle.px_support.specs.Asking.{task_for}
use Rattle.px_support.proofs.GoingLaws.{going-all, going-next, going-none, next-short, next-takeable}
use Rattle.px_support.proofs.walk.take_all.Goals as goal

pub loop-m-init : goal.loop-m-init
loop-m-init c =
    going-none (task_for c.args.asked.now) c.requires.asked.tables c.args.moves.now c.new-walk.result
    (λ i. record { model = (c.new-walk.ensures.model ∙ c.in_ok-model.ensures) i; stack = reverse (c.new-walk.ensures.stack i) })
    c.new-walk.ensures.steps c.new-walk.ensures.rows c.requires.takeable

pub take-requires-clause-takeable : goal.take-requires-clause-takeable
take-requires-clause-takeable c =
    next-takeable (task_for c.args.asked.now) c.requires.asked.tables c.args.moves.now c.loop-m.m-index c.m-item.result c.loop-m.walk
    c.loop-m-test.true c.m-item.is c.loop-m.invariant

pub take-requires-clause-stack : goal.take-requires-clause-stack
take-requires-clause-stack c = c.loop-m.invariant.entries

pub take-requires-clause-room : goal.take-requires-clause-room
take-requires-clause-room c =
    let less =
    next-short (task_for c.args.asked.now) c.requires.asked.tables c.args.moves.now c.loop-m.m-index c.loop-m.walk c.loop-m-test.true
    c.loop-m.invariant in
    record { all_ground = c.loop-m.invariant.all_ground; short = omega (arith, less, c.requires.short) }

pub loop-m-preserved : goal.loop-m-preserved
loop-m-preserved c =
    going-next (task_for c.args.asked.now) c.requires.asked.tables c.args.moves.now c.loop-m.m-index c.m-item.result c.loop-m.walk
    c.in_ok-walk.walk c.loop-m-test.true c.m-item.is c.loop-m.invariant c.in_ok-walk.ensures

pub returns : goal.returns
returns c =
    going-all (task_for c.args.asked.now) c.requires.asked.tables c.args.moves.now c.loop-m.m-index c.loop-m.walk c.loop-m-test.false
    c.loop-m.invariant
