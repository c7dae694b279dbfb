use Rattle.std.proofs.Common.{◌+◌, ◌-◌, ◌<◌, arith}
use Rattle.px_proof_state.proofs.AncestorRange.{way-found, way-next, way-end, way-in, way-within}
use Rattle.px_unify.specs.Changes.{variables_of}
use Rattle.px_proof_state.specs.Parts.{IsLitBelow}
use Rattle.px_proof_state.proofs.ancestors.try_ancestors.Goals as goal

pub returns-in-Ok-true : goal.returns-in-Ok-true
returns-in-Ok-true c =
    let some : 0 < c.loop-at.at = c.loop-at-test.true in
    let older = c.requires.arena (c.loop-at.at - 1) c.goal_at-above.result (rw c.loop-at.invariant.same at c.goal_at-above.ensures) in
    way-found c.args.state.now c.args.goal.now c.args.from c.loop-at.state c.loop-at.at c.loop-at.number c.loop-at.invariant
    c.goal_at-above.result some c.goal_at-above.ensures older.0 c.try_ancestor.new.state c.in-Ok-true.field-0 c.in-Ok-true.ensures
    c.in-Ok-true.field-0-test

pub loop-at-preserved : goal.loop-at-preserved
loop-at-preserved c =
    let some : 0 < c.loop-at.at = c.loop-at-test.true in
    let older = c.requires.arena (c.loop-at.at - 1) c.goal_at-above.result (rw c.loop-at.invariant.same at c.goal_at-above.ensures) in
    way-next c.args.state.now c.args.goal.now c.args.from c.loop-at.state c.loop-at.at c.loop-at.number c.loop-at.invariant
    c.goal_at-above.result some c.goal_at-above.ensures older.0 c.try_ancestor.new.state c.in-Ok-false.field-0 c.in-Ok-false.ensures
    c.in-Ok-false.field-0-test (c.loop-at.number + 1) (omega arith)

pub returns : goal.returns
returns c =
    way-end c.args.state.now c.args.goal.now c.args.from c.loop-at.state c.loop-at.at c.loop-at.number c.loop-at.invariant
    (omega (arith, c.loop-at-test.false))

pub try_ancestor-requires-clause-above_below : goal.try_ancestor-requires-clause-above_below
try_ancestor-requires-clause-above_below c =
    let some : 0 < c.loop-at.at = c.loop-at-test.true in
    let older = c.requires.arena (c.loop-at.at - 1) c.goal_at-above.result (rw c.loop-at.invariant.same at c.goal_at-above.ensures) in
    rw c.loop-at.invariant.same
    (way-in c.args.state.now c.args.goal.now c.args.from c.loop-at.state c.loop-at.at c.loop-at.number c.loop-at.invariant
    c.goal_at-above.result some c.goal_at-above.ensures older.0
    (λ l. IsLitBelow (variables_of c.args.state.now.changes) l) c.requires.path_below)

pub overflow_add-number : goal.overflow_add-number
overflow_add-number c =
    let some : 0 < c.loop-at.at = c.loop-at-test.true in
    let older = c.requires.arena (c.loop-at.at - 1) c.goal_at-above.result (rw c.loop-at.invariant.same at c.goal_at-above.ensures) in
    let below =
    way-within c.args.state.now c.args.goal.now c.args.from c.loop-at.state c.loop-at.at c.loop-at.number c.loop-at.invariant
    c.goal_at-above.result some c.goal_at-above.ensures older.0 in
    omega (arith, below, c.requires.few)
