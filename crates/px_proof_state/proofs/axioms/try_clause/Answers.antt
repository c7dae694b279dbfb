use Rattle.std.proofs.Common.{◌+◌, false, true, length, arith}
use Rattle.px_terms.specs.declared.clause.Clause.{Clause}
use Rattle.px_proof_state.specs.Places.{NeverStep, ComesStep}
use Rattle.px_proof_state.proofs.AxiomRange.{with_room}
use Rattle.px_proof_state.proofs.PlaceRange.{step-comes, step-never}
use Rattle.px_proof_state.proofs.Trying.{range-none}
use Rattle.px_proof_state.proofs.axioms.try_clause.Goals as goal

pub returns-in-Ok-true : goal.returns-in-Ok-true
returns-in-Ok-true c =
    let clause : Clause = record { variable_count = c.args.variable_count; lits = c.args.lits.now } in
    with_room c.args.number clause c.args.goal.now c.args.from c.args.state.now c.close_by_step.new.self true
    (c.has_room.ensures.0 c.if-not-has_room.false)
    (step-comes c.args.number clause c.args.goal.now c.args.from c.loop-place.place c.args.state.now c.loop-place.state
    c.close_by_step.new.self c.in-Ok-true.field-0 c.loop-place.invariant.same c.in-Ok-true.ensures
    c.in-Ok-true.field-0-test c.loop-place.auto.place c.loop-place-test.true c.loop-place.invariant.never)

pub loop-place-preserved : goal.loop-place-preserved
loop-place-preserved c =
    let clause : Clause = record { variable_count = c.args.variable_count; lits = c.args.lits.now } in
    let both =
    step-never c.args.number clause c.args.goal.now c.args.from c.loop-place.place c.args.state.now c.loop-place.state
    c.close_by_step.new.self c.in-Ok-false.field-0 c.loop-place.invariant.same c.in-Ok-false.ensures
    c.in-Ok-false.field-0-test (c.loop-place.place + 1) (omega arith) c.loop-place.invariant.never in
    record { same = both.0; never = both.1 }

pub returns : goal.returns
returns c =
    let clause : Clause = record { variable_count = c.args.variable_count; lits = c.args.lits.now } in
    with_room c.args.number clause c.args.goal.now c.args.from c.args.state.now c.loop-place.state false
    (c.has_room.ensures.0 c.if-not-has_room.false)
    (range-none (NeverStep clause c.args.state.now c.args.goal.now)
    (ComesStep c.args.number clause c.args.state.now c.args.goal.now) c.args.from (length c.args.lits.now) c.loop-place.place
    c.args.state.now c.loop-place.state c.loop-place.invariant.same c.loop-place.invariant.never (omega (arith, c.loop-place-test.false)))
