use Rattle.std.proofs.Common.{◌+◌, ◌<◌, length, arith}
use Rattle.px_terms.specs.declared.clause.Clause.{Clause}
use Rattle.px_proof.specs.PlaceLaws.{All-got}
use Rattle.px_terms.specs.Clauses.{IsClause}
use Rattle.px_unify.specs.Changes.{variables_of}
use Rattle.px_proof_state.specs.Axioms.{NeverAxiom, ComesAxiom}
use Rattle.px_proof_state.proofs.Trying.{range-none}
use Rattle.px_proof_state.proofs.AxiomRange.{axiom-at, axiom-comes, axiom-never, fit-at}
use Rattle.px_proof_state.proofs.axioms.try_axioms.Goals as goal

pub returns-in-Ok-true : goal.returns-in-Ok-true
returns-in-Ok-true c =
    let clause : Clause = record { variable_count = c.variable_count.result; lits = c.lits.result.now } in
    let within : c.loop-number.number < length c.args.axioms.now =
    omega (arith, c.loop-number-test.true, c.count-number-end.ensures.count) in
    axiom-comes c.args.axioms.now c.args.goal.now c.args.from c.args.place c.loop-number.number clause c.args.state.now c.loop-number.state
    c.try_clause.new.state c.start_place-start.result c.in-Ok-true.field-0
    (axiom-at c.args.axioms.now c.loop-number.number clause within c.variable_count.ensures.value c.lits.ensures.value) c.start_place-start.ensures
    c.loop-number.invariant.same c.in-Ok-true.ensures c.in-Ok-true.field-0-test c.loop-number.auto.number within
    c.loop-number.invariant.never

pub loop-number-preserved : goal.loop-number-preserved
loop-number-preserved c =
    let clause : Clause = record { variable_count = c.variable_count.result; lits = c.lits.result.now } in
    let within : c.loop-number.number < length c.args.axioms.now =
    omega (arith, c.loop-number-test.true, c.count-number-end.ensures.count) in
    let both =
    axiom-never c.args.axioms.now c.args.goal.now c.args.from c.args.place c.loop-number.number clause c.args.state.now
    c.loop-number.state c.try_clause.new.state c.start_place-start.result c.in-Ok-false.field-0
    (axiom-at c.args.axioms.now c.loop-number.number clause within c.variable_count.ensures.value c.lits.ensures.value) c.start_place-start.ensures
    c.loop-number.invariant.same c.in-Ok-false.ensures c.in-Ok-false.field-0-test
    (c.loop-number.number + 1) (omega arith) c.loop-number.invariant.never in
    record { same = both.0; never = both.1 }

pub returns : goal.returns
returns c =
    range-none (NeverAxiom c.args.axioms.now c.args.state.now c.args.goal.now c.args.from c.args.place)
    (ComesAxiom c.args.axioms.now c.args.state.now c.args.goal.now c.args.from c.args.place) c.args.from
    (length c.args.axioms.now) c.loop-number.number
    c.args.state.now c.loop-number.state c.loop-number.invariant.same c.loop-number.invariant.never
    (omega (arith, c.loop-number-test.false, c.count-number-end.ensures.count))

pub try_clause-requires-clause-fit : goal.try_clause-requires-clause-fit
try_clause-requires-clause-fit c =
    let clause : Clause = record { variable_count = c.variable_count.result; lits = c.lits.result.now } in
    let within : c.loop-number.number < length c.args.axioms.now =
    omega (arith, c.loop-number-test.true, c.count-number-end.ensures.count) in
    rw c.loop-number.invariant.same
    (fit-at (variables_of c.args.state.now.changes) c.args.axioms.now c.loop-number.number clause
    (axiom-at c.args.axioms.now c.loop-number.number clause within c.variable_count.ensures.value c.lits.ensures.value) c.requires.fit)

pub try_clause-requires-clause-short : goal.try_clause-requires-clause-short
try_clause-requires-clause-short c =
    let clause : Clause = record { variable_count = c.variable_count.result; lits = c.lits.result.now } in
    let within : c.loop-number.number < length c.args.axioms.now =
    omega (arith, c.loop-number-test.true, c.count-number-end.ensures.count) in
    (All-got IsClause c.args.axioms.now c.loop-number.number clause c.lits.ensures.arena.each
    (axiom-at c.args.axioms.now c.loop-number.number clause within c.variable_count.ensures.value c.lits.ensures.value)).size.1
