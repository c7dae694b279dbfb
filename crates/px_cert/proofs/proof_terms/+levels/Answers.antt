use Rattle.std.proofs.Common.{rules, ◌≡◌, ◌<◌, ◌-◌, ℕ, List, [], Bor, Some, length, ap, subst, ◌∙◌, arith}
use Rattle.std.proofs.lemmas.Grind.{common_steps}
use Rattle.px_terms.specs.declared.clause.Clause.{Clause}
use Rattle.px_terms.specs.declared.clause.Lit.{Lit}
use Rattle.px_terms.specs.declared.term.Term.{Term}
use Rattle.px_proof.specs.declared.proof.Proof.{Proof}
use Rattle.px_proof.specs.declared.proof.Proof.TheViews.{Step}
use Rattle.px_table.specs.Deciding.{clause_at}
use Rattle.px_cert.specs.Reading.{IsRefusal, ancestor_at, fact_at, many_at, proof_at, step_at}
use Rattle.px_cert.proofs.Loop.{carried, ends, is_done, keeps_on, reads_by}
use Rattle.px_cert.proofs.ProofLevels.{ancestor_here, fact_here, no_level, nothing_here, step_here}
use Rattle.px_cert.proofs.StepReading.{lits_are, number_fails, parts_fail, place_fails, step_read, terms_fail, terms_read, terms_refused}
use Rattle.px_cert.proofs.proof_terms.+levels.Goals as goal

-- ---- a proof, by its letter

pub proof-returns-then-levels-eq0 : goal.proof-returns-then-levels-eq0
proof-returns-then-levels-eq0 t c = no_level c.args.draft.now c.args.levels c.args.bytes.now c.if-levels-eq0.true

pub proof-returns-in-Some : goal.proof-returns-in-Some
proof-returns-in-Some t c =
    let some : 0 < c.args.levels = omega arith in
    reads_by (λ (x : Proof × Bor (List ℕ)). (x.0, x.1.now)) c.fact.result (proof_at c.args.draft.now c.args.levels c.args.bytes.now)
    (fact_at c.args.draft.now c.in-Some.rest.now)
    (fact_here c.args.draft.now c.args.levels c.args.bytes.now some c.in-Some.rest.now c.in-Some.ensures) c.fact.ensures

pub proof-returns-in-Some-after : goal.proof-returns-in-Some-after
proof-returns-in-Some-after t c =
    let some : 0 < c.args.levels = omega arith in
    reads_by (λ (x : Proof × Bor (List ℕ)). (x.0, x.1.now)) c.ancestor.result (proof_at c.args.draft.now c.args.levels c.args.bytes.now)
    (ancestor_at c.in-Some-after.rest.now)
    (ancestor_here c.args.draft.now c.args.levels c.args.bytes.now some c.in-Some-after.rest.now c.in-None.ensures c.in-Some-after.ensures)
    c.ancestor.ensures

pub proof-returns-in-Some-after-2 : goal.proof-returns-in-Some-after-2
proof-returns-in-Some-after-2 t c =
    let some : 0 < c.args.levels = omega arith in
    reads_by (λ (x : Proof × Bor (List ℕ)). (x.0, x.1.now)) c.step.result (proof_at c.args.draft.now c.args.levels c.args.bytes.now)
    (step_at c.args.draft.now (proof_at c.args.draft.now (c.args.levels - 1)) c.in-Some-after-2.rest.now)
    (step_here c.args.draft.now c.args.levels c.args.bytes.now some c.in-Some-after-2.rest.now c.in-None.ensures c.in-None-after.ensures
    c.in-Some-after-2.ensures) c.step.ensures

pub proof-returns-in-None-after-2 : goal.proof-returns-in-None-after-2
proof-returns-in-None-after-2 t c =
    let some : 0 < c.args.levels = omega arith in
    nothing_here c.args.draft.now c.args.levels c.args.bytes.now some c.in-None.ensures c.in-None-after.ensures c.in-None-after-2.ensures

-- ---- a step, part by part

pub step-returns-in_err-clause : goal.step-returns-in_err-clause
step-returns-in_err-clause t c =
    let total = step_at c.args.draft.now (proof_at c.args.draft.now c.args.levels) c.args.bytes.now in
    carried (λ (x : Proof × Bor (List ℕ)). (x.0, x.1.now)) c.from_residual.result c.in_err-clause.field-0.0 total c.from_residual.ensures.1
    (number_fails c.args.draft.now c.args.levels c.args.bytes.now c.in_err-clause.field-0.0 c.count.result c.count.ensures.count
    c.in_err-clause.ensures.read)

pub step-returns-in_err-place : goal.step-returns-in_err-place
step-returns-in_err-place t c =
    let total = step_at c.args.draft.now (proof_at c.args.draft.now c.args.levels) c.args.bytes.now in
    carried (λ (x : Proof × Bor (List ℕ)). (x.0, x.1.now)) c.from_residual-in_err-place.result c.in_err-place.field-0.0 total
    c.from_residual-in_err-place.ensures.1
    (place_fails c.args.draft.now c.args.levels c.args.bytes.now c.in_err-place.field-0.0 c.count.result c.in_ok-clause.clause
    c.in_ok-clause.rest.now c.count.ensures.count c.in_ok-clause.ensures.read c.in_err-place.ensures.read)

pub step-returns-in_err-rest : goal.step-returns-in_err-rest
step-returns-in_err-rest t c =
    let total = step_at c.args.draft.now (proof_at c.args.draft.now c.args.levels) c.args.bytes.now in
    let empty : Clause = record { variable_count = 0; lits = [] } in
    let variable_count : c.variable_count.result ≡ (clause_at c.args.draft.now.axioms c.in_ok-clause.clause).variable_count = c.variable_count.ensures.value empty in
    let full = c.in_ok-theta.theta.ok.0 in
    let value = ap (λ (ts : List Term). length ts) c.deref_mut.ensures.value in
    let room : length c.deref_mut.result.now ≡ (clause_at c.args.draft.now.axioms c.in_ok-clause.clause).variable_count = omega (arith, c.in_ok-theta.ensures.len) in
    carried (λ (x : Proof × Bor (List ℕ)). (x.0, x.1.now)) c.from_residual-in_err-rest.result c.in_err-rest.field-0.0 total
    c.from_residual-in_err-rest.ensures.1
    (terms_fail c.args.draft.now c.args.levels c.args.bytes.now c.in_err-rest.field-0.0 c.count.result c.in_ok-clause.clause
    c.in_ok-clause.rest.now c.count.ensures.count c.in_ok-clause.ensures.read c.in_ok-place.place c.in_ok-place.rest.now
    c.in_ok-place.ensures.read
    (terms_refused c.in_err-rest.field-0.0 c.args.draft.now c.in_ok-clause.clause c.len-objects.result (length c.deref_mut.result.now)
    c.in_ok-place.rest.now c.len-objects.ensures room c.in_err-rest.ensures.read))

pub step-overflow_cast-count : goal.step-overflow_cast-count
step-overflow_cast-count t c =
    let empty : Clause = record { variable_count = 0; lits = [] } in
    let size = lits_are c.args.draft.now c.in_ok-clause.clause c.lits.result.now c.requires (omega (arith, c.in_ok-clause.ensures.below)) (c.lits.ensures.value empty) in
    let few = size.1 in
    omega (arith, few)

pub step-overflow_sub-count : goal.step-overflow_sub-count
step-overflow_sub-count t c =
    let empty : Clause = record { variable_count = 0; lits = [] } in
    (lits_are c.args.draft.now c.in_ok-clause.clause c.lits.result.now c.requires (omega (arith, c.in_ok-clause.ensures.below)) (c.lits.ensures.value empty)).0

pub step-returns-in_err-subs : goal.step-returns-in_err-subs
step-returns-in_err-subs t c =
    let total = step_at c.args.draft.now (proof_at c.args.draft.now c.args.levels) c.args.bytes.now in
    let empty : Clause = record { variable_count = 0; lits = [] } in
    let variable_count : c.variable_count.result ≡ (clause_at c.args.draft.now.axioms c.in_ok-clause.clause).variable_count = c.variable_count.ensures.value empty in
    let full = c.in_ok-theta.theta.ok.0 in
    let value = ap (λ (ts : List Term). length ts) c.deref_mut.ensures.value in
    let room : length c.deref_mut.result.now ≡ (clause_at c.args.draft.now.axioms c.in_ok-clause.clause).variable_count = omega (arith, c.in_ok-theta.ensures.len) in
    carried (λ (x : Proof × Bor (List ℕ)). (x.0, x.1.now)) c.from_residual-in_err-subs.result c.in_err-subs.field-0.0 total
    c.from_residual-in_err-subs.ensures.1
    (parts_fail c.args.draft.now c.args.levels c.args.bytes.now c.in_err-subs.field-0.0 c.count.result c.in_ok-clause.clause
    c.in_ok-clause.rest.now c.count.ensures.count c.in_ok-clause.ensures.read c.in_ok-place.place c.in_ok-place.rest.now
    c.in_ok-place.ensures.read c.fill.new.terms c.in_ok-rest.rest.now
    (terms_read c.args.draft.now c.in_ok-clause.clause c.len-objects.result (length c.deref_mut.result.now) c.in_ok-place.rest.now
    c.fill.new.terms c.in_ok-rest.rest.now c.len-objects.ensures room c.in_ok-rest.ensures.read)
    (subst (λ (ls : List Lit). IsRefusal c.in_err-subs.field-0.0
    (many_at (proof_at c.args.draft.now c.args.levels) (length ls - 1) c.in_ok-rest.rest.now)) (c.lits.ensures.value empty)
    c.in_err-subs.ensures))

pub step-returns : goal.step-returns
step-returns t c =
    let empty : Clause = record { variable_count = 0; lits = [] } in
    let variable_count : c.variable_count.result ≡ (clause_at c.args.draft.now.axioms c.in_ok-clause.clause).variable_count = c.variable_count.ensures.value empty in
    let full = c.in_ok-theta.theta.ok.0 in
    let value = ap (λ (ts : List Term). length ts) c.deref_mut.ensures.value in
    let room : length c.deref_mut.result.now ≡ (clause_at c.args.draft.now.axioms c.in_ok-clause.clause).variable_count = omega (arith, c.in_ok-theta.ensures.len) in
    let theta : c.fill.new.terms ≡ c.from_vec.result = first_of (cc, search rules, grind (arith, common_steps)) in
    let subs : c.in_ok-subs.subs.items ≡ c.from_vec-2.result = first_of (cc, search rules, grind (arith, common_steps)) in
    step_read c.args.draft.now c.args.levels c.args.bytes.now c.count.result c.in_ok-clause.clause c.in_ok-place.place
    c.in_ok-clause.rest.now c.in_ok-place.rest.now c.in_ok-rest.rest.now c.in_ok-subs.rest.now c.fill.new.terms c.in_ok-subs.subs.items
    c.count.ensures.count c.in_ok-clause.ensures.read c.in_ok-place.ensures.read
    (terms_read c.args.draft.now c.in_ok-clause.clause c.len-objects.result (length c.deref_mut.result.now) c.in_ok-place.rest.now
    c.fill.new.terms c.in_ok-rest.rest.now c.len-objects.ensures room c.in_ok-rest.ensures.read)
    (subst (λ (ls : List Lit). many_at (proof_at c.args.draft.now c.args.levels) (length ls - 1) c.in_ok-rest.rest.now
    ≡ Some (c.in_ok-subs.subs.items, c.in_ok-subs.rest.now)) (c.lits.ensures.value empty) c.in_ok-subs.ensures)
    ∙ (λ i. Some (Step c.in_ok-clause.clause (theta i) c.in_ok-place.place (subs i), c.in_ok-subs.rest.now))

-- ---- so many proofs

pub many_proofs-returns-in-Err : goal.many_proofs-returns-in-Err
many_proofs-returns-in-Err t c =
    let item = proof_at c.args.draft.now c.args.levels in
    ends item c.in-Err.refused c.loop.proofs.items c.args.count c.loop.counter c.loop.rest.now (many_at item c.args.count c.args.bytes.now)
    c.loop-test.true c.in-Err.ensures c.loop.invariant

pub many_proofs-loop-preserved : goal.many_proofs-loop-preserved
many_proofs-loop-preserved t c =
    let item = proof_at c.args.draft.now c.args.levels in
    keeps_on item c.push.new.items.items c.loop.proofs.items c.args.count c.loop.counter c.loop.rest.now c.in-Ok.read.0 c.in-Ok.read.1.now
    (many_at item c.args.count c.args.bytes.now) c.in_ok-push.ensures.ok c.loop-test.true c.in-Ok.ensures c.loop.invariant

pub many_proofs-returns : goal.many_proofs-returns
many_proofs-returns t c =
    let item = proof_at c.args.draft.now c.args.levels in
    is_done item c.loop.proofs.items c.args.count c.loop.counter c.loop.rest.now (many_at item c.args.count c.args.bytes.now)
    c.loop-test.false c.loop.invariant
