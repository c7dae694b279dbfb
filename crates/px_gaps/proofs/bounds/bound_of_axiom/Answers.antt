use Rattle.std.proofs.Common.{[], arith}
use Rattle.px_terms.specs.declared.clause.Clause.{Clause}
use Rattle.px_gaps.proofs.BoundLoops.{clause-at, places-all, places-init, places-next}
use Rattle.px_gaps.proofs.bounds.bound_of_axiom.Goals as goal

abbrev no_clause : Clause
no_clause = record { variable_count = 0; lits = [] }

pub loop-place-init : goal.loop-place-init
loop-place-init c = places-init c.args.problem.now c.args.table.now c.args.pred c.args.number

pub loop-place-preserved : goal.loop-place-preserved
loop-place-preserved c =
    let problem = c.args.problem.now in
    let at = clause-at problem.axioms c.args.number c.variable_count-variable_count.result c.lits-lits.result.now no_clause c.requires
    (c.variable_count-variable_count.ensures.value no_clause) (c.lits-lits.ensures.value no_clause) in
    let here = c.in_ok-uses.ensures.holds problem c.args.number at in
    places-next problem c.args.table.now c.args.pred c.args.number c.loop-place.place c.loop-place.bound c.in_ok-uses.uses
    c.in_ok-bound.bound c.loop-place.invariant here c.in_ok-bound.ensures

pub returns : goal.returns
returns c =
    let problem = c.args.problem.now in
    let clause : Clause = record { variable_count = c.variable_count-variable_count.result; lits = c.lits-lits.result.now } in
    let at = clause-at problem.axioms c.args.number c.variable_count-variable_count.result c.lits-lits.result.now no_clause c.requires
    (c.variable_count-variable_count.ensures.value no_clause) (c.lits-lits.ensures.value no_clause) in
    places-all problem c.args.table.now c.args.pred c.args.number clause c.loop-place.place c.loop-place.bound at
    (omega (arith, c.loop-place-test.false)) c.loop-place.invariant
