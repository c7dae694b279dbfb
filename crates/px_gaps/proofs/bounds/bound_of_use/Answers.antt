use Rattle.px_gaps.specs.Bounds.{IsBoundBy, IsBoundOfUse}
use Rattle.std.specs.Prelude.{remove}
use Rattle.px_terms.specs.declared.clause.Clause.{Clause}
use Rattle.px_gaps.proofs.BoundLoops.{of_use-horn, of_use-other, preds_of}
use Rattle.px_base.proofs.Loops.{said_no, some_map}
use Rattle.px_gaps.proofs.bounds.bound_of_use.Goals as goal

pub returns-then-not-asserts_predicate : goal.returns-then-not-asserts_predicate
returns-then-not-asserts_predicate c =
    of_use-other c.args.table.now c.args.pred
    (record { variable_count = c.args.variable_count; lits = c.args.lits.now }) c.args.place c.index-lits-place.result c.requires c.index-lits-place.is
    (said_no c.asserts_predicate.result c.asserts_predicate.ensures c.if-not-asserts_predicate.true)

pub returns : goal.returns
returns c =
    let table = c.args.table.now in
    let clause : Clause = record { variable_count = c.args.variable_count; lits = c.args.lits.now } in
    let place = c.args.place in
    some_map (IsBoundBy table (preds_of (remove c.args.lits.now place)))
    (IsBoundOfUse table c.args.pred clause place) c.bound_of_parts.result
    (λ bound of_parts. of_use-horn table c.args.pred clause place c.index-lits-place.result bound c.requires c.index-lits-place.is
    (c.has_each_variable.ensures c.if-not-has_each_variable.false)
    (c.are_denials_beside.ensures c.if-not-are_denials_beside.false) of_parts)
    c.bound_of_parts.ensures
