use Rattle.std.proofs.Common.{ap, ◌∙◌, arith, Some}
use Rattle.px_table.proofs.Layers.{no_clause, plain_lits, plain_variable, concluded}
use Rattle.px_table.proofs.conclusions.atom_at.Goals as goal

pub apply-requires : goal.apply-requires
apply-requires c = λ k d below.
    plain_variable _ _
    (plain_lits c.args.axioms.now c.args.clause c.args.theta.now c.lits-lits.result.now c.lits-lits.ensures.arena
    (omega (arith, c.if-clause-count.false, c.count.ensures.count))
    (c.if-theta-variable_count.false ∙ c.variable_count.ensures.value no_clause)
    (c.lits-lits.ensures.value no_clause) c.args.place c.index-lits-place.result c.if-place-lits.false k d below)

pub returns : goal.returns
returns c = λ objects params atom used uses.
    ap Some (c.apply.ensures
    ∙ concluded c.args.axioms.now c.args.clause c.args.theta.now c.args.place c.lits-lits.result.now atom used c.index-lits-place.result
    (omega (arith, c.if-clause-count.false, c.count.ensures.count))
    (c.lits-lits.ensures.value no_clause) c.if-place-lits.false uses.axiom_at uses.literal_at)
