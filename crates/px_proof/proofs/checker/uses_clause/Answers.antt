use Rattle.std.proofs.Common.{arith, ◌∙◌}
use Rattle.px_proof.specs.Basis.{rules_of}
use Rattle.px_proof.proofs.Uses.{no_clause, plain_lits, uses_exact}
use Rattle.px_proof.proofs.checker.uses_clause.Goals as goal

pub is_literal_at-requires : goal.is_literal_at-requires
is_literal_at-requires c =
    plain_lits c.args.arena.now c.args.number c.args.theta.now c.lits.result.now c.lits.ensures.arena
    (omega (arith, c.if-number-count.false, c.count.ensures.count))
    (c.if-theta-variable_count.false ∙ c.variable_count.ensures.value no_clause) (c.lits.ensures.value no_clause)

pub returns-then-are_choices : goal.returns-then-are_choices
returns-then-are_choices c =
    uses_exact (rules_of c.args.basis.now).IsChoice c.args.arena.now c.args.lit.now c.args.number c.args.theta.now c.args.place
    c.is_literal_at.result c.lits.result.now
    (omega (arith, c.if-number-count.false, c.count.ensures.count)) (c.if-theta-variable_count.false ∙ c.variable_count.ensures.value no_clause)
    (c.are_choices.ensures.0 c.if-are_choices.true) (c.lits.ensures.value no_clause)
    c.is_literal_at.ensures
