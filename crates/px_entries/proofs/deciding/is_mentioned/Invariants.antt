use Rattle.std.specs.Prelude.{◌≡◌, Any}
use Rattle.px_terms.specs.declared.clause.Clause.{Clause}
use Rattle.px_terms.specs.declared.clause.Lit.{Lit}
use Rattle.px_base.proofs.Loops.{AllBefore}
use Rattle.px_entries.proofs.deciding.is_mentioned.Given as goal

abbrev pub invariant-loop-number : goal.invariant-loop-number
invariant-loop-number l =
    AllBefore (λ (clause : Clause). ¬ Any (λ (lit : Lit). lit.atom.pred ≡ l.pred) clause.lits) l.problem.axioms l.number
