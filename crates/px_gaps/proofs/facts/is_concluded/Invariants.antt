use Rattle.px_terms.specs.declared.clause.Clause.{Clause}
use Rattle.px_gaps.specs.Concluding.{Asserts}
use Rattle.px_base.proofs.Loops.{AllBefore}
use Rattle.px_gaps.proofs.facts.is_concluded.Given as goal

abbrev pub invariant-loop-number : goal.invariant-loop-number
invariant-loop-number l = AllBefore (λ (clause : Clause). ¬ Asserts l.pred clause.lits) l.problem.axioms l.number
