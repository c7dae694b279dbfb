use Rattle.px_terms.specs.declared.clause.Clause.{Clause}
use Rattle.px_entries.specs.Plain.{AreAboutAddable}
use Rattle.px_base.proofs.Loops.{AllBefore}
use Rattle.px_entries.proofs.plain.axioms_mention_addable.Given as goal

abbrev pub invariant-loop-number : goal.invariant-loop-number
invariant-loop-number l = AllBefore (λ (clause : Clause). ¬ AreAboutAddable l.problem clause.lits) l.problem.axioms l.number
