use Rattle.std.proofs.Common.{◌≡◌, subst}
use Rattle.px_terms.specs.declared.term.Term.{Term}
use Rattle.px_terms.specs.Language.{substitute}
use Rattle.px_question.specs.Answers.{object_terms}
use Rattle.px_entries.proofs.matching.with_known.Goals as goal

pub returns-in-Var-clause-stands : goal.returns-in-Var-clause-stands
returns-in-Var-clause-stands c = λ full objects fills is.
    c.with_object.ensures.stands full objects fills
    (subst (λ (t : Term). substitute (object_terms objects) t ≡ c.args.wanted) c.in-Var.is is)

pub returns-in-Var-clause-only : goal.returns-in-Var-clause-only
returns-in-Var-clause-only c = rw c.in-Var.is c.with_object.ensures.only
