use Rattle.std.proofs.Common.{◌≡◌, ◌∙◌, length, subst}
use Rattle.px_question.specs.Answers.{object_terms}
use Rattle.px_terms.specs.Language.{IsPlainBelow, substitute}
use Rattle.px_terms.specs.OrderLaws.{term_eq-decides}
use Rattle.px_terms.specs.declared.term.Term.{Term}
use Rattle.px_entries.proofs.MatchLemmas.{closed-is}
use Rattle.px_entries.proofs.macro_matching.fit_term.Goals as goal

pub fit_parameter-requires-clause-term : goal.fit_parameter-requires-clause-term
fit_parameter-requires-clause-term c = subst (IsPlainBelow (length c.args.terms.now)) c.in-Var.is c.requires.term

pub returns-in-Var-clause-fits : goal.returns-in-Var-clause-fits
returns-in-Var-clause-fits c =
    λ sigma extends is. c.fit_parameter.ensures.fits sigma extends
    (subst (λ (t : Term). substitute (object_terms sigma) t ≡ c.args.wanted) c.in-Var.is is)

pub returns-in-Obj-clause-fits : goal.returns-in-Obj-clause-fits
returns-in-Obj-clause-fits c = λ sigma extends is. (
  c.eq.ensures ∙ (term_eq-decides c.args.term c.args.wanted).1 (closed-is (object_terms sigma) c.args.term c.args.wanted c.in-Obj.is is),
  extends,
)
