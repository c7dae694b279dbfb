use Rattle.std.proofs.Common.{List, sym, subst}
use Rattle.std.proofs.lemmas.Result.{err_from_is_err_and}
use Rattle.px_prover.specs.declared.pattern.GapPattern.{GapPattern}
use Rattle.px_question.specs.Gaps.{MeetsGapLimit}
use Rattle.px_question.specs.Settings.{setting_of}
use Rattle.px_gaps.specs.Forms.{IsStoodFor}
use Rattle.px_gaps.specs.Provable.{LimitsOne}
use Rattle.px_gaps.proofs.Describing.{AreForms, answer-of, forms-are, limit-of}
use Rattle.px_gaps.proofs.Limits.{limit_weaker}
use Rattle.px_gaps.proofs.gap_answer.ask_gaps.Goals as goal

pub provable_of-requires-clause-forms : goal.provable_of-requires-clause-forms
provable_of-requires-clause-forms c =
    let are : AreForms c.in_ok-patterns.patterns.items c.deref-2.result.now =
    subst (AreForms c.in_ok-patterns.patterns.items) (sym c.deref-2.ensures.value)
    (subst (λ (ps : List GapPattern). AreForms ps c.in_ok-forms.forms.items) c.deref.ensures.value c.in_ok-forms.ensures) in
    forms-are c.args.problem.now c.requires.problem c.args.model.now.atoms c.args.formula.now c.args.variable_count c.requires.formula
    c.in_ok-patterns.patterns.items c.in_ok-patterns.ensures.patterns c.deref-2.result.now are

pub returns-in_err-provable-clause-limited : goal.returns-in_err-provable-clause-limited
returns-in_err-provable-clause-limited c =
    let s = setting_of c.args.problem.now c.args.model.now.atoms in
    let are : AreForms c.in_ok-patterns.patterns.items c.deref-2.result.now =
    subst (AreForms c.in_ok-patterns.patterns.items) (sym c.deref-2.ensures.value)
    (subst (λ (ps : List GapPattern). AreForms ps c.in_ok-forms.forms.items) c.deref.ensures.value c.in_ok-forms.ensures) in
    let p = err_from_is_err_and c.from_residual-in_err-provable.result c.from_residual-in_err-provable.ensures.1 in
    rw (p.1, p.2) (limit_weaker (LimitsOne s (IsStoodFor c.args.problem.now.objects c.deref-2.result.now))
    (MeetsGapLimit s c.args.formula.now c.args.variable_count) _
    (limit-of c.args.problem.now c.requires.problem c.args.model.now.atoms c.args.formula.now c.args.variable_count c.requires.formula
    c.in_ok-patterns.patterns.items c.in_ok-patterns.ensures.patterns c.deref-2.result.now are) c.in_err-provable.ensures.limited)

pub returns-clause-answer : goal.returns-clause-answer
returns-clause-answer c =
    let are : AreForms c.in_ok-patterns.patterns.items c.deref-2.result.now =
    subst (AreForms c.in_ok-patterns.patterns.items) (sym c.deref-2.ensures.value)
    (subst (λ (ps : List GapPattern). AreForms ps c.in_ok-forms.forms.items) c.deref.ensures.value c.in_ok-forms.ensures) in
    answer-of c.args.problem.now c.requires.problem c.args.model.now.atoms c.args.formula.now c.args.variable_count c.requires.formula
    c.in_ok-patterns.patterns.items c.in_ok-patterns.ensures.patterns c.deref-2.result.now are c.in_ok-patterns.ensures.few
    c.in_ok-provable.provable.atoms c.in_ok-provable.ensures.found
