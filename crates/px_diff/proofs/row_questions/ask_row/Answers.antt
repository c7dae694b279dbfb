use Rattle.std.proofs.Common.{◌≡◌, List, sym, subst}
use Rattle.std.specs.Prelude.{◌↔◌, Contains}
use Rattle.px_prover.specs.declared.pattern.GapPattern.{GapPattern}
use Rattle.px_terms.specs.declared.atom.Atom.{Atom}
use Rattle.px_gaps.specs.Closings.{OneOf}
use Rattle.px_gaps.specs.Forms.{form_by}
use Rattle.px_gaps.proofs.Describing.{forms-are}
use Rattle.px_diff.proofs.RowAnswerLemmas.{row-answer}
use Rattle.px_diff.proofs.row_questions.ask_row.Goals as goal

abbrev AreForms : List GapPattern → List Atom → Type 0
AreForms patterns forms =
    (form : Atom) → Contains forms form ↔ OneOf patterns (λ (pattern : GapPattern). OneOf pattern.atoms (λ atom. form_by atom ≡ form))

pub have_few-requires-clause-forms : goal.have_few-requires-clause-forms
have_few-requires-clause-forms c =
    let are : AreForms c.in-Ok.patterns.items c.deref-in-Ok.result.now =
    subst (AreForms c.in-Ok.patterns.items) (sym c.deref-in-Ok.ensures.value)
    (subst (λ (ps : List GapPattern). AreForms ps c.in_ok-forms-in-Ok.forms.items) c.deref.ensures.value c.in_ok-forms-in-Ok.ensures) in
    forms-are c.args.problem.now c.requires.problem c.args.model.now.atoms c.args.formula.now c.args.variable_count c.requires.formula
    c.in-Ok.patterns.items c.in-Ok.ensures.patterns c.deref-in-Ok.result.now are

pub returns-then-branch : goal.returns-then-branch
returns-then-branch c =
    let are : AreForms c.in-Ok.patterns.items c.deref-in-Ok.result.now =
    subst (AreForms c.in-Ok.patterns.items) (sym c.deref-in-Ok.ensures.value)
    (subst (λ (ps : List GapPattern). AreForms ps c.in_ok-forms-in-Ok.forms.items) c.deref.ensures.value c.in_ok-forms-in-Ok.ensures) in
    row-answer c.args.problem.now c.requires.problem c.args.model.now.atoms c.args.formula.now c.args.variable_count c.requires.formula
    c.in-Ok.patterns.items c.in-Ok.ensures.patterns c.deref-in-Ok.result.now are c.in-Ok.ensures.few
    (c.in_ok-have_few-in-Ok.ensures c.if-branch.true)
