use Rattle.std.proofs.Common.{◌≡◌, ◌∙◌, List, length, sym, subst, arith}
use Rattle.std.specs.Prelude.{All}
use Rattle.px_prover.specs.declared.pattern.GapPattern.{GapPattern}
use Rattle.px_question.specs.Settings.{setting_of}
use Rattle.px_terms.specs.Validity.{IsAtomOf}
use Rattle.px_terms.specs.declared.atom.Atom.{Atom}
use Rattle.px_terms.specs.declared.term.Term.{Term}
use Rattle.px_gaps.specs.Closings.{OneOf}
use Rattle.px_entries.specs.Parameters.{FitsTerms}
use Rattle.px_diff.specs.RowQuestions.{IsRowAnswer, Widens}
use Rattle.px_diff.proofs.FittingLemmas.{some_found}
use Rattle.px_diff.proofs.MacroLemmas.{marks-plain}
use Rattle.px_diff.proofs.RowAnswerLemmas.{instances-known, patterns-long, row-formula-of, row-variables}
use Rattle.px_diff.proofs.row_questions.ask_choices.Goals as goal

pub row_formula-requires : goal.row_formula-requires
row_formula-requires c =
    record {
      marks =
          row-variables c.args.question.now.problem.now c.args.question.now.table.now c.args.terms.now c.requires.asked.is_table
          c.requires.asked.long;
    }

pub ask_row-requires-clause-formula : goal.ask_row-requires-clause-formula
ask_row-requires-clause-formula c =
    subst (All (IsAtomOf c.args.question.now.problem.now c.args.question.now.table.now.params))
    (sym (c.deref.ensures.value ∙ c.in_ok-formula.ensures))
    (row-formula-of c.args.question.now.problem.now c.args.question.now.table.now c.args.terms.now c.requires.asked.is_table
    c.requires.asked.long c.requires.asked.binding c.args.question.now.row)

pub ask_row-requires-clause-some_object : goal.ask_row-requires-clause-some_object
ask_row-requires-clause-some_object c = λ some. c.requires.asked.binding.some_object (omega (arith, some, c.requires.asked.long))

pub push_offers-requires-clause-long : goal.push_offers-requires-clause-long
push_offers-requires-clause-long c =
    let s = setting_of c.args.question.now.problem.now c.args.question.now.model.now.atoms in
    let answer =
    some_found (λ patterns. IsRowAnswer s c.deref.result.now c.args.question.now.table.now.params patterns.items) c.in_ok-answer.answer
    c.in-Some.patterns c.in-Some.is c.in_ok-answer.ensures in
    subst (All (λ (pattern : GapPattern). length pattern.terms ≡ length c.args.terms.now)) (sym c.as_slice.ensures.value)
    (subst (λ (n : _). All (λ (pattern : GapPattern). length pattern.terms ≡ n) c.in-Some.patterns.items) (sym c.requires.asked.long)
    (patterns-long s c.deref.result.now c.args.question.now.table.now.params c.in-Some.patterns.items answer.all))

pub push_offers-requires-clause-choices : goal.push_offers-requires-clause-choices
push_offers-requires-clause-choices c =
    subst (λ (n : _). All (λ (choice : List Term). length choice ≡ n) c.args.choices.now.items)
    (sym c.requires.asked.long) c.requires.choices

pub returns-in-Some-clause-widens : goal.returns-in-Some-clause-widens
returns-in-Some-clause-widens c =
    subst (λ (n : _). Widens n c.args.choices.now.items c.push_offers.new.choices.items) c.requires.asked.long
    c.in_ok-push_offers-in-Some.ensures.widens

pub returns-in-Some-clause-known : goal.returns-in-Some-clause-known
returns-in-Some-clause-known c = λ said.
    let s = setting_of c.args.question.now.problem.now c.args.question.now.model.now.atoms in
    let table = c.args.question.now.table.now in
    let terms = c.args.terms.now in
    let answer =
    some_found (λ patterns. IsRowAnswer s c.deref.result.now table.params patterns.items) c.in_ok-answer.answer c.in-Some.patterns
    c.in-Some.is c.in_ok-answer.ensures in
    let here =
    subst (λ (l : List Atom). IsRowAnswer s l table.params c.in-Some.patterns.items)
    (c.deref.ensures.value ∙ c.in_ok-formula.ensures) answer in
    instances-known s table terms c.requires.asked.binding c.requires.asked.long
    (marks-plain c.args.question.now.problem.now table terms c.requires.asked.is_table c.requires.asked.long) c.args.question.now.row
    c.in-Some.patterns.items here c.push_offers.new.choices.items
    (λ sigma extends one. c.in_ok-push_offers-in-Some.ensures.covers sigma extends
    (subst (λ (ps : List GapPattern). OneOf ps (λ (pattern : GapPattern). FitsTerms pattern.terms sigma))
    (sym c.as_slice.ensures.value) one))
