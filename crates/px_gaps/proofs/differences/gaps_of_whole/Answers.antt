use Rattle.std.proofs.Common.{List, sym, subst}
use Rattle.std.specs.Prelude.{◌↔◌, All, Contains}
use Rattle.px_prover.specs.PatternLists.{lists_of}
use Rattle.px_prover.specs.declared.pattern.GapPattern.{GapPattern}
use Rattle.px_question.specs.Gaps.{IsGapOf}
use Rattle.px_question.proofs.DecidedLaws.{questions-are_decided}
use Rattle.px_question.specs.Settings.{setting_of}
use Rattle.px_terms.specs.declared.atom.Atom.{Atom}
use Rattle.px_gaps.specs.Closings.{IsMissingIn}
use Rattle.px_gaps.specs.Described.{IsPlainPattern}
use Rattle.px_gaps.proofs.Describing.{closings-ground, closings-plain}
use Rattle.px_gaps.proofs.GapLemmas.{missing-is_gap, not_limited}
use Rattle.px_gaps.proofs.differences.gaps_of_whole.Goals as goal

pub missing_by-requires-clause-patterns : goal.missing_by-requires-clause-patterns
missing_by-requires-clause-patterns c =
    subst (All (IsPlainPattern c.args.problem.now.objects)) (sym c.deref.ensures.value)
    (closings-plain c.args.problem.now c.requires.problem c.args.model.now.atoms c.args.formula.now c.args.variable_count c.requires.formula
    c.in_ok-answer.answer.patterns.items c.in_ok-answer.ensures.answer.all)

pub missing_by-requires-clause-provable : goal.missing_by-requires-clause-provable
missing_by-requires-clause-provable c =
    closings-ground c.args.problem.now c.requires.problem c.args.model.now.atoms c.args.formula.now c.args.variable_count c.requires.formula
    c.in_ok-answer.answer.patterns.items c.in_ok-answer.ensures.answer.all c.in_ok-answer.answer.provable.atoms c.in_ok-answer.ensures.answer

pub returns-clause-exact : goal.returns-clause-exact
returns-clause-exact c = λ atom.
    let s = setting_of c.args.problem.now c.args.model.now.atoms in
    let provable = c.in_ok-answer.answer.provable.atoms in
    let is =
    missing-is_gap s c.args.formula.now c.args.variable_count c.in_ok-answer.answer.patterns.items provable c.in_ok-answer.ensures.answer
    c.requires.no_answer atom in
    let missing =
    subst (λ (ps : List GapPattern). Contains c.in_ok-missing.missing.atoms atom
    ↔ IsMissingIn (lists_of c.args.problem.now.objects ps) provable atom) c.deref.ensures.value (c.in_ok-missing.ensures atom) in
    subst (λ (l : List Atom). Contains l atom ↔ IsGapOf s c.args.formula.now c.args.variable_count atom) (sym c.in_ok-gaps.ensures.same)
    (λ h. is.0 (missing.0 h), λ g. missing.1 (is.1 g))

pub returns-clause-unlimited : goal.returns-clause-unlimited
returns-clause-unlimited c =
    not_limited (setting_of c.args.problem.now c.args.model.now.atoms) c.args.formula.now c.args.variable_count c.in_ok-answer.answer.patterns.items
    c.in_ok-answer.answer.provable.atoms c.in_ok-answer.ensures.answer

pub returns-clause-below : goal.returns-clause-below
returns-clause-below c =
    questions-are_decided.gaps_below (setting_of c.args.problem.now c.args.model.now.atoms) c.args.formula.now c.args.variable_count
    (returns-clause-unlimited c)
