use Rattle.std.proofs.Common.{ℕ, sym, subst}
use Rattle.std.specs.Prelude.{◌↔◌, List, All, Contains}
use Rattle.px_prover.proofs.PatternLists.{patterns-are}
use Rattle.px_prover.specs.PatternLists.{lists_of}
use Rattle.px_prover.specs.declared.pattern.GapPattern.{GapPattern}
use Rattle.px_question.specs.Settings.{setting_of}
use Rattle.px_terms.specs.Sorts.{ObjectsFit}
use Rattle.px_terms.specs.declared.atom.Atom.{Atom}
use Rattle.px_gaps.specs.Closings.{IsChosenIn}
use Rattle.px_gaps.specs.Described.{IsPlainPattern}
use Rattle.px_diff.specs.Requests.{IsRelevantFor}
use Rattle.px_gaps.proofs.Describing.{patterns-plain, provable-ground, then-same}
use Rattle.px_base.proofs.Loops.{on_ok}
use Rattle.px_diff.proofs.Opening.{chosen-for, chosen-open}
use Rattle.px_diff.proofs.RestOpening.{stands-by}
use Rattle.px_diff.proofs.pushes.keep_open.Goals as goal

abbrev AreChoices : ℕ → List ℕ → List ℕ → List GapPattern → List (List ℕ) → List Atom → Type 0
AreChoices limit sorts wanted patterns choices provable =
    (objects : List ℕ) → Contains choices objects
    ↔ (IsChosenIn (lists_of limit patterns) provable objects × ObjectsFit sorts wanted objects)

pub choices_of-requires-clause-patterns : goal.choices_of-requires-clause-patterns
choices_of-requires-clause-patterns c =
    let problem = c.args.request.now.problem.now in
    let partial = c.args.partial.now in
    subst (All (IsPlainPattern problem.objects)) (sym c.deref.ensures.value)
    (patterns-plain problem c.requires.problem c.args.request.now.model.now.atoms c.requires.answer.0 partial.variable_count c.requires.answer.1
    c.args.answer.now.patterns.items c.requires.answer.2.all)

pub choices_of-requires-clause-provable : goal.choices_of-requires-clause-provable
choices_of-requires-clause-provable c =
    let problem = c.args.request.now.problem.now in
    let partial = c.args.partial.now in
    provable-ground problem c.requires.problem c.args.request.now.model.now.atoms c.requires.answer.0 partial.variable_count c.requires.answer.1
    c.args.answer.now.patterns.items c.args.answer.now.provable.atoms c.requires.answer.2

pub keep_choices-requires-clause-choices : goal.keep_choices-requires-clause-choices
keep_choices-requires-clause-choices c =
    let problem = c.args.request.now.problem.now in
    let partial = c.args.partial.now in
    let patterns = c.args.answer.now.patterns.items in
    let provable = c.args.answer.now.provable.atoms in
    let sorts = c.as_slice.result.now in
    let wanted = c.variable_sorts-sorts.result in
    let model = c.args.request.now.model.now.atoms in
    let choices_are =
    subst (λ (l : List (List ℕ)). AreChoices problem.objects sorts wanted patterns l provable) (sym c.deref-2.ensures.value)
    (subst (λ (ps : List GapPattern). AreChoices problem.objects sorts wanted ps c.in_ok-choices.choices.items provable)
    c.deref.ensures.value c.in_ok-choices.ensures) in
    let listed = patterns-are (setting_of problem model) c.requires.answer.0 partial.variable_count patterns c.requires.answer.2.all in
    chosen-for problem partial (lists_of problem.objects patterns) provable c.deref-2.result.now (ObjectsFit sorts wanted) choices_are
    (stands-by problem model c.requires.answer.0 partial (lists_of problem.objects patterns) listed)

pub returns : goal.returns
returns c =
    let problem = c.args.request.now.problem.now in
    let partial = c.args.partial.now in
    let patterns = c.args.answer.now.patterns.items in
    let provable = c.args.answer.now.provable.atoms in
    let model = c.args.request.now.model.now.atoms in
    let sorts = c.as_slice.result.now in
    let wanted = c.variable_sorts-sorts.result in
    let choices_are =
    subst (λ (l : List (List ℕ)). AreChoices problem.objects sorts wanted patterns l provable) (sym c.deref-2.ensures.value)
    (subst (λ (ps : List GapPattern). AreChoices problem.objects sorts wanted ps c.in_ok-choices.choices.items provable)
    c.deref.ensures.value c.in_ok-choices.ensures) in
    let listed = patterns-are (setting_of problem model) c.requires.answer.0 partial.variable_count patterns c.requires.answer.2.all in
    on_ok c.keep_choices.result
    (λ made inst. then-same (made inst) (chosen-open problem partial (lists_of problem.objects patterns) provable c.deref-2.result.now
    (ObjectsFit sorts wanted) choices_are
    (stands-by problem model c.requires.answer.0 partial (lists_of problem.objects patterns) listed) (IsRelevantFor c.args.request.now)
    (λ objects are relevant. subst (λ (l : List ℕ). ObjectsFit l wanted objects) (sym c.as_slice.ensures)
    (c.variable_sorts-sorts.ensures objects are relevant.is_entry.fits)) inst))
    c.keep_choices.ensures
