use Rattle.std.proofs.Common.{◌≡◌, ◌≤◌, arith, sym, false, [], subst, List, ℕ, map, ◌<◌}
use Rattle.std.specs.Prelude.{All}
use Rattle.px_terms.specs.Limits.{most_formula_variables}
use Rattle.px_ops.specs.Models.{IsModel}
use Rattle.px_proof.specs.Derivation.{derivations}
use Rattle.px_proof.specs.ProofTerm.{derivation_of}
use Rattle.px_proof.specs.declared.shape.Tick.{Tick}
use Rattle.px_prover.specs.Standing.{IsProperQuestion, ticks_in}
use Rattle.px_prover.proofs.Answering.{asked-of}
use Rattle.px_prover.proofs.Deciding.{decided-few, decided-unlimited, decided-none, decided-none_few, decided-none_unlimited, decided-limit}
use Rattle.px_prover.proofs.Moves.{opening-sound, opening-standing, sound-possible}
use Rattle.px_prover.proofs.Ranged.{answer-of_problem}
use Rattle.px_question.specs.Answers.{IsAnswer}
use Rattle.px_question.specs.Limits.{AreFewBefore, AreFewShapes, IsLimited}
use Rattle.px_question.specs.Settings.{setting_of}
use Rattle.px_terms.specs.Validity.{IsValid, IsAtomOf}
use Rattle.px_terms.specs.declared.atom.Atom.{Atom}
use Rattle.px_terms.specs.declared.problem.Problem.{Problem}
use Rattle.px_prover.proofs.first.prove.Goals as goal

asked_in : (problem : Problem) (listed atoms formula : List Atom) (variable_count : ℕ) → listed ≡ atoms → IsModel atoms → IsValid problem
    → All (IsAtomOf problem variable_count) formula → variable_count ≤ most_formula_variables → (0 < variable_count → 0 < problem.objects)
    → IsProperQuestion (setting_of problem listed) formula variable_count
asked_in problem listed atoms formula variable_count same model valid scope few some =
    asked-of problem listed formula variable_count valid (subst (λ (xs : List Atom). IsModel xs) (sym same) model) scope (omega (arith, few)) some

pub walk_to_finished-requires-clause-stands : goal.walk_to_finished-requires-clause-stands
walk_to_finished-requires-clause-stands c =
    let asked =
    asked_in c.args.problem.now c.atoms.result.now c.args.model.now.atoms c.args.formula.now c.args.variable_count c.atoms.ensures.value
    c.atoms.ensures.model c.requires.problem c.requires.formula c.requires.few_variables c.requires.objects in
    opening-standing false (setting_of c.args.problem.now c.atoms.result.now) c.args.formula.now c.args.variable_count c.in-Ok.state asked
    c.in-Ok.ensures

pub walk_to_finished-requires-clause-possible : goal.walk_to_finished-requires-clause-possible
walk_to_finished-requires-clause-possible c =
    let asked =
    asked_in c.args.problem.now c.atoms.result.now c.args.model.now.atoms c.args.formula.now c.args.variable_count c.atoms.ensures.value
    c.atoms.ensures.model c.requires.problem c.requires.formula c.requires.few_variables c.requires.objects in
    sound-possible false (setting_of c.args.problem.now c.atoms.result.now) c.args.formula.now c.args.variable_count [] c.in-Ok.state asked
    (opening-sound false (setting_of c.args.problem.now c.atoms.result.now) c.args.formula.now c.args.variable_count c.in-Ok.state
    c.in-Ok.ensures)

pub returns-in-Ok-answer-clause-of_problem : goal.returns-in-Ok-answer-clause-of_problem
returns-in-Ok-answer-clause-of_problem c =
    answer-of_problem c.args.problem.now c.atoms.result.now c.args.formula.now c.args.variable_count c.in-Ok-answer.answer.objects
    (map derivation_of c.in-Ok-answer.answer.proofs) c.requires.problem c.requires.formula c.in-Ok-answer.ensures

pub returns-in-Ok-answer-clause-few : goal.returns-in-Ok-answer-clause-few
returns-in-Ok-answer-clause-few c =
    let asked =
    asked_in c.args.problem.now c.atoms.result.now c.args.model.now.atoms c.args.formula.now c.args.variable_count c.atoms.ensures.value
    c.atoms.ensures.model c.requires.problem c.requires.formula c.requires.few_variables c.requires.objects in
    subst (λ (xs : List Atom). (shapes : List (List Tick))
    → ¬ IsLimited (setting_of c.args.problem.now xs) c.args.formula.now c.args.variable_count shapes) c.atoms.ensures.value
    (decided-unlimited (setting_of c.args.problem.now c.atoms.result.now) c.args.formula.now c.args.variable_count asked
    (ticks_in c.walk_to_finished.new.walk.choices)
    (rw c.in-Ok-Found.field-0-is at c.in-Ok-Found.ensures.end) c.in-Ok-answer.answer.objects
    (derivations (map derivation_of c.in-Ok-answer.answer.proofs)) c.in-Ok-answer.ensures)

pub returns-in-Ok-answer-clause-few_before : goal.returns-in-Ok-answer-clause-few_before
returns-in-Ok-answer-clause-few_before c =
    let asked =
    asked_in c.args.problem.now c.atoms.result.now c.args.model.now.atoms c.args.formula.now c.args.variable_count c.atoms.ensures.value
    c.atoms.ensures.model c.requires.problem c.requires.formula c.requires.few_variables c.requires.objects in
    subst (λ (xs : List Atom). AreFewBefore (setting_of c.args.problem.now xs) c.args.formula.now c.args.variable_count
    (derivations (map derivation_of c.in-Ok-answer.answer.proofs))) c.atoms.ensures.value
    (decided-few (setting_of c.args.problem.now c.atoms.result.now) c.args.formula.now c.args.variable_count asked
    (ticks_in c.walk_to_finished.new.walk.choices)
    (rw c.in-Ok-Found.field-0-is at c.in-Ok-Found.ensures.end) c.in-Ok-answer.answer.objects
    (derivations (map derivation_of c.in-Ok-answer.answer.proofs)) c.in-Ok-answer.ensures)

pub returns-in-Ok-NoMore-clause-none : goal.returns-in-Ok-NoMore-clause-none
returns-in-Ok-NoMore-clause-none c =
    let asked =
    asked_in c.args.problem.now c.atoms.result.now c.args.model.now.atoms c.args.formula.now c.args.variable_count c.atoms.ensures.value
    c.atoms.ensures.model c.requires.problem c.requires.formula c.requires.few_variables c.requires.objects in
    λ is. subst (λ (xs : List Atom). ¬ IsAnswer (setting_of c.args.problem.now xs) c.args.formula.now c.args.variable_count) c.atoms.ensures.value
    (decided-none (setting_of c.args.problem.now c.atoms.result.now) c.args.formula.now c.args.variable_count asked
    (rw c.in-Ok-NoMore.field-0-is at c.in-Ok-NoMore.ensures.end))

pub returns-in-Ok-NoMore-clause-none_few : goal.returns-in-Ok-NoMore-clause-none_few
returns-in-Ok-NoMore-clause-none_few c =
    let asked =
    asked_in c.args.problem.now c.atoms.result.now c.args.model.now.atoms c.args.formula.now c.args.variable_count c.atoms.ensures.value
    c.atoms.ensures.model c.requires.problem c.requires.formula c.requires.few_variables c.requires.objects in
    λ is. subst (λ (xs : List Atom). (shapes : List (List Tick))
    → ¬ IsLimited (setting_of c.args.problem.now xs) c.args.formula.now c.args.variable_count shapes) c.atoms.ensures.value
    (decided-none_unlimited (setting_of c.args.problem.now c.atoms.result.now) c.args.formula.now c.args.variable_count asked
    (rw c.in-Ok-NoMore.field-0-is at c.in-Ok-NoMore.ensures.end))

pub returns-in-Ok-NoMore-clause-few_shapes : goal.returns-in-Ok-NoMore-clause-few_shapes
returns-in-Ok-NoMore-clause-few_shapes c =
    let asked =
    asked_in c.args.problem.now c.atoms.result.now c.args.model.now.atoms c.args.formula.now c.args.variable_count c.atoms.ensures.value
    c.atoms.ensures.model c.requires.problem c.requires.formula c.requires.few_variables c.requires.objects in
    λ is. subst (λ (xs : List Atom). AreFewShapes (setting_of c.args.problem.now xs) c.args.formula.now c.args.variable_count) c.atoms.ensures.value
    (decided-none_few (setting_of c.args.problem.now c.atoms.result.now) c.args.formula.now c.args.variable_count asked
    (rw c.in-Ok-NoMore.field-0-is at c.in-Ok-NoMore.ensures.end))

pub returns-in-Ok-Limit-clause-limited : goal.returns-in-Ok-Limit-clause-limited
returns-in-Ok-Limit-clause-limited c =
    let asked =
    asked_in c.args.problem.now c.atoms.result.now c.args.model.now.atoms c.args.formula.now c.args.variable_count c.atoms.ensures.value
    c.atoms.ensures.model c.requires.problem c.requires.formula c.requires.few_variables c.requires.objects in
    let h = rw c.in-Ok-Limit.field-0-is at c.in-Ok-Limit.ensures.end in
    subst (λ (xs : List Atom). IsLimited (setting_of c.args.problem.now xs) c.args.formula.now c.args.variable_count c.in-Ok-Limit.shapes.items)
    c.atoms.ensures.value
    (decided-limit (setting_of c.args.problem.now c.atoms.result.now) c.args.formula.now c.args.variable_count asked c.in-Ok-Limit.shapes.items h.0
    h.1 h.2)
