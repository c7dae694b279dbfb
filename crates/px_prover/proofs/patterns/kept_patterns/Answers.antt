use Rattle.std.proofs.Common.{◌∷◌, ◌++◌, ◌≡◌, ◌∙◌, ◌≤◌, ◌<◌, ap, arith, refl, sym, [], subst, List, ℕ, length}
use Rattle.std.specs.Prelude.{All, cond}
use Rattle.px_prover.specs.Limits.{most_gap_variables}
use Rattle.px_ops.specs.Models.{IsModel}
use Rattle.px_prover.specs.Standing.{IsProperQuestion}
use Rattle.px_prover.proofs.Answering.{asked-of}
use Rattle.px_prover.proofs.GapDeciding.{decided-without_few, empty-test, filled-test}
use Rattle.px_prover.proofs.PatternDeciding.{decided-one}
use Rattle.px_prover.proofs.Keeping.{few-kept}
use Rattle.px_prover.specs.Patterns.{AreKeptPatterns}
use Rattle.px_terms.specs.Substitution.{variables_from}
use Rattle.px_prover.specs.declared.pattern.GapPattern.{GapPattern}
use Rattle.px_question.specs.Limits.{AreFewGapShapes}
use Rattle.px_question.specs.Settings.{setting_of}
use Rattle.px_terms.specs.Validity.{IsValid, IsAtomOf}
use Rattle.px_terms.specs.declared.atom.Atom.{Atom}
use Rattle.px_terms.specs.declared.problem.Problem.{Problem}
use Rattle.px_prover.proofs.patterns.kept_patterns.Goals as goal

asked_in : (problem : Problem) (listed atoms formula : List Atom) (variable_count : ℕ) → listed ≡ atoms → IsModel atoms → IsValid problem
    → All (IsAtomOf problem variable_count) formula → variable_count ≤ most_gap_variables → (0 < variable_count → 0 < problem.objects)
    → IsProperQuestion (setting_of problem listed) formula variable_count
asked_in problem listed atoms formula variable_count same model valid scope few some =
    asked-of problem listed formula variable_count valid (subst (λ (xs : List Atom). IsModel xs) (sym same) model) scope few some

pub returns-in-Ok-push-clause-patterns : goal.returns-in-Ok-push-clause-patterns
returns-in-Ok-push-clause-patterns c =
    let asked =
    asked_in c.args.problem.now c.atoms-facts.result.now c.args.model.now.atoms c.args.formula.now c.args.variable_count
    c.atoms-facts.ensures.value c.atoms-facts.ensures.model c.requires.problem c.requires.formula c.requires.few_variables
    c.requires.some_object in
    let empty : length c.args.formula.now ≡ 0 = empty-test c.args.formula.now c.is_empty.result c.is_empty.ensures c.if-is_empty.true in
    let s = setting_of c.args.problem.now c.atoms-facts.result.now in
    let kept = cond c.args.with_terms c.args.variable_count 0 in
    let made : c.push.new.items.items ≡ c.in-Ok.pattern ∷ [] =
    c.in-Ok-push.ensures.ok ∙ ap (λ (xs : List GapPattern). xs ++ c.in-Ok.pattern ∷ []) c.new-found.ensures.items in
    subst (λ (xs : List Atom). AreKeptPatterns kept (setting_of c.args.problem.now xs) c.args.formula.now c.args.variable_count c.push.new.items.items)
    c.atoms-facts.ensures.value
    (decided-one kept s c.args.formula.now c.args.variable_count asked (few-kept c.args.with_terms c.args.variable_count) empty c.in-Ok.pattern
    c.push.new.items.items c.in-Ok.ensures.variable_count_is (c.in-Ok.ensures.terms_are ∙ ap (variables_from 0) c.kept_terms.ensures)
    c.in-Ok.ensures.atoms_are made)

pub returns-in-Ok-push-clause-few : goal.returns-in-Ok-push-clause-few
returns-in-Ok-push-clause-few c =
    let asked =
    asked_in c.args.problem.now c.atoms-facts.result.now c.args.model.now.atoms c.args.formula.now c.args.variable_count
    c.atoms-facts.ensures.value c.atoms-facts.ensures.model c.requires.problem c.requires.formula c.requires.few_variables
    c.requires.some_object in
    let empty : length c.args.formula.now ≡ 0 = empty-test c.args.formula.now c.is_empty.result c.is_empty.ensures c.if-is_empty.true in
    subst (λ (xs : List Atom). AreFewGapShapes (setting_of c.args.problem.now xs) c.args.formula.now c.args.variable_count)
    c.atoms-facts.ensures.value
    (decided-without_few (setting_of c.args.problem.now c.atoms-facts.result.now) c.args.formula.now c.args.variable_count asked empty
    (omega (arith, c.requires.problem.shapes.0)))

pub gathered-requires-clause-asked : goal.gathered-requires-clause-asked
gathered-requires-clause-asked c =
    let asked =
    asked_in c.args.problem.now c.atoms-facts.result.now c.args.model.now.atoms c.args.formula.now c.args.variable_count
    c.atoms-facts.ensures.value c.atoms-facts.ensures.model c.requires.problem c.requires.formula c.requires.few_variables
    c.requires.some_object in
    record {
      proper = asked;
      some_atom = filled-test c.args.formula.now c.is_empty.result c.is_empty.ensures c.if-is_empty.false;
      some_shape = omega (arith, c.requires.problem.shapes.0);
    }
