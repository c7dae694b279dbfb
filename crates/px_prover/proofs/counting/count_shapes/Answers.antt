use Rattle.std.proofs.Common.{◌≡◌, ◌<◌, ◌≤◌, [], List, ℕ, sym, subst, true}
use Rattle.std.specs.Prelude.{All}
use Rattle.px_ops.specs.Models.{IsModel}
use Rattle.px_prover.proofs.Answering.{asked-of}
use Rattle.px_prover.proofs.Counted.{counted-shapes}
use Rattle.px_prover.proofs.Moves.{opening-sound, opening-standing, sound-possible}
use Rattle.px_prover.specs.Counting.{CountsShapes}
use Rattle.px_prover.specs.Limits.{most_gap_variables}
use Rattle.px_prover.specs.Standing.{IsProperQuestion}
use Rattle.px_question.specs.Settings.{setting_of}
use Rattle.px_terms.specs.Validity.{IsValid, IsAtomOf}
use Rattle.px_terms.specs.declared.atom.Atom.{Atom}
use Rattle.px_terms.specs.declared.problem.Problem.{Problem}
use Rattle.px_prover.proofs.counting.count_shapes.Goals as goal

asked_in : (problem : Problem) (listed atoms formula : List Atom) (variable_count : ℕ) → listed ≡ atoms → IsModel atoms → IsValid problem
    → All (IsAtomOf problem variable_count) formula → variable_count ≤ most_gap_variables → (0 < variable_count → 0 < problem.objects)
    → IsProperQuestion (setting_of problem listed) formula variable_count
asked_in problem listed atoms formula variable_count same model valid scope few some =
    asked-of problem listed formula variable_count valid (subst (λ (xs : List Atom). IsModel xs) (sym same) model) scope few some

pub walk_to_end-requires-clause-stands : goal.walk_to_end-requires-clause-stands
walk_to_end-requires-clause-stands c =
    opening-standing true (setting_of c.args.problem.now c.atoms.result.now) c.args.formula.now c.args.variable_count c.in_ok-state.state
    (asked_in c.args.problem.now c.atoms.result.now c.args.model.now.atoms c.args.formula.now c.args.variable_count c.atoms.ensures.value
    c.atoms.ensures.model c.requires.problem c.requires.formula c.requires.few_variables c.requires.some_object) c.in_ok-state.ensures

pub walk_to_end-requires-clause-possible : goal.walk_to_end-requires-clause-possible
walk_to_end-requires-clause-possible c =
    sound-possible true (setting_of c.args.problem.now c.atoms.result.now) c.args.formula.now c.args.variable_count [] c.in_ok-state.state
    (asked_in c.args.problem.now c.atoms.result.now c.args.model.now.atoms c.args.formula.now c.args.variable_count c.atoms.ensures.value
    c.atoms.ensures.model c.requires.problem c.requires.formula c.requires.few_variables c.requires.some_object)
    (opening-sound true (setting_of c.args.problem.now c.atoms.result.now) c.args.formula.now c.args.variable_count c.in_ok-state.state
    c.in_ok-state.ensures)

pub returns-in-Ok-None : goal.returns-in-Ok-None
returns-in-Ok-None c =
    let asked =
    asked_in c.args.problem.now c.atoms.result.now c.args.model.now.atoms c.args.formula.now c.args.variable_count c.atoms.ensures.value
    c.atoms.ensures.model c.requires.problem c.requires.formula c.requires.few_variables c.requires.some_object in
    let h = rw c.in-Ok-None.field-0-is at c.in-Ok-None.ensures.all in
    subst (λ (xs : List Atom). CountsShapes (setting_of c.args.problem.now xs) c.args.formula.now c.args.variable_count c.walk_to_end.new.gather)
    c.atoms.ensures.value
    (counted-shapes (setting_of c.args.problem.now c.atoms.result.now) c.args.formula.now c.args.variable_count asked _ h.0
    c.walk_to_end.new.gather h.1 h.2.unfinished h.2.finished)
