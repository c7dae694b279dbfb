use Rattle.std.proofs.Common.{◌≡◌, ℕ, List, subst, sym}
use Rattle.std.specs.Prelude.{◌↔◌, All, Contains}
use Rattle.px_proof.specs.declared.shape.Tick.{Tick}
use Rattle.px_question.specs.Answers.{IsAnswer}
use Rattle.px_question.specs.Gaps.{IsGapOf, MeetsGapLimit}
use Rattle.px_question.proofs.DecidedLaws.{questions-are_decided}
use Rattle.px_question.specs.Settings.{setting_of}
use Rattle.px_terms.specs.Validity.{IsAtomOf}
use Rattle.px_terms.specs.declared.atom.Atom.{Atom}
use Rattle.px_gaps.proofs.differences.gaps.Goals as goal

pub gaps_by_atoms-requires-clause-formula : goal.gaps_by_atoms-requires-clause-formula
gaps_by_atoms-requires-clause-formula c =
    subst (λ (n : ℕ). All (IsAtomOf c.args.problem.now n) c.args.formula.now) (c.asks_apart.ensures c.if-not-asks_apart.false)
    c.requires.formula

pub gaps_by_atoms-requires-clause-no_answer : goal.gaps_by_atoms-requires-clause-no_answer
gaps_by_atoms-requires-clause-no_answer c =
    subst (λ (n : ℕ). ¬ IsAnswer (setting_of c.args.problem.now c.args.model.now.atoms) c.args.formula.now n)
    (c.asks_apart.ensures c.if-not-asks_apart.false) c.requires.no_answer

pub returns-in_ok-gaps-in-Ok-Some-clause-exact : goal.returns-in_ok-gaps-in-Ok-Some-clause-exact
returns-in_ok-gaps-in-Ok-Some-clause-exact c = λ atom.
    let s = setting_of c.args.problem.now c.args.model.now.atoms in
    let known = rw c.in-Ok-Some.field-0-is at c.in-Ok-Some.ensures in
    let none : c.args.variable_count ≡ 0 = c.asks_apart.ensures c.if-not-asks_apart.false in
    subst (λ (n : ℕ). Contains c.in_ok-gaps-in-Ok-Some.gaps.items atom ↔ IsGapOf s c.args.formula.now n atom) (sym none)
    (subst (λ (l : List Atom). Contains l atom ↔ IsGapOf s c.args.formula.now 0 atom) (sym c.in_ok-gaps-in-Ok-Some.ensures.same) (known.exact atom))

pub returns-in_ok-gaps-in-Ok-Some-clause-unlimited : goal.returns-in_ok-gaps-in-Ok-Some-clause-unlimited
returns-in_ok-gaps-in-Ok-Some-clause-unlimited c =
    let s = setting_of c.args.problem.now c.args.model.now.atoms in
    let known = rw c.in-Ok-Some.field-0-is at c.in-Ok-Some.ensures in
    subst (λ (n : ℕ). (kept : List Atom) (shapes : List (List Tick)) → ¬ MeetsGapLimit s c.args.formula.now n kept shapes)
    (sym (c.asks_apart.ensures c.if-not-asks_apart.false)) known.unlimited

pub returns-in_ok-gaps-in-Ok-Some-clause-below : goal.returns-in_ok-gaps-in-Ok-Some-clause-below
returns-in_ok-gaps-in-Ok-Some-clause-below c =
    let known = rw c.in-Ok-Some.field-0-is at c.in-Ok-Some.ensures in
    questions-are_decided.gaps_below (setting_of c.args.problem.now c.args.model.now.atoms) c.args.formula.now c.args.variable_count
    (subst (λ (n : ℕ). (kept : List Atom) (shapes : List (List Tick))
    → ¬ MeetsGapLimit (setting_of c.args.problem.now c.args.model.now.atoms) c.args.formula.now n kept shapes)
    (sym (c.asks_apart.ensures c.if-not-asks_apart.false)) known.unlimited)
