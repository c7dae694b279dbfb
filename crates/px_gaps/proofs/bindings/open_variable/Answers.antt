use Rattle.std.proofs.Common.{◌≡◌, ◌∙◌, ℕ, Some, List, ap, map, slice_get, subst}
use Rattle.std.specs.Prelude.{All, Contains}
use Rattle.px_terms.specs.Instances.{IsGround}
use Rattle.px_terms.specs.Language.{substitute}
use Rattle.px_terms.specs.Substitution.{substitute_atom}
use Rattle.px_terms.specs.declared.atom.Atom.{Atom}
use Rattle.px_terms.specs.declared.term.Term.{Term}
use Rattle.px_terms.specs.declared.term.Term.TheVariants.{Var}
use Rattle.px_gaps.proofs.Choosing.{no-variable, none-map, some-map, variable-open}
use Rattle.px_gaps.proofs.bindings.open_variable.Goals as goal

pub returns-clause-some : goal.returns-clause-some
returns-clause-some c =
    let terms = c.args.terms.now in
    let same : c.args-2.result.now ≡ map (substitute terms) c.args.atom.now.args =
    c.args-2.ensures.value ∙ ap (λ (a : Atom). a.args) c.apply-here.ensures in
    some-map c.first_variable.result (λ v. Contains c.args-2.result.now (Var v)) (λ v. slice_get terms v ≡ Some (Var v))
    (λ v has. variable-open c.requires.binding.0 terms c.requires.binding.1 c.args.atom.now.args c.requires.plain v
    (subst (λ (ts : List Term). Contains ts (Var v)) same has)) c.first_variable.ensures.some

pub returns-clause-none : goal.returns-clause-none
returns-clause-none c =
    let terms = c.args.terms.now in
    let same : c.args-2.result.now ≡ map (substitute terms) c.args.atom.now.args =
    c.args-2.ensures.value ∙ ap (λ (a : Atom). a.args) c.apply-here.ensures in
    none-map c.first_variable.result (All (λ t. (v : ℕ) → ¬ (t ≡ Var v)) c.args-2.result.now)
    (IsGround (substitute_atom terms c.args.atom.now))
    (λ none. no-variable c.requires.binding.0 terms c.requires.binding.1 c.args.atom.now.args c.requires.plain
    (subst (All (λ t. (v : ℕ) → ¬ (t ≡ Var v))) same none)) c.first_variable.ensures.none
