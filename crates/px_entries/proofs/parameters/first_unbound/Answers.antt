use Rattle.std.proofs.Common.{◌≡◌, ℕ, Some, slice_get}
use Rattle.std.specs.Prelude.{All, Contains}
use Rattle.px_terms.specs.Language.{IsObject}
use Rattle.px_terms.specs.declared.term.Term.{Term}
use Rattle.px_terms.specs.declared.term.Term.TheVariants.{Var}
use Rattle.px_gaps.proofs.Choosing.{none-map, some-map}
use Rattle.px_entries.proofs.ParameterLemmas.{all-objects, variable-there}
use Rattle.px_entries.proofs.parameters.first_unbound.Goals as goal

pub returns-clause-some : goal.returns-clause-some
returns-clause-some c =
    let terms = c.args.terms.now in
    some-map c.first_variable.result (λ (v : ℕ). Contains terms (Var v)) (λ (v : ℕ). slice_get terms v ≡ Some (Var v))
    (λ v has. variable-there c.requires.binding.0 terms v c.requires.binding.1 has) c.first_variable.ensures.some

pub returns-clause-none : goal.returns-clause-none
returns-clause-none c =
    let terms = c.args.terms.now in
    none-map c.first_variable.result (All (λ (t : Term). (v : ℕ) → ¬ (t ≡ Var v)) terms) (All IsObject terms)
    (all-objects c.requires.binding.0 terms c.requires.binding.1) c.first_variable.ensures.none
