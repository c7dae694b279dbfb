-- Terms whose variables all have objects.
use Rattle.std.specs.Prelude.{◌≡◌, ℕ, List}
use Rattle.px_terms.specs.declared.term.Term.{Term}
use Rattle.px_terms.specs.declared.term.Term.TheVariants.{Var}
use Rattle.px_terms.specs.Language.{substitute}

-- no variable stands for the term
abbrev pub IsClosed : List Term → Term → Type 0
IsClosed terms t = (v : ℕ) → ¬ (substitute terms t ≡ Var v)
