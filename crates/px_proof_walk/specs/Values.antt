-- The objects that bindings give to all variables, where those that are not bound get chosen ones.
use Rattle.std.specs.Prelude.{◌≡◌, ℕ, ◌<◌, List, length, slice_index}
use Rattle.px_terms.specs.declared.term.Term.{Term}
use Rattle.px_terms.specs.declared.term.Term.TheVariants.{Obj, Var, Any}
use Rattle.px_unify.specs.declared.change.Change.{Change}
use Rattle.px_unify.specs.Changes.{AreOneUnder, IsRoot, variables_of}

-- the object that a followed term is, or the one that is chosen for its variable
abbrev pub value_of : List ℕ → Term → ℕ
value_of chosen (Obj n) = n
value_of chosen (Var v) = slice_index chosen v
value_of chosen Any = 0

-- the variable's term is followed to its end, and the value is that of the end
abbrev pub IsValue : List Change → List ℕ → ℕ → ℕ → Type 0
IsValue changes chosen v value = (root : Term) × AreOneUnder changes (Var v) root × IsRoot changes root × (value ≡ value_of chosen root)

-- one value for each variable
pub record AreValuesOfChanges (changes : List Change) (chosen values : List ℕ) : Type 0 where
  pub count : length values ≡ variables_of changes
  pub each : (v : ℕ) → v < length values → IsValue changes chosen v (slice_index values v)
