-- The order of terms, atoms and operator instances in words: which of two comes before the other.
use Rattle.std.specs.Prelude.{◌≡◌, ◌<◌, ◌↔◌, ◌⊎◌, List, [], ◌∷◌}
use Rattle.std.specs.Bool.{Decides}
use Rattle.std.specs.declared.cmp.Ordering.{Ordering}
use Rattle.std.specs.declared.cmp.Ordering.TheVariants.{Less, Equal, Greater}
use Rattle.px_terms.specs.declared.term.Term.{Term}
use Rattle.px_terms.specs.declared.term.Term.TheVariants.{Obj, Var, Any}
use Rattle.px_terms.specs.Language.{AtomValue, InstanceValue}
use Rattle.px_terms.specs.Order.{term_eq, term_cmp, atom_eq, atom_cmp, instance_eq, instance_cmp}

-- objects come before variables, and variables before the wild card; objects ascend by number, and so do variables
abbrev pub IsTermBefore : Term → Term → Type 0
IsTermBefore (Obj m) (Obj n) = m < n
IsTermBefore (Obj m) (Var n) = Unit {0}
IsTermBefore (Obj m) Any = Unit {0}
IsTermBefore (Var m) (Obj n) = ⊥
IsTermBefore (Var m) (Var n) = m < n
IsTermBefore (Var m) Any = Unit {0}
IsTermBefore Any term = ⊥

-- from the left, the first place where two lists differ decides; a list comes before a longer one that it begins
abbrev pub AreTermsBefore : List Term → List Term → Type 0
AreTermsBefore [] [] = ⊥
AreTermsBefore [] (t ∷ ts) = Unit {0}
AreTermsBefore (s ∷ ss) [] = ⊥
AreTermsBefore (s ∷ ss) (t ∷ ts) = IsTermBefore s t ⊎ ((s ≡ t) × AreTermsBefore ss ts)

-- atoms ascend by predicate, and those of one predicate by their arguments
abbrev pub IsAtomBefore : AtomValue → AtomValue → Type 0
IsAtomBefore a b = (a.pred < b.pred) ⊎ ((a.pred ≡ b.pred) × AreTermsBefore a.args b.args)

-- operator instances ascend by operator, and those of one operator by their arguments
abbrev pub IsInstanceBefore : InstanceValue → InstanceValue → Type 0
IsInstanceBefore a b = (a.op < b.op) ⊎ ((a.op ≡ b.op) × AreTermsBefore a.args b.args)

-- the comparison answers `Less` exactly where the first comes before the second, `Greater` exactly where the second comes before
-- the first, and `Equal` exactly where they are the same
pub record IsOrder {K : Type 0} (compared : K → K → Ordering) (IsBefore : K → K → Type 0) : Type 0 where
  pub less : (x y : K) → (compared x y ≡ Less) ↔ IsBefore x y
  pub same : (x y : K) → (compared x y ≡ Equal) ↔ (x ≡ y)
  pub greater : (x y : K) → (compared x y ≡ Greater) ↔ IsBefore y x

-- `cmp` of terms, of atoms and of operator instances is the order above, and `==` of each is equality
pub record AtomsAreOrdered : Type 0 where
  pub terms : IsOrder term_cmp IsTermBefore
  pub atoms : IsOrder atom_cmp IsAtomBefore
  pub instances : IsOrder instance_cmp IsInstanceBefore
  pub term_equality : (s t : Term) → Decides (term_eq s t) (s ≡ t)
  pub atom_equality : (a b : AtomValue) → Decides (atom_eq a b) (a ≡ b)
  pub instance_equality : (a b : InstanceValue) → Decides (instance_eq a b) (a ≡ b)
