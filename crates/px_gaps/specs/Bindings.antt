-- Objects for the variables of atoms, chosen one after the other, so that none of the atoms is in a set.
use Rattle.std.specs.Prelude.{◌≡◌, ◌<◌, ℕ, suc, Some, List, [], ◌∷◌, map, length, slice_get, slice_index, All, Any, Contains}
use Rattle.px_terms.specs.declared.atom.Atom.{Atom}
use Rattle.px_terms.specs.declared.term.Term.{Term}
use Rattle.px_terms.specs.declared.term.Term.TheVariants.{Obj, Var, Any as Wild}
use Rattle.px_terms.specs.Instances.{IsGround}
use Rattle.px_terms.specs.Language.{IsPlainBelow, object_of}
use Rattle.px_terms.specs.Substitution.{substitute_atom}
use Rattle.px_question.specs.Answers.{object_terms}
use Rattle.px_prover.specs.Patterns.{object_under}

-- the arguments are objects, or variables below the number
abbrev pub IsPlain : ℕ → Atom → Type 0
IsPlain variable_count atom = All (IsPlainBelow variable_count) atom.args

abbrev pub ArePlain : ℕ → List Atom → Type 0
ArePlain variable_count atoms = All (IsPlain variable_count) atoms

-- at the place of a variable stands an object of the problem, or the variable itself
abbrev pub IsSlot : ℕ → ℕ → Term → Type 0
IsSlot limit v (Obj n) = n < limit
IsSlot limit v (Var w) = v ≡ w
IsSlot limit v Wild = ⊥

-- objects are chosen for some of the variables
pub record IsBinding (limit : ℕ) (terms : List Term) : Type 0 where
  pub each : (v : ℕ) (t : Term) → slice_get terms v ≡ Some t → IsSlot limit v t
  pub some_object : 0 < length terms → 0 < limit

-- how many of them have no object
abbrev pub open_term_count : List Term → ℕ
open_term_count [] = 0
open_term_count (Obj n ∷ terms) = open_term_count terms
open_term_count (Var v ∷ terms) = suc (open_term_count terms)
open_term_count (Wild ∷ terms) = open_term_count terms

-- the values are objects of the problem for all variables, and those that are chosen
pub record ExtendsTerms (limit : ℕ) (terms : List Term) (values : List ℕ) : Type 0 where
  pub count : length values ≡ length terms
  pub below : All (λ n. n < limit) values
  pub same : (v n : ℕ) → slice_get terms v ≡ Some (Obj n) → slice_index values v ≡ n

-- objects are chosen for some of the variables of the atoms, and what is taken has no variables
pub record AreBound (limit : ℕ) (terms : List Term) (atoms taken : List Atom) : Type 0 where
  pub plain : ArePlain (length terms) atoms
  pub binding : IsBinding limit terms
  pub is_ground : All IsGround taken

-- the objects that are chosen, and object 0 for each other variable
abbrev pub first_values : List Term → List ℕ
first_values terms = map object_of terms

-- under the values none of the atoms is in the set
pub record Avoids (limit : ℕ) (terms : List Term) (atoms set : List Atom) (values : List ℕ) : Type 0 where
  pub extends : ExtendsTerms limit terms values
  pub avoids : ¬ Any (Contains set) (map (substitute_atom (object_terms values)) atoms)

-- there are such values
abbrev pub CanAvoid : ℕ → List Term → List Atom → List Atom → Type 0
CanAvoid limit terms atoms set = (values : List ℕ) × Avoids limit terms atoms set values

-- under some values that avoid the set, what is made of them is this
abbrev pub IsOpenAs : {X : Type 0} → ℕ → List Term → List Atom → List Atom → (List ℕ → X) → X → Type 0
IsOpenAs limit terms atoms set made x = (values : List ℕ) × Avoids limit terms atoms set values × (made values ≡ x)

-- under some such values, with an object before this one for the variable, what is made of them is this
abbrev pub IsOpenBefore : {X : Type 0} → ℕ → List Term → List Atom → List Atom → (List ℕ → X) → ℕ → ℕ → X → Type 0
IsOpenBefore limit terms atoms set made v object x = (values : List ℕ) × Avoids limit terms atoms set values
    × (slice_index values v < object) × (made values ≡ x)

-- under some such values the first atom becomes the second
abbrev pub IsOpenInstance : ℕ → List Term → List Atom → List Atom → Atom → Atom → Type 0
IsOpenInstance limit terms atoms set target = IsOpenAs limit terms atoms set (λ values. substitute_atom (object_terms values) target)

-- under some such values the terms become these objects
abbrev pub IsOpenChoice : ℕ → List Term → List Atom → List Atom → List Term → List ℕ → Type 0
IsOpenChoice limit terms atoms set targets = IsOpenAs limit terms atoms set (λ values. map (object_under values) targets)

-- the one atom is the other under values that extend the binding
abbrev pub IsInstanceUnder : ℕ → List Term → Atom → Atom → Type 0
IsInstanceUnder limit terms = IsOpenInstance limit terms [] []

-- no object is chosen for any of them
pub record AreUnbound (variable_count : ℕ) (terms : List Term) : Type 0 where
  pub count : length terms ≡ variable_count
  pub each : (v : ℕ) (t : Term) → slice_get terms v ≡ Some t → t ≡ Var v
