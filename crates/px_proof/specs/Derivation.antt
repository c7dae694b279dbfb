-- Proof terms as mathematics has them: trees whose lists are lists, finished or with open places.
use Rattle.std.specs.Prelude.{ℕ, ◌+◌, max, List, [], ◌∷◌, ◌++◌, map}
use Rattle.px_terms.specs.declared.term.Term.{Term}
use Rattle.px_terms.specs.declared.atom.Atom.{Atom}
use Rattle.px_proof.specs.declared.proof.Leaf.{Leaf}

mutual
  pub data Derivation : Type 0 where
    -- closed by a fact
    fact : Leaf → Derivation
    -- closed by the ancestor of that number, counted from the nearest
    ancestor : ℕ → Derivation
    -- closed by the clause of that number, under a term for each of its variables, at that place
    step : ℕ → List Term → ℕ → Derivations → Derivation
    -- closed by nothing but the wish that the atom were proved
    gap : Atom → Derivation
    -- not closed yet; proof terms have no such place, unfinished proofs have
    open_place : Derivation

  pub data Derivations : Type 0 where
    none : Derivations
    also : Derivation → Derivations → Derivations

abbrev pub derivations : List Derivation → Derivations
derivations [] = none
derivations (d ∷ ds) = also d (derivations ds)

-- the height: 1 for a place without parts, and one more than the highest part for a step
abbrev mutual
  pub height : Derivation → ℕ
  height (fact leaf) = 1
  height (ancestor i) = 1
  height (step number theta place parts) = 1 + greatest_height parts
  height (gap atom) = 1
  height open_place = 1

  pub greatest_height : Derivations → ℕ
  greatest_height none = 0
  greatest_height (also d ds) = max (height d) (greatest_height ds)

-- the fact leaves from left to right
abbrev mutual
  pub leaves_of : Derivation → List Leaf
  leaves_of (fact leaf) = leaf ∷ []
  leaves_of (ancestor i) = []
  leaves_of (step number theta place parts) = all_leaves_of parts
  leaves_of (gap atom) = []
  leaves_of open_place = []

  pub all_leaves_of : Derivations → List Leaf
  all_leaves_of none = []
  all_leaves_of (also d ds) = leaves_of d ++ all_leaves_of ds

abbrev pub leaf_atoms : List Leaf → List Atom
leaf_atoms leaves = map (λ (leaf : Leaf). leaf.atom) leaves

-- the terms that stand in it: those that its steps choose, and those of its atoms
abbrev mutual
  pub terms_of : Derivation → List Term
  terms_of (fact leaf) = leaf.atom.args
  terms_of (ancestor i) = []
  terms_of (step number theta place parts) = theta ++ all_terms_of parts
  terms_of (gap atom) = atom.args
  terms_of open_place = []

  pub all_terms_of : Derivations → List Term
  all_terms_of none = []
  all_terms_of (also d ds) = terms_of d ++ all_terms_of ds

abbrev pub no_atom : Atom
no_atom = record { pred = 0; args = [] }

-- what is left where terms and atoms are dropped
abbrev mutual
  pub skeleton : Derivation → Derivation
  skeleton (fact leaf) = fact (record { column = leaf.column; index = leaf.index; atom = no_atom })
  skeleton (ancestor i) = ancestor i
  skeleton (step number theta place parts) = step number [] place (skeletons parts)
  skeleton (gap atom) = gap no_atom
  skeleton open_place = open_place

  pub skeletons : Derivations → Derivations
  skeletons none = none
  skeletons (also d ds) = also (skeleton d) (skeletons ds)
