-- Proofs put in the places of leaves. A leaf in column 0 is a fact that is there at first.
use Rattle.std.specs.Prelude.{if◌then◌else◌, ◌==◌, ◌+◌, ℕ, not, List, [], ◌∷◌, filter, length, drop, slice_index_or, All, Contains}
use Rattle.std.specs.List.{AllZip}
use Rattle.px_terms.specs.declared.atom.Atom.{Atom}
use Rattle.px_terms.specs.declared.clause.Clause.{Clause}
use Rattle.px_terms.specs.declared.clause.Lit.{Lit}
use Rattle.px_proof.specs.declared.proof.Leaf.{Leaf}
use Rattle.px_proof.specs.Derivation.{Derivation, Derivations, fact, ancestor, step, gap, open_place, none, also, leaves_of, leaf_atoms}
use Rattle.px_proof.specs.Literals.{positive_of}
use Rattle.px_proof.specs.Proves.{Proves, IsTree, from_facts}

-- the leaves in column 0
abbrev pub first_leaves : List Leaf → List Leaf
first_leaves leaves = filter (λ (leaf : Leaf). leaf.column == 0) leaves

-- the other leaves
abbrev pub later_leaves : List Leaf → List Leaf
later_leaves leaves = filter (λ (leaf : Leaf). not (leaf.column == 0)) leaves

-- the leaf in a higher column
abbrev pub raised : ℕ → Leaf → Leaf
raised shift leaf = record { column = leaf.column + shift; index = leaf.index; atom = leaf.atom }

-- what comes in the place of a leaf: the first part where the leaf is in column 0, else the leaf in a higher column
abbrev pub in_place_of : ℕ → List Derivation → Leaf → Derivation
in_place_of shift parts leaf = if leaf.column == 0 then slice_index_or parts 0 open_place else fact (raised shift leaf)

-- The derivation with the parts in the places of the leaves in column 0, one each from left to right, and with the other
-- leaves in higher columns. Where the parts are too few, places are left open.
abbrev mutual
  pub grafted : ℕ → List Derivation → Derivation → Derivation
  grafted shift parts (fact leaf) = in_place_of shift parts leaf
  grafted shift parts (ancestor i) = ancestor i
  grafted shift parts (step number theta place ds) = step number theta place (all_grafted shift parts ds)
  grafted shift parts (gap atom) = gap atom
  grafted shift parts open_place = open_place

  -- the parts of a derivation come after those of the derivations before it
  pub all_grafted : ℕ → List Derivation → Derivations → Derivations
  all_grafted shift parts none = none
  all_grafted shift parts (also d ds) = also (grafted shift parts d)
      (all_grafted shift (drop (length (first_leaves (leaves_of d))) parts) ds)

-- what comes in the places of the leaves, in order
abbrev pub in_places_of : ℕ → List Derivation → List Leaf → List Derivation
in_places_of shift parts [] = []
in_places_of shift parts (leaf ∷ leaves) =
    in_place_of shift parts leaf ∷ in_places_of shift (if leaf.column == 0 then drop 1 parts else parts) leaves

-- of whatever literal the old derivation is a tree, the new one is a tree, if the parts are trees of the atoms of the
-- leaves in column 0, one each from left to right
abbrev pub GraftIsTree : List Derivation → Derivation → Derivation → Type 0
GraftIsTree parts old new =
    (axioms : List Clause) (objects params : ℕ) (lit : Lit)
    → AllZip (λ atom part. IsTree axioms objects params (positive_of atom) part) (leaf_atoms (first_leaves (leaves_of old))) parts
    → IsTree axioms objects params lit old
    → IsTree axioms objects params lit new

-- whatever literal the old derivation proves from some facts, the new one proves from others, if these have the atoms of
-- the leaves in later columns, and the parts prove from them those of the leaves in column 0, one each from left to right
abbrev pub GraftProves : List Derivation → Derivation → Derivation → Type 0
GraftProves parts old new =
    (axioms : List Clause) (old_facts facts : List Atom) (path : List Lit) (lit : Lit)
    → All (Contains facts) (leaf_atoms (later_leaves (leaves_of old)))
    → AllZip (λ atom part. Proves (from_facts facts) axioms [] (positive_of atom) part) (leaf_atoms (first_leaves (leaves_of old))) parts
    → Proves (from_facts old_facts) axioms path lit old
    → Proves (from_facts facts) axioms path lit new
