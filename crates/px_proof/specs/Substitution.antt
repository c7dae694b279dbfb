-- Derivations with their variables replaced.
use Rattle.std.specs.Prelude.{◌≡◌, ℕ, ◌≤◌, List, [], map, length, All, Contains}
use Rattle.px_terms.specs.Language.{substitute, IsObject}
use Rattle.px_terms.specs.Substitution.{substitute_atom}
use Rattle.px_terms.specs.declared.atom.Atom.{Atom}
use Rattle.px_terms.specs.declared.clause.Clause.{Clause}
use Rattle.px_terms.specs.declared.clause.Lit.{Lit}
use Rattle.px_terms.specs.declared.term.Term.{Term}
use Rattle.px_proof.specs.declared.proof.Leaf.{Leaf}
use Rattle.px_proof.specs.Derivation.{Derivation, Derivations, fact, ancestor, step, gap, open_place, none, also, leaves_of, leaf_atoms, skeleton}
use Rattle.px_proof.specs.Literals.{substitute_literal}
use Rattle.px_proof.specs.Proves.{Proves, from_atoms, from_facts, IsObjectOrParameter, IsTree}

abbrev pub leaf_under : List Term → Leaf → Leaf
leaf_under terms leaf = record { column = leaf.column; index = leaf.index; atom = substitute_atom terms leaf.atom }

-- each variable is replaced by the term of its number, in the atoms and in what the steps choose
abbrev mutual
  pub derivation_under : List Term → Derivation → Derivation
  derivation_under terms (fact leaf) = fact (leaf_under terms leaf)
  derivation_under terms (ancestor i) = ancestor i
  derivation_under terms (step number theta place parts) = step number (map (substitute terms) theta) place (derivations_under terms parts)
  derivation_under terms (gap atom) = gap (substitute_atom terms atom)
  derivation_under terms open_place = open_place

  pub derivations_under : List Term → Derivations → Derivations
  derivations_under terms none = none
  derivations_under terms (also d ds) = also (derivation_under terms d) (derivations_under terms ds)

-- replacing twice is replacing once, by the inner terms under the outer ones
abbrev pub SubstitutionsCompose : Type 0
SubstitutionsCompose =
    (outer inner : List Term) (d : Derivation) → derivation_under outer (derivation_under inner d) ≡ derivation_under
    (map (substitute outer) inner) d

-- what stands for the variables doesn't change the shape
abbrev pub ShapesStay : Type 0
ShapesStay = (terms : List Term) (d : Derivation) → skeleton (derivation_under terms d) ≡ skeleton d

-- whatever the old one proves over objects and as many parameters as there are terms, the new one proves under the
-- terms, over the objects and parameters that these have, from the atoms under the terms; both are over one number of
-- objects, below which those of the terms are
abbrev pub StaysProof : List Term → Derivation → Derivation → Type 0
StaysProof terms old new =
    (axioms : List Clause) (objects params : ℕ) (atoms : List Atom) (path : List Lit) (lit : Lit)
    → All (IsObjectOrParameter objects params) terms
    → Proves (from_atoms (IsObjectOrParameter objects (length terms)) atoms) axioms path lit old
    → Proves (from_atoms (IsObjectOrParameter objects params) (map (substitute_atom terms) atoms)) axioms
    (map (substitute_literal terms) path)
    (substitute_literal terms lit) new

-- of whatever literal the old one is a tree, over objects and no more parameters than there are terms, of that literal
-- under the terms the new one is a tree, over the objects and parameters that these have; both are over one number of
-- objects, below which those of the terms are
abbrev pub StaysTree : List Term → Derivation → Derivation → Type 0
StaysTree terms old new =
    (axioms : List Clause) (objects params new_params : ℕ) (lit : Lit) → params ≤ length terms
    → All (IsObjectOrParameter objects new_params) terms
    → IsTree axioms objects params lit old
    → IsTree axioms objects new_params (substitute_literal terms lit) new

-- where the terms are objects: of whatever literal the old one is a tree, the new one is a proof of that literal under the terms, from any
-- facts that have each leaf's atom under the terms. The objects may have any numbers, also numbers that the old one's objects don't reach
abbrev pub ProvesFromFacts : List Term → Derivation → Derivation → Type 0
ProvesFromFacts terms old new =
    (axioms : List Clause) (objects params : ℕ) (facts : List Atom) (lit : Lit) → params ≤ length terms → All IsObject terms
    → All (Contains facts) (map (substitute_atom terms) (leaf_atoms (leaves_of old)))
    → IsTree axioms objects params lit old
    → Proves (from_facts facts) axioms [] (substitute_literal terms lit) new
