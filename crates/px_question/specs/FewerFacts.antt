-- The same question from fewer facts: its proofs are proofs from more facts, once their leaves name the places there, and it has
-- no more shapes.
use Rattle.std.specs.Prelude.{ℕ, suc, cond, List, [], ◌∷◌, All, Contains}
use Rattle.px_terms.specs.AtomSets.{IsAtomSet}
use Rattle.px_terms.specs.Order.{atom_eq}
use Rattle.px_terms.specs.declared.atom.Atom.{Atom}
use Rattle.px_proof.specs.declared.proof.Leaf.{Leaf}
use Rattle.px_proof.specs.Derivation.{Derivation, Derivations, fact, ancestor, step, gap, open_place, none, also}
use Rattle.px_question.specs.Answers.{IsList}
use Rattle.px_question.specs.Limits.{AreFewGapShapes, AreFewShapes}
use Rattle.px_question.specs.Settings.{Setting, loose_gaps_in, proofs_in}

-- the setting with these facts
abbrev pub with_facts : Setting → List Atom → Setting
with_facts s facts = record { objects = s.objects; axioms = s.axioms; facts = facts; added = s.added; height = s.height; limit = s.limit }

-- the first place of the atom in the list
abbrev pub place_among_facts : List Atom → Atom → ℕ
place_among_facts [] atom = 0
place_among_facts (first ∷ atoms) atom = cond (atom_eq first atom) 0 (suc (place_among_facts atoms atom))

-- the leaf that names the place of its atom in the list
abbrev pub leaf_in : List Atom → Leaf → Leaf
leaf_in atoms leaf = record { column = leaf.column; index = place_among_facts atoms leaf.atom; atom = leaf.atom }

-- the derivation with such a leaf for each of its leaves
abbrev mutual
  pub placed_in : List Atom → Derivation → Derivation
  placed_in atoms (fact leaf) = fact (leaf_in atoms leaf)
  placed_in atoms (ancestor i) = ancestor i
  placed_in atoms (step number theta place parts) = step number theta place (all_placed_in atoms parts)
  placed_in atoms (gap atom) = gap atom
  placed_in atoms open_place = open_place

  pub all_placed_in : List Atom → Derivations → Derivations
  all_placed_in atoms none = none
  all_placed_in atoms (also d ds) = also (placed_in atoms d) (all_placed_in atoms ds)

-- Of a question whose facts are among those of another that is otherwise the same: its lists of proofs and of loose gap proofs are lists
-- of the other once their leaves name the places there. Where its facts are a set of atoms and the other has fewer shapes than the limit,
-- it has fewer, too.
pub record FewerFactsHaveNoMore : Type 0 where
  pub proofs : (s : Setting) (fewer formula : List Atom) (variable_count : ℕ) (objects : List ℕ) (ds : Derivations) → All (Contains s.facts) fewer
      → IsList (proofs_in (with_facts s fewer)) (with_facts s fewer) formula variable_count objects ds
      → IsList (proofs_in s) s formula variable_count objects (all_placed_in s.facts ds)
  pub gap_proofs : (s : Setting) (fewer formula : List Atom) (variable_count : ℕ) (objects : List ℕ) (ds : Derivations) → All (Contains s.facts) fewer
      → IsList (loose_gaps_in (with_facts s fewer)) (with_facts s fewer) formula variable_count objects ds
      → IsList (loose_gaps_in s) s formula variable_count objects (all_placed_in s.facts ds)
  pub shapes : (s : Setting) (fewer formula : List Atom) (variable_count : ℕ) → All (Contains s.facts) fewer → IsAtomSet fewer
      → AreFewShapes s formula variable_count → AreFewShapes (with_facts s fewer) formula variable_count
  pub gap_shapes : (s : Setting) (fewer formula : List Atom) (variable_count : ℕ) → All (Contains s.facts) fewer → IsAtomSet fewer
      → AreFewGapShapes s formula variable_count → AreFewGapShapes (with_facts s fewer) formula variable_count
