-- The pairs of atoms that have to be made equal for a derivation of a form to prove its literal.
use Rattle.std.specs.Prelude.{◌≡◌, ◌+◌, ◌==◌, ℕ, not, true, if◌then◌else◌, Some, None, List, [], ◌∷◌, ◌++◌, length, slice_get}
use Rattle.px_terms.specs.declared.atom.Atom.{Atom}
use Rattle.px_terms.specs.declared.clause.Clause.{Clause}
use Rattle.px_terms.specs.declared.clause.Lit.{Lit}
use Rattle.px_terms.specs.declared.term.Term.{Term}
use Rattle.px_proof.specs.declared.proof.Leaf.{Leaf}
use Rattle.px_proof.specs.Derivation.{Derivation, Derivations, fact, ancestor, step, gap, open_place, none, also, no_atom}
use Rattle.px_proof.specs.Proves.{instance_of, parts_of}
use Rattle.px_terms.specs.Substitution.{variables_from}
use Rattle.px_replay.specs.FreshVariables.{fresh_in}

abbrev pub atom_at : List Lit → ℕ → Atom
atom_at lits k = elim (slice_get lits k) [ None ↦ no_atom | Some lit ↦ lit.atom ]

abbrev pub literals_at : List Clause → ℕ → List Lit
literals_at axioms number = elim (slice_get axioms number) [ None ↦ [] | Some clause ↦ clause.lits ]

-- in preorder: a leaf is its literal, an ancestor the complement of the path's literal, a step's literal that of its axiom
abbrev mutual
  pub pairs_of : List Clause → List Lit → Lit → Derivation → List (Atom × Atom)
  pairs_of axioms path lit (fact leaf) = (lit.atom, leaf.atom) ∷ []
  pairs_of axioms path lit (ancestor i) = (lit.atom, atom_at path i) ∷ []
  pairs_of axioms path lit (step number theta place parts) =
      (lit.atom, atom_at (instance_of (literals_at axioms number) theta) place)
      ∷ all_pairs_of axioms (lit ∷ path) (parts_of (literals_at axioms number) theta place) parts
  pairs_of axioms path lit (gap atom) = []
  pairs_of axioms path lit open_place = []

  pub all_pairs_of : List Clause → List Lit → List Lit → Derivations → List (Atom × Atom)
  all_pairs_of axioms path [] none = []
  all_pairs_of axioms path [] (also d ds) = []
  all_pairs_of axioms path (lit ∷ lits) none = []
  all_pairs_of axioms path (lit ∷ lits) (also d ds) = pairs_of axioms path lit d ++ all_pairs_of axioms path lits ds

-- all that a proof of the literal needs but these equations: the signs, and that numbers and places are there
abbrev mutual
  pub HasForm : List Clause → List Lit → Lit → Derivation → Type 0
  HasForm axioms path lit (fact leaf) = lit.positive ≡ true
  HasForm axioms path lit (ancestor i) = (above : Lit) × (slice_get path i ≡ Some above) × (above.positive ≡ not lit.positive)
  HasForm axioms path lit (step number theta place parts) =
      (clause : Clause) × (slice_get axioms number ≡ Some clause) × (length theta ≡ clause.variable_count)
      × ((found : Lit) × (slice_get (instance_of clause.lits theta) place ≡ Some found) × (found.positive ≡ lit.positive))
      × HaveForms axioms (lit ∷ path) (parts_of clause.lits theta place) parts
  HasForm axioms path lit (gap atom) = ⊥
  HasForm axioms path lit open_place = ⊥

  pub HaveForms : List Clause → List Lit → List Lit → Derivations → Type 0
  HaveForms axioms path [] none = Unit {0}
  HaveForms axioms path [] (also d ds) = ⊥
  HaveForms axioms path (lit ∷ lits) none = ⊥
  HaveForms axioms path (lit ∷ lits) (also d ds) = HasForm axioms path lit d × HaveForms axioms path lits ds

-- the fact of the initial model with fresh variables, or the add that the leaf names
abbrev pub opened_atom : (ℕ → ℕ → Atom) → ℕ → Leaf → Atom
opened_atom named first leaf = if leaf.column == 0 then (record
    { pred = leaf.atom.pred; args = variables_from first (length leaf.atom.args) }) else named leaf.column leaf.index

-- the derivation with a fresh variable, from number `first` on, for all that its form leaves open
abbrev mutual
  pub opened : (ℕ → ℕ → Atom) → ℕ → Derivation → Derivation
  opened named first (fact leaf) = fact (record { column = leaf.column; index = leaf.index; atom = opened_atom named first leaf })
  opened named first (ancestor i) = ancestor i
  opened named first (step number theta place parts) = step number (variables_from first (length theta)) place
      (all_opened named (first + length theta) parts)
  opened named first (gap atom) = gap atom
  opened named first open_place = open_place

  pub all_opened : (ℕ → ℕ → Atom) → ℕ → Derivations → Derivations
  all_opened named first none = none
  all_opened named first (also d ds) = also (opened named first d) (all_opened named (first + fresh_in d) ds)

-- the terms that stand where the opened one has its fresh variables
abbrev mutual
  pub own_terms : Derivation → List Term
  own_terms (fact leaf) = if leaf.column == 0 then leaf.atom.args else []
  own_terms (ancestor i) = []
  own_terms (step number theta place parts) = theta ++ all_own_terms parts
  own_terms (gap atom) = []
  own_terms open_place = []

  pub all_own_terms : Derivations → List Term
  all_own_terms none = []
  all_own_terms (also d ds) = own_terms d ++ all_own_terms ds
