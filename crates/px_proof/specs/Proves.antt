-- What a derivation proves, and by which rules. Linear resolution with ancestors: a literal is closed by a fact, by
-- the complement of one of the literals above it, or by an instance of a clause with the literal in it, where the
-- complement of each other literal of the instance is proved in turn, under the literal.
use Rattle.std.specs.Prelude.{◌≡◌, ℕ, ◌<◌, Some, List, [], ◌∷◌, ◌++◌, map, remove, length, slice_get, All, Contains}
use Rattle.px_terms.specs.declared.term.Term.{Term}
use Rattle.px_terms.specs.declared.term.Term.TheVariants.{Obj, Var, Any}
use Rattle.px_terms.specs.declared.atom.Atom.{Atom}
use Rattle.px_terms.specs.declared.clause.Lit.{Lit}
use Rattle.px_terms.specs.declared.clause.Clause.{Clause}
use Rattle.px_terms.specs.Language.{IsObject}
use Rattle.px_proof.specs.declared.proof.Leaf.{Leaf}
use Rattle.px_proof.specs.Derivation.{Derivation, Derivations, fact, ancestor, step, gap, open_place, none, also, leaves_of, leaf_atoms}
use Rattle.px_proof.specs.Literals.{substitute_literal, complement_of, positive_of}

-- what a derivation may do: which terms its steps may choose, which leaves and which gaps may close a place, and
-- whether places may be open
pub record Rules : Type 1 where
  pub IsChoice : Term → Type 0
  pub IsFact : Leaf → Type 0
  pub IsGap : Atom → Type 0
  pub IsOpen : Type 0

-- the literals of a clause, with the terms of theta for its variables
abbrev pub instance_of : List Lit → List Term → List Lit
instance_of lits theta = map (substitute_literal theta) lits

-- what is to be proved where the clause is used at that place: the complement of each other literal
abbrev pub parts_of : List Lit → List Term → ℕ → List Lit
parts_of lits theta place = map complement_of (remove (instance_of lits theta) place)

-- the axiom of that number is the clause, theta has a term that may be chosen for each of its variables, and under
-- theta the literal stands at the place
pub record UsesClause (IsChoice : Term → Type 0) (axioms : List Clause) (lit : Lit) (number : ℕ) (theta : List Term) (place : ℕ)
    (clause : Clause) : Type 0 where
  pub axiom_at : slice_get axioms number ≡ Some clause
  pub terms : length theta ≡ clause.variable_count
  pub choices : All IsChoice theta
  pub literal_at : slice_get (instance_of clause.lits theta) place ≡ Some lit

-- by the rules and the axioms, the derivation proves the literal under the path, whose nearest literal comes first
abbrev mutual
  pub Proves : Rules → List Clause → List Lit → Lit → Derivation → Type 0
  Proves rules axioms path lit (fact leaf) = (lit ≡ positive_of leaf.atom) × rules.IsFact leaf
  Proves rules axioms path lit (ancestor i) = slice_get path i ≡ Some (complement_of lit)
  Proves rules axioms path lit (step number theta place parts) =
      (clause : Clause) × UsesClause rules.IsChoice axioms lit number theta place clause
      × ProvesEach rules axioms (lit ∷ path) (parts_of clause.lits theta place) parts
  Proves rules axioms path lit (gap atom) = (lit ≡ positive_of atom) × rules.IsGap atom
  Proves rules axioms path lit open_place = rules.IsOpen

  -- the derivations prove the literals, one each, in order
  pub ProvesEach : Rules → List Clause → List Lit → List Lit → Derivations → Type 0
  ProvesEach rules axioms path [] none = Unit {0}
  ProvesEach rules axioms path (lit ∷ lits) (also d ds) = Proves rules axioms path lit d × ProvesEach rules axioms path lits ds
  ProvesEach rules axioms path [] (also d ds) = ⊥
  ProvesEach rules axioms path (lit ∷ lits) none = ⊥

-- finished proofs without gaps, over the given terms, from the atoms that are over these terms
abbrev pub from_atoms : (Term → Type 0) → List Atom → Rules
from_atoms IsTerm atoms = record {
  IsChoice = IsTerm;
  IsFact = λ leaf. Contains atoms leaf.atom × All IsTerm leaf.atom.args;
  IsGap = λ atom. ⊥;
  IsOpen = ⊥;
}

-- ground proofs from facts; a fact with a variable doesn't count
abbrev pub from_facts : List Atom → Rules
from_facts = from_atoms IsObject

-- finished proofs without gaps from the atoms of a model, each leaf of which names its atom's place there
abbrev pub from_places : (Term → Type 0) → List Atom → Rules
from_places IsTerm atoms = record {
  IsChoice = IsTerm;
  IsFact = λ leaf. (leaf.column ≡ 0) × (slice_get atoms leaf.index ≡ Some leaf.atom);
  IsGap = λ atom. ⊥;
  IsOpen = ⊥;
}

-- the proofs by the rules, and those in which such atoms are closed by a gap
abbrev pub with_gaps : (Atom → Type 0) → Rules → Rules
with_gaps IsGap rules = record { IsChoice = rules.IsChoice; IsFact = rules.IsFact; IsGap = IsGap; IsOpen = rules.IsOpen }

-- the proofs by the rules, and unfinished ones
abbrev pub or_open : Rules → Rules
or_open rules = record { IsChoice = rules.IsChoice; IsFact = rules.IsFact; IsGap = rules.IsGap; IsOpen = Unit {0} }

-- an object or a parameter, by its number; parameters count as further objects
abbrev pub IsObjectOrParameter : ℕ → ℕ → Term → Type 0
IsObjectOrParameter objects params (Obj n) = n < objects
IsObjectOrParameter objects params (Var v) = v < params
IsObjectOrParameter objects params Any = ⊥

-- a proof of the literal under the empty path from the atoms of its own leaves. All terms, those of the literal too, are objects
-- and parameters with numbers below these
pub record IsTree (axioms : List Clause) (objects params : ℕ) (lit : Lit) (d : Derivation) : Type 0 where
  pub proves : Proves (from_atoms (IsObjectOrParameter objects params) (leaf_atoms (leaves_of d))) axioms [] lit d
  pub terms : All (IsObjectOrParameter objects params) lit.atom.args

-- what is proved under a path is proved under each path that goes on from it upwards; so what is proved under the empty
-- path is proved under any
abbrev pub StaysUnderLongerPaths : Type 0
StaysUnderLongerPaths =
    (axioms : List Clause) (objects params : ℕ) (atoms : List Atom) (path far : List Lit) (lit : Lit) (d : Derivation)
    → Proves (from_atoms (IsObjectOrParameter objects params) atoms) axioms path lit d
    → Proves (from_atoms (IsObjectOrParameter objects params) atoms) axioms (path ++ far) lit d
