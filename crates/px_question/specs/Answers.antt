-- What answers a formula, and which answer is the first.
use Rattle.std.specs.Prelude.{◌≡◌, ◌⊎◌, ℕ, ◌<◌, ◌≤◌, List, [], ◌∷◌, ◌++◌, map, length, All}
use Rattle.px_terms.specs.declared.atom.Atom.{Atom}
use Rattle.px_terms.specs.declared.clause.Lit.{Lit}
use Rattle.px_terms.specs.declared.term.Term.{Term}
use Rattle.px_terms.specs.declared.term.Term.TheVariants.{Obj}
use Rattle.px_terms.specs.Language.{object_of}
use Rattle.px_terms.specs.Substitution.{substitute_atom}
use Rattle.px_proof.specs.Derivation.{Derivation, Derivations, fact, ancestor, step, gap, open_place, none, also, greatest_height}
use Rattle.px_proof.specs.Literals.{positive_of}
use Rattle.px_proof.specs.Proves.{Rules, ProvesEach}
use Rattle.px_proof.specs.Shapes.{ticks_of, ShapeBefore}
use Rattle.px_question.specs.Settings.{Setting, proofs_in}

-- the objects as terms
abbrev pub object_terms : List ℕ → List Term
object_terms objects = map (λ n. Obj n) objects

-- the atoms of the formula, with the objects for its variables
abbrev pub literals_of : List Atom → List ℕ → List Lit
literals_of formula objects = map (λ atom. positive_of (substitute_atom (object_terms objects) atom)) formula

-- one derivation for each atom of the formula, by the rules and within the height, under these objects of the problem,
-- one for each variable
pub record IsList (rules : Rules) (s : Setting) (formula : List Atom) (variable_count : ℕ) (objects : List ℕ) (ds : Derivations) : Type 0 where
  pub count : length objects ≡ variable_count
  pub below : All (λ n. n < s.objects) objects
  pub proved : ProvesEach rules s.axioms [] (literals_of formula objects) ds
  pub low : greatest_height ds ≤ s.height

-- some objects for the variables make each atom provable
abbrev pub IsAnswer : Setting → List Atom → ℕ → Type 0
IsAnswer s formula variable_count = (objects : List ℕ) × (ds : Derivations) × IsList (proofs_in s) s formula variable_count objects ds

-- an atom without variables has a proof
abbrev pub IsProvable : Setting → Atom → Type 0
IsProvable s atom = IsAnswer s (atom ∷ []) 0

-- the objects that the steps choose, in preorder
abbrev mutual
  pub choices_of : Derivation → List ℕ
  choices_of (fact leaf) = []
  choices_of (ancestor i) = []
  choices_of (step number theta place parts) = map object_of theta ++ all_choices_of parts
  choices_of (gap atom) = []
  choices_of open_place = []

  pub all_choices_of : Derivations → List ℕ
  all_choices_of none = []
  all_choices_of (also d ds) = choices_of d ++ all_choices_of ds

-- at the first different number the first list has the lesser one, or it is a beginning of the second
abbrev pub AtMost : List ℕ → List ℕ → Type 0
AtMost [] ns = Unit {0}
AtMost (m ∷ ms) [] = ⊥
AtMost (m ∷ ms) (n ∷ ns) = (m < n) ⊎ ((m ≡ n) × AtMost ms ns)

-- a finished list of the least shape, and among those of that shape the one with the least objects: those of the
-- variables, then those that the steps choose
pub record IsFirst (s : Setting) (formula : List Atom) (variable_count : ℕ) (objects : List ℕ) (ds : Derivations) : Type 0 where
  pub finished : IsList (proofs_in s) s formula variable_count objects ds
  pub least :
      (others : List ℕ) (es : Derivations) → IsList (proofs_in s) s formula variable_count others es
      → ShapeBefore (ticks_of ds) (ticks_of es) ⊎ ((ticks_of ds ≡ ticks_of es)
      × AtMost (objects ++ all_choices_of ds) (others ++ all_choices_of es))
