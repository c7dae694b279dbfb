-- The objects that the bindings leave, and the proofs that ticks and objects stand for.
use Rattle.std.specs.Prelude.{◌≡◌, ℕ, ◌+◌, ◌-◌, ◌<◌, Option, Some, None, List, [], ◌∷◌, length, take, drop, get_or, slice_get, slice_index}
use Rattle.px_proof.specs.Derivation.{Derivation, derivations, fact, ancestor, step, no_atom}
use Rattle.px_proof.specs.declared.shape.Tick.{Tick}
use Rattle.px_proof.specs.declared.shape.Tick.TheVariants.{Fact, Anc, Step, Gap, Open}
use Rattle.px_terms.specs.Language.{object_of}
use Rattle.px_question.specs.Answers.{object_terms}
use Rattle.px_question.specs.Settings.{Setting}
use Rattle.px_terms.specs.declared.clause.Clause.{Clause}
use Rattle.px_terms.specs.declared.term.Term.{Term}
use Rattle.px_terms.specs.declared.term.Term.TheVariants.{Var}
use Rattle.px_unify.specs.declared.change.Change.{Change}
use Rattle.px_unify.specs.Changes.{AreOneUnder, IsRoot, variables_of}
use Rattle.px_proof_walk.specs.Pending.{variable_count_of, fresh_of}

-- the variable is bound to the object, or it may be any object, and this is object 0
pub record IsLeastAt (changes : List Change) (v object : ℕ) : Type 0 where
  pub root : Term
  pub is_root : IsRoot changes root
  pub same : AreOneUnder changes (Var v) root
  pub object_is : object ≡ object_of root

-- an object for each variable, each the least that it may be
pub record AreLeast (changes : List Change) (objects : List ℕ) : Type 0 where
  pub long : length objects ≡ variables_of changes
  pub each : (v : ℕ) → v < length objects → IsLeastAt changes v (slice_index objects v)

-- how many parts a use of the clause has
abbrev pub parts_count : Option Clause → ℕ
parts_count None = 0
parts_count (Some clause) = length clause.lits - 1

-- The derivations with one more place before them, closed by the tick: a leaf stands alone, and a step takes the derivations after it
-- as its parts, as many as its clause has. The step chooses the first of the objects.
abbrev pub extended : Setting → Tick → List ℕ → List Derivation → List Derivation
extended s (Fact i) chosen later = fact (record { column = 0; index = i; atom = get_or s.facts i no_atom }) ∷ later
extended s (Anc i) chosen later = ancestor i ∷ later
extended s (Step number place) chosen later =
    step number (object_terms (take (variable_count_of (slice_get s.axioms number)) chosen)) place
    (derivations (take (parts_count (slice_get s.axioms number)) later)) ∷ drop (parts_count (slice_get s.axioms number)) later
extended s Gap chosen later = later
extended s Open chosen later = later

-- the derivations that the ticks stand for, in preorder, with the objects that the steps choose
abbrev pub built : Setting → List Tick → List ℕ → List Derivation
built s [] chosen = []
built s (tick ∷ ticks) chosen = extended s tick chosen (built s ticks (drop (fresh_of s tick) chosen))

-- how many variables the ticks bring
abbrev pub fresh_sum : Setting → List Tick → ℕ
fresh_sum s [] = 0
fresh_sum s (tick ∷ ticks) = fresh_of s tick + fresh_sum s ticks

-- the fact or the axiom of the tick is there, and the tick is of a finished proof without gaps
abbrev pub IsThere : Setting → Tick → Type 0
IsThere s (Fact i) = i < length s.facts
IsThere s (Anc i) = Unit {0}
IsThere s (Step number place) = number < length s.axioms
IsThere s Gap = ⊥
IsThere s Open = ⊥
