-- Shapes of unfinished lists, and where they are too many.
use Rattle.std.specs.Prelude.{◌≡◌, ◌⊎◌, ℕ, ◌<◌, List, [], ◌∷◌, length, All, Contains}
use Rattle.std.specs.List.{AllByRecursion}
use Rattle.px_terms.specs.declared.atom.Atom.{Atom}
use Rattle.px_proof.specs.declared.shape.Tick.{Tick}
use Rattle.px_proof.specs.Derivation.{Derivations}
use Rattle.px_proof.specs.Proves.{Rules, or_open}
use Rattle.px_proof.specs.Shapes.{ticks_of, ShapeBefore, IsUnfinished}
use Rattle.px_question.specs.Answers.{IsFirst, IsList}
use Rattle.px_question.specs.Settings.{Setting, proofs_in, loose_gaps_in}

-- the shape of an unfinished list: all places before the first open one are closed, and some objects make the closings
-- right
abbrev pub IsPartialShape : Rules → Setting → List Atom → ℕ → List Tick → Type 0
IsPartialShape rules s formula variable_count shape =
    IsUnfinished shape × ((objects : List ℕ) × (ds : Derivations) × IsList (or_open rules) s formula variable_count objects ds
    × (ticks_of ds ≡ shape))

-- each shape stands before those after it
abbrev pub IsAscending : List (List Tick) → Type 0
IsAscending [] = Unit {0}
IsAscending (shape ∷ shapes) = AllByRecursion (ShapeBefore shape) shapes × IsAscending shapes

-- different shapes of the kind, ascending, and no other one of the kind stands before the last of them
pub record AreFirstShapes (IsShape : List Tick → Type 0) (shapes : List (List Tick)) : Type 0 where
  pub ascending : IsAscending shapes
  pub each : All IsShape shapes
  pub first : (shape : List Tick) → IsShape shape → Contains shapes shape ⊎ All (λ kept. ShapeBefore kept shape) shapes

-- as many shapes of unfinished lists as the limit, the first ones, all before each finished list; where there is no finished list it is
-- enough that they exist
pub record IsLimited (s : Setting) (formula : List Atom) (variable_count : ℕ) (shapes : List (List Tick)) : Type 0 where
  pub count : length shapes ≡ s.limit
  pub kept : AreFirstShapes (IsPartialShape (proofs_in s) s formula variable_count) shapes
  pub before : (objects : List ℕ) (ds : Derivations) → IsList (proofs_in s) s formula variable_count objects ds
      → All (λ shape. ShapeBefore shape (ticks_of ds)) shapes

-- as many shapes of unfinished lists of loose gap proofs as the limit, the first ones
pub record IsGapLimited (s : Setting) (formula : List Atom) (variable_count : ℕ) (shapes : List (List Tick)) : Type 0 where
  pub count : length shapes ≡ s.limit
  pub kept : AreFirstShapes (IsPartialShape (loose_gaps_in s) s formula variable_count) shapes

-- fewer shapes of the kind exist than the number: a shorter list has them all
pub record AreFewerThan (IsShape : List Tick → Type 0) (count : ℕ) : Type 0 where
  pub seen : List (List Tick)
  pub fewer : length seen < count
  pub all : (shape : List Tick) → IsShape shape → Contains seen shape

-- fewer shapes of unfinished lists exist than the limit
abbrev pub AreFewShapes : Setting → List Atom → ℕ → Type 0
AreFewShapes s formula variable_count = AreFewerThan (IsPartialShape (proofs_in s) s formula variable_count) s.limit

-- fewer of them than the limit stand before the shape of the list
abbrev pub AreFewBefore : Setting → List Atom → ℕ → Derivations → Type 0
AreFewBefore s formula variable_count ds = AreFewerThan (λ shape. IsPartialShape (proofs_in s) s formula variable_count shape × ShapeBefore shape (ticks_of ds))
    s.limit

-- Proving the formula stays below the limit: fewer shapes than the limit stand before that of the first answer, or exist at all.
abbrev pub StaysBelowLimit : Setting → List Atom → ℕ → Type 0
StaysBelowLimit s formula variable_count =
    ((objects : List ℕ) × (ds : Derivations) × IsFirst s formula variable_count objects ds × AreFewBefore s formula variable_count ds)
    ⊎ AreFewShapes s formula variable_count

-- fewer shapes of unfinished lists of loose gap proofs exist than the limit
abbrev pub AreFewGapShapes : Setting → List Atom → ℕ → Type 0
AreFewGapShapes s formula variable_count = AreFewerThan (IsPartialShape (loose_gaps_in s) s formula variable_count) s.limit
