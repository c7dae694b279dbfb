-- What a formula determines: its first answer, the shapes at its limits and whether it meets them, its gap lists.
use Rattle.std.specs.Prelude.{◌≡◌, ℕ, List}
use Rattle.px_terms.specs.declared.atom.Atom.{Atom}
use Rattle.px_proof.specs.declared.shape.Tick.{Tick}
use Rattle.px_proof.specs.Derivation.{Derivations}
use Rattle.px_question.specs.declared.gap_list.GapList.{GapList}
use Rattle.px_question.specs.Answers.{IsFirst, IsList}
use Rattle.px_question.specs.Gaps.{AreGapLists, MeetsGapLimit, StaysBelowGapLimit}
use Rattle.px_question.specs.Limits.{AreFewBefore, AreFewGapShapes, AreFewShapes, IsGapLimited, IsLimited, StaysBelowLimit}
use Rattle.px_question.specs.Settings.{Setting, proofs_in}

-- two first answers have one list of objects for the variables, and one list of proofs
abbrev pub FirstIsOne : Type 0
FirstIsOne =
    (s : Setting) (formula : List Atom) (variable_count : ℕ) (objects others : List ℕ) (ds es : Derivations) → IsFirst s formula variable_count objects ds
    → IsFirst s formula variable_count others es
    → (objects ≡ others) × (ds ≡ es)

-- a limit has one list of shapes
pub record LimitsAreOne : Type 0 where
  pub proofs : (s : Setting) (formula : List Atom) (variable_count : ℕ) (shapes others : List (List Tick)) → IsLimited s formula variable_count shapes
      → IsLimited s formula variable_count others → shapes ≡ others
  pub gap_proofs : (s : Setting) (formula : List Atom) (variable_count : ℕ) (shapes others : List (List Tick)) → IsGapLimited s formula variable_count shapes
      → IsGapLimited s formula variable_count others → shapes ≡ others

-- a formula has one list of gap lists
abbrev pub GapListsAreOne : Type 0
GapListsAreOne = (s : Setting) (formula : List Atom) (variable_count : ℕ) (lists others : List GapList) → AreGapLists s formula variable_count lists
    → AreGapLists s formula variable_count others → lists ≡ others

-- Where the shapes are fewer than the limit, it isn't met. The shapes of unfinished lists of proofs are among those of loose gap
-- proofs, so where these are fewer than the limit, those are, too.
pub record FewOrLimited : Type 0 where
  pub proofs : (s : Setting) (formula : List Atom) (variable_count : ℕ) (shapes : List (List Tick)) → AreFewShapes s formula variable_count
      → ¬ IsLimited s formula variable_count shapes
  pub before : (s : Setting) (formula : List Atom) (variable_count : ℕ) (shapes : List (List Tick)) (objects : List ℕ) (ds : Derivations)
      → IsList (proofs_in s) s formula variable_count objects ds → AreFewBefore s formula variable_count ds → ¬ IsLimited s formula variable_count shapes
  pub gap_proofs : (s : Setting) (formula : List Atom) (variable_count : ℕ) (shapes : List (List Tick)) → AreFewGapShapes s formula variable_count
      → ¬ IsGapLimited s formula variable_count shapes
  pub gap_shapes : (s : Setting) (formula : List Atom) (variable_count : ℕ) → AreFewGapShapes s formula variable_count → AreFewShapes s formula variable_count
  pub proofs_with_gaps : (s : Setting) (formula : List Atom) (variable_count : ℕ) (shapes : List (List Tick)) → AreFewGapShapes s formula variable_count
      → ¬ IsLimited s formula variable_count shapes
  pub below : (s : Setting) (formula : List Atom) (variable_count : ℕ) (shapes : List (List Tick)) → StaysBelowLimit s formula variable_count
      → ¬ IsLimited s formula variable_count shapes
  pub gaps_below : (s : Setting) (formula : List Atom) (variable_count : ℕ) (kept : List Atom) (shapes : List (List Tick))
      → StaysBelowGapLimit s formula variable_count → ¬ MeetsGapLimit s formula variable_count kept shapes
