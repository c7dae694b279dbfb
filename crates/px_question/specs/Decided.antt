-- Each question has one of its outcomes.
use Rattle.std.specs.Prelude.{◌⊎◌, ℕ, List}
use Rattle.px_terms.specs.declared.atom.Atom.{Atom}
use Rattle.px_proof.specs.declared.shape.Tick.{Tick}
use Rattle.px_proof.specs.Derivation.{Derivations}
use Rattle.px_question.specs.Answers.{IsAnswer, IsFirst}
use Rattle.px_question.specs.Gaps.{MeetsGapLimit, StaysBelowGapLimit}
use Rattle.px_question.specs.Limits.{AreFewBefore, AreFewGapShapes, AreFewShapes, IsGapLimited, IsLimited, StaysBelowLimit}
use Rattle.px_question.specs.Settings.{Setting}

-- Proving a formula meets the limit, or has a first answer with fewer shapes before it, or has no answer and fewer shapes exist.
-- Unfinished gap proofs meet the limit, or fewer shapes of them exist. So what doesn't meet a limit stays below it.
pub record QuestionsAreDecided : Type 0 where
  pub proofs : (s : Setting) (formula : List Atom) (variable_count : ℕ)
      → ((shapes : List (List Tick)) × IsLimited s formula variable_count shapes)
      ⊎ ((objects : List ℕ) × (ds : Derivations) × IsFirst s formula variable_count objects ds × AreFewBefore s formula variable_count ds)
      ⊎ ((¬ IsAnswer s formula variable_count) × AreFewShapes s formula variable_count)
  pub gap_shapes : (s : Setting) (formula : List Atom) (variable_count : ℕ) → ((shapes : List (List Tick)) × IsGapLimited s formula variable_count shapes)
      ⊎ AreFewGapShapes s formula variable_count
  pub below : (s : Setting) (formula : List Atom) (variable_count : ℕ) → ((shapes : List (List Tick)) → ¬ IsLimited s formula variable_count shapes)
      → StaysBelowLimit s formula variable_count
  pub gaps_below : (s : Setting) (formula : List Atom) (variable_count : ℕ)
      → ((kept : List Atom) (shapes : List (List Tick)) → ¬ MeetsGapLimit s formula variable_count kept shapes) → StaysBelowGapLimit s formula variable_count
