-- The whole answer of the prover to a question of gaps.
use Rattle.std.specs.Prelude.{ℕ, List}
use Rattle.px_terms.specs.declared.atom.Atom.{Atom}
use Rattle.px_question.specs.declared.gap_list.GapList.{GapList}
use Rattle.px_question.specs.Gaps.{AreGapLists}
use Rattle.px_question.specs.Settings.{Setting}
use Rattle.px_question.specs.Limits.{AreFewGapShapes}

-- all gap lists of the formula, which has fewer unfinished gap proofs than the limit, by their shapes
pub record AreListed (s : Setting) (formula : List Atom) (variable_count : ℕ) (lists : List GapList) : Type 0 where
  pub all : AreGapLists s formula variable_count lists
  pub few : AreFewGapShapes s formula variable_count
