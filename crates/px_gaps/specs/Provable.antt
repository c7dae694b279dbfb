-- Finding which atoms of a kind are provable.
use Rattle.std.specs.Prelude.{◌≡◌, ◌⊎◌, ◌↔◌, List, [], ◌∷◌, Contains}
use Rattle.px_terms.specs.declared.atom.Atom.{Atom}
use Rattle.px_proof.specs.declared.shape.Tick.{Tick}
use Rattle.px_question.specs.Answers.{IsProvable}
use Rattle.px_question.specs.Limits.{IsLimited}
use Rattle.px_question.specs.Settings.{Setting}

-- The new atoms are the old ones and the provable ones of the kind. Proving none of the kind meets the limit.
pub record FindsProvable (s : Setting) (IsKind : Atom → Type 0) (old new : List Atom) : Type 0 where
  pub exact : (q : Atom) → Contains new q ↔ (Contains old q ⊎ (IsKind q × IsProvable s q))
  pub unlimited : (q : Atom) (shapes : List (List Tick)) → IsKind q → ¬ IsLimited s (q ∷ []) 0 shapes

-- proving one atom of the kind meets the limit, at the formula of that atom alone
abbrev pub LimitsOne : Setting → (Atom → Type 0) → List Atom → List (List Tick) → Type 0
LimitsOne s IsKind formula shapes = (q : Atom) × IsKind q × (formula ≡ q ∷ []) × IsLimited s (q ∷ []) 0 shapes
