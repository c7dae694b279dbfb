-- Going through a list of atoms until one isn't a fact.
use Rattle.std.specs.Prelude.{◌≡◌, ◌⊎◌, ◌<◌, ◌+◌, ℕ, Bool, false, IsTrue, Some, List, length, All, slice_get, slice_index_or}
use Rattle.std.proofs.Common.{sym, ap, ◌∙◌, subst, inl, inr, arith}
use Rattle.std.proofs.lemmas.Option.{get_or_from_slice_get, slice_get-get_or, slice_get_within}
use Rattle.px_base.specs.Answers.{some_same}

module _ {X : Type 0} (P : X → Type 0) (xs : List X) where
  -- the items below the place have it
  abbrev pub HaveBelow : ℕ → Type 0
  HaveBelow k = (j : ℕ) (y : X) → j < k → slice_get xs j ≡ Some y → P y

  pub have-more : (k : ℕ) (x : X) → HaveBelow k → slice_get xs k ≡ Some x → P x → HaveBelow (k + 1)
  have-more k x have is here j y below at = either (split j k below) where
    split : (j k : ℕ) → j < k + 1 → (j < k) ⊎ (j ≡ k)
    split j k below = grind arith

    either : (j < k) ⊎ (j ≡ k) → P y
    either (inl less) = have j y less at
    either (inr same) = subst P (some_same (sym is ∙ ap (slice_get xs) (sym same) ∙ at)) here

  pub have-all : HaveBelow (length xs) → All P xs
  have-all have k d below = have k (slice_index_or xs k d) below (slice_get-get_or xs k d below)

  pub have-not : (k : ℕ) (x : X) → slice_get xs k ≡ Some x → ¬ P x → ¬ All P xs
  have-not k x is not all = not (subst P (get_or_from_slice_get xs k x x is) (all k x (slice_get_within xs k x is)))

pub not-there : (b : Bool) (P : Type 0) → (P → IsTrue b) → b ≡ false → ¬ P
not-there b P to is p = let told = to p in cc
