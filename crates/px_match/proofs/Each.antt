-- A loop that changes each list of a mark in turn.
use Rattle.std.specs.Prelude.{◌≡◌, ◌≤◌, ◌<◌, ◌+◌, ℕ, List, length}
use Rattle.std.proofs.Common.{sym, ◌∙◌, subst, inl, inr, get_or, slice_set, arith}
use Rattle.std.proofs.lemmas.List.{get_or-set_other, get_or-set_same, get_or_default}
use Rattle.px_base.proofs.Loops.{level_or_below}
use Rattle.px_ops.specs.ModelValue.{ModelValue}
use Rattle.px_table.specs.declared.mark.Mark.{Mark}

module _ (R : Mark → ModelValue → ModelValue → Type 0) (marks : List Mark) (first lists : List ModelValue) (at : ℕ) (one : ModelValue)
    (here : at < length lists) where
  set_there : (k : ℕ) (d : ModelValue) (m : Mark) → ((e : ModelValue) (n : Mark) → R (get_or marks at n) (get_or first at e) one) → k ≡ at
      → R (get_or marks k m) (get_or first k d) (get_or (slice_set lists at one) k d)
  set_there k d m last same =
      subst (λ j. R (get_or marks j m) (get_or first j d) (get_or (slice_set lists at one) j d)) (sym same)
      (subst (R (get_or marks at m) (get_or first at d)) (sym (get_or-set_same lists at one d here)) (last d m))

  pub set_before : ((k : ℕ) (d : ModelValue) (m : Mark) → k < at → R (get_or marks k m) (get_or first k d) (get_or lists k d))
      → ((d : ModelValue) (m : Mark) → R (get_or marks at m) (get_or first at d) one)
      → (k : ℕ) (d : ModelValue) (m : Mark) → k < at + 1 → R (get_or marks k m) (get_or first k d) (get_or (slice_set lists at one) k d)
  set_before before last k d m below = elim (level_or_below k at below) [
    | inl less ↦ subst (R (get_or marks k m) (get_or first k d))
        (sym (get_or-set_other lists at k one d (λ same. omega (arith, less, same)))) (before k d m less)
    | inr same ↦ set_there k d m last same
  ]

  pub set_after : ((k : ℕ) (d : ModelValue) → at ≤ k → get_or lists k d ≡ get_or first k d) → (k : ℕ) (d : ModelValue) → at + 1 ≤ k
      → get_or (slice_set lists at one) k d ≡ get_or first k d
  set_after after k d above = get_or-set_other lists at k one d (λ same. omega (arith, above, same)) ∙ after k d (omega (arith, above))

  -- what the call says of the mark and the list that it was given
  pub set_here : (mark : Mark) (e : ModelValue) → at < length marks → mark ≡ get_or marks at mark
      → ((k : ℕ) (d : ModelValue) → at ≤ k → get_or lists k d ≡ get_or first k d) → R mark (get_or lists at e) one
      → (d : ModelValue) (m : Mark) → R (get_or marks at m) (get_or first at d) one
  set_here mark e below mark_is after holds d m =
      let mark_same = mark_is ∙ get_or_default marks at mark m below in
      let old_same = get_or_default lists at e d here ∙ after at d (omega arith) in
      subst (λ x. R (get_or marks at m) x one) old_same (subst (λ x. R x (get_or lists at e) one) mark_same holds)
