-- What the visits of a walk over unfinished loose lists say of the limit of gaps.
use Rattle.std.proofs.Common.{◌≡◌, ◌∙◌, ℕ, zero, suc, ◌<◌, true, List, map, refl, sym, subst, arith}
use Rattle.std.specs.Prelude.{Contains}
use Rattle.std.specs.List.{AllByRecursion}
use Rattle.std.proofs.lemmas.List.{length-map}
use Rattle.px_terms.specs.declared.atom.Atom.{Atom}
use Rattle.px_proof.specs.declared.shape.Tick.{Tick}
use Rattle.px_question.specs.Limits.{AreFewGapShapes, IsGapLimited}
use Rattle.px_question.specs.Settings.{Setting}
use Rattle.px_proof_walk.specs.Possible.{IsPossible, IsFinished, IsGoingOn, open_count, shape_of}
use Rattle.px_proof_walk.specs.Scope.{IsSetting, IsAtomIn}
use Rattle.px_proof_walk.specs.Search.{AreAll, LimitComes}
use Rattle.px_proof_walk.proofs.Every.{all-weaker}
use Rattle.px_proof.specs.PlaceLaws.{Contains-mapped}
use Rattle.px_proof_walk.proofs.Bridge.{partial-from}
use Rattle.px_proof_walk.proofs.Outcomes.{first_shapes}

pub above-zero : (k : ℕ) → ¬ (k ≡ 0) → 0 < k
above-zero zero other = absurd (other refl)
above-zero (suc k) other = omega arith

module _ (s : Setting) (valid : IsSetting s) (formula : List Atom) (variable_count : ℕ)
    (scoped : AllByRecursion (IsAtomIn s.objects variable_count) formula) where
  abbrev Goes : List Tick → Type 0
  Goes = IsGoingOn true s formula variable_count

  -- as many visits as the limit: their shapes are the first ones
  pub gap-limit-is : (seen : List (List Tick)) → LimitComes Goes (λ ticks. ⊥) s.limit seen
      → IsGapLimited s formula variable_count (map (shape_of true s formula variable_count) seen)
  gap-limit-is seen limit = record {
    count = length-map seen (shape_of true s formula variable_count) ∙ limit.count;
    kept = first_shapes true s valid formula variable_count scoped seen limit.ascending
        (all-weaker Goes (IsPossible true s formula variable_count) seen (λ x h. h.0) limit.possible)
        (all-weaker Goes (λ x. ¬ IsFinished true s formula variable_count x) seen
        (λ x h finished. let zero_left : open_count true s formula variable_count x ≡ 0 = finished in omega (arith, zero_left, h.1))
        limit.possible)
        (λ other possible unfinished. limit.first other (possible, above-zero (open_count true s formula variable_count other) unfinished));
  }

  -- all visits, and fewer than the limit: the shapes that exist are fewer
  pub gap-all-few : (seen : List (List Tick)) → AreAll Goes s.limit seen → AreFewGapShapes s formula variable_count
  gap-all-few seen all = record {
    seen = map (shape_of true s formula variable_count) seen;
    fewer = rw (length-map seen (shape_of true s formula variable_count)) all.few;
    all = λ shape partial.
        let from = partial-from true s valid formula variable_count scoped shape partial in
        subst (Contains (map (shape_of true s formula variable_count) seen)) (sym from.1)
        (Contains-mapped (shape_of true s formula variable_count) seen from.0
        (all.covers from.0 (from.2, above-zero (open_count true s formula variable_count from.0) from.3)));
  }
