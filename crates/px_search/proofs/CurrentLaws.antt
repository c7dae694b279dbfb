-- What is kept of the model that is looked at stays right.
use Rattle.std.proofs.Common.{◌≡◌, ℕ, Option, None, Some, sym, subst}
use Rattle.std.specs.Prelude.{IfSome}
use Rattle.px_numbers.specs.Numbers.{Kept, KeepsAll}
use Rattle.px_numbers.specs.NumberLaws.{model_at-grows}
use Rattle.px_ends.specs.Tasks.{Task}
use Rattle.px_search.specs.CurrentModels.{IsHere, IsCurrent, IsCurrentAt}
use Rattle.px_search.specs.declared.moves.Here.{Here}
use Rattle.px_search.specs.declared.current.CurrentModel.{CurrentModel}
use Rattle.px_search.proofs.FromLaws.{top_at-grows}
use Rattle.px_search.proofs.CacheLaws.{part-grows}

module _ (task : Task) where
  pub current_at-grows : (old new : Kept) (number : ℕ) (current : CurrentModel) → KeepsAll old new → IsCurrentAt task old number current
      → IsCurrentAt task new number current
  current_at-grows old new number current keeps is =
      record {
        model_at = model_at-grows old new number current.model.atoms keeps is.model_at;
        part_at = part-grows task old new keeps current.part current.model.atoms is.part_at;
      }

  pub current-grows : (old new : Kept) (current : CurrentModel) → KeepsAll old new → IsCurrent task old current → IsCurrent task new current
  current-grows old new current keeps is = by current.number is
    where
      by : (number : Option ℕ) → IfSome number (λ n. IsCurrentAt task old n current) → IfSome number (λ n. IsCurrentAt task new n current)
      by None known = known
      by (Some n) known = current_at-grows old new n current keeps known

  -- no model was looked at yet
  pub current-start : (kept : Kept) (current : CurrentModel) → current.number ≡ None → IsCurrent task kept current
  current-start kept current none = subst (λ (number : Option ℕ). IfSome number (λ n. IsCurrentAt task kept n current)) (sym none) tt

  pub current-of : (kept : Kept) (number : ℕ) (current : CurrentModel) → current.number ≡ Some number → IsCurrentAt task kept number current
      → IsCurrent task kept current
  current-of kept number current here is = subst (λ (looked : Option ℕ). IfSome looked (λ n. IsCurrentAt task kept n current)) (sym here) is

  pub here-grows : (old new : Kept) (here : Here) → KeepsAll old new → IsHere task old here → IsHere task new here
  here-grows old new here keeps is = record {
    top = top_at-grows old new here.place here.below here.current.now.model.atoms here.stack.now keeps is.top;
    part = part-grows task old new keeps here.current.now.part here.current.now.model.atoms is.part;
  }
