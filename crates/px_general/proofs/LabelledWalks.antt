-- Each walk has labels: the roots of its terms are numbered in the order in which they first occur.
use Rattle.std.specs.Prelude.{◌≡◌, ◌+◌, ◌<◌, ℕ, Option, Some, None, List, [], ◌∷◌, ◌++◌, length, replicate, set, slice_get}
use Rattle.std.proofs.Common.{refl, sym, ap, ◌∙◌, subst, inl, inr, append-nil, append_assoc}
use Rattle.std.proofs.lemmas.List.{length-replicate}
use Rattle.px_base.specs.Answers.{some_same}
use Rattle.px_terms.specs.declared.term.Term.{Term}
use Rattle.px_terms.specs.declared.term.Term.TheVariants.{Obj, Var, Any as WildCard}
use Rattle.px_terms.specs.Language.{substitute}
use Rattle.px_general.specs.Naming.{AreLabels, HasRootsBelow, is_variable_term}
use Rattle.px_general.proofs.GeneralSteps.{first-labels}
use Rattle.px_general.proofs.LabelSteps.{free-term, label-kept, label-new, label-none, label-object, length-set_term, root-within}

-- labels along a walk, one for each variable that has one
pub record WalkLabels (resolved walked : List Term) : Type 0 where
  pub labels : List Term
  pub next : ℕ
  pub long : length labels ≡ length resolved
  pub are : AreLabels resolved labels next walked

module _ (resolved : List Term) (roots : HasRootsBelow (length resolved) resolved) where
  module _ (walked : List Term) (t : Term) (before : WalkLabels resolved walked) where
    same-labels : AreLabels resolved before.labels before.next (walked ++ t ∷ []) → WalkLabels resolved (walked ++ t ∷ [])
    same-labels are = record { labels = before.labels; next = before.next; long = before.long; are = are }

    next-label : (w : ℕ) → substitute resolved t ≡ Var w → ((p : ℕ) → ¬ (slice_get before.labels w ≡ Some (Var p)))
        → WalkLabels resolved (walked ++ t ∷ [])
    next-label w is free = record {
      labels = set before.labels w (Var before.next);
      next = before.next + 1;
      long = length-set_term before.labels w (Var before.next) ∙ before.long;
      are =
          label-new resolved before.labels walked before.next t before.are w is
          (subst (λ (n : ℕ). w < n) (sym before.long) (root-within (length resolved) resolved roots t w is)) free;
    }

    by-label : (w : ℕ) → substitute resolved t ≡ Var w → (label : Option Term) → slice_get before.labels w ≡ label
        → WalkLabels resolved (walked ++ t ∷ [])
    by-label w is (Some (Var p)) at = same-labels (label-kept resolved before.labels walked before.next t before.are w p is at)
    by-label w is (Some (Obj n)) at =
        next-label w is (λ p there. (free-term (Obj n) (inl (n, refl))).1 p (some_same (sym at ∙ there)))
    by-label w is (Some WildCard) at =
        next-label w is (λ p there. (free-term WildCard (inr refl)).1 p (some_same (sym at ∙ there)))
    by-label w is None at = next-label w is (λ p there. nowhere p (sym at ∙ there))
      where
        nowhere : (p : ℕ) → ¬ (None ≡ Some (Var p))
        nowhere p e = cc

    by-root : (r : Term) → substitute resolved t ≡ r → WalkLabels resolved (walked ++ t ∷ [])
    by-root (Obj n) is = same-labels (label-object resolved before.labels walked before.next t before.are n is)
    by-root (Var w) is = by-label w is (slice_get before.labels w) refl
    by-root WildCard is = same-labels (label-none resolved before.labels walked before.next t before.are (ap is_variable_term is))

  labels-along : (walked terms : List Term) → WalkLabels resolved walked → WalkLabels resolved (walked ++ terms)
  labels-along walked [] before = subst (WalkLabels resolved) (sym (append-nil walked)) before
  labels-along walked (t ∷ terms) before =
      subst (WalkLabels resolved) (append_assoc walked (t ∷ []) terms)
      (labels-along (walked ++ t ∷ []) terms (by-root walked t before (substitute resolved t) refl))

  pub labels-there : (walked : List Term) → WalkLabels resolved walked
  labels-there walked = labels-along [] walked (record {
    labels = replicate (length resolved) WildCard;
    next = 0;
    long = length-replicate (length resolved) WildCard;
    are = first-labels resolved (length resolved);
  })
