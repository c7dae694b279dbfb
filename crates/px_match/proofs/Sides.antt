-- On which side of an atom those stand that a mark becomes.
use Rattle.std.specs.Prelude.{◌≡◌, ◌≢◌, ◌⊎◌, ℕ, ◌<◌, ◌≤◌, ◌+◌, ◌-◌, Some, None, Option, List, [], ◌∷◌, length, map, drop}
use Rattle.std.proofs.Common.{zero, suc, refl, sym, ap, ◌∙◌, subst, inl, inr, get_or, arith}
use Rattle.std.proofs.Math.Seq.{drop-cons}
use Rattle.std.specs.Cmp.{Equal-is, nat_cmp_is}
use Rattle.std.specs.Cmp.Lexicographic.{slice_cmp}
use Rattle.std.specs.List.Sorted.{IsStrictlySortedBy}
use Rattle.std.specs.Ordering.{nat_cmp, ordering_reverse, ordering_then}
use Rattle.std.specs.declared.cmp.Ordering.{Ordering}
use Rattle.std.specs.declared.cmp.Ordering.TheVariants.{Less, Equal, Greater}
use Rattle.std.proofs.lemmas.List.{get_or_default}
use Rattle.std.proofs.lemmas.List.Elements.{All-head, All-tail, Contains-get_or}
use Rattle.px_base.specs.ListLaws.{AllByRecursion-at}
use Rattle.px_base.proofs.Loops.{level_or_below}
use Rattle.px_terms.specs.contracts.term.TermOrd.TheImpl.Laws as term_order
use Rattle.px_terms.specs.declared.atom.Atom.{Atom}
use Rattle.px_terms.specs.declared.term.Term.{Term}
use Rattle.px_terms.specs.declared.term.Term.TheVariants.{Obj}
use Rattle.px_terms.specs.AtomSets.{IsAtomSet}
use Rattle.px_terms.specs.Language.{substitute}
use Rattle.px_terms.specs.Order.{atom_cmp, term_cmp}
use Rattle.px_terms.specs.OrderLaws.{atom_cmp-total, term_eq-decides}
use Rattle.px_table.specs.Kernels.{atom_under}
use Rattle.px_match.specs.Reasons.{IsAtMost, IsSameBefore, object_at}
use Rattle.px_match.proofs.Fewer.{less_itself}
use Rattle.px_match.specs.Seeking.{IsAboveInstances, IsBelowInstances, AreTermsAbove, AreTermsBelow, IsExpected, IsFromLimit, IsLike, IsNoneBefore, IsPast, IsUpToLimit}

same_term : (t u : Term) → term_cmp t u ≡ Equal → t ≡ u
same_term t u e = (term_eq-decides t u).0 (term_order.matches_eq-law t u ∙ (Equal-is (term_cmp t u)).1 e)

-- ---- the side of terms

then_less : (r s : Ordering) → r ≢ Greater → s ≡ Less → ordering_then r s ≡ Less
then_less Less s not_more less = refl
then_less Equal s not_more less = less
then_less Greater s not_more less = absurd (not_more refl)

lower : (f e a : Term) → term_cmp f e ≡ Less → term_cmp e a ≢ Greater → term_cmp f a ≡ Less
lower f e a less not_more = elim (term_cmp e a) as (λ r. term_cmp e a ≡ r → term_cmp f a ≡ Less) [
  | Less ↦ λ is. term_order.total-law.trans f e a less is
  | Equal ↦ λ is. subst (λ x. term_cmp f x ≡ Less) (same_term e a is) less
  | Greater ↦ λ is. absurd (not_more is)
] refl

upper : (a e f : Term) → term_cmp a e ≢ Greater → term_cmp e f ≡ Less → term_cmp a f ≡ Less
upper a e f not_more less = elim (term_cmp a e) as (λ r. term_cmp a e ≡ r → term_cmp a f ≡ Less) [
  | Less ↦ λ is. term_order.total-law.trans a e f is less
  | Equal ↦ λ is. subst (λ x. term_cmp x f ≡ Less) (sym (same_term a e is)) less
  | Greater ↦ λ is. absurd (not_more is)
] refl

module _ (work : List ℕ) (place : ℕ) (limit : Option ℕ) (t e f : Term) (ts fs : List Term) (is : IsExpected work place limit t e) where
  tail_like : (tau : List ℕ) → IsLike work place (t ∷ ts) tau → IsLike work place ts tau
  tail_like tau like = record { count = like.count; same = All-tail (IsSameBefore work place tau) t ts like.same }

  from_first : (tau : List ℕ) → IsLike work place (t ∷ ts) tau → IsFromLimit limit place tau
      → term_cmp e (substitute (map Obj tau) t) ≢ Greater
  from_first tau like from = is.from tau like.count (All-head (IsSameBefore work place tau) t ts like.same) from

  up_to_first : (tau : List ℕ) → IsLike work place (t ∷ ts) tau → IsUpToLimit limit place tau
      → term_cmp (substitute (map Obj tau) t) e ≢ Greater
  up_to_first tau like up_to = is.up_to tau like.count (All-head (IsSameBefore work place tau) t ts like.same) up_to

  below_first : term_cmp f e ≡ Less → AreTermsBelow work place limit (t ∷ ts) (f ∷ fs)
  below_first less = record {
    each = λ tau like from.
        ap (λ r. ordering_then r (slice_cmp term_cmp fs (map (substitute (map Obj tau)) ts)))
        (lower f e (substitute (map Obj tau) t) less (from_first tau like from));
  }

  above_first : term_cmp f e ≡ Greater → AreTermsAbove work place limit (t ∷ ts) (f ∷ fs)
  above_first more = record {
    each = λ tau like up_to.
        let less : term_cmp e f ≡ Less = term_order.total-law.antisymm e f ∙ ap ordering_reverse more in
        ap (λ r. ordering_then r (slice_cmp term_cmp (map (substitute (map Obj tau)) ts) fs))
        (upper (substitute (map Obj tau) t) e f (up_to_first tau like up_to) less);
  }

  below_next : term_cmp f e ≡ Equal → AreTermsBelow work place limit ts fs → AreTermsBelow work place limit (t ∷ ts) (f ∷ fs)
  below_next equal rest = record {
    each = λ tau like from.
        then_less _ _ (subst (λ x. term_cmp x (substitute (map Obj tau) t) ≢ Greater) (sym (same_term f e equal))
        (from_first tau like from)) (rest.each tau (tail_like tau like) from);
  }

  above_next : term_cmp f e ≡ Equal → AreTermsAbove work place limit ts fs → AreTermsAbove work place limit (t ∷ ts) (f ∷ fs)
  above_next equal rest = record {
    each = λ tau like up_to.
        then_less _ _ (subst (λ x. term_cmp (substitute (map Obj tau) t) x ≢ Greater) (sym (same_term f e equal))
        (up_to_first tau like up_to)) (rest.each tau (tail_like tau like) up_to);
  }

-- the terms from a place on
at_place : (P : List Term → List Term → Type 0) (terms found : List Term) (at : ℕ) (d : Term) → at < length terms
    → length terms ≡ length found
    → P (get_or terms at d ∷ drop (at + 1) terms) (get_or found at d ∷ drop (at + 1) found) → P (drop at terms) (drop at found)
at_place P terms found at d below lengths here =
    let next : suc at ≡ at + 1 = omega arith in
    let one : drop at terms ≡ get_or terms at d ∷ drop (at + 1) terms =
    drop-cons terms at d below ∙ ap (λ n. get_or terms at d ∷ drop n terms) next in
    let other : drop at found ≡ get_or found at d ∷ drop (at + 1) found =
    drop-cons found at d (omega (arith, below, lengths)) ∙ ap (λ n. get_or found at d ∷ drop n found) next in
    subst (λ l. P l (drop at found)) (sym one) (subst (P (get_or terms at d ∷ drop (at + 1) terms)) (sym other) here)

-- what holds of the terms from a place on holds of all
pub record IsSideFrom (work : List ℕ) (place : ℕ) (limit : Option ℕ) (terms found : List Term) (at : ℕ) : Type 0 where
  pub below : AreTermsBelow work place limit (drop at terms) (drop at found) → AreTermsBelow work place limit terms found
  pub above : AreTermsAbove work place limit (drop at terms) (drop at found) → AreTermsAbove work place limit terms found

module _ (work : List ℕ) (place : ℕ) (limit : Option ℕ) (terms found : List Term) (at : ℕ) (d e : Term) (within : at < length terms)
    (lengths : length terms ≡ length found)
    (is : IsExpected work place limit (get_or terms at d) e) (so_far : IsSideFrom work place limit terms found at) where
  pub side_less : term_cmp (get_or found at d) e ≡ Less → AreTermsBelow work place limit terms found
  side_less less =
      so_far.below (at_place (AreTermsBelow work place limit) terms found at d within lengths
      (below_first work place limit (get_or terms at d) e (get_or found at d) (drop (at + 1) terms) (drop (at + 1) found) is less))

  pub side_greater : term_cmp (get_or found at d) e ≡ Greater → AreTermsAbove work place limit terms found
  side_greater more =
      so_far.above (at_place (AreTermsAbove work place limit) terms found at d within lengths
      (above_first work place limit (get_or terms at d) e (get_or found at d) (drop (at + 1) terms) (drop (at + 1) found) is more))

  pub side_next : term_cmp (get_or found at d) e ≡ Equal → IsSideFrom work place limit terms found (at + 1)
  side_next equal = record {
    below =
        λ rest. so_far.below (at_place (AreTermsBelow work place limit) terms found at d within lengths
        (below_next work place limit (get_or terms at d) e (get_or found at d) (drop (at + 1) terms) (drop (at + 1) found) is equal rest));
    above =
        λ rest. so_far.above (at_place (AreTermsAbove work place limit) terms found at d within lengths
        (above_next work place limit (get_or terms at d) e (get_or found at d) (drop (at + 1) terms) (drop (at + 1) found) is equal rest));
  }

-- ---- the side of atoms

pub same_number : (m n : ℕ) → m ≡ n → nat_cmp m n ≡ Equal
same_number m n e = sym (nat_cmp_is m n Equal e)

pub mark_below : (work : List ℕ) (place : ℕ) (limit : Option ℕ) (mark atom : Atom) → mark.pred ≡ atom.pred
    → AreTermsBelow work place limit mark.args atom.args → IsBelowInstances work place limit mark atom
mark_below work place limit mark atom same terms = record {
  each = λ tau like from.
      ap (λ r. ordering_then r (slice_cmp term_cmp atom.args (map (substitute (map Obj tau)) mark.args)))
      (same_number atom.pred mark.pred (sym same)) ∙ terms.each tau like from;
}

pub mark_above : (work : List ℕ) (place : ℕ) (limit : Option ℕ) (mark atom : Atom) → mark.pred ≡ atom.pred
    → AreTermsAbove work place limit mark.args atom.args → IsAboveInstances work place limit mark atom
mark_above work place limit mark atom same terms = record {
  each = λ tau like up_to.
      ap (λ r. ordering_then r (slice_cmp term_cmp (map (substitute (map Obj tau)) mark.args) atom.args))
      (same_number mark.pred atom.pred same) ∙ terms.each tau like up_to;
}

-- ---- the atoms of a set

ascending_at : (xs : List Atom) (i j : ℕ) (d e : Atom) → IsAtomSet xs → i < j → j < length xs
    → atom_cmp (get_or xs i d) (get_or xs j e) ≡ Less
unfolding IsStrictlySortedBy
ascending_at [] i j d e set less below = absurd (omega (arith, below))
ascending_at (x ∷ xs) i zero d e set less below = absurd (omega (arith, less))
ascending_at (x ∷ xs) zero (suc j) d e set less below =
    AllByRecursion-at (λ y. atom_cmp x y ≡ Less) xs (get_or xs j e) set.0 (Contains-get_or xs j e (omega (arith, below)))
ascending_at (x ∷ xs) (suc i) (suc j) d e set less below = ascending_at xs i j d e set.1 (omega (arith, less)) (omega (arith, below))

pub none_yet : (work : List ℕ) (place from : ℕ) (mark : Atom) (atoms : List Atom) → IsNoneBefore work place from mark atoms 0
none_yet work place from mark atoms = record { none = λ tau like at_least k d below is. omega (arith, below) }

pub none_so_far : (work : List ℕ) (place from : ℕ) (mark : Atom) (atoms : List Atom) (at : ℕ) (atom : Atom) → IsAtomSet atoms
    → at < length atoms → atom ≡ get_or atoms at atom
    → IsBelowInstances work place (Some from) mark atom → IsNoneBefore work place from mark atoms (at + 1)
none_so_far work place from mark atoms at atom set within here below = record {
  none = λ tau like at_least k d low is.
      let less = below.each tau like at_least in
      elim (level_or_below k at low) [
        | inl before ↦
            let first : atom_cmp (get_or atoms k d) atom ≡ Less =
            subst (λ a. atom_cmp (get_or atoms k d) a ≡ Less) (sym here) (ascending_at atoms k at d atom set before within) in
            less_itself (atom_under tau mark) (subst (λ a. atom_cmp a (atom_under tau mark) ≡ Less) is
            (atom_cmp-total.trans (get_or atoms k d) atom (atom_under tau mark) first less))
        | inr same ↦
            let one : atom ≡ atom_under tau mark =
            here ∙ get_or_default atoms at atom d within ∙ ap (λ j. get_or atoms j d) (sym same) ∙ is in
            less_itself (atom_under tau mark) (subst (λ a. atom_cmp a (atom_under tau mark) ≡ Less) one less)
      ];
}

-- ---- the end of a walk

pub past_all : (work : List ℕ) (place from : ℕ) (mark atom : Atom) → IsAboveInstances work place None mark atom
    → IsPast work place from None mark atom
past_all work place from mark atom above = record { each = λ tau like at_least. inr (above.each tau like tt) }

pub past_first : (work : List ℕ) (place from best : ℕ) (mark atom : Atom) → best ≤ from → IsPast work place from (Some best) mark atom
past_first work place from best mark atom low = record { each = λ tau like at_least. inl (omega (arith, low, at_least)) }

pub past_best : (work : List ℕ) (place from best : ℕ) (mark atom : Atom) → from < best
    → IsAboveInstances work place (Some (best - 1)) mark atom
    → IsPast work place from (Some best) mark atom
past_best work place from best mark atom more above = record {
  each =
      λ tau like at_least. elim (apart best (object_at tau place)) [
        | inl enough ↦ inl enough
        | inr less ↦ inr
            (above.each tau like (omega (arith, less, more)))
      ];
} where
  apart : (m n : ℕ) → (m ≤ n) ⊎ (n < m)
  apart m n = grind arith

pub past_rest : (work : List ℕ) (place from : ℕ) (best : Option ℕ) (mark : Atom) (atoms : List Atom) (at : ℕ) (atom : Atom)
    → IsAtomSet atoms → at < length atoms → atom ≡ get_or atoms at atom
    → IsPast work place from best mark atom → (tau : List ℕ) → IsLike work place mark.args tau → from ≤ object_at tau place
    → (k : ℕ) (d : Atom) → at ≤ k → k < length atoms → get_or atoms k d ≡ atom_under tau mark → IsAtMost best (object_at tau place)
past_rest work place from best mark atoms at atom set within here past tau like at_least k d high below is =
    elim (past.each tau like at_least) [
      | inl enough ↦ enough
      | inr less ↦ elim (level_or_below at k (omega (arith, high))) [
        | inl later ↦
            let first : atom_cmp atom (get_or atoms k d) ≡ Less =
            subst (λ a. atom_cmp a (get_or atoms k d) ≡ Less) (sym here) (ascending_at atoms at k atom d set later below) in
            absurd (less_itself (atom_under tau mark) (atom_cmp-total.trans (atom_under tau mark) atom (atom_under tau mark) less
            (subst (λ a. atom_cmp atom a ≡ Less) is first)))
        | inr same ↦
            let one : atom ≡ atom_under tau mark = here ∙ get_or_default atoms at atom d within ∙ ap (λ j. get_or atoms j d) same ∙ is in
            absurd (less_itself (atom_under tau mark) (subst (λ a. atom_cmp (atom_under tau mark) a ≡ Less) one less))
      ]
    ]
