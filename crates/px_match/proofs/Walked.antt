-- A walk over the atoms that a mark may become.
use Rattle.std.specs.Prelude.{◌≡◌, ◌⊎◌, ℕ, ◌<◌, ◌≤◌, ◌+◌, None, Option, List, length, All, Contains}
use Rattle.std.proofs.Common.{◌∙◌, sym, ap, inl, inr, get_or, arith}
use Rattle.std.proofs.lemmas.List.{get_or_default}
use Rattle.px_base.proofs.Loops.{level_or_below}
use Rattle.px_terms.specs.declared.atom.Atom.{Atom}
use Rattle.px_terms.specs.AtomSets.{IsAtomSet}
use Rattle.px_table.specs.Kernels.{atom_under}
use Rattle.px_match.specs.Reasons.{IsAtMost, IsSameBefore, object_at}
use Rattle.px_match.specs.Seeking.{IsLike, IsNoneBefore, IsPast}
use Rattle.px_match.proofs.Sides.{past_rest}

-- where the mark becomes one of the atoms before the place of the walk, the best object so far is at most the one at the place
pub record IsWalked (work : List ℕ) (place from : ℕ) (mark : Atom) (atoms : List Atom) (at : ℕ) (best : Option ℕ) : Type 0 where
  pub each : (tau : List ℕ) → IsLike work place mark.args tau → from ≤ object_at tau place → (k : ℕ) (d : Atom) → k < at
      → get_or atoms k d ≡ atom_under tau mark → IsAtMost best (object_at tau place)

module _ (work : List ℕ) (place from : ℕ) (mark : Atom) (atoms : List Atom) where
  pub walked_first : (at : ℕ) → IsNoneBefore work place from mark atoms at → IsWalked work place from mark atoms at None
  walked_first at before = record { each = λ tau like at_least k d below is. absurd (before.none tau like at_least k d below is) }

  pub walked_next : (at : ℕ) (atom : Atom) (best reached both : Option ℕ) → at < length atoms → atom ≡ get_or atoms at atom
      → ((tau : List ℕ) → length tau ≡ length work → All (IsSameBefore work place tau) mark.args → from ≤ object_at tau place
      → atom ≡ atom_under tau mark → IsAtMost reached (object_at tau place))
      → ((n : ℕ) → IsAtMost best n ⊎ IsAtMost reached n → IsAtMost both n)
      → IsWalked work place from mark atoms at best → IsWalked work place from mark atoms (at + 1) both
  walked_next at atom best reached both within here reach lesser walked = record {
    each = λ tau like at_least k d low is. elim (level_or_below k at low) [
      | inl before ↦ lesser _ (inl (walked.each tau like at_least k d before is))
      | inr same ↦ lesser _ (inr (reach tau like.count like.same at_least
          (here ∙ get_or_default atoms at atom d within ∙ ap (λ j. get_or atoms j d) (sym same) ∙ is)))
    ];
  }

  -- the mark becomes none of all atoms with less
  pub walked_all : (at : ℕ) (best : Option ℕ) → length atoms ≤ at → IsWalked work place from mark atoms at best
      → (tau : List ℕ) → length tau ≡ length work → All (IsSameBefore work place tau) mark.args → from ≤ object_at tau place
      → Contains atoms (atom_under tau mark) → IsAtMost best (object_at tau place)
  walked_all at best end walked tau count same at_least has =
      walked.each tau (record { count = count; same = same }) at_least has.0 (atom_under tau mark) (omega (arith, end, has.1)) has.2

  -- nor where those that are left don't matter
  pub walked_past : (at : ℕ) (atom : Atom) (best : Option ℕ) → IsAtomSet atoms → at < length atoms → atom ≡ get_or atoms at atom
      → IsPast work place from best mark atom → IsWalked work place from mark atoms at best
      → (tau : List ℕ) → length tau ≡ length work → All (IsSameBefore work place tau) mark.args → from ≤ object_at tau place
      → Contains atoms (atom_under tau mark) → IsAtMost best (object_at tau place)
  walked_past at atom best set within here past walked tau count same at_least has =
      let like : IsLike work place mark.args tau = record { count = count; same = same } in
      elim (apart has.0 at) [
        | inl before ↦ walked.each tau like at_least has.0 (atom_under tau mark) before has.2
        | inr later ↦ past_rest work place from best mark atoms at atom set within here past tau like at_least has.0
            (atom_under tau mark) later has.1 has.2
      ]
    where
      apart : (m n : ℕ) → (m < n) ⊎ (n ≤ m)
      apart m n = grind arith
