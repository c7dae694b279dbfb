-- Gathering the deciding facts, fact by fact.
use Rattle.std.proofs.Common.{◌≡◌, ◌⊎◌, ◌+◌, ◌<◌, ℕ, Bool, true, false, List, ◌∷◌, length, take, get_or, refl, sym, subst, inl, inr}
use Rattle.std.specs.Prelude.{◌↔◌, Contains, IsTrue, MatchBool}
use Rattle.px_base.specs.ListLaws.{Contains-cases, Contains-first, Contains-later}
use Rattle.px_base.specs.SetLaws.{with_item-members}
use Rattle.px_terms.specs.AtomSets.{with_atom}
use Rattle.px_terms.specs.Order.{atom_cmp}
use Rattle.px_terms.specs.OrderLaws.{atom_cmp-same, atom_cmp-total}
use Rattle.px_terms.specs.declared.atom.Atom.{Atom}
use Rattle.px_terms.specs.declared.problem.Problem.{Problem}
use Rattle.px_entries.specs.Deciding.{AreDeciding, IsDeciding}
use Rattle.px_base.proofs.Loops.{Contains-pushed, said_no, said_yes, take_next}

module _ (problem : Problem) (facts : List Atom) (i : ℕ) (atom : Atom) (part : List Atom) (below : i < length facts)
    (at : atom ≡ get_or facts i atom) (are : AreDeciding problem (take i facts) part) where
  -- an atom is among the first facts, one more of them, just where it is among those before or is that one
  one-more : (q : Atom) → Contains (take (i + 1) facts) q ↔ (Contains (take i facts) q ⊎ (atom ≡ q))
  one-more q =
      subst (λ (l : List Atom). Contains l q ↔ (Contains (take i facts) q ⊎ (atom ≡ q))) (sym (take_next facts i atom below at))
      (Contains-pushed (take i facts) atom q)

  next-in : (new : List Atom) → IsDeciding problem atom → new ≡ with_atom atom part → AreDeciding problem (take (i + 1) facts) new
  next-in new decides put q =
      let members = with_item-members atom_cmp atom_cmp-total atom_cmp-same atom part q in (
        λ has. elim (Contains-cases atom part q (members.0 (subst (λ (l : List Atom). Contains l q) put has))) [
          | inl is ↦ ((one-more q).1 (inr is), subst (IsDeciding problem) is decides)
          | inr before ↦ let known = (are q).0 before in ((one-more q).1 (inl known.0), known.1)
        ],
        λ (has, own). subst (λ (l : List Atom). Contains l q) (sym put) (members.1 (elim ((one-more q).0 has) [
          | inl before ↦ Contains-later atom part q ((are q).1 (before, own))
          | inr is ↦ subst (Contains (atom ∷ part)) is (Contains-first atom part)
        ])),
      )

  next-out : (new : List Atom) → (¬ IsDeciding problem atom) → new ≡ part → AreDeciding problem (take (i + 1) facts) new
  next-out new not_deciding same q = (
    λ has. let known = (are q).0 (subst (λ (l : List Atom). Contains l q) same has) in ((one-more q).1 (inl known.0), known.1),
    λ (has, own). elim ((one-more q).0 has) [
      | inl before ↦ subst (λ (l : List Atom). Contains l q) (sym same) ((are q).1 (before, own))
      | inr is ↦ absurd (not_deciding (subst (IsDeciding problem) (sym is) own))
    ],
  )

  pub deciding-next : (decides : Bool) (new : List Atom) → IsTrue decides ↔ IsDeciding problem atom
      → MatchBool decides (new ≡ with_atom atom part) (new ≡ part) → AreDeciding problem (take (i + 1) facts) new
  deciding-next true new told put = next-in new (said_yes true told refl) put
  deciding-next false new told same = next-out new (said_no false told refl) same
