-- A list of matches stays one when an atom is taken from the atoms or put to them.
use Rattle.std.specs.Prelude.{◌≡◌, ◌↔◌, Bool, true, false, List, ◌∷◌, filter, Contains}
use Rattle.std.proofs.Common.{sym, ap, ◌∙◌, subst, inl, inr}
use Rattle.std.proofs.lemmas.List.Kept.{IsStrictlySortedBy-filter}
use Rattle.px_base.specs.ListLaws.{Contains-cases, Contains-filter, Contains-first, Contains-later}
use Rattle.px_base.specs.SetLaws.{same_set, with_item-members, with_item-sorted}
use Rattle.px_terms.specs.declared.atom.Atom.{Atom}
use Rattle.px_terms.specs.AtomSets.{IsAtomSet, with_atom}
use Rattle.px_terms.specs.Order.{atom_cmp}
use Rattle.px_terms.specs.OrderLaws.{atom_cmp-same, atom_cmp-total}
use Rattle.px_ops.specs.ModelLaws.{without_atom-ascending, without_atom-members}
use Rattle.px_ops.specs.Models.{without_atom}
use Rattle.px_match.specs.Keeping.{covers, matches}

clash : {G : Type 0} (b : Bool) → b ≡ true → b ≡ false → G
clash b t f = cc

module _ (c : Atom → Bool) (atom : Atom) (atoms : List Atom) (set : IsAtomSet atoms) where
  kept_set : (xs : List Atom) → IsAtomSet xs → IsAtomSet (filter c xs)
  kept_set xs is = IsStrictlySortedBy-filter atom_cmp c xs is

  with_set : (xs : List Atom) → IsAtomSet xs → IsAtomSet (with_atom atom xs)
  with_set xs is = with_item-sorted atom_cmp atom_cmp-total atom_cmp-same atom xs is

  one_set : (xs ys : List Atom) → IsAtomSet xs → IsAtomSet ys → ((q : Atom) → Contains xs q ↔ Contains ys q) → xs ≡ ys
  one_set xs ys = same_set atom_cmp atom_cmp-total atom_cmp-same xs ys

  pub taken-covered : filter c (without_atom atom atoms) ≡ without_atom atom (filter c atoms)
  taken-covered =
      one_set (filter c (without_atom atom atoms)) (without_atom atom (filter c atoms)) (kept_set _ (without_atom-ascending atom atoms set))
      (without_atom-ascending atom _ (kept_set atoms set)) (λ q. (
        λ h.
            let there = (Contains-filter c (without_atom atom atoms) q).0 h in
            let other = (without_atom-members atom atoms q).0 there.0 in
            (without_atom-members atom (filter c atoms) q).1 ((Contains-filter c atoms q).1 (other.0, there.1), other.1),
        λ h.
            let other = (without_atom-members atom (filter c atoms) q).0 h in
            let there = (Contains-filter c atoms q).0 other.0 in
            (Contains-filter c (without_atom atom atoms) q).1 ((without_atom-members atom atoms q).1 (there.0, other.1), there.1),
      ))

  pub taken-other : c atom ≡ false → filter c (without_atom atom atoms) ≡ filter c atoms
  taken-other fails =
      one_set (filter c (without_atom atom atoms)) (filter c atoms) (kept_set _ (without_atom-ascending atom atoms set))
      (kept_set atoms set) (λ q. (
        λ h.
            let there = (Contains-filter c (without_atom atom atoms) q).0 h in
            (Contains-filter c atoms q).1 (((without_atom-members atom atoms q).0 there.0).0, there.1),
        λ h.
            let there = (Contains-filter c atoms q).0 h in
            (Contains-filter c (without_atom atom atoms) q).1
            ((without_atom-members atom atoms q).1 (there.0, λ same. clash (c q) there.1 (ap c same ∙ fails)), there.1),
      ))

  pub put-covered : c atom ≡ true → filter c (with_atom atom atoms) ≡ with_atom atom (filter c atoms)
  put-covered passes =
      one_set (filter c (with_atom atom atoms)) (with_atom atom (filter c atoms)) (kept_set _ (with_set atoms set))
      (with_set _ (kept_set atoms set)) (λ q. (
        λ h.
            let there = (Contains-filter c (with_atom atom atoms) q).0 h in
            (with_item-members atom_cmp atom_cmp-total atom_cmp-same atom (filter c atoms) q).1
            (elim (Contains-cases atom atoms q ((with_item-members atom_cmp atom_cmp-total atom_cmp-same atom atoms q).0 there.0)) [
              | inl same ↦ subst (Contains (atom ∷ filter c atoms)) same (Contains-first atom (filter c atoms))
              | inr old ↦ Contains-later atom (filter c atoms) q ((Contains-filter c atoms q).1 (old, there.1))
            ]),
        λ h.
            (Contains-filter c (with_atom atom atoms) q).1
            (elim (Contains-cases atom (filter c atoms) q
            ((with_item-members atom_cmp atom_cmp-total atom_cmp-same atom (filter c atoms) q).0 h)) [
              | inl same ↦ (
                (with_item-members atom_cmp atom_cmp-total atom_cmp-same atom atoms q).1
                    (subst (Contains (atom ∷ atoms)) same (Contains-first atom atoms)),
                ap c (sym same) ∙ passes,
              )
              | inr old ↦
                  let there = (Contains-filter c atoms q).0 old in
                  ((with_item-members atom_cmp atom_cmp-total atom_cmp-same atom atoms q).1 (Contains-later atom atoms q there.0), there.1)
            ]),
      ))

  pub put-other : c atom ≡ false → filter c (with_atom atom atoms) ≡ filter c atoms
  put-other fails =
      one_set (filter c (with_atom atom atoms)) (filter c atoms) (kept_set _ (with_set atoms set)) (kept_set atoms set) (λ q. (
        λ h.
            let there = (Contains-filter c (with_atom atom atoms) q).0 h in
            (Contains-filter c atoms q).1
            (elim (Contains-cases atom atoms q ((with_item-members atom_cmp atom_cmp-total atom_cmp-same atom atoms q).0 there.0)) [
              | inl same ↦ absurd (clash (c q) there.1 (ap c (sym same) ∙ fails))
              | inr old ↦ (old, there.1)
            ]),
        λ h.
            let there = (Contains-filter c atoms q).0 h in
            (Contains-filter c (with_atom atom atoms) q).1
            ((with_item-members atom_cmp atom_cmp-total atom_cmp-same atom atoms q).1 (Contains-later atom atoms q there.0), there.1),
      ))

-- what a mark covers of a set is one
pub matches_set : (mark : Atom) (atoms list : List Atom) → IsAtomSet atoms → list ≡ matches mark atoms → IsAtomSet list
matches_set mark atoms list set is = subst IsAtomSet (sym is) (IsStrictlySortedBy-filter atom_cmp (covers mark) atoms set)

-- and has only atoms of the set
pub matches_without : (mark : Atom) (atoms list : List Atom) (atom : Atom) → list ≡ matches mark atoms → ¬ Contains atoms atom
    → ¬ Contains list atom
matches_without mark atoms list atom is hasnt =
    λ has. hasnt ((Contains-filter (covers mark) atoms atom).0 (subst (λ l. Contains l atom) is has)).0
