-- The laws of models: what equality says, what taking an atom away leaves, and how many atoms there are afterwards.
use Rattle.std.specs.Prelude.{◌≡◌, ◌↔◌, ◌≤◌, ◌+◌, length, Bool, true, false, not, List, Contains}
use Rattle.std.proofs.Common.{refl}
use Rattle.std.proofs.lemmas.Cmp.{on_equiv, lists_equiv}
use Rattle.std.proofs.lemmas.List.Sums.{length-filter, count_by-le-length}
use Rattle.std.proofs.lemmas.List.Kept.{IsStrictlySortedBy-filter}
use Rattle.std.specs.Bool.{Decides}
use Rattle.std.specs.Cmp.{IsEquivalence}
use Rattle.std.specs.Cmp.Lexicographic.{pointwise_decides}
use Rattle.std.specs.Hash.{Alike, on_Alike, items_Alike}
use Rattle.px_base.specs.ListLaws.{Contains-filter}
use Rattle.px_base.specs.SetLaws.{with_item-length}
use Rattle.px_terms.specs.declared.atom.Atom.{Atom}
use Rattle.px_terms.specs.AtomSets.{IsAtomSet, with_atom}
use Rattle.px_terms.specs.Order.{atom_cmp, atom_eq}
use Rattle.px_terms.specs.OrderLaws.{atom_eq-decides, atom_eq-equivalence, atom_hash-alike}
use Rattle.px_ops.specs.ModelValue.{ModelValue}
use Rattle.px_ops.specs.Models.{model_eq, model_hash_input, without_atom}

pub model_eq-equivalence : IsEquivalence model_eq
model_eq-equivalence = on_equiv (λ (m : ModelValue). m.atoms) (lists_equiv atom_eq-equivalence)

pub model_hash-alike : Alike model_eq model_hash_input
model_hash-alike = on_Alike (λ (m : ModelValue). m.atoms) (items_Alike atom_hash-alike)

-- models are equal exactly where their lists of atoms are the same
pub model_eq-decides : (m n : ModelValue) → Decides (model_eq m n) (m.atoms ≡ n.atoms)
model_eq-decides m n = pointwise_decides atom_eq-decides m.atoms n.atoms

other : (a b : Atom) → not (atom_eq a b) ≡ true ↔ (¬ (a ≡ b))
other a b = (
  λ differ same. clash (atom_eq a b) differ ((atom_eq-decides a b).1 same),
  λ differ. elim (atom_eq a b) as (λ t. atom_eq a b ≡ t → not t ≡ true) [
    | true ↦ λ same. absurd (differ ((atom_eq-decides a b).0 same))
    | false ↦ λ _. refl
  ] refl,
) where
  clash : (t : Bool) → not t ≡ true → ¬ (t ≡ true)
  clash t f g = cc

-- the members of a set without an atom are the other ones
pub without_atom-members : (atom : Atom) (atoms : List Atom) (q : Atom) → Contains (without_atom atom atoms) q
    ↔ (Contains atoms q × (¬ (q ≡ atom)))
without_atom-members atom atoms q =
    let kept = Contains-filter (λ a. not (atom_eq a atom)) atoms q in
    (λ h. ((kept.0 h).0, (other q atom).0 (kept.0 h).1), λ h. kept.1 (h.0, (other q atom).1 h.1))

-- and it is kept as sets are
pub without_atom-ascending : (atom : Atom) (atoms : List Atom) → IsAtomSet atoms → IsAtomSet (without_atom atom atoms)
without_atom-ascending atom atoms = IsStrictlySortedBy-filter atom_cmp (λ a. not (atom_eq a atom)) atoms

-- a set with one more atom has at most one more, and without an atom it has at most as many
pub with_atom-length : (atom : Atom) (atoms : List Atom) → length (with_atom atom atoms) ≤ length atoms + 1
with_atom-length atom atoms = with_item-length atom_cmp atom atoms

pub without_atom-length : (atom : Atom) (atoms : List Atom) → length (without_atom atom atoms) ≤ length atoms
without_atom-length atom atoms = rw length-filter (count_by-le-length (λ other. not (atom_eq other atom)) atoms)
