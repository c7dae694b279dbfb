-- The facts of a line, atom by atom.
use Rattle.px_effects.proofs.Common.{◌≡◌, ℕ, ◌+◌, ◌<◌, List, [], ◌∷◌, ◌++◌, map, take, length, get_or, sym, ap, ◌∙◌, inl, inr, Contains, Contains-append_left, Contains-append_right, Contains-append_cases, set_of-is_sorted, set_of-members, set_of-push, same_set, atom_set, with_atom, atom_cmp, Atom, Declared, atom_of, signed_view, WrittenAtom, atom_cmp-total, atom_cmp-same, map-map, map_more}

swapped : (first second third : List Atom) (q : Atom) → Contains ((first ++ second) ++ third) q → Contains ((first ++ third) ++ second) q
swapped first second third q there = elim (Contains-append_cases (first ++ second) third q there) [
  | inl prefix ↦ elim (Contains-append_cases first second q prefix) [
    | inl one ↦ Contains-append_left (first ++ third) second q (Contains-append_left first third q one)
    | inr two ↦ Contains-append_right (first ++ third) second q two
  ]
  | inr last ↦ Contains-append_left (first ++ third) second q (Contains-append_right first third q last)
]

-- the set of the atoms and an earlier list, with one more atom
set-more : (atom : Atom) (done rest : List Atom) → with_atom atom (atom_set (done ++ rest)) ≡ atom_set ((done ++ atom ∷ []) ++ rest)
set-more atom done rest = set_of-push atom_cmp atom_cmp-total atom_cmp-same (done ++ rest) atom
    ∙ same_set atom_cmp atom_cmp-total atom_cmp-same (atom_set ((done ++ rest) ++ atom ∷ [])) (atom_set ((done ++ atom ∷ []) ++ rest))
    (set_of-is_sorted atom_cmp atom_cmp-total atom_cmp-same ((done ++ rest) ++ atom ∷ []))
    (set_of-is_sorted atom_cmp atom_cmp-total atom_cmp-same ((done ++ atom ∷ []) ++ rest)) (λ q.
    let last = set_of-members atom_cmp atom_cmp-total atom_cmp-same ((done ++ rest) ++ atom ∷ []) q in
    let between = set_of-members atom_cmp atom_cmp-total atom_cmp-same ((done ++ atom ∷ []) ++ rest) q in (
      λ h. between.1 (swapped done rest (atom ∷ []) q (last.0 h)),
      λ h. last.1 (swapped done (atom ∷ []) rest q (between.0 h)),
    ))

-- the facts so far with those of the atoms
pub facts-more : (f : WrittenAtom → Atom) (atoms : List WrittenAtom) (facts : List Atom) (i : ℕ) (d : WrittenAtom) (fact : Atom)
    (before : List Atom) → fact ≡ f (get_or atoms i d) → i < length atoms → before ≡ atom_set (map f (take i atoms) ++ facts)
    → with_atom fact before ≡ atom_set (map f (take (i + 1) atoms) ++ facts)
facts-more f atoms facts i d fact before same below is =
    ap (with_atom fact) is ∙ set-more fact (map f (take i atoms)) facts
    ∙ ap (λ t. atom_set (t ++ facts)) (ap (λ t. map f (take i atoms) ++ t ∷ []) same ∙ sym (map_more f atoms i d below))

pub map_map : {A B C : Type 0} (g : B → C) (h : A → B) (xs : List A) → map g (map h xs) ≡ map (λ x. g (h x)) xs
map_map g h xs = map-map g h xs

-- the atoms of a line by numbers
pub numbered : (d : Declared) (atoms : List WrittenAtom)
    → map (atom_of d []) (map signed_view atoms) ≡ map (λ a. atom_of d [] (signed_view a)) atoms
numbered d atoms = map_map (atom_of d []) signed_view atoms
