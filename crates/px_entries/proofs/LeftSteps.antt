-- Loops that pick items of a list: what a step leaves of facts, and the atoms of a row.
use Rattle.std.proofs.Common.{◌≡◌, ◌+◌, ◌<◌, ◌≤◌, ◌++◌, ℕ, suc, Bool, true, false, List, [], ◌∷◌, length, take, get_or, refl, sym, ap, ◌∙◌, append-nil, arith}
use Rattle.std.specs.Prelude.{All, MatchBool, map, filter, not, cond}
use Rattle.std.proofs.lemmas.List.{map-append, take_all}
use Rattle.std.proofs.lemmas.List.Elements.{filter-append}
use Rattle.std.proofs.lemmas.List.Kept.{IsStrictlySortedBy-filter}
use Rattle.px_base.specs.SetLaws.{set_of-push, set_of-sorted}
use Rattle.px_base.specs.Sets.{set_of}
use Rattle.px_terms.specs.AtomSets.{IsAtomSet, atom_set, with_atom}
use Rattle.px_terms.specs.Order.{atom_cmp}
use Rattle.px_terms.specs.OrderLaws.{atom_cmp-same, atom_cmp-total}
use Rattle.px_terms.specs.declared.atom.Atom.{Atom}
use Rattle.px_base.proofs.Loops.{take_next}

module _ {X : Type 0} (p : X → Bool) (xs : List X) (i : ℕ) (x : X) (below : i < length xs) (is : x ≡ get_or xs i x) where
  filter-next : filter p (take (i + 1) xs) ≡ filter p (take i xs) ++ filter p (x ∷ [])
  filter-next = ap (filter p) (take_next xs i x below is) ∙ filter-append p (take i xs) (x ∷ [])

  filter-in : p x ≡ true → filter p (take (i + 1) xs) ≡ filter p (take i xs) ++ x ∷ []
  filter-in yes' = filter-next ∙ ap (λ (b : Bool). filter p (take i xs) ++ cond b (x ∷ []) []) yes'

  filter-out : p x ≡ false → filter p (take (i + 1) xs) ≡ filter p (take i xs)
  filter-out no' = filter-next ∙ ap (λ (b : Bool). filter p (take i xs) ++ cond b (x ∷ []) []) no' ∙ append-nil (filter p (take i xs))

  module _ {Y : Type 0} (f : X → Y) (made : List Y) (so_far : made ≡ map f (filter p (take i xs))) where
    -- the item is picked, or it isn't
    picked-in : (new : List Y) (y : Y) → p x ≡ true → y ≡ f x → new ≡ made ++ y ∷ [] → new ≡ map f (filter p (take (i + 1) xs))
    picked-in new y yes' y_is put =
        put ∙ ap (λ (ys : List Y). ys ++ y ∷ []) so_far ∙ ap (λ (z : Y). map f (filter p (take i xs)) ++ z ∷ []) y_is
        ∙ sym (map-append f (filter p (take i xs)) (x ∷ [])) ∙ ap (map f) (sym (filter-in yes'))

    picked-out : p x ≡ false → made ≡ map f (filter p (take (i + 1) xs))
    picked-out no' = so_far ∙ ap (map f) (sym (filter-out no'))

    pub picked-next : (wanted : Bool) (new : List Y) (y : Y) → wanted ≡ p x → y ≡ f x → MatchBool wanted (new ≡ made ++ y ∷ []) (new ≡ made)
        → new ≡ map f (filter p (take (i + 1) xs))
    picked-next true new y test y_is put = picked-in new y (sym test) y_is put
    picked-next false new y test y_is same = same ∙ picked-out (sym test)

is-true : (b : Bool) → false ≡ not b → b ≡ true
is-true true e = refl
is-true false e = cc

is-false : (b : Bool) → true ≡ not b → b ≡ false
is-false true e = cc
is-false false e = refl

module _ (p : Atom → Bool) (facts : List Atom) where
  pub left-none : (left : List Atom) → left ≡ [] → left ≡ atom_set (filter p (take 0 facts))
  unfolding set_of
  left-none left empty = empty

  module _ (i : ℕ) (atom : Atom) (left : List Atom) (so_far : left ≡ atom_set (filter p (take i facts))) (below : i < length facts)
      (is : atom ≡ get_or facts i atom) where
    -- the atom is left, or it isn't
    left-in : (new : List Atom) → p atom ≡ true → new ≡ with_atom atom left → new ≡ atom_set (filter p (take (i + 1) facts))
    left-in new yes' put =
        put ∙ ap (with_atom atom) so_far ∙ set_of-push atom_cmp atom_cmp-total atom_cmp-same (filter p (take i facts)) atom
        ∙ ap atom_set (sym (filter-in p facts i atom below is yes'))

    left-out : p atom ≡ false → left ≡ atom_set (filter p (take (i + 1) facts))
    left-out no' = so_far ∙ ap atom_set (sym (filter-out p facts i atom below is no'))

    pub left-next : (deleted : Bool) (new : List Atom) → deleted ≡ not (p atom) → MatchBool deleted (new ≡ left) (new ≡ with_atom atom left)
        → new ≡ atom_set (filter p (take (i + 1) facts))
    left-next true new test same = same ∙ left-out (is-false (p atom) test)
    left-next false new test put = left-in new (is-true (p atom) test) put

  pub left-all : (i : ℕ) (left model : List Atom) → facts ≡ model → IsAtomSet model → length facts ≤ i
      → left ≡ atom_set (filter p (take i facts)) → left ≡ filter p model
  left-all i left model same ascending end so_far =
      so_far ∙ ap (λ (l : List Atom). atom_set (filter p l)) (take_all i facts end ∙ same)
      ∙ set_of-sorted atom_cmp (filter p model) (IsStrictlySortedBy-filter atom_cmp p model ascending)

pub not-twice : (b : Bool) → b ≡ not (not b)
not-twice true = refl
not-twice false = refl

-- where nothing is left out all is left
pub left-whole : {X : Type 0} (test : X → Bool) (xs : List X) → All (λ x. test x ≡ false) xs → filter (λ x. not (test x)) xs ≡ xs
left-whole test [] all = refl
left-whole test (x ∷ xs) all =
    ap (λ (b : Bool). cond (not b) (x ∷ filter (λ y. not (test y)) xs) (filter (λ y. not (test y)) xs)) (all 0 x (omega arith))
    ∙ ap (λ (l : List _). x ∷ l) (left-whole test xs (λ k d below. all (suc k) d (omega (arith, below))))

pub left-same : {X : Type 0} (test : X → Bool) (xs model copy : List X) → xs ≡ model → All (λ x. test x ≡ false) xs → copy ≡ model
    → copy ≡ filter (λ x. not (test x)) model
left-same {X} test xs model copy same all is = is ∙ sym same ∙ sym (left-whole test xs all) ∙ ap (filter (λ x. not (test x))) same
