-- Steps of loops that gather what each item of a list brings.
use Rattle.std.proofs.Common.{◌≡◌, ◌+◌, ◌<◌, ◌⊎◌, ℕ, List, [], ◌∷◌, ◌++◌, length, map, take, get_or, refl, sym, ap, ◌∙◌, subst, inl, inr}
use Rattle.std.specs.Prelude.{◌↔◌, Any, Contains}
use Rattle.std.proofs.lemmas.List.{map-append}
use Rattle.px_base.specs.ListLaws.{Contains-none, Contains-first, Contains-later, Contains-cases}
use Rattle.px_base.specs.SetLaws.{with_item-members}
use Rattle.px_terms.specs.declared.atom.Atom.{Atom}
use Rattle.px_terms.specs.AtomSets.{with_atom}
use Rattle.px_terms.specs.Order.{atom_cmp}
use Rattle.px_terms.specs.OrderLaws.{atom_cmp-total, atom_cmp-same}
use Rattle.px_gaps.specs.Closings.{OneOf}
use Rattle.px_base.proofs.Loops.{Contains-pushed, take_next}

pub members_next : {X : Type 0} (xs : List X) (i : ℕ) (x q : X) → i < length xs → x ≡ get_or xs i x → Contains (take (i + 1) xs) q
    ↔ (Contains (take i xs) q ⊎ (x ≡ q))
members_next xs i x q below is = (
  λ h. (Contains-pushed (take i xs) x q).0 (subst (λ l. Contains l q) (take_next xs i x below is) h),
  λ h. subst (λ l. Contains l q) (sym (take_next xs i x below is)) ((Contains-pushed (take i xs) x q).1 h),
)

pub one_next : {X : Type 0} (P : X → Type 0) (xs : List X) (i : ℕ) (x : X) → i < length xs → x ≡ get_or xs i x → OneOf (take (i + 1) xs) P
    ↔ (OneOf (take i xs) P ⊎ P x)
one_next P xs i x below is = (
  λ (y, has, p). elim ((members_next xs i x y below is).0 has) [ inl before ↦ inl (y, before, p) | inr same ↦ inr (subst P (sym same) p) ],
  λ h. elim h [
    | inl (y, has, p) ↦ (y, (members_next xs i x y below is).1 (inl has), p)
    | inr p ↦
        (x, (members_next xs i x x below is).1 (inr refl), p)
  ],
)

pub one_none : {X : Type 0} (P : X → Type 0) → ¬ OneOf [] P
one_none P (x, has, p) = Contains-none x has

-- what is there afterwards: what was there, and what the item brings
pub grown : {Old New Before Here After : Type 0} → Old ↔ Before → New ↔ (Old ⊎ Here) → After ↔ (Before ⊎ Here) → New ↔ After
grown old new after = (
  λ x. after.1 (elim (new.0 x) [ inl o ↦ inl (old.0 o) | inr here ↦ inr here ]),
  λ y. new.1 (elim (after.0 y) [ inl b ↦ inl (old.1 b) | inr here ↦ inr here ]),
)

pub grouped : {A B C D : Type 0} → C ↔ (B ⊎ D) → (A ⊎ C) ↔ ((A ⊎ B) ⊎ D)
grouped split = (
  λ h. elim h [ inl a ↦ inl (inl a) | inr c ↦ elim (split.0 c) [ inl b ↦ inl (inr b) | inr d ↦ inr d ] ],
  λ h. elim h [ inl ab ↦ elim ab [ inl a ↦ inl a | inr b ↦ inr (split.1 (inl b)) ] | inr d ↦ inr (split.1 (inr d)) ],
)

pub inserted : (atom q : Atom) (old new : List Atom) → new ≡ with_atom atom old → Contains new q ↔ (Contains old q ⊎ (atom ≡ q))
inserted atom q old new is =
    let members = with_item-members atom_cmp atom_cmp-total atom_cmp-same atom old q in (
      λ h. elim (Contains-cases atom old q (members.0 (subst (λ (l : List Atom). Contains l q) is h)))
          [ inl same ↦ inr same | inr before ↦ inl before ],
      λ h. subst (λ (l : List Atom). Contains l q) (sym is)
          (members.1 (elim h [
            | inl before ↦ Contains-later atom old q before
            | inr same ↦ subst (Contains (atom ∷ old)) same
                (Contains-first atom old)
          ])),
    )

-- where nothing comes, all is as before
pub nothing_comes : {Old Here : Type 0} → (¬ Here) → Old ↔ (Old ⊎ Here)
nothing_comes never = (λ o. inl o, λ h. elim h [ inl o ↦ o | inr here ↦ absurd (never here) ])

-- one item last, of which something holds
pub kept_one : {X : Type 0} (P : X → Type 0) (one same q : X) (old new : List X) → one ≡ same → P one → new ≡ old ++ one ∷ []
    → Contains new q ↔ (Contains old q ⊎ ((same ≡ q) × P q))
kept_one P one same q old new is holds put = (
  λ h. elim ((Contains-pushed old one q).0 (subst (λ l. Contains l q) put h))
      [ inl before ↦ inl before | inr here ↦ inr (sym is ∙ here, subst P here holds) ],
  λ h. subst (λ l. Contains l q) (sym put) ((Contains-pushed old one q).1
      (elim h [ inl before ↦ inl before | inr here ↦ inr (is ∙ here.0) ])),
)

-- an item of which something holds, with its place or without
pub any-of : {X : Type 0} (P : X → Type 0) (xs : List X) → Any P xs → (x : X) × Contains xs x × P x
any-of P xs any = (any.1, (any.0, any.2, any.3), any.4)

pub of-any : {X : Type 0} (P : X → Type 0) (xs : List X) (x : X) → Contains xs x → P x → Any P xs
of-any P xs x has p = (has.0, x, has.1, has.2, p)

-- a list that isn't empty has an item
pub some-item : {X : Type 0} (xs : List X) → (¬ (xs ≡ [])) → (x : X) × Contains xs x
some-item [] some' = absurd (some' refl)
some-item (x ∷ xs) some' = (x, Contains-first x xs)
