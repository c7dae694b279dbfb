-- A list of keys with values, as a map has it, where a fact is true of each pair.
use Rattle.std.proofs.Common.{◌≡◌, ◌⊎◌, Bool, true, false, List, [], ◌∷◌, refl, sym, ◌∙◌, ap, subst, inl, inr, Some}
use Rattle.std.specs.Prelude.{Contains}
use Rattle.std.specs.Bool.{Decides}
use Rattle.std.specs.Map.{lookup}
use Rattle.std.proofs.lemmas.Map.Views.{Contains-from_lookup}
use Rattle.indexmap.specs.IndexMap.{insert_entry}
use Rattle.px_base.specs.ListLaws.{Contains-none, Contains-first, Contains-later, Contains-cases}
use Rattle.px_search.specs.Cache.{AreEach}

module _ {K V : Type 0} (same_key : K → K → Bool) (decides : (a b : K) → Decides (same_key a b) (a ≡ b)) where
  pair-inserted : (entries : List (K × V)) (key : K) (value : V) (one : K × V) → Contains (insert_entry same_key entries key value) one
      → Contains entries one ⊎ (one ≡ (key, value))
  pair-inserted [] key value one has = elim (Contains-cases (key, value) [] one has) [
    | inl is ↦ inr (sym is)
    | inr later ↦ absurd (Contains-none one later)
  ]
  pair-inserted (e ∷ es) key value one has = by (same_key key e.0) refl (pair-inserted es key value one) has
    where
      by : (b : Bool) → same_key key e.0 ≡ b → (Contains (insert_entry same_key es key value) one → Contains es one ⊎ (one ≡ (key, value)))
          → Contains (insert_entry same_key (e ∷ es) key value) one
          → Contains (e ∷ es) one ⊎ (one ≡ (key, value))
      by true is rest had =
          let now : insert_entry same_key (e ∷ es) key value ≡ (e.0, value) ∷ es = rw is refl in
          elim (Contains-cases (e.0, value) es one (subst (λ (l : List (K × V)). Contains l one) now had)) [
            | inl same ↦ inr (sym same ∙ ap (λ (k : K). (k, value)) (sym ((decides key e.0).0 is)))
            | inr later ↦ inl (Contains-later e es one later)
          ]
      by false is rest had =
          let now : insert_entry same_key (e ∷ es) key value ≡ e ∷ insert_entry same_key es key value = rw is refl in
          elim (Contains-cases e (insert_entry same_key es key value) one (subst (λ (l : List (K × V)). Contains l one) now had)) [
            | inl same ↦ inl (subst (Contains (e ∷ es)) same (Contains-first e es))
            | inr later ↦ elim (rest later) [
              | inl before ↦ inl (Contains-later e es one before)
              | inr new ↦ inr new
            ]
          ]

  module _ (P : K → V → Type 0) where
    -- one more is kept
    pub each-more : (old new : List (K × V)) (key : K) (value : V) → AreEach P old → P key value → new ≡ insert_entry same_key old key value
        → AreEach P new
    each-more old new key value all here is other kept has =
        elim (pair-inserted old key value (other, kept) (subst (λ (l : List (K × V)). Contains l (other, kept)) is has)) [
          | inl before ↦ all other kept before
          | inr same ↦ subst (λ (one : K × V). P one.0 one.1) (sym same) here
        ]

    -- what is found is what was kept
    pub each-found : (entries : List (K × V)) (key : K) (value : V) → AreEach P entries → Some value ≡ lookup (same_key key) entries
        → P key value
    each-found entries key value all found = all key value (Contains-from_lookup (λ x y. (decides x y).0) key value entries (sym found))

pub each-none : {K V : Type 0} (P : K → V → Type 0) (entries : List (K × V)) → entries ≡ [] → AreEach P entries
each-none {K} {V} P entries none key value has =
    absurd (Contains-none (key, value) (subst (λ (l : List (K × V)). Contains l (key, value)) none has))

pub each-grows : {K V : Type 0} (P Q : K → V → Type 0) (entries : List (K × V)) → ((key : K) (value : V) → P key value → Q key value)
    → AreEach P entries → AreEach Q entries
each-grows P Q entries grows all key value has = grows key value (all key value has)
