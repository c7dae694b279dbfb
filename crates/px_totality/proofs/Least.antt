-- Of a finite kind of things, some of which have a property, one that has it is the least.
use Rattle.std.specs.Prelude.{◌⊎◌, List, [], ◌∷◌, Contains}
use Rattle.std.proofs.Common.{sym, subst, inl, inr}
use Rattle.px_base.specs.ListLaws.{Contains-cases, Contains-none}

module _ {A : Type 0} (before : A → A → Type 0) (irreflexive : (x : A) → ¬ before x x)
    (transitive : (x y z : A) → before x y → before y z → before x z) (P : A → Type 0) where
  -- the property holds of it, and of nothing in the list before it
  pub record IsLeastIn (xs : List A) (x : A) : Type 0 where
    pub has : P x
    pub least : (y : A) → Contains xs y → P y → ¬ before y x

  abbrev pub NoneOrLeast : List A → Type 0
  NoneOrLeast xs = ((x : A) → Contains xs x → ¬ P x) ⊎ ((x : A) × IsLeastIn xs x)

  one-more : (x : A) (xs : List A) → NoneOrLeast xs → ¬ ¬ NoneOrLeast (x ∷ xs)
  one-more x xs (inl none) never =
      let not_here : ¬ P x = λ p. never (inr (
        x,
        record {
          has = p;
          least = λ y has q less. elim (Contains-cases x xs y has) [
            | inl same ↦ irreflexive x (subst (λ z. before z x) (sym same) less)
            | inr later ↦ none y later q
          ];
        },
      )) in
      never (inl (λ y has q. elim (Contains-cases x xs y has) [
        | inl same ↦ not_here (subst P (sym same) q)
        | inr later ↦ none y later q
      ]))
  one-more x xs (inr found) never =
      let best = found.0 in
      let not_better : P x → ¬ before x best = λ p better. never (inr (
        x,
        record {
          has = p;
          least = λ y has q less. elim (Contains-cases x xs y has) [
            | inl same ↦ irreflexive x (subst (λ z. before z x) (sym same) less)
            | inr later ↦ found.1.least y later q (transitive y x best less better)
          ];
        },
      )) in
      never (inr (
        best,
        record {
          has = found.1.has;
          least = λ y has q less. elim (Contains-cases x xs y has) [
            | inl same ↦ not_better (subst P (sym same) q) (subst (λ z. before z best) (sym same) less)
            | inr later ↦ found.1.least y later q less
          ];
        },
      ))

  pub none_or_least : (xs : List A) → ¬ ¬ NoneOrLeast xs
  none_or_least [] never = never (inl (λ x has p. Contains-none x has))
  none_or_least (x ∷ xs) never = none_or_least xs (λ rest. one-more x xs rest never)
