-- Taking atoms apart.
use Rattle.std.proofs.Common.{◌≡◌, ◌∙◌, ◌⊎◌, ◌<◌, ℕ, List, [], ◌∷◌, length, get_or, ap, sym, subst, inl, inr}
use Rattle.std.specs.Prelude.{◌↔◌, Any, Contains, remove}
use Rattle.std.specs.List.Sorted.{IsPermutation}
use Rattle.std.proofs.lemmas.List.Sorted.{Contains-permutation, IsPermutation-remove, IsPermutation-sym}
use Rattle.px_base.specs.ListLaws.{All-at, All-each, Contains-cases, Contains-first, Contains-later, Contains-none}
use Rattle.px_terms.specs.declared.atom.Atom.{Atom}
use Rattle.px_terms.specs.declared.term.Term.{Term}
use Rattle.px_terms.specs.declared.term.Term.TheVariants.{Var}
use Rattle.px_gaps.specs.Apart.{Links, StandsIn}
use Rattle.px_gaps.specs.Bindings.{ArePlain, IsPlain}
use Rattle.px_gaps.specs.Closings.{OneOf}
use Rattle.px_gaps.specs.declared.apart.Parts.{Parts}

-- the members of a list, by the one at a place and those that are left without it
pub removed-members : {X : Type 0} (xs : List X) (k : ℕ) (x : X) → k < length xs → x ≡ get_or xs k x → (y : X) → Contains xs y
    ↔ ((x ≡ y) ⊎ Contains (remove xs k) y)
removed-members xs k x within is y =
    let permuted : IsPermutation xs (x ∷ remove xs k) = IsPermutation-remove xs k x within is in (
      λ has. Contains-cases x (remove xs k) y (Contains-permutation xs (x ∷ remove xs k) y permuted has),
      λ h. Contains-permutation (x ∷ remove xs k) xs y (IsPermutation-sym xs (x ∷ remove xs k) permuted)
          (elim h [
            | inl same ↦ subst (Contains (x ∷ remove xs k)) same (Contains-first x (remove xs k))
            | inr later ↦ Contains-later x
                (remove xs k) y later
          ]),
    )

-- a term that is the variable
pub reached-one : {Old New : Type 0} (x : Term) (variable : ℕ) → x ≡ Var variable → (v : ℕ) → New ↔ (Old ⊎ (variable ≡ v)) → New
    ↔ (Old ⊎ (x ≡ Var v))
reached-one x variable is v new = (
  λ h. elim (new.0 h) [ inl before ↦ inl before | inr same ↦ inr (is ∙ ap (λ (n : ℕ). Var n) same) ],
  λ h. new.1 (elim h [ inl before ↦ inl before | inr same ↦ inr (number (sym is ∙ same)) ]),
)
  where
    number : Var variable ≡ Var v → variable ≡ v
    number e = cc

-- what is known on the way
pub record ArePartly (terms : List Term) (atoms : List Atom) (reached : List ℕ) (parts : Parts) : Type 0 where
  pub members : (atom : Atom) → Contains atoms atom ↔ (Contains parts.linked.items atom ⊎ Contains parts.others.items atom)
  pub reaches : (v : ℕ) → OneOf parts.linked.items (StandsIn terms v) → Contains reached v
  pub plain : ArePlain (length terms) parts.others.items

pub partly-start : (terms : List Term) (atoms : List Atom) (reached : List ℕ) (parts : Parts) → parts.linked.items ≡ []
    → parts.others.items ≡ atoms → ArePlain (length terms) atoms → ArePartly terms atoms reached parts
partly-start terms atoms reached parts none all plain = record {
  members =
      λ atom. (
        λ has. inr (subst (λ (l : List Atom). Contains l atom) (sym all) has),
        λ h. elim h [
          | inl here ↦ absurd (Contains-none atom (subst (λ (l : List Atom). Contains l atom) none here))
          | inr there ↦ subst
              (λ (l : List Atom). Contains l atom) all there
        ],
      );
  reaches = λ v one. absurd (Contains-none one.0 (subst (λ (l : List Atom). Contains l one.0) none one.1));
  plain = subst (ArePlain (length terms)) (sym all) plain;
}

pub partly-next : (terms : List Term) (atoms : List Atom) (reached after : List ℕ) (old new : Parts) → ArePartly terms atoms reached old
    → Links terms reached after old new → ArePartly terms atoms after new
partly-next terms atoms reached after old new before links = record {
  members = λ atom. (
    λ has. elim ((before.members atom).0 has) [
      | inl linked ↦ inl ((links.linked atom).1 (inl linked))
      | inr other ↦ elim ((links.others atom).0 other) [ inl same ↦ inl ((links.linked atom).1 (inr same)) | inr still ↦ inr still ]
    ],
    λ h. (before.members atom).1 (elim h [
      | inl linked ↦ elim ((links.linked atom).0 linked) [ inl earlier ↦ inl earlier | inr same ↦ inr ((links.others atom).1 (inl same)) ]
      | inr still ↦ inr ((links.others atom).1 (inr still))
    ]),
  );
  reaches = λ v one. (links.reaches v).1 (elim ((links.linked one.0).0 one.1) [
    | inl earlier ↦ inl (before.reaches v (one.0, earlier, one.2))
    | inr same ↦ inr (subst (StandsIn terms v) (sym same) one.2)
  ]);
  plain =
      All-each (IsPlain (length terms)) new.others.items
      (λ atom has. All-at (IsPlain (length terms)) old.others.items atom before.plain ((links.others atom).1 (inr has)));
}

-- where no variable that is reached stands in one of the others, they are apart
pub partly-apart : (terms : List Term) (atoms : List Atom) (reached : List ℕ) (parts : Parts) → ArePartly terms atoms reached parts
    → ((atom : Atom) → Contains parts.others.items atom → ¬ Any (λ v. StandsIn terms v atom) reached) → (v : ℕ)
    → OneOf parts.linked.items (StandsIn terms v) → ¬ OneOf parts.others.items (StandsIn terms v)
partly-apart terms atoms reached parts are none v here there =
    let has = are.reaches v here in none there.0 there.1 (has.0, v, has.1, has.2, there.2)
