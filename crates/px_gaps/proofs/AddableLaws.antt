-- What operators may add, of a problem and in a setting.
use Rattle.std.proofs.Common.{◌≡◌, ◌⊎◌, ℕ, zero, suc, List, [], ◌∷◌, refl, sym, subst, inl, inr, arith}
use Rattle.std.specs.Prelude.{◌↔◌, flat_map, Any, Contains}
use Rattle.std.proofs.lemmas.List.Concat.{flat_map-cons}
use Rattle.std.proofs.lemmas.List.Elements.{Contains-append_cases, Contains-append_left, Contains-append_right}
use Rattle.px_base.specs.ListLaws.{Contains-none}
use Rattle.px_proof.specs.PlaceLaws.{Contains-mapped}
use Rattle.px_question.specs.Settings.{added_by}
use Rattle.px_table.specs.KernelLaws.{Contains-from_map}
use Rattle.px_terms.specs.declared.atom.Atom.{Atom}
use Rattle.px_terms.specs.declared.problem.Schema.{Schema}
use Rattle.px_gaps.specs.Addable.{AddableAlike}

module _ {X : Type 0} (P : X → Type 0) (x : X) (xs : List X) where
  any-first : P x → Any P (x ∷ xs)
  any-first p = (0, x, omega arith, refl, p)

  any-later : Any P xs → Any P (x ∷ xs)
  any-later a = (suc a.0, a.1, omega (arith, a.2), a.3, a.4)

  any-cases : Any P (x ∷ xs) → P x ⊎ Any P xs
  any-cases (zero, y, below, is, p) = inl (subst P (sym is) p)
  any-cases (suc k, y, below, is, p) = inr (k, y, omega (arith, below), is, p)

-- one of the atoms has the predicate
abbrev HasPredicate : ℕ → List Atom → Type 0
HasPredicate pred atoms = Any (λ (atom : Atom). atom.pred ≡ pred) atoms

has-predicate : (pred : ℕ) (schema : Schema) → HasPredicate pred schema.add ↔ Contains (added_by schema) pred
has-predicate pred schema = (
  λ a. subst (Contains (added_by schema)) a.4 (Contains-mapped (λ (atom : Atom). atom.pred) schema.add a.1 (a.0, a.2, a.3)),
  λ c. let r = Contains-from_map (λ (atom : Atom). atom.pred) schema.add pred c in (r.1.0, r.0, r.1.1, r.1.2, r.2),
)

adds-predicate : (pred : ℕ) (schemas : List Schema) → Any (λ schema. HasPredicate pred schema.add) schemas
    ↔ Contains (flat_map added_by schemas) pred
adds-predicate pred [] = (λ a. absurd (omega (arith, a.2)), λ c. absurd (Contains-none pred c))
adds-predicate pred (schema ∷ schemas) =
    let here = has-predicate pred schema in
    let rest = adds-predicate pred schemas in
    rw (flat_map-cons added_by schema schemas) (
      λ a. elim (any-cases (λ (s : Schema). HasPredicate pred s.add) schema schemas a) [
        | inl first ↦ Contains-append_left (added_by schema) (flat_map added_by schemas) pred (here.0 first)
        | inr later ↦ Contains-append_right (added_by schema) (flat_map added_by schemas) pred (rest.0 later)
      ],
      λ c. elim (Contains-append_cases (added_by schema) (flat_map added_by schemas) pred c) [
        | inl first ↦ any-first (λ (s : Schema). HasPredicate pred s.add) schema schemas (here.1 first)
        | inr later ↦ any-later (λ (s : Schema). HasPredicate pred s.add) schema schemas (rest.1 later)
      ],
    )

pub addable-alike : AddableAlike
addable-alike problem facts atom = adds-predicate atom.pred problem.schemas
