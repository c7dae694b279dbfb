-- Objects for the variables that stand for terms.
use Rattle.std.proofs.Common.{◌≡◌, ◌∙◌, ℕ, zero, suc, ◌<◌, Some, List, [], ◌∷◌, length, map, slice_get, get_or, refl, ap, sym, subst, arith}
use Rattle.std.specs.Prelude.{All, slice_index_or}
use Rattle.std.proofs.lemmas.Option.{get_or_from_slice_get}
use Rattle.px_proof.specs.PlaceLaws.{slice_get-read}
use Rattle.px_prover.specs.Patterns.{object_under}
use Rattle.px_question.specs.Answers.{object_terms}
use Rattle.px_terms.specs.Language.{IsVariableBelow, substitute, object_of}
use Rattle.px_terms.specs.declared.term.Term.{Term}
use Rattle.px_terms.specs.declared.term.Term.TheVariants.{Obj, Var, Any as Wild}
use Rattle.px_gaps.specs.Bindings.{ExtendsTerms, IsBinding, IsSlot}
use Rattle.px_gaps.specs.Choices.{IsClosed}
use Rattle.px_gaps.proofs.Choosing.{term-at}

-- a variable that stands for a term has no object
pub stands-open : (limit : ℕ) (terms : List Term) → IsBinding limit terms → (t : Term) → IsVariableBelow (length terms) t → (v : ℕ)
    → substitute terms t ≡ Var v → slice_get terms v ≡ Some (Var v)
stands-open limit terms binding (Obj n) below v is = absurd (cc)
stands-open limit terms binding (Var w) below v is =
    let at = slice_get-read terms w Wild below in
    go (get_or terms w Wild) at (binding.each w (get_or terms w Wild) at)
  where
    go : (t : Term) → slice_get terms w ≡ Some t → IsSlot limit w t → slice_get terms v ≡ Some (Var v)
    go (Obj n) at slot = absurd (let both : Obj n ≡ Var v = sym (get_or_from_slice_get terms w (Obj n) Wild at) ∙ is in cc)
    go (Var u) at slot =
        let both : Var u ≡ Var v = sym (get_or_from_slice_get terms w (Var u) Wild at) ∙ is in
        let number : u ≡ v = cc in
        subst (λ (k : ℕ). slice_get terms k ≡ Some (Var v)) (slot ∙ number) (at ∙ ap (λ (k : ℕ). Some (Var k)) number)
    go Wild at slot = absurd slot
stands-open limit terms binding Wild below v is = absurd (cc)

pub not-variable : (terms : List Term) (t made : Term) → made ≡ substitute terms t → ((v : ℕ) → ¬ (made ≡ Var v)) → IsClosed terms t
not-variable terms t made is none v variable = none v (is ∙ variable)

-- what is read within a list doesn't depend on what would be read past it
pub read-any : (xs : List Term) (i : ℕ) (d e : Term) → i < length xs → get_or xs i d ≡ get_or xs i e
read-any [] i d e within = absurd (omega (arith, within))
read-any (x ∷ xs) zero d e within = refl
read-any (x ∷ xs) (suc i) d e within = read-any xs i d e (omega (arith, within))

object-under : (limit : ℕ) (terms : List Term) → IsBinding limit terms → (values : List ℕ) → ExtendsTerms limit terms values → (t : Term)
    → IsVariableBelow (length terms) t → IsClosed terms t → object_under values t ≡ object_of (substitute terms t)
object-under limit terms binding values extends (Obj n) below closed = refl
object-under limit terms binding values extends (Var w) below closed =
    let at = slice_get-read terms w Wild below in
    go (get_or terms w Wild) at (binding.each w (get_or terms w Wild) at)
  where
    go : (t : Term) → slice_get terms w ≡ Some t → IsSlot limit w t
        → object_of (slice_index_or (object_terms values) w Wild) ≡ object_of (slice_index_or terms w Wild)
    go (Obj n) at slot =
        ap object_of (term-at values w (omega (arith, below, extends.count))) ∙ extends.same w n at
        ∙ ap object_of (sym (get_or_from_slice_get terms w (Obj n) Wild at))
    go (Var u) at slot = absurd (closed u (get_or_from_slice_get terms w (Var u) Wild at))
    go Wild at slot = absurd slot
object-under limit terms binding values extends Wild below closed = refl

-- where no variable stands for one of the terms, all values give the same objects
pub objects-under : (limit : ℕ) (terms : List Term) → IsBinding limit terms → (values : List ℕ) → ExtendsTerms limit terms values
    → (ts : List Term) → All (IsVariableBelow (length terms)) ts → All (IsClosed terms) ts
    → map (object_under values) ts ≡ map (λ t. object_of (substitute terms t)) ts
objects-under limit terms binding values extends [] below closed = refl
objects-under limit terms binding values extends (t ∷ ts) below closed =
    let here = object-under limit terms binding values extends t (below 0 t (omega arith)) (closed 0 t (omega arith)) in
    let rest =
    objects-under limit terms binding values extends ts (λ k d within. below (suc k) d (omega (arith, within)))
    (λ k d within. closed (suc k) d (omega (arith, within))) in
    λ i. here i ∷ rest i
