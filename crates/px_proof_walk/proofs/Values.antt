-- The objects that bindings give to all variables solve, and those with object 0 where there is a choice are the least.
use Rattle.std.proofs.Common.{◌≡◌, ◌∙◌, ℕ, zero, suc, ◌<◌, ◌≤◌, Some, None, List, [], ◌∷◌, length, replicate, slice_get, slice_index_or, refl, ap, sym, subst, arith}
use Rattle.std.specs.Prelude.{All, slice_index}
use Rattle.std.specs.List.{AllByRecursion}
use Rattle.std.proofs.lemmas.Grind.{same_number_lists}
use Rattle.std.proofs.lemmas.List.{ext_get_or, get_or-map}
use Rattle.std.proofs.lemmas.List.Elements.{All-from_recursion}
use Rattle.std.proofs.lemmas.Option.{get_or_from_slice_get, slice_get_within}
use Rattle.px_terms.specs.declared.term.Term.{Term}
use Rattle.px_terms.specs.declared.term.Term.TheVariants.{Obj, Var, Any}
use Rattle.px_proof.specs.PlaceLaws.{slice_get-read}
use Rattle.px_unify.specs.declared.change.Change.{Change}
use Rattle.px_unify.specs.Changes.{AreOneUnder, Fits, HasSolutions, IsRoot, IsUnbound, slots_of, variables_of}
use Rattle.px_question.specs.Answers.{AtMost, object_terms}
use Rattle.px_proof_walk.specs.Values.{AreValuesOfChanges, value_of}
use Rattle.px_proof_walk.proofs.Least.{at_most-places}
use Rattle.px_proof_walk.proofs.Lifting.{length-objects}

-- the term of a value
pub term_at : (values : List ℕ) (v : ℕ) → v < length values → slice_index_or (object_terms values) v Any ≡ Obj (slice_index values v)
term_at values v within = get_or-map (λ (n : ℕ). Obj n) values v 0 Any within

term_there : (values : List ℕ) (v : ℕ) → v < length values → slice_get (object_terms values) v ≡ Some (Obj (slice_index values v))
term_there values v within =
    slice_get-read (object_terms values) v Any (omega (arith, within, length-objects values))
    ∙ ap (λ (t : Term). Some t) (term_at values v within)

all_numbers : (P : ℕ → Type 0) (xs : List ℕ) → ((v : ℕ) → v < length xs → P (slice_index xs v)) → AllByRecursion P xs
all_numbers P [] each = tt
all_numbers P (x ∷ xs) each = (each 0 (omega arith), all_numbers P xs (λ v within. each (suc v) (omega (arith, within))))

number_of : {m n : ℕ} → Obj m ≡ Obj n → m ≡ n
number_of e = cc

pub zero_at : (n v : ℕ) → slice_index (replicate n 0) v ≡ 0
zero_at zero v = refl
zero_at (suc n) zero = refl
zero_at (suc n) (suc v) = zero_at n v

module _ (changes : List Change) (chosen values : List ℕ) (are : AreValuesOfChanges changes chosen values) where
  -- some objects that fit have the value of the end at each variable
  root_value : (others : List ℕ) (v : ℕ) (root : Term) → v < length others → variables_of changes ≤ length others
      → Fits (object_terms others) changes → AreOneUnder changes (Var v) root → IsRoot changes root
      → slice_index others v ≡ value_of others root
  root_value others v (Obj n) within long fits one root = number_of (sym (term_at others v within) ∙ one (object_terms others) fits)
  root_value others v (Var w) within long fits one root =
      let inside : w < length others = omega (arith, long, slice_get_within (slots_of changes) w None root) in
      number_of (sym (term_at others v within) ∙ one (object_terms others) fits ∙ term_at others w inside)
  root_value others v Any within long fits one root = absurd root

  -- the values fit, whatever is chosen
  pub values-fit : HasSolutions changes → length chosen ≡ variables_of changes → Fits (object_terms values) changes
  values-fit solvable long =
      let found = solvable (object_terms chosen) (length-objects chosen ∙ long) in
      let same : found.0 ≡ object_terms values =
      ext_get_or Any found.0 (object_terms values) (found.1 ∙ sym are.count ∙ sym (length-objects values))
      (λ v within. let inside : v < length values = omega (arith, within, found.1, are.count) in let one = are.each v inside in
      at found.0 found.2 found.3 v inside one.0 one.1 one.2 one.3) in
      subst (λ (sigma : List Term). Fits sigma changes) same found.2
    where
      at : (sigma : List Term) → Fits sigma changes
          → ((w : ℕ) → IsUnbound changes w → slice_get sigma w ≡ slice_get (object_terms chosen) w)
          → (v : ℕ) → v < length values → (root : Term) → AreOneUnder changes (Var v) root → IsRoot changes root
          → slice_index values v ≡ value_of chosen root
          → slice_index_or sigma v Any ≡ slice_index_or (object_terms values) v Any
      at sigma fits unbound v within (Obj n) one root is = one sigma fits ∙ ap (λ (k : ℕ). Obj k) (sym is) ∙ sym (term_at values v within)
      at sigma fits unbound v within (Var w) one root is =
          let inside : w < length chosen = omega (arith, long, slice_get_within (slots_of changes) w None root) in
          one sigma fits ∙ get_or_from_slice_get sigma w (Obj (slice_index chosen w)) Any (unbound w root ∙ term_there chosen w inside)
          ∙ ap (λ (k : ℕ). Obj k) (sym is) ∙ sym (term_at values v within)
      at sigma fits unbound v within Any one root is = absurd root

  -- where all that is chosen is below, and so is some solution, the values are
  pub values-below : (n : ℕ) (others : List ℕ) → variables_of changes ≤ length others → All (λ o. o < n) others
      → Fits (object_terms others) changes → ((v : ℕ) → v < variables_of changes → slice_index chosen v < n) → All (λ o. o < n) values
  values-below n others long below fits chosen_below =
      All-from_recursion (λ o. o < n) values
      (all_numbers (λ o. o < n) values (λ v within.
      let one = are.each v within in
      let inside : v < length others = omega (arith, within, are.count, long) in
      subst (λ (k : ℕ). k < n) (sym one.3) (at one.0 one.2 v (root_value others v one.0 inside long fits one.1 one.2) (below v 0 inside))))
    where
      at : (root : Term) → IsRoot changes root → (v : ℕ) → slice_index others v ≡ value_of others root → slice_index others v < n
          → value_of chosen root < n
      at (Obj k) root v is lower = omega (arith, is, lower)
      at (Var w) root v is lower = chosen_below w (slice_get_within (slots_of changes) w None root)
      at Any root v is lower = absurd root

-- a solution is what the bindings give where its own objects are chosen
pub values-same : (changes : List Change) (others values : List ℕ) → AreValuesOfChanges changes others values
    → length others ≡ variables_of changes
    → Fits (object_terms others) changes → values ≡ others
values-same changes others values are long fits =
    same_number_lists values others (are.count ∙ sym long)
    (λ v within.
    let one = are.each v within in
    let inside : v < length others = omega (arith, within, are.count, long) in
    one.3 ∙ sym (root_value changes others values are others v one.0 inside (omega (arith, long)) fits one.1 one.2))

-- with object 0 where there is a choice, no solution is less
pub values-least : (changes : List Change) (n : ℕ) (values others : List ℕ) → AreValuesOfChanges changes (replicate n 0) values
    → length others ≡ length values → Fits (object_terms others) changes → AtMost values others
values-least changes n values others are long fits =
    at_most-places values others (sym long)
    (λ v within.
    let one = are.each v within in
    let inside : v < length others = omega (arith, within, long) in
    at v one.0 one.2 one.3 (root_value changes (replicate n 0) values are others v one.0 inside
    (omega (arith, long, are.count)) fits one.1 one.2))
  where
    at : (v : ℕ) (root : Term) → IsRoot changes root → slice_index values v ≡ value_of (replicate n 0) root
        → slice_index others v ≡ value_of others root → slice_index values v ≤ slice_index others v
    at v (Obj k) root is other = omega (arith, is, other)
    at v (Var w) root is other = omega (arith, is, zero_at n w)
    at v Any root is other = absurd root

-- what is chosen counts only where a variable is not bound
pub values-agree : (changes : List Change) (chosen others values : List ℕ)
    → ((v : ℕ) → IsUnbound changes v → slice_index chosen v ≡ slice_index others v) → AreValuesOfChanges changes chosen values
    → AreValuesOfChanges changes others values
values-agree changes chosen others values agree are = record {
  count = are.count;
  each = λ v within. let one = are.each v within in (one.0, one.1, one.2, one.3 ∙ same one.0 one.2);
}
  where
    same : (root : Term) → IsRoot changes root → value_of chosen root ≡ value_of others root
    same (Obj n) root = refl
    same (Var w) root = agree w root
    same Any root = absurd root
