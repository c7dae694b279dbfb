-- Steps of the walk that names parameters.
use Rattle.std.specs.Prelude.{◌≡◌, ◌≢◌, ◌+◌, ◌<◌, ◌≤◌, ℕ, Bool, true, false, cond, List, [], ◌∷◌, ◌++◌, ◌⊎◌, length, map, replicate, set, slice_index_or, count_by, take, drop}
use Rattle.std.proofs.Common.{zero, suc, refl, sym, ap, ◌∙◌, subst, inl, inr, arith, length-append}
use Rattle.std.proofs.lemmas.List.{length-replicate}
use Rattle.std.proofs.lemmas.List.Sums.{sum_by-cons}
use Rattle.px_terms.specs.declared.term.Term.{Term}
use Rattle.px_terms.specs.declared.term.Term.TheVariants.{Obj, Var, Any as WildCard}
use Rattle.px_terms.specs.Substitution.{variables_from}
use Rattle.px_table.specs.Parameters.{is_parameter}
use Rattle.px_edit.specs.Editing.{names_by, parameters_in, place_name}
use Rattle.px_edit.specs.Parts.{AreNamesAlong, is_wild_card, unnamed}
use Rattle.px_edit.proofs.Names.{length-names, name-of, names-new, parameters-kept, parameters-new}

-- the name at a place, whatever is given for a place past the end
read-name : (names : List Term) (v : ℕ) (d e : Term) → v < length names → slice_index_or names v d ≡ slice_index_or names v e
read-name [] v d e below = absurd (omega (arith, below))
read-name (t ∷ names) zero d e below = refl
read-name (t ∷ names) (suc v) d e below = read-name names v d e (omega (arith, below))

named-at : (params v : ℕ) (walked names : List Term) (next : ℕ) (d : Term) → v < params → AreNamesAlong params walked names next
    → slice_index_or names v d ≡ place_name 0 (parameters_in params walked) (Var v)
named-at params v walked names next d below are =
    let left = parameters_in params walked in
    ap (λ l. slice_index_or l v d) are.names_are
    ∙ read-name (names_by params left) v d WildCard (omega (arith, below, length-names params left)) ∙ name-of params left v below

-- a parameter that has a name keeps it
pub name-kept : (params v : ℕ) (walked names : List Term) (next : ℕ) (d : Term) → v < params → slice_index_or names v d ≢ WildCard
    → AreNamesAlong params walked names next → AreNamesAlong params (walked ++ Var v ∷ []) names next
name-kept params v walked names next d below named are =
    let same =
    sym (parameters-kept params walked v below (λ none. named (named-at params v walked names next d below are ∙ none))) in
    record {
      names_are = are.names_are ∙ ap (names_by params) same;
      count = are.count ∙ ap length same;
    }

-- and one that has none gets the next
pub name-new : (params v : ℕ) (walked names : List Term) (next : ℕ) (d : Term) → v < params → slice_index_or names v d ≡ WildCard
    → AreNamesAlong params walked names next → AreNamesAlong params (walked ++ Var v ∷ []) (set names v (Var next)) (next + 1)
name-new params v walked names next d below none are =
    let left = parameters_in params walked in
    let here : place_name 0 left (Var v) ≡ WildCard = sym (named-at params v walked names next d below are) ∙ none in
    let more = parameters-new params walked v below here in
    record {
      names_are =
          ap (λ l. set l v (Var next)) are.names_are ∙ names-new params left v next below here are.count
          ∙ ap (names_by params) (sym more);
      count = omega (arith, are.count, ap length more, length-append left (Var v ∷ []));
    }

-- ---- how many have no name yet

-- ---- before the walk

no-names : (first count : ℕ) → map (place_name 0 []) (variables_from first count) ≡ replicate count WildCard
no-names first zero = refl
no-names first (suc count) = ap (λ l. WildCard ∷ l) (no-names (suc first) count)

pub names-start : (params : ℕ) (names : List Term) (count : ℕ) → count ≡ params → names ≡ replicate count WildCard
    → AreNamesAlong params [] names 0
names-start params names count same is = record {
  names_are = is ∙ ap (λ n. replicate n WildCard) same ∙ sym (no-names 0 params);
  count = refl;
}

pub unnamed-start : (count : ℕ) → unnamed (replicate count WildCard) ≡ count
unnamed-start zero = refl
unnamed-start (suc count) =
    omega (arith, sum_by-cons (λ x. cond (is_wild_card x) 1 0) WildCard (replicate count WildCard), unnamed-start count)

pub no-wild_card : (t : Term) → ((n : ℕ) × (t ≡ Obj n)) ⊎ ((n : ℕ) × (t ≡ Var n)) → t ≢ WildCard
no-wild_card t (inl h) none = no_object h.0 (sym h.1 ∙ none)
  where
    no_object : (n : ℕ) → ¬ (Obj n ≡ WildCard)
    no_object n e = cc
no-wild_card t (inr h) none = no_variable h.0 (sym h.1 ∙ none)
  where
    no_variable : (n : ℕ) → ¬ (Var n ≡ WildCard)
    no_variable n e = cc

-- what is written back of a borrowed list is the whole
pub written_back : {X : Type 0} (len : ℕ) (made old : List X) → len ≡ length made → take len (made ++ drop (length made) old) ≡ made
written_back len made old same = ap (λ (n : ℕ). take n (made ++ drop (length made) old)) same ∙ prefix made (drop (length made) old)
  where
    prefix : {X : Type 0} (xs ys : List X) → take (length xs) (xs ++ ys) ≡ xs
    prefix [] ys = refl
    prefix (x ∷ xs) ys = ap (λ l. x ∷ l) (prefix xs ys)
