-- Steps of the loops that add up bounds, and make a table of them.
use Rattle.std.proofs.Common.{◌≡◌, ◌∙◌, ℕ, suc, ◌+◌, ◌-◌, ◌≤◌, ◌<◌, true, false, Option, Some, None, List, [], ◌∷◌, ◌++◌, length, map, take, drop, get_or, ap, sym, subst, inl, inr, arith}
use Rattle.std.specs.Prelude.{All, Contains, IfSome, remove, slice_get, slice_index_or}
use Rattle.std.proofs.lemmas.List.{append-nil, drop_all, drop_more, length-drop, map-append, take_all}
use Rattle.px_proof.specs.PlaceLaws.{slice_get-read}
use Rattle.px_proof.specs.Derivation.{Derivation, fact, ancestor, step, gap, open_place, height}
use Rattle.px_question.specs.Settings.{setting_of}
use Rattle.px_terms.specs.declared.clause.Clause.{Clause}
use Rattle.px_terms.specs.declared.clause.Lit.{Lit}
use Rattle.px_terms.specs.declared.problem.Problem.{Problem}
use Rattle.px_terms.specs.declared.term.Term.TheVariants.{Var}
use Rattle.px_gaps.specs.Bounds.{AreBounds, AreBoundsAbove, IsAtomShape, IsBound, IsBoundAbove, IsBoundBefore, IsBoundBy, IsBoundOfUse, IsListBound, IsUseBoundBy, bound_beside, bound_either}
use Rattle.px_gaps.specs.declared.bounds.Bound.{Bound}
use Rattle.px_gaps.proofs.AtomBounds.{table-push}
use Rattle.px_gaps.proofs.ListBounds.{preds_bound-cons, preds_bound-nil}
use Rattle.px_base.proofs.Loops.{level_or_below}
use Rattle.px_gaps.proofs.ShapeCounts.{bound_for-none}
use Rattle.px_gaps.proofs.UseBounds.{use_bound-either, use_bound-horn, use_bound-none, use_bound-other, use_bound-within}

abbrev pub preds_of : List Lit → List ℕ
preds_of lits = map (λ (lit : Lit). lit.atom.pred) lits

-- ---- literals, from the last to the first

by_preds-nil : (table : List (Option Bound)) → IsBoundBy table [] (record { unfinished = 0; finished = 1 })
by_preds-nil table = record { holds = λ problem high bounds. preds_bound-nil problem high }

by_preds-cons : (table : List (Option Bound)) (pred : ℕ) (preds : List ℕ) (first rest both : Bound)
    → Some first ≡ slice_index_or table pred None → both ≡ bound_beside first rest → IsBoundBy table preds rest
    → IsBoundBy table (pred ∷ preds) both
by_preds-cons table pred preds first rest both found is others = record {
  holds = λ problem high bounds.
      let one : IsBound problem high pred first =
      subst (λ (o : Option Bound). IfSome o (IsBound problem high pred)) (sym found) (bounds.each pred) in
      subst (IsListBound problem high (pred ∷ preds)) (sym is)
      (preds_bound-cons problem high pred preds first rest one (others.holds problem high bounds));
}

pub before-nil : (table : List (Option Bound)) (lits : List Lit) (from : ℕ) (rest : Bound) → length lits ≤ from
    → IsBoundBefore table (preds_of (drop from lits)) rest rest
before-nil table lits from rest past = record {
  holds = λ after is. subst (λ (left : List Lit). IsBoundBy table (preds_of left ++ after) rest) (sym (drop_all from lits past)) is;
}

pub before-cons : (table : List (Option Bound)) (lits : List Lit) (from later pred : ℕ) (lit : Lit) (first rest bound both : Bound)
    → from < length lits → later ≡ from + 1 → lit ≡ get_or lits from lit → pred ≡ lit.atom.pred
    → Some first ≡ slice_index_or table pred None → both ≡ bound_beside first bound
    → IsBoundBefore table (preds_of (drop later lits)) rest bound → IsBoundBefore table (preds_of (drop from lits)) rest both
before-cons table lits from later pred lit first rest bound both within next here named found is others = record {
  holds = λ after of_rest.
      let made = by_preds-cons table pred (preds_of (drop later lits) ++ after) first bound both found is (others.holds after of_rest) in
      let split : lit ∷ drop later lits ≡ drop from lits = (λ i. here i ∷ drop (next i) lits) ∙ sym (drop_more lits from lit within) in
      let preds : pred ∷ (preds_of (drop later lits) ++ after) ≡ preds_of (drop from lits) ++ after =
      (λ i. named i ∷ (preds_of (drop later lits) ++ after)) ∙ ap (λ (left : List Lit). preds_of left ++ after) split in
      subst (λ (ps : List ℕ). IsBoundBy table ps both) preds made;
}

pub parts-by : (table : List (Option Bound)) (lits : List Lit) (place : ℕ) (empty last both : Bound)
    → empty ≡ record { unfinished = 0; finished = 1 }
    → IsBoundBefore table (preds_of (drop (place + 1) lits)) empty last → IsBoundBefore table (preds_of (take place lits)) last both
    → IsBoundBy table (preds_of (remove lits place)) both
parts-by table lits place empty last both is later earlier =
    let nothing : IsBoundBy table [] empty = subst (IsBoundBy table []) (sym is) (by_preds-nil table) in
    let made = earlier.holds (preds_of (drop (place + 1) lits) ++ []) (later.holds [] nothing) in
    let next : place + 1 ≡ suc place = omega arith in
    let same : preds_of (take place lits) ++ (preds_of (drop (place + 1) lits) ++ []) ≡ preds_of (remove lits place) =
    ap (λ (ps : List ℕ). preds_of (take place lits) ++ ps) (append-nil (preds_of (drop (place + 1) lits)))
    ∙ sym (map-append (λ (lit : Lit). lit.atom.pred) (take place lits) (drop (place + 1) lits))
    ∙ ap (λ (k : ℕ). preds_of (take place lits ++ drop k lits)) next in
    subst (λ (ps : List ℕ). IsBoundBy table ps both) same made

-- all that stands from a place on
pub rest_from : (lits : List Lit) (from : ℕ) → take (length lits - from) (drop from lits) ≡ drop from lits
rest_from lits from = let long = length-drop from lits in take_all (length lits - from) (drop from lits) (omega (arith, long))

-- ---- one axiom at one place

pub of_use-other : (table : List (Option Bound)) (pred : ℕ) (clause : Clause) (place : ℕ) (lit : Lit) → place < length clause.lits
    → lit ≡ get_or clause.lits place lit
    → (¬ ((lit.positive ≡ true) × (lit.atom.pred ≡ pred))) → IsBoundOfUse table pred clause place (record { unfinished = 0; finished = 0 })
of_use-other table pred clause place lit within here differs = record {
  holds = λ problem number at. use_bound-other problem table pred number place clause lit at
      (slice_get-read clause.lits place lit within ∙ ap (λ (l : Lit). Some l) (sym here)) differs;
}

pub of_use-horn : (table : List (Option Bound)) (pred : ℕ) (clause : Clause) (place : ℕ) (lit : Lit) (bound : Bound)
    → place < length clause.lits → lit ≡ get_or clause.lits place lit
    → ((v : ℕ) → v < clause.variable_count → Contains lit.atom.args (Var v)) → All (λ (l : Lit). l.positive ≡ false) (remove clause.lits place)
    → IsBoundBy table (preds_of (remove clause.lits place)) bound
    → IsBoundOfUse table pred clause place bound
of_use-horn table pred clause place lit bound within here told denied of_parts = record {
  holds = λ problem number at. use_bound-horn problem table pred number place clause lit bound at
      (record { here = slice_get-read clause.lits place lit within ∙ ap (λ (l : Lit). Some l) (sym here); told = told; denied = denied })
      of_parts;
}

-- ---- the places of an axiom, and the axioms

pub clause-at : (axioms : List Clause) (number variable_count : ℕ) (lits : List Lit) (d : Clause) → number < length axioms
    → variable_count ≡ (get_or axioms number d).variable_count → lits ≡ (get_or axioms number d).lits
    → slice_get axioms number ≡ Some (record { variable_count = variable_count; lits = lits })
clause-at axioms number variable_count lits d within many are =
    let same : get_or axioms number d ≡ record { variable_count = variable_count; lits = lits } = λ i. record { variable_count = sym many i; lits = sym are i } in
    slice_get-read axioms number d within ∙ ap (λ (c : Clause). Some c) same

pub places-init : (problem : Problem) (table : List (Option Bound)) (pred number : ℕ)
    → IsUseBoundBy problem table pred (λ n p. (n ≡ number) × (p < 0)) (record { unfinished = 0; finished = 0 })
places-init problem table pred number = use_bound-none problem table pred (λ n p. (n ≡ number) × (p < 0)) (λ n p h. omega (arith, h.1))

pub places-next : (problem : Problem) (table : List (Option Bound)) (pred number place : ℕ) (before here both : Bound)
    → IsUseBoundBy problem table pred (λ n p. (n ≡ number) × (p < place)) before
    → IsUseBoundBy problem table pred (λ n p. (n ≡ number) × (p ≡ place)) here → both ≡ bound_either before here
    → IsUseBoundBy problem table pred (λ n p. (n ≡ number) × (p < place + 1)) both
places-next problem table pred number place before here both old new is =
    use_bound-either problem table pred (λ n p. (n ≡ number) × (p < place)) (λ n p. (n ≡ number) × (p ≡ place))
    (λ n p. (n ≡ number) × (p < place + 1)) before here both old new
    (λ n p h. elim (level_or_below p place h.1) [ inl earlier ↦ inl (h.0, earlier) | inr level ↦ inr (h.0, level) ]) is

pub places-all : (problem : Problem) (table : List (Option Bound)) (pred number : ℕ) (clause : Clause) (most : ℕ) (bound : Bound)
    → slice_get problem.axioms number ≡ Some clause → length clause.lits ≤ most
    → IsUseBoundBy problem table pred (λ n p. (n ≡ number) × (p < most)) bound → IsUseBoundBy problem table pred (λ n p. n ≡ number) bound
places-all problem table pred number clause most bound at long each =
    use_bound-within problem table pred (λ n p. (n ≡ number) × (p < most)) (λ n p. n ≡ number) bound each
    (λ n p other there within is. (is, below n p other there within is))
  where
    below : (n p : ℕ) (other : Clause) → slice_get problem.axioms n ≡ Some other → p < length other.lits → n ≡ number → p < most
    below n p other there within is =
        let same : other ≡ clause = Rattle.px_base.specs.Answers.some_same
        (sym there ∙ ap (slice_get problem.axioms) is ∙ at) in
        let inside : p < length clause.lits = subst (λ (c : Clause). p < length c.lits) same within in
        omega (arith, inside, long)

pub axioms-init : (problem : Problem) (table : List (Option Bound)) (pred : ℕ)
    → IsUseBoundBy problem table pred (λ n p. n < 0) (record { unfinished = 0; finished = 0 })
axioms-init problem table pred = use_bound-none problem table pred (λ n p. n < 0) (λ n p h. omega (arith, h))

pub axioms-next : (problem : Problem) (table : List (Option Bound)) (pred number : ℕ) (before here both : Bound)
    → IsUseBoundBy problem table pred (λ n p. n < number) before
    → IsUseBoundBy problem table pred (λ n p. n ≡ number) here → both ≡ bound_either before here
    → IsUseBoundBy problem table pred (λ n p. n < number + 1) both
axioms-next problem table pred number before here both old new is =
    use_bound-either problem table pred (λ n p. n < number) (λ n p. n ≡ number) (λ n p. n < number + 1) before here both old new
    (λ n p h. level_or_below n number h) is

pub axioms-all : (problem : Problem) (table : List (Option Bound)) (pred most : ℕ) (bound : Bound) → length problem.axioms ≤ most
    → IsUseBoundBy problem table pred (λ n p. n < most) bound → IsUseBoundBy problem table pred (λ n p. Unit {0}) bound
axioms-all problem table pred most bound long each =
    use_bound-within problem table pred (λ n p. n < most) (λ n p. Unit {0}) bound each (
    λ n p clause at within any.
    let there = Rattle.px_proof.specs.PlaceLaws.slice_get-within problem.axioms n clause at in
    omega (arith, there, long)
    )

-- ---- tables

-- no proof has no height
low-none : (d : Derivation) → ¬ (height d ≤ 0)
low-none (fact leaf) low = omega (arith, low)
low-none (ancestor i) low = omega (arith, low)
low-none (step number theta place parts) low = omega (arith, low)
low-none (gap atom) low = omega (arith, low)
low-none open_place low = omega (arith, low)

pub nothing-low : (problem : Problem) (pred : ℕ) → IsBound problem 0 pred (record { unfinished = 0; finished = 0 })
nothing-low problem pred = record {
  holds = λ facts set path asserting q same. bound_for-none (IsAtomShape (setting_of problem facts) 0 path q) (λ shape h. low-none h.0 h.2);
}

pub above-push : (problem : Problem) (table old new : List (Option Bound)) (pred : ℕ) (bound : Option Bound) → length old ≡ pred
    → AreBoundsAbove problem table old → IfSome bound (IsBoundAbove problem table pred)
    → new ≡ old ++ bound ∷ [] → AreBoundsAbove problem table new
above-push problem table old new pred bound long before here is = record {
  holds = λ low bounds. table-push problem (low + 1) old new bound (before.holds low bounds) (at bound here low bounds) is;
}
  where
    at : (each : Option Bound) → IfSome each (IsBoundAbove problem table pred) → (low : ℕ) → AreBounds problem low table
        → IfSome each (IsBound problem (low + 1) (length old))
    at (Some each) above low bounds = subst (λ (n : ℕ). IsBound problem (low + 1) n each) (sym long) (above.holds low bounds)
    at None above low bounds = tt
