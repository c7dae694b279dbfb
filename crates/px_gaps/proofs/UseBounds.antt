-- The bound of the proofs that begin with an axiom at a place. The atom determines the terms for the axiom's variables, where each of them
-- stands in the literal at the place.
use Rattle.std.proofs.Common.{◌≡◌, ◌∙◌, ◌⊎◌, ℕ, suc, ◌+◌, ◌≤◌, ◌<◌, Bool, true, false, Option, Some, List, [], ◌∷◌, length, map, get_or, refl, ap, sym, subst, inl, inr, arith}
use Rattle.std.specs.Prelude.{All, Contains, cond, not, remove, slice_get}
use Rattle.std.specs.List.{range_with_len}
use Rattle.std.proofs.lemmas.List.{ext_get_or}
use Rattle.std.proofs.lemmas.List.FromFn.{get_or-map-range_with_len, length-map-range_with_len}
use Rattle.std.proofs.lemmas.List.Elements.{All-cons}
use Rattle.px_base.specs.ListLaws.{Contains-cases, Contains-none}
use Rattle.px_proof.specs.declared.shape.Tick.{Tick}
use Rattle.px_proof.specs.declared.shape.Tick.TheVariants.{Step}
use Rattle.px_proof.specs.Derivation.{Derivations, step, height}
use Rattle.px_proof.specs.Literals.{complement_of, positive_of, substitute_literal}
use Rattle.px_proof.specs.PlaceLaws.{map-remove, slice_get-map, slice_get-within}
use Rattle.px_proof.specs.Proves.{ProvesEach, UsesClause, instance_of, or_open, parts_of}
use Rattle.px_proof.specs.Shapes.{ticks_of}
use Rattle.px_question.specs.Settings.{Setting, loose_gaps_in, setting_of}
use Rattle.px_terms.specs.Language.{substitute, IsObjectBelow}
use Rattle.px_terms.specs.Order.{term_eq}
use Rattle.px_terms.specs.OrderLaws.{term_eq-decides}
use Rattle.px_terms.specs.Substitution.{substitute_atom}
use Rattle.px_terms.specs.declared.atom.Atom.{Atom}
use Rattle.px_terms.specs.declared.clause.Clause.{Clause}
use Rattle.px_terms.specs.declared.clause.Lit.{Lit}
use Rattle.px_terms.specs.declared.problem.Problem.{Problem}
use Rattle.px_terms.specs.declared.term.Term.{Term}
use Rattle.px_terms.specs.declared.term.Term.TheVariants.{Var, Any as Wild}
use Rattle.px_gaps.specs.Bounds.{IsBound, IsBoundAbove, IsBoundBy, IsBoundFor, IsLeafBound, IsListShape, IsUseBoundBy, IsUseShape, bound_either}
use Rattle.px_gaps.specs.declared.bounds.Bound.{Bound}
use Rattle.px_gaps.proofs.AtomBounds.{bound-either}
use Rattle.px_gaps.proofs.ShapeCounts.{bound_for-either, bound_for-none, bound_for-step}
use Rattle.px_base.specs.Answers.{both_answers, some_same}

-- ---- the terms for the variables

-- the term in the second list at the first place at which the variable stands in the first one
value_at : List Term → List Term → ℕ → Term
value_at [] qs v = Wild
value_at (p ∷ ps) [] v = Wild
value_at (p ∷ ps) (t ∷ qs) v = cond (term_eq p (Var v)) t (value_at ps qs v)

two-heads : (t u : Term) (ts us : List Term) → t ∷ ts ≡ u ∷ us → (t ≡ u) × (ts ≡ us)
two-heads t u ts us same = (cc, cc)

value-is : (theta ps qs : List Term) (v : ℕ) → map (substitute theta) ps ≡ qs → Contains ps (Var v) → get_or theta v Wild ≡ value_at ps qs v
unfolding value_at
value-is theta [] qs v same has = absurd (Contains-none (Var v) has)
value-is theta (p ∷ ps) [] v same has = absurd (cc)
value-is theta (p ∷ ps) (t ∷ qs) v same has =
    let both = two-heads (substitute theta p) t (map (substitute theta) ps) qs same in
    elim (term_eq p (Var v)) as (λ b. term_eq p (Var v) ≡ b → get_or theta v Wild ≡ cond b t (value_at ps qs v)) [
      | true ↦ λ here. sym (ap (substitute theta) ((term_eq-decides p (Var v)).0 here)) ∙ both.0
      | false ↦ λ differ. elim (Contains-cases p ps (Var v) has) [
        | inl is ↦ both_answers (term_eq p (Var v)) differ ((term_eq-decides p (Var v)).1 is)
        | inr later ↦ value-is theta ps qs v both.1 later
      ]
    ] refl

pub values_at : List Term → List Term → ℕ → List Term
values_at ps qs variable_count = map (value_at ps qs) (range_with_len 0 variable_count)

values-are : (theta ps qs : List Term) (variable_count : ℕ) → length theta ≡ variable_count → map (substitute theta) ps ≡ qs
    → ((v : ℕ) → v < variable_count → Contains ps (Var v)) → theta ≡ values_at ps qs variable_count
unfolding values_at
values-are theta ps qs variable_count long same told =
    let other : length (map (value_at ps qs) (range_with_len 0 variable_count)) ≡ variable_count = length-map-range_with_len (value_at ps qs) 0 variable_count in
    ext_get_or Wild theta (map (value_at ps qs) (range_with_len 0 variable_count)) (long ∙ sym other) (
    λ i below.
    let within : i < variable_count = omega (arith, below, long) in
    value-is theta ps qs i same (told i within) ∙ sym (get_or-map-range_with_len (value_at ps qs) 0 variable_count i i Wild within (omega arith))
    )

-- ---- the parts

pub atoms_under : List Term → List Lit → List Atom
atoms_under theta lits = map (λ (l : Lit). substitute_atom theta l.atom) lits

under-preds : (theta : List Term) (lits : List Lit)
    → map (λ (a : Atom). a.pred) (atoms_under theta lits) ≡ map (λ (l : Lit). l.atom.pred) lits
unfolding atoms_under
under-preds theta [] = refl
under-preds theta (l ∷ lits) = let rest = under-preds theta lits in ap (λ (preds : List ℕ). l.atom.pred ∷ preds) rest

denied-part : (theta : List Term) (l : Lit) → l.positive ≡ false
    → complement_of (substitute_literal theta l) ≡ positive_of (substitute_atom theta l.atom)
denied-part theta l denied = ap (λ (b : Bool). record { positive = not b; atom = substitute_atom theta l.atom }) denied

denied-parts : (theta : List Term) (lits : List Lit) → All (λ (l : Lit). l.positive ≡ false) lits
    → map complement_of (map (substitute_literal theta) lits) ≡ map positive_of (atoms_under theta lits)
unfolding atoms_under
denied-parts theta [] denied = refl
denied-parts theta (l ∷ lits) denied =
    let here = denied-part theta l (denied 0 l (omega arith)) in
    let rest = denied-parts theta lits (λ k d within. denied (suc k) d (omega (arith, within))) in
    λ i. here i ∷ rest i

parts-are : (theta : List Term) (lits : List Lit) (place : ℕ) → All (λ (l : Lit). l.positive ≡ false) (remove lits place)
    → parts_of lits theta place ≡ map positive_of (atoms_under theta (remove lits place))
parts-are theta lits place denied =
    ap (map complement_of) (sym (map-remove (substitute_literal theta) lits place)) ∙ denied-parts theta (remove lits place) denied

-- ---- one axiom at one place

-- the literal at the place is positive and has each variable, and the other ones are denials
pub record IsHornAt (clause : Clause) (place : ℕ) (lit : Lit) : Type 0 where
  pub here : slice_get clause.lits place ≡ Some lit
  pub told : (v : ℕ) → v < clause.variable_count → Contains lit.atom.args (Var v)
  pub denied : All (λ (l : Lit). l.positive ≡ false) (remove clause.lits place)

module _ (s : Setting) (low : ℕ) (path : List Lit) (q : Atom) (number place : ℕ) (clause : Clause) (lit : Lit)
    (at : slice_get s.axioms number ≡ Some clause) (horn : IsHornAt clause place lit) where
  abbrev values : List Term
  values = values_at lit.atom.args q.args clause.variable_count

  IsPartsShape : List Tick → Type 0
  IsPartsShape shape = IsListShape s low (positive_of q ∷ path) (atoms_under values (remove clause.lits place)) shape

  -- the same literal under the terms
  literal-is : (theta : List Term) → slice_get (instance_of clause.lits theta) place ≡ Some (positive_of q)
      → substitute_literal theta lit ≡ positive_of q
  literal-is theta there = some_same
      (sym (slice_get-map (substitute_literal theta) clause.lits place lit horn.here) ∙ there)

  theta-is : (theta : List Term) → UsesClause (IsObjectBelow s.objects) s.axioms (positive_of q) number theta place clause → theta ≡ values
  theta-is theta uses = values-are theta lit.atom.args q.args clause.variable_count uses.terms
      (ap (λ (l : Lit). l.atom.args) (literal-is theta uses.literal_at)) horn.told

  use-parts : (theta : List Term) (parts : Derivations) (other : Clause)
      → UsesClause (IsObjectBelow s.objects) s.axioms (positive_of q) number theta place other
      → ProvesEach (or_open (loose_gaps_in s)) s.axioms (positive_of q ∷ path) (parts_of other.lits theta place) parts
      → height (step number theta place parts) ≤ low + 1 → IsPartsShape (ticks_of parts)
  unfolding IsPartsShape
  use-parts theta parts other uses proves low_enough =
      let same : other ≡ clause = some_same (sym uses.axiom_at ∙ at) in
      let closed = theta-is theta (subst (UsesClause (IsObjectBelow s.objects) s.axioms (positive_of q) number theta place) same uses) in
      let lits : parts_of other.lits theta place ≡ map positive_of (atoms_under values (remove clause.lits place)) =
      ap (λ (c : Clause). parts_of c.lits theta place) same ∙ ap (λ (terms : List Term). parts_of clause.lits terms place) closed
      ∙ parts-are values clause.lits place horn.denied in (
        parts,
        subst (λ (ls : List Lit). ProvesEach (or_open (loose_gaps_in s)) s.axioms (positive_of q ∷ path) ls parts) lits proves,
        omega (arith, low_enough),
        refl,
      )

  use-shape : (shape : List Tick) → IsUseShape s (low + 1) path q number place shape
      → (a : List Tick) × IsPartsShape a × (Step number place ∷ a ≡ shape)
  use-shape shape (theta, parts, proves, low_enough, is) = (ticks_of parts, use-parts theta parts proves.0 proves.1 proves.2 low_enough, is)

  IsUsed : List Tick → Type 0
  IsUsed shape = (n : ℕ) × (p : ℕ) × ((n ≡ number) × (p ≡ place)) × IsUseShape s (low + 1) path q n p shape

  used-shape : (shape : List Tick) → IsUsed shape → (a : List Tick) × IsPartsShape a × (Step number place ∷ a ≡ shape)
  unfolding IsUsed
  used-shape shape (n, p, which, used) =
      use-shape shape (subst (λ (m : ℕ). IsUseShape s (low + 1) path q m place shape) which.0
      (subst (λ (m : ℕ). IsUseShape s (low + 1) path q n m shape) which.1 used))

  pub used_bound : (bound : Bound)
      → IsBoundFor (IsListShape s low (positive_of q ∷ path) (atoms_under values (remove clause.lits place))) bound
      → IsBoundFor (λ shape. (n : ℕ) × (p : ℕ) × ((n ≡ number) × (p ≡ place)) × IsUseShape s (low + 1) path q n p shape) bound
  unfolding IsUsed IsPartsShape
  used_bound bound of_parts = bound_for-step number place IsPartsShape IsUsed bound of_parts used-shape

pub use_bound-horn : (problem : Problem) (table : List (Option Bound)) (pred number place : ℕ) (clause : Clause) (lit : Lit) (bound : Bound)
    → slice_get problem.axioms number ≡ Some clause → IsHornAt clause place lit
    → IsBoundBy table (map (λ (l : Lit). l.atom.pred) (remove clause.lits place)) bound
    → IsUseBoundBy problem table pred (λ n p. (n ≡ number) × (p ≡ place)) bound
use_bound-horn problem table pred number place clause lit bound at horn of_parts = record {
  holds = λ low bounds. record {
    holds = λ facts set path asserting q same.
        let theta = values_at lit.atom.args q.args clause.variable_count in
        let atoms = atoms_under theta (remove clause.lits place) in
        used_bound (setting_of problem facts) low path q number place clause lit at horn bound (
        (of_parts.holds problem low bounds).holds facts set (positive_of q ∷ path)
        (All-cons (λ (l : Lit). l.positive ≡ true) (positive_of q) path refl asserting) atoms
        (under-preds theta (remove clause.lits place))
        );
  };
}

-- another literal stands there than one that asserts an atom of the predicate
pub use_bound-other : (problem : Problem) (table : List (Option Bound)) (pred number place : ℕ) (clause : Clause) (lit : Lit)
    → slice_get problem.axioms number ≡ Some clause → slice_get clause.lits place ≡ Some lit
    → (¬ ((lit.positive ≡ true) × (lit.atom.pred ≡ pred)))
    → IsUseBoundBy problem table pred (λ n p. (n ≡ number) × (p ≡ place)) (record { unfinished = 0; finished = 0 })
use_bound-other problem table pred number place clause lit at here differs = record {
  holds = λ low bounds. record {
    holds = λ facts set path asserting q same.
        bound_for-none (λ shape. (n : ℕ) × (p : ℕ) × ((n ≡ number) × (p ≡ place))
        × IsUseShape (setting_of problem facts) (low + 1) path q n p shape) (
        λ shape h. never_used q same h.0 h.1 h.2 h.3.0 h.3.2.0 h.3.2.1
        );
  };
}
  where
    never_used : (q : Atom) → q.pred ≡ pred → (n p : ℕ) → (n ≡ number) × (p ≡ place) → (theta : List Term) (other : Clause)
        → ¬ UsesClause (IsObjectBelow problem.objects) problem.axioms (positive_of q) n theta p other
    never_used q same n p which theta other uses =
        let is : other ≡ clause = some_same (sym uses.axiom_at ∙ ap (slice_get problem.axioms) which.0 ∙ at) in
        let there : slice_get (instance_of clause.lits theta) place ≡ Some (positive_of q) =
        (λ i. slice_get (instance_of (sym is i).lits theta) (sym which.1 i)) ∙ uses.literal_at in
        let equal : substitute_literal theta lit ≡ positive_of q =
        some_same
        (sym (slice_get-map (substitute_literal theta) clause.lits place lit here) ∙ there) in
        differs (ap (λ (l : Lit). l.positive) equal, ap (λ (l : Lit). l.atom.pred) equal ∙ same)

-- ---- several axioms and places

pub use_bound-none : (problem : Problem) (table : List (Option Bound)) (pred : ℕ) (IsUse : ℕ → ℕ → Type 0) → ((n p : ℕ) → ¬ IsUse n p)
    → IsUseBoundBy problem table pred IsUse (record { unfinished = 0; finished = 0 })
use_bound-none problem table pred IsUse never = record {
  holds = λ low bounds. record {
    holds = λ facts set path asserting q same.
        bound_for-none (λ shape. (n : ℕ) × (p : ℕ) × IsUse n p × IsUseShape (setting_of problem facts) (low + 1) path q n p shape)
        (λ shape h. never h.0 h.1 h.2);
  };
}

pub use_bound-either : (problem : Problem) (table : List (Option Bound)) (pred : ℕ) (IsUse IsOther IsBoth : ℕ → ℕ → Type 0)
    (first second both : Bound)
    → IsUseBoundBy problem table pred IsUse first → IsUseBoundBy problem table pred IsOther second
    → ((n p : ℕ) → IsBoth n p → IsUse n p ⊎ IsOther n p) → both ≡ bound_either first second
    → IsUseBoundBy problem table pred IsBoth both
use_bound-either problem table pred IsUse IsOther IsBoth first second both one other cases is = record {
  holds = λ low bounds. record {
    holds = λ facts set path asserting q same.
        let s = setting_of problem facts in
        subst (IsBoundFor (λ shape. (n : ℕ) × (p : ℕ) × IsBoth n p × IsUseShape s (low + 1) path q n p shape)) (sym is) (
        bound_for-either (λ shape. (n : ℕ) × (p : ℕ) × IsUse n p × IsUseShape s (low + 1) path q n p shape)
        (λ shape. (n : ℕ) × (p : ℕ) × IsOther n p × IsUseShape s (low + 1) path q n p shape)
        (λ shape. (n : ℕ) × (p : ℕ) × IsBoth n p × IsUseShape s (low + 1) path q n p shape) first second
        ((one.holds low bounds).holds facts set path asserting q same) ((other.holds low bounds).holds facts set path asserting q same)
        (λ shape h. elim (cases h.0 h.1 h.2) [ inl is_use ↦ inl (h.0, h.1, is_use, h.3) | inr is_use ↦ inr (h.0, h.1, is_use, h.3) ])
        );
  };
}

-- a proof begins with an axiom that is there, at a place that it has
pub use_bound-within : (problem : Problem) (table : List (Option Bound)) (pred : ℕ) (IsUse IsAny : ℕ → ℕ → Type 0) (bound : Bound)
    → IsUseBoundBy problem table pred IsUse bound
    → ((n p : ℕ) (clause : Clause) → slice_get problem.axioms n ≡ Some clause → p < length clause.lits → IsAny n p → IsUse n p)
    → IsUseBoundBy problem table pred IsAny bound
use_bound-within problem table pred IsUse IsAny bound all_of wide = record {
  holds = λ low bounds. record {
    holds = λ facts set path asserting q same.
        let s = setting_of problem facts in
        let found = (all_of.holds low bounds).holds facts set path asserting q same in
        record {
          unfinished = record {
            seen = found.unfinished.seen;
            few = found.unfinished.few;
            all = λ shape h. found.unfinished.all shape (h.0, narrowed facts low path q shape h.1);
          };
          finished = record {
            seen = found.finished.seen;
            few = found.finished.few;
            all = λ shape h. found.finished.all shape (h.0, narrowed facts low path q shape h.1);
          };
        };
  };
}
  where
    narrowed : (facts : List Atom) (low : ℕ) (path : List Lit) (q : Atom) (shape : List Tick)
        → ((n : ℕ) × (p : ℕ) × IsAny n p × IsUseShape (setting_of problem facts) (low + 1) path q n p shape)
        → ((n : ℕ) × (p : ℕ) × IsUse n p × IsUseShape (setting_of problem facts) (low + 1) path q n p shape)
    narrowed facts low path q shape (n, p, any, used) =
        let clause = used.2.0 in
        let uses = used.2.1 in
        let within : p < length (instance_of clause.lits used.0) =
        slice_get-within (instance_of clause.lits used.0) p (positive_of q) uses.literal_at in
        let long = Rattle.std.proofs.lemmas.List.length-map clause.lits (substitute_literal used.0) in
        (n, p, wide n p clause uses.axiom_at (omega (arith, within, long)) any, used)

-- ---- one predicate

pub bound_above-either : (problem : Problem) (table : List (Option Bound)) (pred : ℕ) (leaves uses both : Bound)
    → IsLeafBound problem pred leaves
    → IsUseBoundBy problem table pred (λ number place. Unit {0}) uses → both ≡ bound_either leaves uses
    → IsBoundAbove problem table pred both
bound_above-either problem table pred leaves uses both one other is = record {
  holds = λ low bounds. subst (IsBound problem (low + 1) pred) (sym is)
      (bound-either problem (low + 1) pred leaves uses one (other.holds low bounds));
}
