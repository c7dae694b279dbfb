-- The bound of one atom: its leaves, and the proofs that begin with an axiom.
use Rattle.std.proofs.Common.{◌≡◌, ◌∙◌, ◌⊎◌, ℕ, ◌+◌, ◌≤◌, ◌<◌, true, false, Option, Some, None, List, [], ◌∷◌, ◌++◌, length, refl, ap, sym, subst, inl, inr, arith}
use Rattle.std.specs.Prelude.{Contains, IfSome, slice_get, slice_index_or}
use Rattle.std.proofs.lemmas.List.{get_or_append_left, get_or_push}
use Rattle.std.proofs.Math.ListN.{get_or-eq_default}
use Rattle.px_base.specs.ListLaws.{All-at}
use Rattle.px_proof.specs.declared.shape.Tick.{Tick}
use Rattle.px_proof.specs.declared.shape.Tick.TheVariants.{Fact, Gap, Open}
use Rattle.px_proof.specs.Derivation.{fact, ancestor, step, gap, open_place}
use Rattle.px_proof.specs.Shapes.{IsUnfinished}
use Rattle.px_question.proofs.FewerFactsLaws.{place_among_facts-one}
use Rattle.px_question.specs.FewerFacts.{place_among_facts}
use Rattle.px_question.specs.FewerShapes.{Contains-at}
use Rattle.px_question.specs.Settings.{IsAddableIn, Setting, setting_of}
use Rattle.px_terms.specs.AtomSets.{IsAtomSet}
use Rattle.px_terms.specs.declared.atom.Atom.{Atom}
use Rattle.px_terms.specs.declared.clause.Lit.{Lit}
use Rattle.px_terms.specs.declared.problem.Problem.{Problem}
use Rattle.px_gaps.specs.Bounds.{AreAtMost, AreBounds, IsAsserting, IsAtomShape, IsBound, IsBoundFor, HasNoOpenTick, IsLeafBound, IsLeafShape, IsUseBound, IsUseShape, bound_either}
use Rattle.px_gaps.specs.declared.bounds.Bound.{Bound}
use Rattle.px_gaps.proofs.ShapeCounts.{at_most-either, at_most-none, at_most-one, bound_for-either}
use Rattle.px_base.specs.Answers.{both_answers}

-- ---- leaves

module _ (s : Setting) (q : Atom) where
  IsFactShape : List Tick → Type 0
  IsFactShape shape = (i : ℕ) × (slice_get s.facts i ≡ Some q) × (shape ≡ Fact i ∷ [])

  leaf-open : (shape : List Tick) → IsUnfinished shape × IsLeafShape s q shape → shape ≡ Open ∷ []
  leaf-open shape (partly, inl is) = is
  leaf-open shape (partly, inr (inl (i, at, is))) = absurd (subst IsUnfinished is partly)
  leaf-open shape (partly, inr (inr (addable, is))) = absurd (subst IsUnfinished is partly)

  -- a finished one is a fact or a gap
  leaf-closed : (shape : List Tick) → HasNoOpenTick shape × IsLeafShape s q shape
      → IsFactShape shape ⊎ (IsAddableIn s q × (shape ≡ Gap ∷ []))
  unfolding IsFactShape
  leaf-closed shape (whole, inl is) = absurd (subst HasNoOpenTick is whole)
  leaf-closed shape (whole, inr (inl (i, at, is))) = inl (i, at, is)
  leaf-closed shape (whole, inr (inr gapped)) = inr gapped

  leaf-facts : IsAtomSet s.facts → AreAtMost IsFactShape 1
  unfolding IsFactShape
  leaf-facts set = at_most-one IsFactShape (Fact (place_among_facts s.facts q) ∷ [])
      (λ shape h. h.2 ∙ ap (λ (i : ℕ). Fact i ∷ []) (sym (place_among_facts-one s.facts set h.0 q h.1)))

  leaf-gaps : AreAtMost (λ shape. IsAddableIn s q × (shape ≡ Gap ∷ [])) 1
  leaf-gaps = at_most-one (λ shape. IsAddableIn s q × (shape ≡ Gap ∷ [])) (Gap ∷ []) (λ shape h. h.1)

  leaf-no_gaps : (¬ IsAddableIn s q) → AreAtMost (λ shape. IsAddableIn s q × (shape ≡ Gap ∷ [])) 0
  leaf-no_gaps plain = at_most-none (λ shape. IsAddableIn s q × (shape ≡ Gap ∷ [])) (λ shape h. plain h.0)

  leaf_bound : (gaps : ℕ) → IsAtomSet s.facts → AreAtMost (λ shape. IsAddableIn s q × (shape ≡ Gap ∷ [])) gaps
      → IsBoundFor (IsLeafShape s q) (record { unfinished = 1; finished = 1 + gaps })
  leaf_bound gaps set gapped = record {
    unfinished = at_most-one (λ shape. IsUnfinished shape × IsLeafShape s q shape) (Open ∷ []) leaf-open;
    finished = at_most-either IsFactShape (λ shape. IsAddableIn s q × (shape ≡ Gap ∷ []))
        (λ shape. HasNoOpenTick shape × IsLeafShape s q shape) 1 gaps (leaf-facts set) gapped leaf-closed;
  }

pub leaves-plain : (problem : Problem) (pred : ℕ) → (¬ Contains (setting_of problem []).added pred)
    → IsLeafBound problem pred (record { unfinished = 1; finished = 1 })
leaves-plain problem pred plain = record {
  holds = λ facts set q same. leaf_bound (setting_of problem facts) q 0 set
      (leaf-no_gaps (setting_of problem facts) q (λ addable. plain (subst (Contains (setting_of problem []).added) same addable)));
}

pub leaves-gap : (problem : Problem) (pred : ℕ) → IsLeafBound problem pred (record { unfinished = 1; finished = 2 })
leaves-gap problem pred = record {
  holds = λ facts set q same. leaf_bound (setting_of problem facts) q 1 set
      (leaf-gaps (setting_of problem facts) q);
}

-- ---- all proofs

module _ (s : Setting) (high : ℕ) (path : List Lit) (asserting : IsAsserting path) (q : Atom) where
  IsAnyUse : List Tick → Type 0
  IsAnyUse shape = (number : ℕ) × (place : ℕ) × Unit {0} × IsUseShape s high path q number place shape

  -- a proof of the atom is a leaf, or begins with an axiom: what is above it denies nothing
  atom-cases : (shape : List Tick) → IsAtomShape s high path q shape → IsLeafShape s q shape ⊎ IsAnyUse shape
  unfolding IsAnyUse
  atom-cases shape (fact leaf, proves, low, is) =
      let same : q ≡ leaf.atom = ap (λ (l : Lit). l.atom) proves.0 in
      inl (inr (inl (leaf.index, subst (λ (a : Atom). slice_get s.facts leaf.index ≡ Some a) (sym same) proves.1.1, sym is)))
  atom-cases shape (ancestor i, proves, low, is) =
      let denied = All-at (λ (lit : Lit). lit.positive ≡ true) path _ asserting (Contains-at path i _ proves) in absurd
      (both_answers false refl denied)
  atom-cases shape (step number theta place parts, proves, low, is) = inr (number, place, tt, (theta, parts, proves, low, is))
  atom-cases shape (gap a, proves, low, is) =
      let same : q ≡ a = ap (λ (l : Lit). l.atom) proves.0 in
      inl (inr (inr (subst (IsAddableIn s) (sym same) proves.1, sym is)))
  atom-cases shape (open_place, proves, low, is) = inl (inl (sym is))

  atom_bound : (leaves uses : Bound) → IsBoundFor (IsLeafShape s q) leaves → IsBoundFor IsAnyUse uses
      → IsBoundFor (IsAtomShape s high path q) (bound_either leaves uses)
  atom_bound leaves uses one other =
      bound_for-either (IsLeafShape s q) IsAnyUse (IsAtomShape s high path q) leaves uses one other atom-cases

pub bound-either : (problem : Problem) (high pred : ℕ) (leaves uses : Bound) → IsLeafBound problem pred leaves
    → IsUseBound problem high pred (λ number place. Unit {0}) uses → IsBound problem high pred (bound_either leaves uses)
unfolding IsAnyUse
bound-either problem high pred leaves uses one other = record {
  holds = λ facts set path asserting q same. atom_bound (setting_of problem facts) high path asserting q leaves uses
      (one.holds facts set q same) (other.holds facts set path asserting q same);
}

-- ---- the table

pub table-push : (problem : Problem) (high : ℕ) (old new : List (Option Bound)) (bound : Option Bound) → AreBounds problem high old
    → IfSome bound (IsBound problem high (length old)) → new ≡ old ++ bound ∷ [] → AreBounds problem high new
table-push problem high old new bound before here is =
    record {
      each = λ pred. subst (λ (table : List (Option Bound)). IfSome (slice_index_or table pred None) (IsBound problem high pred))
          (sym is) (at pred);
    }
  where
    three : (i n : ℕ) → (i < n) ⊎ (i ≡ n) ⊎ (n + 1 ≤ i)
    three i n = grind (arith)

    at : (pred : ℕ) → IfSome (slice_index_or (old ++ bound ∷ []) pred None) (IsBound problem high pred)
    at pred = elim (three pred (length old)) [
      | inl earlier ↦ rw (get_or_append_left old (bound ∷ []) None pred earlier) (before.each pred)
      | inr (inl level) ↦ rw (get_or_push old bound None pred (sym level))
          (subst (λ (n : ℕ). IfSome bound (IsBound problem high n)) (sym level) here)
      | inr (inr later) ↦ rw (get_or-eq_default (old ++ bound ∷ []) None (outside pred later)) tt
    ]
      where
        outside : (pred : ℕ) → length old + 1 ≤ pred → length (old ++ bound ∷ []) ≤ pred
        outside pred later = let long = Rattle.std.proofs.lemmas.List.length-append old (bound ∷ []) in omega (arith, long, later)
