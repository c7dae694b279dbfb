-- The bound of a list of atoms, by those of its first atom and of the others; and what it says of the shape limit.
use Rattle.std.proofs.Common.{◌≡◌, ◌∙◌, ◌⊎◌, ℕ, ◌+◌, ◌*◌, ◌≤◌, ◌<◌, Option, Some, None, List, [], ◌∷◌, ◌++◌, length, map, drop, get_or, refl, ap, sym, subst, inl, inr, arith}
use Rattle.std.specs.Prelude.{IfSome, slice_index_or}
use Rattle.std.proofs.Math.Nat.{le-max_left, le-max_right}
use Rattle.std.proofs.lemmas.List.{drop_all, drop_more, nil_from_length}
use Rattle.px_terms.specs.AtomSets.{IsAtomSet}
use Rattle.px_terms.specs.Substitution.{substitute_atom}
use Rattle.px_terms.specs.declared.atom.Atom.{Atom}
use Rattle.px_terms.specs.declared.clause.Clause.{Clause}
use Rattle.px_terms.specs.declared.clause.Lit.{Lit}
use Rattle.px_terms.specs.declared.problem.Problem.{Problem}
use Rattle.px_proof.specs.declared.shape.Tick.{Tick}
use Rattle.px_proof.specs.declared.shape.Tick.TheVariants.{Open}
use Rattle.px_proof.specs.Derivation.{Derivations, fact, ancestor, step, gap, open_place, none, also, height, greatest_height}
use Rattle.px_proof.specs.Literals.{positive_of}
use Rattle.px_proof.specs.Proves.{Rules, ProvesEach, or_open}
use Rattle.px_proof.specs.Shapes.{IsUnfinished, OnlyOpen, ticks, ticks_of}
use Rattle.px_question.specs.Answers.{literals_of, object_terms}
use Rattle.px_question.specs.Limits.{AreFewGapShapes}
use Rattle.px_question.specs.Settings.{Setting, loose_gaps_in, setting_of}
use Rattle.px_gaps.specs.Bounds.{AreAtMost, HasFewShapes, IsAsserting, IsAtomShape, IsBound, IsBoundBy, IsBoundFor, HasNoOpenTick, IsListBound, IsListShape, bound_beside}
use Rattle.px_gaps.specs.declared.bounds.Bound.{Bound}
use Rattle.px_gaps.proofs.ShapeCounts.{at_most-either, at_most-image, at_most-none, at_most-one, at_most-pairs, finished-parts, unfinished-parts}

-- one open place for each atom
opens_of : List Atom → List Tick
opens_of [] = []
opens_of (q ∷ atoms) = Open ∷ opens_of atoms

-- proofs with open places alone
all-opens : (rules : Rules) (axioms : List Clause) (path : List Lit) (atoms : List Atom) (ds : Derivations)
    → ProvesEach rules axioms path (map positive_of atoms) ds → OnlyOpen (ticks_of ds) → ticks_of ds ≡ opens_of atoms
unfolding opens_of
all-opens rules axioms path [] none proves only = refl
all-opens rules axioms path [] (also d ds) proves only = absurd proves
all-opens rules axioms path (q ∷ atoms) none proves only = absurd proves
all-opens rules axioms path (q ∷ atoms) (also (fact leaf) ds) proves only = absurd only
all-opens rules axioms path (q ∷ atoms) (also (ancestor i) ds) proves only = absurd only
all-opens rules axioms path (q ∷ atoms) (also (step n theta place parts) ds) proves only = absurd only
all-opens rules axioms path (q ∷ atoms) (also (gap a) ds) proves only = absurd only
all-opens rules axioms path (q ∷ atoms) (also open_place ds) proves only = let rest =
    all-opens rules axioms path atoms ds proves.1 only in ap (λ (shape : List Tick). Open ∷ shape) rest

module _ (s : Setting) (high : ℕ) (path : List Lit) where
  pub list_bound-nil : IsBoundFor (IsListShape s high path []) (record { unfinished = 0; finished = 1 })
  list_bound-nil = record {
    unfinished = at_most-none (λ shape. IsUnfinished shape × IsListShape s high path [] shape)
        (λ shape h. unfinished-none h.1.0 h.1.1 (subst IsUnfinished (sym h.1.3) h.0));
    finished = at_most-one (λ shape. HasNoOpenTick shape × IsListShape s high path [] shape) []
        (λ shape h. sym h.1.3 ∙ ticks-none h.1.0 h.1.1);
  }
    where
      unfinished-none : (ds : Derivations) → ProvesEach (or_open (loose_gaps_in s)) s.axioms path [] ds → ¬ IsUnfinished (ticks_of ds)
      unfinished-none none proves is = is
      unfinished-none (also d ds) proves is = absurd proves

      ticks-none : (ds : Derivations) → ProvesEach (or_open (loose_gaps_in s)) s.axioms path [] ds → ticks_of ds ≡ []
      ticks-none none proves = refl
      ticks-none (also d ds) proves = absurd proves

  module _ (q : Atom) (atoms : List Atom) where
    -- the shape of a list in its two parts
    record IsSplit (shape a b : List Tick) : Type 0 where
      pub first : IsAtomShape s high path q a
      pub rest : IsListShape s high path atoms b
      pub opens : OnlyOpen b → b ≡ opens_of atoms
      pub is : a ++ b ≡ shape

    split : (shape : List Tick) → IsListShape s high path (q ∷ atoms) shape → (a : List Tick) × (b : List Tick) × IsSplit shape a b
    split shape (none, proves, low, is) = absurd proves
    split shape (also d ds, proves, low, is) =
        let here = le-max_left (height d) (greatest_height ds) in
        let there = le-max_right (height d) (greatest_height ds) in (
          ticks d,
          ticks_of ds,
          record {
            first = (d, proves.0, omega (arith, here, low), refl);
            rest = (ds, proves.1, omega (arith, there, low), refl);
            opens = all-opens (or_open (loose_gaps_in s)) s.axioms path atoms ds proves.1;
            is = is;
          },
        )

    module _ (first rest : Bound) (one : IsBoundFor (IsAtomShape s high path q) first)
        (others : IsBoundFor (IsListShape s high path atoms) rest) where
      -- unfinished at the first atom
      IsEarly : List Tick → Type 0
      IsEarly shape = (a : List Tick) × (IsUnfinished a × IsAtomShape s high path q a) × (a ++ opens_of atoms ≡ shape)

      -- unfinished later
      IsLate : List Tick → Type 0
      IsLate shape = (a : List Tick) × (b : List Tick) × (HasNoOpenTick a × IsAtomShape s high path q a)
          × (IsUnfinished b × IsListShape s high path atoms b) × (a ++ b ≡ shape)

      early : AreAtMost IsEarly first.unfinished
      unfolding IsEarly
      early = at_most-image (λ a. a ++ opens_of atoms)
          (λ shape. IsUnfinished shape × IsAtomShape s high path q shape) IsEarly first.unfinished one.unfinished (λ shape h. h)

      late : AreAtMost IsLate (first.finished * rest.unfinished)
      unfolding IsLate
      late = at_most-pairs (λ shape. HasNoOpenTick shape × IsAtomShape s high path q shape)
          (λ shape. IsUnfinished shape × IsListShape s high path atoms shape) IsLate
          first.finished rest.unfinished one.finished others.unfinished (λ shape h. h)

      cases : (shape : List Tick) → IsUnfinished shape × IsListShape s high path (q ∷ atoms) shape → IsEarly shape ⊎ IsLate shape
      unfolding IsEarly IsLate
      cases shape h =
          let (a, b, parts) = split shape h.1 in
          elim (unfinished-parts a b (subst IsUnfinished (sym parts.is) h.0)) [
            | inl now ↦ inl (a, (now.0, parts.first), ap (λ (t : List Tick). a ++ t) (sym (parts.opens now.1)) ∙ parts.is)
            | inr later ↦ inr (a, b, (later.0, parts.first), (later.1, parts.rest), parts.is)
          ]

      finished : AreAtMost (λ shape. HasNoOpenTick shape × IsListShape s high path (q ∷ atoms) shape) (first.finished * rest.finished)
      finished = at_most-pairs (λ shape. HasNoOpenTick shape × IsAtomShape s high path q shape)
          (λ shape. HasNoOpenTick shape × IsListShape s high path atoms shape)
          (λ shape. HasNoOpenTick shape × IsListShape s high path (q ∷ atoms) shape)
          first.finished rest.finished one.finished others.finished
          (λ shape h. let (a, b, parts) = split shape h.1 in
          let both = finished-parts a b (subst HasNoOpenTick (sym parts.is) h.0) in
          (a, b, (both.0, parts.first), (both.1, parts.rest), parts.is))

      pub list_bound-cons : IsBoundFor (IsListShape s high path (q ∷ atoms)) (bound_beside first rest)
      list_bound-cons = record {
        unfinished = at_most-either IsEarly IsLate
            (λ shape. IsUnfinished shape × IsListShape s high path (q ∷ atoms) shape) first.unfinished (first.finished * rest.unfinished)
            early late cases;
        finished = finished;
      }

-- ---- by predicates

pub preds_bound-nil : (problem : Problem) (high : ℕ) → IsListBound problem high [] (record { unfinished = 0; finished = 1 })
preds_bound-nil problem high = record { holds = λ facts set path asserting atoms same. by_atoms facts path atoms same }
  where
    by_atoms : (facts : List Atom) (path : List Lit) (atoms : List Atom) → map (λ (a : Atom). a.pred) atoms ≡ []
        → IsBoundFor (IsListShape (setting_of problem facts) high path atoms) (record { unfinished = 0; finished = 1 })
    by_atoms facts path [] same = list_bound-nil (setting_of problem facts) high path
    by_atoms facts path (q ∷ atoms) same = absurd (cc)

pub preds_bound-cons : (problem : Problem) (high pred : ℕ) (preds : List ℕ) (first rest : Bound) → IsBound problem high pred first
    → IsListBound problem high preds rest → IsListBound problem high (pred ∷ preds) (bound_beside first rest)
preds_bound-cons problem high pred preds first rest one others =
    record { holds = λ facts set path asserting atoms same. by_atoms facts set path asserting atoms same }
  where
    heads : (m n : ℕ) (ms ns : List ℕ) → m ∷ ms ≡ n ∷ ns → (m ≡ n) × (ms ≡ ns)
    heads m n ms ns same = (cc, cc)

    by_atoms : (facts : List Atom) → IsAtomSet facts → (path : List Lit) → IsAsserting path → (atoms : List Atom)
        → map (λ (a : Atom). a.pred) atoms ≡ pred ∷ preds
        → IsBoundFor (IsListShape (setting_of problem facts) high path atoms) (bound_beside first rest)
    by_atoms facts set path asserting [] same = absurd (cc)
    by_atoms facts set path asserting (q ∷ atoms) same =
        let both = heads q.pred pred (map (λ (a : Atom). a.pred) atoms) preds same in
        list_bound-cons (setting_of problem facts) high path q atoms first rest (one.holds facts set path asserting q both.0)
        (others.holds facts set path asserting atoms both.1)

-- ---- by the table

pub by_table-nil : (table : List (Option Bound)) (atoms : List Atom) (from : ℕ) → length atoms ≤ from
    → IsBoundBy table (map (λ (a : Atom). a.pred) (drop from atoms)) (record { unfinished = 0; finished = 1 })
by_table-nil table atoms from past = record {
  holds = λ problem high bounds. subst
      (λ (left : List Atom). IsListBound problem high (map (λ (a : Atom). a.pred) left) (record { unfinished = 0; finished = 1 }))
      (sym (drop_all from atoms past)) (preds_bound-nil problem high);
}

pub by_table-cons : (table : List (Option Bound)) (atoms : List Atom) (from later pred : ℕ) (atom : Atom) (first rest both : Bound)
    → from < length atoms → later ≡ from + 1 → atom ≡ get_or atoms from atom → pred ≡ atom.pred
    → Some first ≡ slice_index_or table pred None → both ≡ bound_beside first rest
    → IsBoundBy table (map (λ (a : Atom). a.pred) (drop later atoms)) rest
    → IsBoundBy table (map (λ (a : Atom). a.pred) (drop from atoms)) both
by_table-cons table atoms from later pred atom first rest both within next here named found is others = record {
  holds = λ problem high bounds.
      let one : IsBound problem high pred first =
      subst (λ (o : Option Bound). IfSome o (IsBound problem high pred)) (sym found) (bounds.each pred) in
      let made = preds_bound-cons problem high pred (map (λ (a : Atom). a.pred) (drop later atoms)) first rest one
      (others.holds problem high bounds) in
      let split : atom ∷ drop later atoms ≡ drop from atoms =
      (λ i. here i ∷ drop (next i) atoms) ∙ sym (drop_more atoms from atom within) in
      let preds : pred ∷ map (λ (a : Atom). a.pred) (drop later atoms) ≡ map (λ (a : Atom). a.pred) (drop from atoms) =
      (λ i. named i ∷ map (λ (a : Atom). a.pred) (drop later atoms)) ∙ ap (map (λ (a : Atom). a.pred)) split in
      subst (IsListBound problem high (map (λ (a : Atom). a.pred) (drop from atoms))) (sym is)
      (subst (λ (ps : List ℕ). IsListBound problem high ps (bound_beside first rest)) preds made);
}

-- ---- the limit

under_objects : List ℕ → List Atom → List Atom
under_objects objects formula = map (substitute_atom (object_terms objects)) formula

under-preds : (objects : List ℕ) (formula : List Atom)
    → map (λ (a : Atom). a.pred) (under_objects objects formula) ≡ map (λ (a : Atom). a.pred) formula
unfolding under_objects
under-preds objects [] = refl
under-preds objects (q ∷ formula) = let rest = under-preds objects formula in ap (λ (preds : List ℕ). q.pred ∷ preds) rest

under-literals : (objects : List ℕ) (formula : List Atom) → literals_of formula objects ≡ map positive_of (under_objects objects formula)
unfolding under_objects
under-literals objects [] = refl
under-literals objects (q ∷ formula) = let rest =
    under-literals objects formula in ap (λ (lits : List Lit). positive_of (substitute_atom (object_terms objects) q) ∷ lits) rest

pub few-by_bound : (problem : Problem) (preds : List ℕ) (bound : Bound) → IsListBound problem problem.height preds bound
    → bound.unfinished < problem.shapes → HasFewShapes problem preds
few-by_bound problem preds bound is below = record { few = λ facts set formula same. by_facts facts set formula same }
  where
    by_facts : (facts : List Atom) → IsAtomSet facts → (formula : List Atom) → map (λ (a : Atom). a.pred) formula ≡ preds
        → AreFewGapShapes (setting_of problem facts) formula 0
    by_facts facts set formula same =
        let s = setting_of problem facts in
        let atoms = under_objects [] formula in
        let most = (is.holds facts set [] (λ k d within. absurd (omega (arith, within))) atoms
        (under-preds [] formula ∙ same)).unfinished in
        record {
          seen = most.seen;
          fewer = omega (arith, most.few, below);
          all = λ shape partial.
              let closed = nil_from_length partial.1.0 partial.1.2.count in
              let proved = subst (λ (objects : List ℕ). ProvesEach (or_open (loose_gaps_in s)) s.axioms []
              (literals_of formula objects) partial.1.1) closed partial.1.2.proved in
              most.all shape (
                partial.0,
                (
                  partial.1.1,
                  subst
                      (λ (lits : List Lit). ProvesEach (or_open (loose_gaps_in s)) s.axioms [] lits partial.1.1)
                      (under-literals [] formula) proved,
                  partial.1.2.low,
                  partial.1.3,
                ),
              );
        }
