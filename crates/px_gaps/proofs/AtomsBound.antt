-- The bound of atoms without variables, by the shapes that are counted for each of them.
use Rattle.std.proofs.Common.{◌≡◌, ◌∙◌, ◌⊎◌, ℕ, zero, suc, ◌+◌, ◌*◌, ◌≤◌, ◌<◌, List, [], ◌∷◌, length, map, drop, get_or, refl, ap, sym, subst, inl, inr, arith}
use Rattle.std.specs.Prelude.{All, Contains}
use Rattle.std.proofs.lemmas.Nat.{mul-le}
use Rattle.std.proofs.lemmas.List.{append-nil, drop_all, drop_more, nil_from_length}
use Rattle.std.proofs.lemmas.List.Elements.{All-head, All-tail}
use Rattle.px_base.specs.ListLaws.{Contains-none}
use Rattle.px_proof.specs.declared.shape.Tick.{Tick}
use Rattle.px_proof.specs.Derivation.{Derivation, Derivations, fact, ancestor, step, gap, open_place, none, also}
use Rattle.px_proof.specs.Literals.{positive_of}
use Rattle.px_proof.specs.Proves.{Proves, ProvesEach, Rules, or_open, parts_of}
use Rattle.px_proof.specs.Shapes.{ticks, ticks_of}
use Rattle.px_question.specs.Answers.{IsList, literals_of}
use Rattle.px_question.specs.Limits.{AreFewGapShapes}
use Rattle.px_question.specs.Settings.{Setting, loose_gaps_in}
use Rattle.px_terms.specs.Instances.{IsGround}
use Rattle.px_terms.specs.Substitution.{substitute_atom}
use Rattle.px_terms.specs.declared.atom.Atom.{Atom}
use Rattle.px_terms.specs.declared.clause.Clause.{Clause}
use Rattle.px_terms.specs.declared.clause.Lit.{Lit}
use Rattle.px_gaps.specs.Bounds.{HasNoOpenTick, IsAtomShape, IsBoundFor, IsListShape, bound_beside}
use Rattle.px_gaps.specs.ByAtoms.{IsBoundOfAtoms}
use Rattle.px_prover.specs.Counting.{CountsShapes}
use Rattle.px_gaps.specs.declared.bounds.Bound.{Bound}
use Rattle.px_prover.specs.declared.counting.ShapeCount.{ShapeCount}
use Rattle.px_gaps.proofs.Apartness.{list-nil, one-list, parted}
use Rattle.px_gaps.proofs.FactLemmas.{ground-same}
use Rattle.px_gaps.proofs.ListBounds.{list_bound-cons, list_bound-nil}
use Rattle.px_gaps.proofs.ShapeCounts.{finished-parts}

-- a proof in which no place is open is finished
module _ (rules : Rules) (axioms : List Clause) where
  mutual
    pub closed-proves : (path : List Lit) (lit : Lit) (d : Derivation) → Proves (or_open rules) axioms path lit d → HasNoOpenTick (ticks d)
        → Proves rules axioms path lit d
    closed-proves path lit (fact leaf) proved closed = proved
    closed-proves path lit (ancestor i) proved closed = proved
    closed-proves path lit (step number theta place parts) proved closed = (
      proved.0,
      proved.1,
      closed-proves-each (lit ∷ path) (parts_of proved.0.lits theta place) parts proved.2 closed,
    )
    closed-proves path lit (gap atom) proved closed = proved
    closed-proves path lit open_place proved closed = absurd closed

    closed-proves-each : (path lits : List Lit) (ds : Derivations) → ProvesEach (or_open rules) axioms path lits ds
        → HasNoOpenTick (ticks_of ds) → ProvesEach rules axioms path lits ds
    closed-proves-each path [] none each closed = tt
    closed-proves-each path (lit ∷ lits) (also d ds) each closed =
        let both = finished-parts (ticks d) (ticks_of ds) closed in
        (closed-proves path lit d each.0 both.0, closed-proves-each path lits ds each.1 both.1)
    closed-proves-each path [] (also d ds) each closed = absurd each
    closed-proves-each path (lit ∷ lits) none each closed = absurd each

own-is : (q : Atom) → IsGround q → positive_of (substitute_atom [] q) ≡ positive_of q
own-is q is_ground = ap positive_of (ground-same [] q is_ground)

literals-are : (formula : List Atom) → All IsGround formula → literals_of formula [] ≡ map positive_of formula
literals-are [] all = refl
literals-are (q ∷ formula) all =
    let here = own-is q (All-head IsGround q formula all) in
    let rest = literals-are formula (All-tail IsGround q formula all) in λ i. here i ∷ rest i

zero-product : (m n : ℕ) → m * n ≡ 0 → (m ≡ 0) ⊎ (n ≡ 0)
zero-product zero n is = inl refl
zero-product (suc m) zero is = inr refl
zero-product (suc m) (suc n) is =
    let least : 1 * 1 ≤ suc m * suc n = mul-le 1 1 (suc m) (suc n) (omega arith) (omega arith) in absurd (omega (arith, least, is))

-- what is counted
abbrev pub bound_by : ShapeCount → Bound
bound_by count = record { unfinished = count.unfinished; finished = count.finished }

module _ (s : Setting) where
  module _ (q : Atom) (is_ground : IsGround q) (count : ShapeCount) (counts : CountsShapes s (q ∷ []) 0 count) where
    counted-bound : IsBoundFor (IsAtomShape s s.height [] q) (bound_by count)
    counted-bound = record {
      unfinished = record {
        seen = counts.unfinished.seen;
        few = omega (arith, counts.unfinished.fewer);
        all = λ shape h.
            let (d, proved, low, is) = h.1 in
            counts.unfinished.all shape (
              h.0,
              (
                [],
                also d none,
                one-list s (or_open (loose_gaps_in s)) q d
                    (subst (λ (lit : Lit). Proves (or_open (loose_gaps_in s)) s.axioms [] lit d) (sym (own-is q is_ground)) proved) low,
                append-nil (ticks d) ∙ is,
              ),
            );
      };
      finished = record {
        seen = counts.finished.seen;
        few = omega (arith, counts.finished.fewer);
        all = λ shape h.
            let (d, proved, low, is) = h.1 in
            counts.finished.all shape (
              [],
              also d none,
              one-list s (loose_gaps_in s) q d
                  (subst (λ (lit : Lit). Proves (loose_gaps_in s) s.axioms [] lit d) (sym (own-is q is_ground))
                  (closed-proves (loose_gaps_in s) s.axioms [] (positive_of q) d proved (subst HasNoOpenTick (sym is) h.0))) low,
              append-nil (ticks d) ∙ is,
            );
      };
    }

    -- where none is finished, there is no loose gap proof
    counted-none : count.finished ≡ 0 → (objects : List ℕ) (ds : Derivations) → ¬ IsList (loose_gaps_in s) s (q ∷ []) 0 objects ds
    counted-none zero_is objects ds list =
        empty counts.finished.seen (omega (arith, zero_is, counts.finished.fewer))
        (counts.finished.all (ticks_of ds) (objects, ds, list, refl))
      where
        empty : (seen : List (List Tick)) → length seen ≡ 0 → ¬ Contains seen (ticks_of ds)
        empty seen long has =
            Contains-none (ticks_of ds) (subst (λ (l : List (List Tick)). Contains l (ticks_of ds)) (nil_from_length seen long) has)

    pub bound-with : (others : List Atom) (rest both : Bound) → both ≡ bound_beside (bound_by count) rest → IsBoundOfAtoms s others rest
        → IsBoundOfAtoms s (q ∷ others) both
    bound-with others rest both is known = record {
      shapes = subst (IsBoundFor (IsListShape s s.height [] (q ∷ others))) (sym is)
          (list_bound-cons s s.height [] q others (bound_by count) rest counted-bound known.shapes);
      none = λ zero_is objects ds list.
          let parts = parted s (loose_gaps_in s) q others objects ds list in
          elim (zero-product count.finished rest.finished (sym (ap (λ (b : Bound). b.finished) is) ∙ zero_is)) [
            | inl first ↦ counted-none first [] (also parts.0.0 none) parts.0.1
            | inr later ↦ known.none later [] parts.1.0 parts.1.1
          ];
    }

  pub bound-nil : (atoms : List Atom) (from : ℕ) → length atoms ≤ from
      → IsBoundOfAtoms s (drop from atoms) (record { unfinished = 0; finished = 1 })
  bound-nil atoms from past = subst (λ (left : List Atom). IsBoundOfAtoms s left (record { unfinished = 0; finished = 1 }))
      (sym (drop_all from atoms past)) (record {
        shapes = list_bound-nil s s.height [];
        none = λ zero_is objects ds list. absurd (omega (arith, zero_is));
      })

  -- one more atom, from the last to the first
  pub bound-next : (atoms : List Atom) (from later : ℕ) (atom : Atom) (rest both : Bound) → from < length atoms → later ≡ from + 1
      → atom ≡ get_or atoms from atom
      → (IsBoundOfAtoms s (drop later atoms) rest → IsBoundOfAtoms s (atom ∷ drop later atoms) both)
      → IsBoundOfAtoms s (drop later atoms) rest → IsBoundOfAtoms s (drop from atoms) both
  bound-next atoms from later atom rest both within next here grows known =
      let split : atom ∷ drop later atoms ≡ drop from atoms =
      (λ i. here i ∷ drop (next i) atoms) ∙ sym (drop_more atoms from atom within) in
      subst (λ (left : List Atom). IsBoundOfAtoms s left both) split (grows known)

  -- where the bound is below the limit, fewer shapes exist
  pub bound-few : (formula : List Atom) (bound : Bound) → All IsGround formula → IsBoundOfAtoms s formula bound → bound.unfinished < s.limit
      → AreFewGapShapes s formula 0
  bound-few formula bound all known below = record {
    seen = known.shapes.unfinished.seen;
    fewer = omega (arith, known.shapes.unfinished.few, below);
    all = λ shape partial.
        let (objects, ds, list, is) = partial.1 in
        known.shapes.unfinished.all shape (
          partial.0,
          (
            ds,
            subst (λ (lits : List Lit). ProvesEach (or_open (loose_gaps_in s)) s.axioms [] lits ds) (literals-are formula all)
                (list-nil s (or_open (loose_gaps_in s)) formula objects ds list),
            list.low,
            is,
          ),
        );
  }
