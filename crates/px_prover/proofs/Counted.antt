-- The shapes that a walk over all lists has counted.
use Rattle.std.proofs.Common.{◌≡◌, ◌∙◌, ◌⊎◌, ◌+◌, ◌<◌, ℕ, true, List, [], ◌∷◌, ◌++◌, length, map, refl, sym, subst, inl, inr, arith}
use Rattle.std.specs.Prelude.{Contains}
use Rattle.std.proofs.lemmas.List.{length-map}
use Rattle.std.proofs.lemmas.List.Elements.{Contains-append_cases}
use Rattle.px_base.specs.ListLaws.{Contains-first, Contains-later, Contains-none, Contains-one}
use Rattle.px_proof.specs.PlaceLaws.{Contains-mapped}
use Rattle.px_proof.specs.declared.shape.Tick.{Tick}
use Rattle.px_proof_walk.specs.Possible.{IsFinished, IsPossible, shape_of}
use Rattle.px_proof_walk.specs.Search.{AreAll}
use Rattle.px_proof_walk.proofs.Bridge.{finished-possible, partial-from}
use Rattle.px_prover.specs.Asking.{IsFinishedIn, IsPossibleIn, setting_in}
use Rattle.px_prover.specs.Counting.{CountsSeen, CountsShapes}
use Rattle.px_prover.specs.Standing.{IsProperQuestion}
use Rattle.px_prover.specs.declared.counting.ShapeCount.{ShapeCount}
use Rattle.px_prover.specs.declared.question.ProofQuestion.{ProofQuestion}
use Rattle.px_question.specs.Limits.{AreFewerThan}
use Rattle.px_question.specs.Settings.{Setting}
use Rattle.px_terms.specs.declared.atom.Atom.{Atom}

-- one more that is seen is of the kind
pub seen-more : (P : List Tick → Type 0) (seen : List (List Tick)) (ticks : List Tick) (count next : ℕ) → next ≡ count + 1
    → AreFewerThan (λ t. Contains seen t × P t) (count + 1) → AreFewerThan (λ t. Contains (seen ++ ticks ∷ []) t × P t) (next + 1)
seen-more P seen ticks count next is few = record {
  seen = ticks ∷ few.seen;
  fewer = omega (arith, is, few.fewer);
  all = λ t h. elim (Contains-append_cases seen (ticks ∷ []) t h.0) [
    | inl before ↦ Contains-later ticks few.seen t (few.all t (before, h.1))
    | inr here ↦ subst (Contains (ticks ∷ few.seen)) (Contains-one ticks t here) (Contains-first ticks few.seen)
  ];
}

-- one more that is seen isn't of the kind
pub seen-same : (P : List Tick → Type 0) (seen : List (List Tick)) (ticks : List Tick) (count : ℕ) → ¬ P ticks
    → AreFewerThan (λ t. Contains seen t × P t) (count + 1) → AreFewerThan (λ t. Contains (seen ++ ticks ∷ []) t × P t) (count + 1)
seen-same P seen ticks count other few = record {
  seen = few.seen;
  fewer = few.fewer;
  all = λ t h. elim (Contains-append_cases seen (ticks ∷ []) t h.0) [
    | inl before ↦ few.all t (before, h.1)
    | inr here ↦ absurd (other (subst P (sym (Contains-one ticks t here)) h.1))
  ];
}

module _ (s : Setting) (formula : List Atom) (variable_count : ℕ) (asked : IsProperQuestion s formula variable_count) where
  pub counted-shapes : (limit : ℕ) (seen : List (List Tick)) (count : ShapeCount) → AreAll (IsPossible true s formula variable_count) limit seen
      → AreFewerThan (λ t. Contains seen t × (¬ IsFinished true s formula variable_count t)) (count.unfinished + 1)
      → AreFewerThan (λ t. Contains seen t × IsFinished true s formula variable_count t) (count.finished + 1)
      → CountsShapes s formula variable_count count
  counted-shapes limit seen count all unfinished finished = record {
    unfinished = record {
      seen = map (shape_of true s formula variable_count) unfinished.seen;
      fewer = rw (length-map unfinished.seen (shape_of true s formula variable_count)) unfinished.fewer;
      all = λ shape partial.
          let from = partial-from true s asked.setting formula variable_count asked.scope shape partial in
          subst (Contains (map (shape_of true s formula variable_count) unfinished.seen)) (sym from.1)
          (Contains-mapped (shape_of true s formula variable_count) unfinished.seen from.0
          (unfinished.all from.0 (all.covers from.0 from.2, from.3)));
    };
    finished = record {
      seen = finished.seen;
      fewer = finished.fewer;
      all = λ shape (objects, ds, is, same).
          let possible = finished-possible true s asked.setting formula variable_count asked.scope objects ds is in
          subst (Contains finished.seen) same (finished.all _ (all.covers _ possible.0, possible.1));
    };
  }
