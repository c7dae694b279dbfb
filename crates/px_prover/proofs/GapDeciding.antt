-- What the end of a walk over lists that go on says of the unfinished ones.
use Rattle.std.proofs.Common.{◌≡◌, ◌∙◌, ◌<◌, ℕ, Bool, true, false, List, [], ◌∷◌, length, map, refl, sym, subst, arith}
use borrow.Author.Tests.{eqb-true}
use Rattle.std.specs.Prelude.{◌==◌}
use Rattle.px_proof.specs.Derivation.{Derivations, none, also}
use Rattle.px_proof.specs.Proves.{ProvesEach, or_open}
use Rattle.px_proof.specs.Shapes.{IsUnfinished, ticks_of}
use Rattle.px_proof.specs.declared.shape.Tick.{Tick}
use Rattle.px_prover.specs.Standing.{IsProperQuestion}
use Rattle.px_question.specs.Answers.{IsList}
use Rattle.px_question.specs.Limits.{AreFewGapShapes, IsGapLimited}
use Rattle.px_question.specs.Settings.{Setting, loose_gaps_in}
use Rattle.px_terms.specs.declared.atom.Atom.{Atom}
use Rattle.px_proof_walk.specs.Possible.{IsGoingOn, shape_of}
use Rattle.px_proof_walk.specs.Search.{AreAll, LimitComes}
use Rattle.px_proof_walk.proofs.GapOutcomes.{gap-all-few, gap-limit-is}

pub empty-test : {X : Type 0} (xs : List X) (b : Bool) → b ≡ (length xs == 0) → b ≡ true → length xs ≡ 0
empty-test [] b is says = refl
empty-test (x ∷ xs) b is says = absurd (omega (arith, eqb-true (length (x ∷ xs)) 0 (sym is ∙ says)))

pub filled-test : {X : Type 0} (xs : List X) (b : Bool) → b ≡ (length xs == 0) → b ≡ false → 0 < length xs
filled-test [] b is says = let both : false ≡ true = sym says ∙ is in absurd (cc)
filled-test (x ∷ xs) b is says = omega arith

module _ (s : Setting) (formula : List Atom) (variable_count : ℕ) (asked : IsProperQuestion s formula variable_count) where
  pub decided-few_gaps : (seen : List (List Tick)) → AreAll (IsGoingOn true s formula variable_count) s.limit seen → AreFewGapShapes s formula variable_count
  decided-few_gaps seen all = gap-all-few s asked.setting formula variable_count asked.scope seen all

  pub decided-gap_limit : (shapes seen : List (List Tick)) → shapes ≡ map (shape_of true s formula variable_count) seen
      → LimitComes (IsGoingOn true s formula variable_count) (λ ticks. ⊥) s.limit seen → IsGapLimited s formula variable_count shapes
  decided-gap_limit shapes seen are limit = rw are (gap-limit-is s asked.setting formula variable_count asked.scope seen limit)

  -- without atoms no list is unfinished
  pub decided-without_few : length formula ≡ 0 → 0 < s.limit → AreFewGapShapes s formula variable_count
  decided-without_few empty some =
      record {
        seen = [];
        fewer = some;
        all = λ shape partial. absurd (go formula empty shape partial.1.0 partial.1.1 partial.1.2 partial.1.3 partial.0);
      }
    where
      shapeless : (shape : List Tick) (ds : Derivations) → ProvesEach (or_open (loose_gaps_in s)) s.axioms [] [] ds → ticks_of ds ≡ shape
          → ¬ IsUnfinished shape
      shapeless shape none each is unfinished = subst IsUnfinished (sym is) unfinished
      shapeless shape (also d ds) each is unfinished = each

      go : (formula : List Atom) → length formula ≡ 0 → (shape : List Tick) (objects : List ℕ) (ds : Derivations)
          → IsList (or_open (loose_gaps_in s)) s formula variable_count objects ds → ticks_of ds ≡ shape → ¬ IsUnfinished shape
      go [] empty shape objects ds list is unfinished = shapeless shape ds list.proved is unfinished
      go (a ∷ atoms) empty shape objects ds list is unfinished = absurd (omega (arith, empty))
