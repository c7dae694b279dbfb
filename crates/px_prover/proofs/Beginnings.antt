-- How a walk over the unfinished lists of a question of gaps begins, and what it says where it may end before the limit.
use Rattle.std.proofs.Common.{◌≡◌, ◌≤◌, ◌<◌, ℕ, true, Option, Some, None, List, [], ◌∷◌, length, map, arith}
use Rattle.std.specs.Prelude.{Result, Ok, Err, IfOk, IfSome}
use Rattle.px_proof.specs.declared.shape.Tick.{Tick}
use Rattle.px_prover.proofs.GapDeciding.{decided-gap_limit}
use Rattle.px_prover.proofs.Moves.{opening-sound, opening-standing, sound-possible}
use Rattle.px_prover.specs.Standing.{IsProperQuestion, IsStanding}
use Rattle.px_question.specs.Limits.{IsGapLimited}
use Rattle.px_question.specs.Settings.{Setting}
use Rattle.px_proof_state.specs.States.{ProofStateValue, IsOpening}
use Rattle.px_proof_walk.specs.Pending.{goals_of}
use Rattle.px_proof_walk.specs.Possible.{IsGoingOn, shape_of}
use Rattle.px_proof_walk.specs.Search.{AreAll, LimitComes}
use Rattle.px_terms.specs.declared.atom.Atom.{Atom}

module _ (s : Setting) (formula : List Atom) (variable_count : ℕ) (asked : IsProperQuestion s formula variable_count) where
  some-goal : (atoms : List Atom) → 0 < length atoms → 0 < length (goals_of s atoms)
  some-goal [] some = absurd (omega (arith, some))
  some-goal (a ∷ atoms) some = omega arith

  pub begins-standing : (v : ProofStateValue) → IsOpening formula variable_count s.height v → IsStanding true s formula variable_count v
  begins-standing v opening = opening-standing true s formula variable_count v asked opening

  pub begins-possible : (v : ProofStateValue) → IsOpening formula variable_count s.height v → 0 < length formula → IsGoingOn true s formula variable_count []
  begins-possible v opening some =
      (sound-possible true s formula variable_count [] v asked (opening-sound true s formula variable_count v opening), some-goal formula some)

  -- fewer than a number are fewer than a greater one
  pub all-within : (limit : ℕ) (seen : List (List Tick)) → limit ≤ s.limit → AreAll (IsGoingOn true s formula variable_count) limit seen
      → AreAll (IsGoingOn true s formula variable_count) s.limit seen
  all-within limit seen within all = record {
    few = omega (arith, all.few, within);
    ascending = all.ascending;
    possible = all.possible;
    covers = all.covers;
  }

  -- a walk that ends at the limit has the first shapes
  pub limit-told : {X E : Type 0} (r : Result (Option X) E) (items : X → List (List Tick))
      → IfOk r (λ met. IfSome met (λ (x : X). (seen : List (List Tick)) × (items x ≡ map (shape_of true s formula variable_count) seen)
      × LimitComes (IsGoingOn true s formula variable_count) (λ ticks. ⊥) s.limit seen))
      → IfOk r (λ met. IfSome met (λ (x : X). IsGapLimited s formula variable_count (items x)))
  limit-told (Ok (Some x)) items h = decided-gap_limit s formula variable_count asked (items x) h.0 h.1 h.2
  limit-told (Ok None) items h = h
  limit-told (Err e) items h = h
