-- Which ticks come after the last one that was tried.
use Rattle.std.proofs.Common.{ℕ, ◌+◌, Bool, false, Some, List, [], ◌∷◌, ◌++◌, refl, arith, inl, inr}
use Rattle.std.specs.List.{AllByRecursion}
use Rattle.px_prover.specs.Tries.{TriesAmong}
use Rattle.px_proof.specs.Shapes.{TickBefore}
use Rattle.px_proof.specs.declared.shape.Tick.{Tick}
use Rattle.px_proof.specs.declared.shape.Tick.TheVariants.{Fact, Anc, Step, Gap, Open}
use Rattle.px_question.specs.Settings.{Setting}
use Rattle.px_proof_state.specs.States.{ProofStateValue}
use Rattle.px_terms.specs.declared.atom.Atom.{Atom}
use Rattle.px_proof_walk.specs.Order.{IsAfter}
use Rattle.px_proof_walk.specs.Possible.{IsClosing}

last-closing : (ticks : List Tick) (u : Tick) → AllByRecursion IsClosing (ticks ++ u ∷ []) → IsClosing u
last-closing [] u all = all.0
last-closing (t ∷ ticks) u all = last-closing ticks u all.1

-- nothing comes after a gap
none-after : (u : Tick) → IsClosing u → ¬ TickBefore Gap u
none-after Open closing after = closing
none-after (Fact j) closing (inl h) = omega (arith, h)
none-after (Fact j) closing (inr (inl h)) = omega (arith, h.0)
none-after (Fact j) closing (inr (inr h)) = omega (arith, h.0)
none-after (Anc j) closing (inl h) = omega (arith, h)
none-after (Anc j) closing (inr (inl h)) = omega (arith, h.0)
none-after (Anc j) closing (inr (inr h)) = omega (arith, h.0)
none-after (Step c p) closing (inl h) = omega (arith, h)
none-after (Step c p) closing (inr (inl h)) = omega (arith, h.0)
none-after (Step c p) closing (inr (inr h)) = omega (arith, h.0)
none-after Gap closing (inl h) = omega (arith, h)
none-after Gap closing (inr (inl h)) = omega (arith, h.1)
none-after Gap closing (inr (inr h)) = omega (arith, h.2)

pub later-none : (loose : Bool) (s : Setting) (formula : List Atom) (variable_count : ℕ) (ticks : List Tick) (old : ProofStateValue)
    → TriesAmong (IsAfter (Some Gap)) loose s formula variable_count ticks old old false
later-none loose s formula variable_count ticks old = record {
  least = λ is_found. absurd (cc);
  no_more = λ is_not. (refl, λ u after leads. none-after u (last-closing ticks u leads.0) after);
}
