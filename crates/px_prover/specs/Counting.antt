-- How many shapes of lists of loose gap proofs there are.
use Rattle.std.specs.Prelude.{◌≡◌, ◌+◌, ℕ, List, Contains}
use Rattle.px_proof.specs.Derivation.{Derivations}
use Rattle.px_proof.specs.Shapes.{ticks_of}
use Rattle.px_proof.specs.declared.shape.Tick.{Tick}
use Rattle.px_prover.specs.Asking.{IsFinishedIn}
use Rattle.px_prover.specs.declared.counting.ShapeCount.{ShapeCount}
use Rattle.px_prover.specs.declared.question.ProofQuestion.{ProofQuestion}
use Rattle.px_question.specs.Answers.{IsList}
use Rattle.px_question.specs.Limits.{AreFewerThan, IsPartialShape}
use Rattle.px_question.specs.Settings.{Setting, loose_gaps_in}
use Rattle.px_terms.specs.declared.atom.Atom.{Atom}

-- the shape of a finished list of loose gap proofs
abbrev pub IsFinishedShape : Setting → List Atom → ℕ → List Tick → Type 0
IsFinishedShape s formula variable_count shape =
    (objects : List ℕ) × (ds : Derivations) × IsList (loose_gaps_in s) s formula variable_count objects ds × (ticks_of ds ≡ shape)

-- no more shapes of lists of loose gap proofs exist than these: unfinished ones, and finished ones
pub record CountsShapes (s : Setting) (formula : List Atom) (variable_count : ℕ) (count : ShapeCount) : Type 0 where
  pub unfinished : AreFewerThan (IsPartialShape (loose_gaps_in s) s formula variable_count) (count.unfinished + 1)
  pub finished : AreFewerThan (IsFinishedShape s formula variable_count) (count.finished + 1)

-- no more of the seen lists are unfinished, and no more are finished
pub record CountsSeen (q : ProofQuestion) (seen : List (List Tick)) (count : ShapeCount) : Type 0 where
  pub unfinished : AreFewerThan (λ ticks. Contains seen ticks × (¬ IsFinishedIn q ticks)) (count.unfinished + 1)
  pub finished : AreFewerThan (λ ticks. Contains seen ticks × IsFinishedIn q ticks) (count.finished + 1)
