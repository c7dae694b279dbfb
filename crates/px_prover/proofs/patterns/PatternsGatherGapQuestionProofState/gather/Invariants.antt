use Rattle.std.proofs.Common.{◌≡◌, true}
use Rattle.px_prover.specs.GapAsking.{gap_setting}
use Rattle.px_prover.specs.Passed.{AreSmall}
use Rattle.px_prover.specs.Patterns.{kept_count}
use Rattle.px_prover.specs.Standing.{ticks_in, IsStanding}
use Rattle.px_prover.proofs.Passing.{left_after}
use Rattle.px_prover.proofs.PatternPassing.{HasPatterns}
use Rattle.px_prover.proofs.patterns.PatternsGatherGapQuestionProofState.gather.Given as goal

abbrev pub invariant-loop-self : goal.invariant-loop-self
invariant-loop-self l = record {
  stands : IsStanding true (gap_setting l.question) l.question.formula.now l.question.variable_count l.walk;
  there : ticks_in l.walk.choices ≡ ticks_in l.fn.walk.choices;
  small : AreSmall l.last;
  gathered : HasPatterns (kept_count l.question) (gap_setting l.question) l.question.formula.now l.question.variable_count
      (ticks_in l.fn.walk.choices) l.fn.self.found.items l.last l.self.found.items;
}

abbrev pub decreases-loop-self : goal.decreases-loop-self
decreases-loop-self l = left_after l.last
