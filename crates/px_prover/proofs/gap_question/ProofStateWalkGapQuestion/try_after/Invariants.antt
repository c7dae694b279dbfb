use Rattle.std.proofs.Common.{◌≡◌, true}
use Rattle.px_prover.specs.GapAsking.{gap_setting}
use Rattle.px_prover.specs.Passed.{AreSmall}
use Rattle.px_prover.specs.Standing.{ticks_in, IsStanding}
use Rattle.px_prover.proofs.Passing.{HasPassed, left_after}
use Rattle.px_prover.proofs.gap_question.ProofStateWalkGapQuestion.try_after.Given as goal

abbrev pub invariant-loop-self : goal.invariant-loop-self
invariant-loop-self l = record {
  stands : IsStanding true (gap_setting l.question) l.question.formula.now l.question.variable_count l.self;
  there : ticks_in l.self.choices ≡ ticks_in l.fn.self.choices;
  small : AreSmall l.after;
  passed : HasPassed (gap_setting l.question) l.question.formula.now l.question.variable_count (ticks_in l.fn.self.choices) l.fn.last l.after;
}

abbrev pub decreases-loop-self : goal.decreases-loop-self
decreases-loop-self l = left_after l.after
