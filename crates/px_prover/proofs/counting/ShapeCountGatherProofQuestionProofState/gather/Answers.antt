use Rattle.std.proofs.Common.{◌≡◌}
use Rattle.px_base.proofs.Loops.{said_no, said_yes}
use Rattle.px_prover.specs.Asking.{IsFinishedIn}
use Rattle.px_prover.specs.Standing.{ticks_in}
use Rattle.px_proof.specs.declared.shape.Tick.{Tick}
use Rattle.std.specs.Prelude.{List}
use Rattle.px_prover.proofs.Counted.{seen-more, seen-same}
use Rattle.px_prover.proofs.counting.ShapeCountGatherProofQuestionProofState.gather.Goals as goal

pub returns-then-is_finished-clause-more : goal.returns-then-is_finished-clause-more
returns-then-is_finished-clause-more c = λ seen counts.
    let q = c.args.question.now in
    let ticks = ticks_in c.args.walk.now.choices in
    let is = said_yes c.is_finished.result c.is_finished.ensures c.if-is_finished.true in record {
      unfinished = seen-same (λ t. ¬ IsFinishedIn q t) seen ticks c.args.self.now.unfinished (λ other. other is) counts.unfinished;
      finished =
          seen-more (λ t. IsFinishedIn q t) seen ticks c.args.self.now.finished c.in_ok-self.field-0 c.in_ok-self.ensures counts.finished;
    }

pub returns-clause-more : goal.returns-clause-more
returns-clause-more c = λ seen counts.
    let q = c.args.question.now in
    let ticks = ticks_in c.args.walk.now.choices in
    let other = said_no c.is_finished.result c.is_finished.ensures c.if-is_finished.false in record {
      unfinished =
          seen-more (λ t. ¬ IsFinishedIn q t) seen ticks c.args.self.now.unfinished c.in_ok-self-2.field-0 c.in_ok-self-2.ensures
          counts.unfinished;
      finished = seen-same (λ t. IsFinishedIn q t) seen ticks c.args.self.now.finished other counts.finished;
    }
