use Rattle.std.proofs.Common.{arith}
use Rattle.px_prover.specs.Asking.{setting_in, IsPossibleIn}
use Rattle.px_prover.specs.Standing.{ticks_in, IsStanding}
use Rattle.px_prover.specs.Tries.{TriesLater}
use Rattle.px_prover.proofs.Moves.{standing-sound, standing-ready, finished-tried, later-tried, later-standing}
use Rattle.px_proof_state.proofs.Trying.{if_ok}
use Rattle.px_proof_walk.specs.Order.{TriesAfter}
use Rattle.px_prover.proofs.walking.ProofStateWalkProofQuestion.try_after.Goals as goal

pub returns-then-place-eq0-clause-tried : goal.returns-then-place-eq0-clause-tried
returns-then-place-eq0-clause-tried c =
    finished-tried c.args.question.now.loose (setting_in c.args.question.now) c.args.question.now.formula.now c.args.question.now.variable_count
    c.args.self.now c.args.last c.requires.stands (omega (arith, c.if-place-eq0.true, c.first-place.ensures))

pub goal_at-goal-requires-clause-within : goal.goal_at-goal-requires-clause-within
goal_at-goal-requires-clause-within c =
    omega (
      arith,
      c.first-place.ensures,
      (standing-sound c.args.question.now.loose (setting_in c.args.question.now) c.args.question.now.formula.now c.args.question.now.variable_count
          c.args.self.now c.requires.stands).within,
    )

pub try_later-requires : goal.try_later-requires
try_later-requires c =
    standing-ready c.args.question.now.loose (setting_in c.args.question.now) c.args.question.now.formula.now c.args.question.now.variable_count
    c.args.self.now c.goal_at-goal.result c.requires.stands (omega (arith, c.if-place-eq0.false, c.first-place.ensures))
    (rw c.first-place.ensures at c.goal_at-goal.ensures) c.requires.room

pub returns-clause-tried : goal.returns-clause-tried
returns-clause-tried c =
    if_ok c.try_later.result
    (λ found. TriesLater c.args.question.now c.args.last c.args.self.now c.try_later.new.state found)
    (λ found. TriesAfter (IsPossibleIn c.args.question.now) (ticks_in c.args.self.now.choices)
    (ticks_in c.try_later.new.state.choices) c.args.last found)
    (λ found tried. later-tried c.args.question.now.loose
    (setting_in c.args.question.now) c.args.question.now.formula.now c.args.question.now.variable_count c.args.last c.args.self.now
    c.try_later.new.state found c.requires.stands tried)
    c.try_later.ensures

pub returns-clause-still : goal.returns-clause-still
returns-clause-still c =
    if_ok c.try_later.result
    (λ found. TriesLater c.args.question.now c.args.last c.args.self.now c.try_later.new.state found)
    (λ found. IsStanding c.args.question.now.loose (setting_in c.args.question.now) c.args.question.now.formula.now c.args.question.now.variable_count
    c.try_later.new.state)
    (λ found tried. later-standing c.args.question.now.loose
    (setting_in c.args.question.now) c.args.question.now.formula.now c.args.question.now.variable_count c.args.last c.args.self.now
    c.try_later.new.state found c.requires.stands tried)
    c.try_later.ensures
