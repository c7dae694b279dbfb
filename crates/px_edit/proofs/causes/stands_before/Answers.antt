use Rattle.std.proofs.Common.{refl, arith}
use Rattle.px_base.specs.Answers.{both_answers}
use Rattle.px_edit.proofs.EditSteps.{stands-nowhere, stands-there}
use Rattle.px_edit.proofs.causes.stands_before.Goals as goal

pub returns-then-same_pair : goal.returns-then-same_pair
returns-then-same_pair c = (
  λ _. stands-there c.args.wanted.now c.loop-earlier.earlier c.args.place c.loop-earlier-test.true c.requires
      (c.same_pair.ensures.0 c.if-same_pair.true),
  λ _. refl,
)

pub returns : goal.returns
returns c = (
  λ holds. both_answers _ refl holds,
  λ has. absurd (stands-nowhere c.args.wanted.now c.args.place c.requires
      (λ k before. c.loop-earlier.invariant k (omega (arith, before, c.loop-earlier-test.false))) has),
)
