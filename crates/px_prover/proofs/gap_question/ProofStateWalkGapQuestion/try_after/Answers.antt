use Rattle.std.proofs.Common.{◌≡◌, Bool, true, Some, subst, sym, arith}
use Rattle.px_proof.specs.declared.shape.Tick.{Tick}
use Rattle.px_prover.specs.Asking.{setting_in, IsPossibleIn}
use Rattle.px_prover.specs.GapAsking.{gap_setting}
use Rattle.px_prover.specs.Standing.{ticks_in, IsStanding}
use Rattle.px_prover.specs.declared.question.ProofQuestion.{ProofQuestion}
use Rattle.px_prover.proofs.Moves.{finished-is}
use Rattle.px_prover.proofs.Passing.{HasPassed, left-falls, passed-found, passed-next}
use Rattle.px_proof_walk.specs.Order.{IsAfter, TriesAfter}
use Rattle.px_proof_walk.specs.Possible.{IsPossible}
use Rattle.px_prover.proofs.gap_question.ProofStateWalkGapQuestion.try_after.Goals as goal

pub returns-then-first-gt0-clause-tried : goal.returns-then-first-gt0-clause-tried
returns-then-first-gt0-clause-tried c =
    let s = gap_setting c.args.question.now in
    let formula = c.args.question.now.formula.now in
    let variable_count = c.args.question.now.variable_count in
    let now = c.try_after.new.self in
    let was = ticks_in c.loop-self.self.choices in
    let tried : TriesAfter (IsPossible true s formula variable_count) was (ticks_in now.choices) c.loop-self.after true =
    subst (λ (b : Bool). TriesAfter (IsPossible true s formula variable_count) was (ticks_in now.choices) c.loop-self.after b) c.if-branch.true
    (subst (λ (q : ProofQuestion). TriesAfter (IsPossibleIn q) was (ticks_in now.choices) c.loop-self.after c.in_ok-try_after.field-0)
    c.loose-loose.ensures c.in_ok-try_after.ensures.tried) in
    let stands : IsStanding true s formula variable_count now =
    subst (λ (q : ProofQuestion). IsStanding q.loose (setting_in q) q.formula.now q.variable_count now) c.loose-loose.ensures
    c.in_ok-try_after.ensures.still in
    passed-found s formula variable_count (ticks_in c.args.self.now.choices) c.args.last c.loop-self.after c.loop-self.invariant.passed was
    (ticks_in now.choices) c.loop-self.invariant.there tried
    (λ finished. let none : now.first ≡ 0 = (finished-is true s formula variable_count now stands).1 finished in
    omega (arith, none, c.if-first-gt0.true, c.first.ensures))

pub loop-self-preserved : goal.loop-self-preserved
loop-self-preserved c =
    let s = gap_setting c.args.question.now in
    let formula = c.args.question.now.formula.now in
    let variable_count = c.args.question.now.variable_count in
    let here = ticks_in c.args.self.now.choices in
    let now = c.try_after.new.self in
    let was = ticks_in c.loop-self.self.choices in
    let tried : TriesAfter (IsPossible true s formula variable_count) was (ticks_in now.choices) c.loop-self.after true =
    subst (λ (b : Bool). TriesAfter (IsPossible true s formula variable_count) was (ticks_in now.choices) c.loop-self.after b) c.if-branch.true
    (subst (λ (q : ProofQuestion). TriesAfter (IsPossibleIn q) was (ticks_in now.choices) c.loop-self.after c.in_ok-try_after.field-0)
    c.loose-loose.ensures c.in_ok-try_after.ensures.tried) in
    let stands : IsStanding true s formula variable_count now =
    subst (λ (q : ProofQuestion). IsStanding q.loose (setting_in q) q.formula.now q.variable_count now) c.loose-loose.ensures
    c.in_ok-try_after.ensures.still in
    let next =
    passed-next s formula variable_count here c.args.last c.loop-self.after c.loop-self.invariant.passed was
    (ticks_in now.choices) c.loop-self.invariant.there tried
    ((finished-is true s formula variable_count now stands).0 (omega (arith, c.if-first-gt0.false, c.first.ensures)))
    (ticks_in c.retract.new.self.choices) c.in-Some.tick c.in-Some.ensures.last in
    record {
      stands =
          subst (λ (q : ProofQuestion). IsStanding q.loose (setting_in q) q.formula.now q.variable_count c.retract.new.self) c.loose-loose.ensures
          c.in-Some.ensures.still;
      there = next.0;
      small = c.sized.ensures.small;
      passed = subst (λ (t : Tick). HasPassed s formula variable_count here c.args.last (Some t)) (sym c.sized.ensures.same) next.2;
    }

pub loop-self-smaller : goal.loop-self-smaller
loop-self-smaller c =
    let s = gap_setting c.args.question.now in
    let formula = c.args.question.now.formula.now in
    let variable_count = c.args.question.now.variable_count in
    let here = ticks_in c.args.self.now.choices in
    let now = c.try_after.new.self in
    let was = ticks_in c.loop-self.self.choices in
    let tried : TriesAfter (IsPossible true s formula variable_count) was (ticks_in now.choices) c.loop-self.after true =
    subst (λ (b : Bool). TriesAfter (IsPossible true s formula variable_count) was (ticks_in now.choices) c.loop-self.after b) c.if-branch.true
    (subst (λ (q : ProofQuestion). TriesAfter (IsPossibleIn q) was (ticks_in now.choices) c.loop-self.after c.in_ok-try_after.field-0)
    c.loose-loose.ensures c.in_ok-try_after.ensures.tried) in
    let stands : IsStanding true s formula variable_count now =
    subst (λ (q : ProofQuestion). IsStanding q.loose (setting_in q) q.formula.now q.variable_count now) c.loose-loose.ensures
    c.in_ok-try_after.ensures.still in
    let next =
    passed-next s formula variable_count here c.args.last c.loop-self.after c.loop-self.invariant.passed was
    (ticks_in now.choices) c.loop-self.invariant.there tried
    ((finished-is true s formula variable_count now stands).0 (omega (arith, c.if-first-gt0.false, c.first.ensures)))
    (ticks_in c.retract.new.self.choices) c.in-Some.tick c.in-Some.ensures.last in
    left-falls c.loop-self.after c.sized.result c.loop-self.invariant.small c.sized.ensures.small
    (subst (IsAfter c.loop-self.after) (sym c.sized.ensures.same) next.1)
