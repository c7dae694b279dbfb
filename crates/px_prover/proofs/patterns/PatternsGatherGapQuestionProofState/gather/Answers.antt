use Rattle.std.proofs.Common.{Bool, true, false, List, [], ◌∷◌, ◌++◌, refl, subst, sym}
use Rattle.px_base.specs.Bounds.{u32_max}
use Rattle.px_proof.specs.declared.shape.Tick.{Tick}
use Rattle.px_prover.specs.Asking.{setting_in, IsPossibleIn}
use Rattle.px_prover.specs.GapAsking.{gap_setting}
use Rattle.px_prover.specs.Patterns.{GivesFirst, kept_count}
use Rattle.px_prover.specs.Standing.{ticks_in, IsStanding}
use Rattle.px_prover.specs.declared.question.ProofQuestion.{ProofQuestion}
use Rattle.px_prover.proofs.Moves.{standing-sound}
use Rattle.px_prover.proofs.OtherPlaces.{nothing-more}
use Rattle.px_prover.proofs.Gathered.{early-plain, plain-described}
use Rattle.px_prover.proofs.Keeping.{few-kept}
use Rattle.px_prover.proofs.Passing.{left-falls, next-tick}
use Rattle.px_prover.proofs.PatternOrder.{pruned-same}
use Rattle.px_prover.proofs.PatternPassing.{passed-later, patterns-end, patterns-more, patterns-next, patterns-passed, patterns-start}
use Rattle.px_proof_walk.specs.Order.{TriesAfter}
use Rattle.px_proof_walk.specs.Possible.{IsPossible}
use Rattle.px_prover.proofs.patterns.PatternsGatherGapQuestionProofState.gather.Goals as goal

pub loop-self-preserved : goal.loop-self-preserved
loop-self-preserved c =
    let s = gap_setting c.args.question.now in
    let formula = c.args.question.now.formula.now in
    let variable_count = c.args.question.now.variable_count in
    let here = ticks_in c.args.walk.now.choices in
    let now = c.try_after.new.self in
    let was = ticks_in c.loop-self.walk.choices in
    let tried : TriesAfter (IsPossible true s formula variable_count) was (ticks_in now.choices) c.loop-self.last true =
    subst (λ (b : Bool). TriesAfter (IsPossible true s formula variable_count) was (ticks_in now.choices) c.loop-self.last b) c.if-branch.true
    (subst (λ (q : ProofQuestion). TriesAfter (IsPossibleIn q) was (ticks_in now.choices) c.loop-self.last c.in_ok-try_after.field-0)
    c.loose-loose.ensures c.in_ok-try_after.ensures.tried) in
    let h = tried.least refl in
    let next =
    next-tick here was (ticks_in now.choices) (ticks_in c.retract.new.self.choices) c.loop-self.last h.0 c.in-Some.tick
    c.loop-self.invariant.there h.1 h.2 c.in-Some.ensures.last in
    let kept = kept_count c.args.question.now in
    let stands : IsStanding true s formula variable_count c.retract.new.self =
    subst (λ (q : ProofQuestion). IsStanding q.loose (setting_in q) q.formula.now q.variable_count c.retract.new.self) c.loose-loose.ensures
    c.in-Some.ensures.still in
    record {
      stands = stands;
      there = next.0;
      small = c.in_ok-next_after-in-Some.ensures.small;
      gathered =
          let has =
          patterns-next kept s formula variable_count here c.args.self.now.found.items c.loop-self.self.found.items c.loop-self.last
          c.loop-self.invariant.gathered was c.loop-self.invariant.there (ticks_in now.choices) tried c.gather_here.new.found.items
          c.in_ok-gather_here.ensures (ticks_in c.retract.new.self.choices) c.in-Some.tick c.in-Some.ensures.last in
          patterns-passed kept s formula variable_count here c.args.self.now.found.items c.gather_here.new.found.items _ c.in-Some.tick
          c.in_ok-next_after-in-Some.field-0 c.args.question.now c.retract.new.self has.2 c.in_ok-next_after-in-Some.ensures.passed c.deref.ensures.value
          (λ general of u upto objects gaps gives.
          plain-described s formula variable_count c.retract.new.self stands kept (few-kept c.args.question.now.with_terms variable_count) general of u
          (early-plain s u32_max u upto) objects gaps
          (subst (λ (ts : List Tick). GivesFirst kept s formula variable_count (ts ++ u ∷ []) objects gaps) (sym next.0) gives));
    }

pub next_after-requires : goal.next_after-requires
next_after-requires c =
    subst (λ (q : ProofQuestion). IsStanding q.loose (setting_in q) q.formula.now q.variable_count c.retract.new.self) c.loose-loose.ensures
    c.in-Some.ensures.still

pub loop-self-smaller : goal.loop-self-smaller
loop-self-smaller c =
    let s = gap_setting c.args.question.now in
    let formula = c.args.question.now.formula.now in
    let variable_count = c.args.question.now.variable_count in
    let here = ticks_in c.args.walk.now.choices in
    let now = c.try_after.new.self in
    let was = ticks_in c.loop-self.walk.choices in
    let tried : TriesAfter (IsPossible true s formula variable_count) was (ticks_in now.choices) c.loop-self.last true =
    subst (λ (b : Bool). TriesAfter (IsPossible true s formula variable_count) was (ticks_in now.choices) c.loop-self.last b) c.if-branch.true
    (subst (λ (q : ProofQuestion). TriesAfter (IsPossibleIn q) was (ticks_in now.choices) c.loop-self.last c.in_ok-try_after.field-0)
    c.loose-loose.ensures c.in_ok-try_after.ensures.tried) in
    let h = tried.least refl in
    let next =
    next-tick here was (ticks_in now.choices) (ticks_in c.retract.new.self.choices) c.loop-self.last h.0 c.in-Some.tick
    c.loop-self.invariant.there h.1 h.2 c.in-Some.ensures.last in
    left-falls c.loop-self.last c.in_ok-next_after-in-Some.field-0 c.loop-self.invariant.small c.in_ok-next_after-in-Some.ensures.small
    (passed-later c.loop-self.last c.args.question.now c.retract.new.self _ c.in-Some.tick c.in_ok-next_after-in-Some.field-0 next.2
    c.in_ok-next_after-in-Some.ensures.passed)

pub returns-clause-more : goal.returns-clause-more
returns-clause-more c =
    let s = gap_setting c.args.question.now in
    let formula = c.args.question.now.formula.now in
    let variable_count = c.args.question.now.variable_count in
    let here = ticks_in c.args.walk.now.choices in
    let now = c.try_after.new.self in
    let was = ticks_in c.loop-self.walk.choices in
    let tried : TriesAfter (IsPossible true s formula variable_count) was (ticks_in now.choices) c.loop-self.last false =
    subst (λ (b : Bool). TriesAfter (IsPossible true s formula variable_count) was (ticks_in now.choices) c.loop-self.last b) c.if-branch.false
    (subst (λ (q : ProofQuestion). TriesAfter (IsPossibleIn q) was (ticks_in now.choices) c.loop-self.last c.in_ok-try_after.field-0)
    c.loose-loose.ensures c.in_ok-try_after.ensures.tried) in
    let kept = kept_count c.args.question.now in
    λ seen before.
    pruned-same c.loop-self.self.found.items c.prune-self.new.patterns.items c.prune-self.ensures kept s formula variable_count (seen ++ here ∷ [])
    (patterns-more kept s formula variable_count seen here c.args.self.now.found.items c.loop-self.self.found.items before
    (patterns-end kept s formula variable_count here c.args.self.now.found.items c.loop-self.self.found.items c.loop-self.last
    c.loop-self.invariant.gathered was c.loop-self.invariant.there (ticks_in now.choices) tried))

pub are_two_open-requires-clause-arena : goal.are_two_open-requires-clause-arena
are_two_open-requires-clause-arena c =
    (standing-sound true (gap_setting c.args.question.now) c.args.question.now.formula.now c.args.question.now.variable_count c.args.walk.now
    c.requires.stands).arena

pub are_two_open-requires-clause-within : goal.are_two_open-requires-clause-within
are_two_open-requires-clause-within c =
    (standing-sound true (gap_setting c.args.question.now) c.args.question.now.formula.now c.args.question.now.variable_count c.args.walk.now
    c.requires.stands).within

pub returns-then-are_two_open-clause-more : goal.returns-then-are_two_open-clause-more
returns-then-are_two_open-clause-more c = λ seen before.
    nothing-more (kept_count c.args.question.now) (gap_setting c.args.question.now) c.args.question.now.formula.now c.args.question.now.variable_count
    c.args.walk.now c.requires.stands c.if-are_two_open.ensures seen c.args.self.now.found.items before

pub loop-self-init : goal.loop-self-init
loop-self-init c = record {
  stands = c.requires.stands;
  there = refl;
  small = tt;
  gathered =
      patterns-start (kept_count c.args.question.now) (gap_setting c.args.question.now) c.args.question.now.formula.now
      c.args.question.now.variable_count (ticks_in c.args.walk.now.choices) c.args.self.now.found.items;
}
