use Rattle.std.proofs.Common.{◌+◌, ◌∙◌, arith, refl, sym}
use Rattle.std.proofs.lemmas.Option.{slice_get_read}
use Rattle.px_proof_state.proofs.BeginningLemmas.{none-past}
use Rattle.px_proof_state.proofs.FactPlaces.{never-after, never-between}
use Rattle.px_proof_state.proofs.Trying.{fact-comes, fact-never, range-none}
use Rattle.px_proof_state.specs.Ranges.{ComesFact, NeverFact}
use Rattle.px_proof_state.proofs.facts.try_facts.Goals as goal

pub loop-number-init : goal.loop-number-init
loop-number-init c = record {
  same = refl;
  never =
      never-between c.args.objects c.args.facts.now c.args.state.now c.args.goal.now c.followed-ends.result
      (rw c.bind.ensures at c.followed-ends.ensures) c.args.from c.first_place-number.result c.first_place-number.ensures.before;
}

pub returns-in-Ok-true : goal.returns-in-Ok-true
returns-in-Ok-true c =
    fact-comes c.args.objects c.args.facts.now c.args.goal.now c.args.from c.loop-number.number c.index-facts-number.result c.args.state.now
    c.loop-number.state c.try_fact.new.state c.in-Ok-true.field-0
    c.loop-number-test.true c.loop-number.invariant.same
    (rw c.index-facts-number.is at c.in-Ok-true.ensures) c.in-Ok-true.field-0-test
    (omega (arith, c.loop-number.auto.number, c.first_place-number.ensures.later)) c.loop-number.invariant.never

pub loop-number-preserved : goal.loop-number-preserved
loop-number-preserved c =
    let both =
    fact-never c.args.objects c.args.facts.now c.args.goal.now c.args.from c.loop-number.number c.index-facts-number.result
    c.args.state.now c.loop-number.state c.try_fact.new.state c.in-Ok-false.field-0
    c.loop-number-test.true c.loop-number.invariant.same
    (rw c.index-facts-number.is at c.in-Ok-false.ensures) c.in-Ok-false.field-0-test
    (c.loop-number.number + 1) (omega arith) c.loop-number.invariant.never in
    record { same = both.0; never = both.1 }

pub returns : goal.returns
returns c =
    range-none (NeverFact c.args.objects c.args.facts.now c.args.state.now c.args.goal.now)
    (ComesFact c.args.objects c.args.facts.now c.args.state.now c.args.goal.now) c.args.from _ c.loop-number.number
    c.args.state.now c.loop-number.state c.loop-number.invariant.same c.loop-number.invariant.never
    (omega (arith, c.loop-number-test.false))

pub returns-then-is_gt : goal.returns-then-is_gt
returns-then-is_gt c =
    never-after c.args.objects c.args.facts.now c.args.state.now c.args.goal.now c.followed-ends.result
    (rw c.bind.ensures at c.followed-ends.ensures) c.args.from c.loop-number.number c.loop-number.state
    c.loop-number.invariant.same
    (none-past c.args.facts.now c.leading_objects-count.result c.followed-ends.result
    (rw c.args-2.ensures.value at c.leading_objects-count.ensures.objects) c.requires.ascending c.loop-number.number
    c.index-facts-number.result
    (slice_get_read c.args.facts.now _ c.loop-number.number c.index-facts-number.result refl c.loop-number-test.true
    c.index-facts-number.is)
    (rw c.compare_beginnings.ensures at (sym c.is_gt.ensures ∙ c.if-is_gt.true)) _)
    c.loop-number.invariant.never

pub try_fact-requires-clause-ends_are : goal.try_fact-requires-clause-ends_are
try_fact-requires-clause-ends_are c = rw c.loop-number.invariant.same (rw c.bind.ensures at c.followed-ends.ensures)
