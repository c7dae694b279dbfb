use Rattle.std.proofs.Common.{List, subst, inl, inr, arith}
use Rattle.std.proofs.lemmas.List.{take_all}
use Rattle.px_diff.specs.Firsts.{IsNotAfter}
use Rattle.px_entries.specs.Instances.{IsCovered, StandsFor}
use Rattle.px_entries.specs.declared.partial.PartialInstance.{PartialInstance}
use Rattle.px_diff.proofs.FirstOrder.{at_most-both, at_most-itself}
use Rattle.px_gaps.proofs.Grows.{one_next, one_none}
use Rattle.px_diff.proofs.first_instances.least_of_all.Goals as goal

pub loop-partial-init : goal.loop-partial-init
loop-partial-init c = (
  at_most-itself c.args.inst,
  λ full covered. absurd
      (one_none (λ (partial : PartialInstance). StandsFor c.args.problem.now partial full) covered),
)

pub loop-partial-preserved : goal.loop-partial-preserved
loop-partial-preserved c =
    let least = c.loop-partial.least in (
      at_most-both c.lesser-least.result least c.args.inst c.lesser-least.ensures.first c.loop-partial.invariant.0,
      λ full covered. elim ((one_next (λ (partial : PartialInstance). StandsFor c.args.problem.now partial full) c.args.partials.now
          c.loop-partial.partial-index c.partial-item.result c.loop-partial-test.true c.partial-item.is).0 covered) [
            | inl before ↦ at_most-both c.lesser-least.result least full c.lesser-least.ensures.first
                (c.loop-partial.invariant.1 full before)
            | inr stands ↦ at_most-both c.lesser-least.result c.least_of.result full c.lesser-least.ensures.second
                (c.least_of.ensures full stands)
          ],
    )

pub returns-clause-inst : goal.returns-clause-inst
returns-clause-inst c = c.loop-partial.invariant.0

pub returns-clause-partials : goal.returns-clause-partials
returns-clause-partials c = λ full.
    subst (λ (l : List PartialInstance). IsCovered c.args.problem.now l full → IsNotAfter c.loop-partial.least full)
    (take_all c.loop-partial.partial-index c.args.partials.now (omega (arith, c.loop-partial-test.false)))
    (c.loop-partial.invariant.1 full)
