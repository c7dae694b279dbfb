use Rattle.std.specs.Prelude.{◌+◌}
use Rattle.std.proofs.Common.{length, ap, ◌∙◌, arith}
use Rattle.std.proofs.lemmas.List.{take_all}
use Rattle.px_rooms.specs.States.{atoms_from}
use Rattle.px_rooms.proofs.Sensing.{count-next}
use Rattle.px_rooms.proofs.fact_counts.count_things.Goals as goal

pub loop-standing-preserved : goal.loop-standing-preserved
loop-standing-preserved c = record {
  count =
      count-next c.args.things.now c.loop-standing.standing-index _ c.loop-standing.count c.count_thing-count.result
      c.loop-standing-test.true c.loop-standing.invariant.count (c.count_thing-count.ensures.count (c.loop-standing.standing-index + 1));
  few = omega (arith, c.loop-standing.invariant.few, c.count_thing-count.ensures.few);
}

pub returns-clause-count : goal.returns-clause-count
returns-clause-count c =
    c.loop-standing.invariant.count
    ∙ ap (λ xs. length (atoms_from 1 xs))
    (take_all c.loop-standing.standing-index c.args.things.now (omega (arith, c.loop-standing-test.false)))
