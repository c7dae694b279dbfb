use Rattle.std.proofs.Common.{rules, ◌≡◌, ◌+◌, length, arith}
use Rattle.px_prover.proofs.Making.{popped-some, popped-none}
use Rattle.px_prover.proofs.building.take_last.Goals.{in-Some+in_ok-push-in-Some, in-None}
use Rattle.px_prover.proofs.building.take_last.Goals as goal
use Rattle.std.specs.Prelude.{reverse}
use Rattle.std.proofs.lemmas.List.{nil_from_length}

pub loop-taken-preserved : goal.loop-taken-preserved
loop-taken-preserved c =
    elim c.match-pop.branch [
      | in-Some+in_ok-push-in-Some w ↦
          let both =
          popped-some (reverse c.args.made.now.items) c.loop-taken.taken c.loop-taken.made.items c.loop-taken.invariant.rest
          c.pop.new.self.items w.in-Some.part (c.loop-taken.taken + 1) (omega arith) (rw w.in-Some.is at c.pop.ensures.items)
          c.loop-taken.parts.items w.push.new.items.items c.loop-taken.invariant.parts w.in_ok-push-in-Some.ensures.ok in
          record { parts = rw w.parts-is both.0; rest = both.1 }
      | in-None w ↦
          let gone : length c.loop-taken.made.items ≡ 0 =
          search (rules, (rw w.in-None.is at c.pop.ensures.cases).0, c.loop-taken.made.ok) in
          let both =
          popped-none (reverse c.args.made.now.items) c.loop-taken.taken c.loop-taken.made.items c.loop-taken.invariant.rest
          c.pop.new.self.items (c.loop-taken.taken + 1) (omega arith) (rw w.in-None.is at c.pop.ensures.items)
          (nil_from_length c.loop-taken.made.items gone) c.loop-taken.parts.items c.loop-taken.invariant.parts in
          record { parts = rw w.parts-is both.0; rest = both.1 }
    ]
