use Rattle.std.specs.Prelude.{length}
use Rattle.std.proofs.Common.{refl, ap, ◌∙◌, arith}
use Rattle.px_match.proofs.Renewed.{found_next, found_taken, kept_taken, left_less}
use Rattle.px_match.proofs.keeping.take_gone.Goals as goal

pub loop-at-init : goal.loop-at-init
loop-at-init c = (refl, λ k d below. absurd (omega (arith, below)), λ room are. are)

pub loop-at-preserved-then-meets : goal.loop-at-preserved-then-meets
loop-at-preserved-then-meets c = (
  c.loop-at.invariant.0,
  found_next c.args.new.now.atoms c.loop-at.kept.atoms c.atoms-in-loop-at.result.now c.index-atoms-at.result c.loop-at.at
      c.atoms-in-loop-at.ensures.value
      (omega (arith, c.loop-at-test.true, ap length c.atoms.ensures.value, ap length c.atoms-in-loop-at.ensures.value)) c.index-atoms-at.is
      (c.meets.ensures.0 c.if-meets.true) c.loop-at.invariant.1,
  c.loop-at.invariant.2,
)

pub loop-at-smaller : goal.loop-at-smaller
loop-at-smaller c =
    left_less c.loop-at.kept.atoms c.atoms-else-meets.result.now c.remove.new.self.atoms c.index-atoms-at-else-meets.result c.loop-at.at
    c.atoms-else-meets.ensures.model.ascending c.atoms-else-meets.ensures.value
    (omega (arith, c.loop-at-test.true, ap length c.atoms.ensures.value, ap length c.atoms-else-meets.ensures.value)) c.index-atoms-at-else-meets.is
    c.remove.ensures.atoms

pub loop-at-preserved : goal.loop-at-preserved
loop-at-preserved c = (
  c.take_from.ensures.same ∙ c.loop-at.invariant.0,
  found_taken c.args.new.now.atoms c.loop-at.kept.atoms c.atoms-else-meets.result.now c.remove.new.self.atoms c.index-atoms-at-else-meets.result
      c.loop-at.at c.atoms-else-meets.ensures.model.ascending
      c.atoms-else-meets.ensures.value (omega (
        arith,
        c.loop-at-test.true,
        ap length c.atoms.ensures.value,
        ap length c.atoms-else-meets.ensures.value,
      )) c.index-atoms-at-else-meets.is c.remove.ensures.atoms c.loop-at.invariant.1,
  λ room are. kept_taken room c.args.marks.now c.index-atoms-at-else-meets.result c.loop-at.kept c.remove.new.self c.loop-at.lists
      c.take_from.new.lists c.remove.result c.atoms-else-meets.ensures.model.ascending
      c.remove.ensures.atoms c.remove.ensures.was_there c.remove.ensures.spare_kept c.remove.ensures.spare_won c.take_from.ensures
      (c.loop-at.invariant.2 room are),
)

pub returns-clause-within : goal.returns-clause-within
returns-clause-within c =
    λ k d below. c.loop-at.invariant.1 k d (omega (arith, below, ap length c.atoms.ensures.value, c.loop-at-test.false))
