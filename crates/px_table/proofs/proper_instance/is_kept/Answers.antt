use Rattle.std.proofs.Common.{◌≡◌, ◌<◌, length, get_or, refl, arith}
use Rattle.px_table.specs.UnderLaws.{atom_under-is_ground}
use Rattle.px_table.proofs.KeptSteps.{kept-next, kept-all, kept-fails}
use Rattle.px_table.proofs.proper_instance.is_kept.Goals as goal
use Rattle.px_table.proofs.proper_instance.is_kept.Goals.{else-stands_between-via-then-stands_between+else-step_deletes, else-stands_between-via-else-stands_between}

pub step_deletes-requires-clause-is_ground : goal.step_deletes-requires-clause-is_ground
step_deletes-requires-clause-is_ground c =
    rw c.atom_with-atom.ensures
    (atom_under-is_ground c.args.problem.now c.args.table.now.params c.args.sigma.now c.args.mark.now.atom c.requires.sigma c.requires.mark)

pub returns-then-step_deletes : goal.returns-then-step_deletes
returns-then-step_deletes c =
    let is : c.step-item.result ≡ get_or c.args.table.now.steps c.loop-before.before c.step-item.result =
    rw c.as_slice-step-items.ensures at c.step-item.is in
    let below : c.loop-before.before < length c.args.table.now.steps = rw c.as_slice-step-items.ensures at c.loop-before-test.true in
    let between = c.stands_between.ensures.0 c.if-stands_between.true in
    let deleted = rw c.atom_with-atom.ensures at (c.step_deletes.ensures.0 c.if-step_deletes.true) in (
      λ yes. cc,
      λ kept.
          absurd (kept-fails c.args.problem.now c.args.table.now.steps c.args.sigma.now c.args.first c.args.mark.now c.loop-before.before
          c.step-item.result below is
          (omega (arith, between.0)) (omega (arith, between.1)) (omega (arith, between.2)) deleted kept),
    )

pub loop-before-preserved : goal.loop-before-preserved
loop-before-preserved c =
    let is : c.step-item.result ≡ get_or c.args.table.now.steps c.loop-before.before c.step-item.result =
    rw c.as_slice-step-items.ensures at c.step-item.is in
    let below : c.loop-before.before < length c.args.table.now.steps = rw c.as_slice-step-items.ensures at c.loop-before-test.true in
    kept-next c.args.problem.now c.args.table.now.steps c.args.sigma.now c.args.first c.args.mark.now c.loop-before.before
    c.step-item.result below is c.loop-before.invariant
    (λ low column row deleted. elim c.else-stands_between.branch [
      | else-stands_between-via-then-stands_between+else-step_deletes w ↦
          let yes = w.step_deletes.ensures.1 (rw c.atom_with-atom.ensures deleted) in let no_step = w.if-step_deletes.false in cc
      | else-stands_between-via-else-stands_between w ↦
          let yes =
          c.stands_between.ensures.1 (omega (arith, low), omega (arith, column), omega (arith, row)) in let no_step =
          w.if-stands_between.false in cc
    ])

pub returns : goal.returns
returns c = (
  λ _. kept-all c.args.problem.now c.args.table.now.steps c.args.sigma.now c.args.first c.args.mark.now c.loop-before.before
      (rw c.as_slice-step-items.ensures at c.loop-before-test.false) c.loop-before.invariant,
  λ _. refl,
)
