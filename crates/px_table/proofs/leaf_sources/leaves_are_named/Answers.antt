use Rattle.std.proofs.Common.{add-one}
use Rattle.px_terms.specs.Validity.{IsAtomOf}
use Rattle.px_table.specs.declared.mark.Mark.{Mark}
use Rattle.px_table.specs.Marks.{IsNamed}
use Rattle.px_table.proofs.LeafSteps.{marks-split, no-marks}
use Rattle.px_table.proofs.leaf_sources.leaves_are_named.Goals as goal

pub returns-then-not-proofs_are_named : goal.returns-then-not-proofs_are_named
returns-then-not-proofs_are_named c =
    let split =
    marks-split (λ (mark : Mark). IsAtomOf c.args.problem.now c.args.params mark.atom × IsNamed c.args.problem.now c.args.steps.now mark)
    c.args.rows.now c.loop-k.k c.index-rows-k.result c.index-rows-k.is c.loop-k-test.true in
    let exact = rw (c.proofs.ensures, add-one c.loop-k.k) at c.proofs_are_named.ensures in (
      λ yes. cc,
      λ all.
          let here = exact.1 (split.0 (c.loop-k.invariant.1 all)).0 in let no_row = c.if-not-proofs_are_named.true in cc,
    )

pub loop-k-preserved : goal.loop-k-preserved
loop-k-preserved c =
    let split =
    marks-split (λ (mark : Mark). IsAtomOf c.args.problem.now c.args.params mark.atom × IsNamed c.args.problem.now c.args.steps.now mark)
    c.args.rows.now c.loop-k.k c.index-rows-k.result c.index-rows-k.is c.loop-k-test.true in
    let exact = rw (c.proofs.ensures, add-one c.loop-k.k) at c.proofs_are_named.ensures in
    rw (add-one c.loop-k.k) (
      λ rest. c.loop-k.invariant.0 (split.1 (exact.0 c.if-not-proofs_are_named.false, rest)),
      λ all. (split.0 (c.loop-k.invariant.1 all)).1,
    )

pub returns : goal.returns
returns c =
    let nothing =
    no-marks (λ (mark : Mark). IsAtomOf c.args.problem.now c.args.params mark.atom × IsNamed c.args.problem.now c.args.steps.now mark)
    c.args.rows.now c.loop-k.k c.loop-k-test.false in (λ _. c.loop-k.invariant.0 nothing, λ _. cc)
