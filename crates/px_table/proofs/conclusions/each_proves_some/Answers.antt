use Rattle.std.proofs.Common.{refl}
use Rattle.px_base.proofs.Loops.{all_before_next, all_whole, not_all, said_no, said_yes}
use Rattle.px_table.specs.Conclusions.{ProvesSome}
use Rattle.px_table.proofs.conclusions.each_proves_some.Goals as goal

pub returns-then-not-proves_some : goal.returns-then-not-proves_some
returns-then-not-proves_some c = (
  λ yes. cc,
  λ all.
      absurd (not_all (ProvesSome c.args.axioms.now c.args.objects c.args.params) c.args.row.now c.loop-proof.proof-index
      c.proof-item.result c.loop-proof-test.true c.proof-item.is
      (said_no c.proves_some.result c.proves_some.ensures c.if-not-proves_some.true) all),
)

pub loop-proof-preserved : goal.loop-proof-preserved
loop-proof-preserved c =
    all_before_next (ProvesSome c.args.axioms.now c.args.objects c.args.params) c.args.row.now c.loop-proof.proof-index c.proof-item.result
    c.loop-proof.invariant c.loop-proof-test.true c.proof-item.is
    (said_yes c.proves_some.result c.proves_some.ensures c.if-not-proves_some.false)

pub returns : goal.returns
returns c = (
  λ _. all_whole (ProvesSome c.args.axioms.now c.args.objects c.args.params) c.args.row.now c.loop-proof.proof-index c.loop-proof.invariant
      c.loop-proof-test.false,
  λ _. refl,
)
