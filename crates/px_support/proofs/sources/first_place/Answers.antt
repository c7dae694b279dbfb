use Rattle.std.proofs.Common.{◌≤◌, sym, ◌∙◌, subst}
use Rattle.px_support.proofs.SourceLaws.{first-here, first-later, first-none}
use Rattle.px_support.proofs.sources.first_place.Goals as goal

pub returns-then-eq-clause-place : goal.returns-then-eq-clause-place
returns-then-eq-clause-place c =
    first-here c.args.problem.now c.args.inst.now c.args.atom.now c.schema_of-schema.result.now c.loop-k.k c.adds-added.result
    c.schema_of-schema.ensures.schema c.adds-added.ensures (sym c.eq.ensures ∙ c.if-eq.true) c.loop-k.invariant

pub loop-k-preserved : goal.loop-k-preserved
loop-k-preserved c =
    first-later c.args.problem.now c.args.inst.now c.args.atom.now c.schema_of-schema.result.now c.loop-k.k c.adds-added.result
    c.schema_of-schema.ensures.schema c.adds-added.ensures (sym c.eq.ensures ∙ c.if-eq.false) c.loop-k.invariant

pub returns-clause-none : goal.returns-clause-none
returns-clause-none c = λ _.
    first-none c.args.problem.now c.args.inst.now c.args.atom.now c.schema_of-schema.result.now c.loop-k.k c.schema_of-schema.ensures.schema
    (subst (λ n. n ≤ c.loop-k.k) c.len-k-end.ensures c.loop-k-test.false) c.loop-k.invariant
