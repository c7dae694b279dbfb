use Rattle.std.proofs.Common.{◌≤◌, ◌≡◌, List, ap, subst, arith}
use Rattle.px_terms.specs.declared.problem.Schema.{Schema}
use Rattle.px_turns.specs.Turning.{adds_most}
use Rattle.px_turns.proofs.RunPlaces.{adds_most-item, most-end, most-next}
use Rattle.px_turns.proofs.running.most_adds.Goals.{then-len-most, else-len-most}
use Rattle.px_turns.proofs.running.most_adds.Goals as goal

pub loop-schema-preserved : goal.loop-schema-preserved
loop-schema-preserved c =
    let items = c.as_slice-schema-items.result.now in
    let index = c.loop-schema.schema-index in
    let one = c.schema-item.result in
    let old = c.loop-schema.invariant in
    let below = c.loop-schema-test.true in
    let item = adds_most-item items index one below c.schema-item.is in
    elim c.if-len-most.branch [
      | then-len-most w ↦ (
        most-next items index one c.loop-schema.most c.if-len-most.most below c.schema-item.is old.0
            (omega (arith, w.most-is, w.if-len-most.true, w.len-most.ensures, c.len.ensures))
            (omega (arith, w.most-is, w.if-len-most.true, w.len-most.ensures, c.len.ensures)),
        omega (arith, w.most-is, w.len-most.ensures, item),
      )
      | else-len-most w ↦ (
        most-next items index one c.loop-schema.most c.if-len-most.most below c.schema-item.is old.0
            (omega (arith, w.most-is)) (omega (arith, w.most-is, w.if-len-most.false, c.len.ensures)),
        omega (arith, w.most-is, old.1),
      )
    ]

pub returns : goal.returns
returns c =
    let items : c.as_slice-schema-items.result.now ≡ c.args.problem.now.schemas = c.as_slice-schema-items.ensures in
    let least = most-end c.as_slice-schema-items.result.now c.loop-schema.schema-index c.loop-schema.most c.loop-schema-test.false
    c.loop-schema.invariant.0 in
    let same = ap (λ (schemas : List Schema). adds_most schemas) items in
    omega (arith, least, c.loop-schema.invariant.1, same)
