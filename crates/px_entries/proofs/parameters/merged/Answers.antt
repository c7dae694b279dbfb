use Rattle.std.proofs.Common.{◌≡◌, length, arith}
use Rattle.px_entries.proofs.ParameterLemmas.{merged-binding, merged-extends}
use Rattle.px_entries.proofs.parameters.merged.Goals as goal

pub returns-clause-binding : goal.returns-clause-binding
returns-clause-binding c =
    let long : length c.loop-place.next.items ≡ length c.args.terms.now =
    omega (arith, c.loop-place.invariant.long, c.loop-place-test.false, c.loop-place.auto.place-end) in
    merged-binding c.args.limit c.args.terms.now c.args.others.now c.requires c.loop-place.next.items long
    (λ v below. c.loop-place.invariant.each v (omega (arith, below, c.loop-place-test.false)))

pub returns-clause-fits : goal.returns-clause-fits
returns-clause-fits c =
    let long : length c.loop-place.next.items ≡ length c.args.terms.now =
    omega (arith, c.loop-place.invariant.long, c.loop-place-test.false, c.loop-place.auto.place-end) in
    merged-extends c.args.limit c.args.terms.now c.args.others.now c.requires c.loop-place.next.items long
    (λ v below. c.loop-place.invariant.each v (omega (arith, below, c.loop-place-test.false)))
