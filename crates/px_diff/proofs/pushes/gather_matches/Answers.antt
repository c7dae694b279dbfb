use Rattle.std.proofs.Common.{◌+◌, take}
use Rattle.px_entries.specs.Instances.{IsCovered, StandsFor}
use Rattle.px_entries.specs.declared.partial.PartialInstance.{PartialInstance}
use Rattle.px_diff.proofs.Gathered.{gathers_part}
use Rattle.px_gaps.proofs.Grows.{one_next}
use Rattle.px_diff.proofs.pushes.gather_matches.Goals as goal

pub loop-partial-preserved : goal.loop-partial-preserved
loop-partial-preserved c =
    let problem = c.args.request.now.problem.now in
    let matches = c.args.matches.now in
    let i = c.loop-partial.partial-index in
    let item = c.partial-item.result in
    gathers_part problem c.args.request.now.tables.now c.args.request.now.wanted.now c.args.request.now.stack.now
    c.args.request.now.model.now.atoms (IsCovered problem (take i matches)) (StandsFor problem item)
    (IsCovered problem (take (i + 1) matches))
    c.args.found.now.items c.loop-partial.found.items c.gather.new.found.items
    (λ inst w. (one_next (λ (partial : PartialInstance). StandsFor problem partial inst) matches i item c.loop-partial-test.true
    c.partial-item.is).0 w)
    c.loop-partial.invariant c.in_ok-gather.ensures.gathers
