use Rattle.std.proofs.Common.{◌+◌, List, sym, subst, take}
use Rattle.px_entries.specs.Instances.{IsCovered, StandsFor}
use Rattle.px_entries.specs.declared.partial.PartialInstance.{PartialInstance}
use Rattle.px_diff.proofs.FirstLemmas.{left-off}
use Rattle.px_diff.proofs.Gathered.{gathers_part, gathers_reordered}
use Rattle.px_gaps.proofs.Grows.{one_next}
use Rattle.px_entries.proofs.Slices.{rest_is}
use Rattle.px_diff.proofs.first_instances.gather_first.Goals as goal

pub returns-then-can_leave_off_matches-clause-gathers : goal.returns-then-can_leave_off_matches-clause-gathers
returns-then-can_leave_off_matches-clause-gathers c =
    let problem = c.args.request.now.problem.now in
    let matches = c.args.matches.now in
    let place = c.loop-place.place in
    left-off c.args.request.now.problem.now c.args.request.now.tables.now c.args.request.now.wanted.now c.args.request.now.stack.now
    c.args.request.now.model.now.atoms c.args.enough matches place c.args.found.now.items c.can_leave_off_matches.new.found.items
    (gathers_reordered c.args.request.now.problem.now c.args.request.now.tables.now c.args.request.now.wanted.now
    c.args.request.now.stack.now c.args.request.now.model.now.atoms
    (IsCovered problem (take place matches)) c.args.found.now.items c.loop-place.found.items c.can_leave_off_matches.new.found.items
    c.can_leave_off_matches.ensures.members c.loop-place.invariant)
    (λ full covered. c.can_leave_off_matches.ensures.after c.if-can_leave_off_matches.true full
    (subst (λ (l : List PartialInstance). IsCovered problem l full) (sym (rest_is place matches)) covered))
    (c.can_leave_off_matches.ensures.enough c.if-can_leave_off_matches.true)

pub loop-place-preserved : goal.loop-place-preserved
loop-place-preserved c =
    let problem = c.args.request.now.problem.now in
    let matches = c.args.matches.now in
    let place = c.loop-place.place in
    let item = c.index-matches-place.result in
    gathers_part c.args.request.now.problem.now c.args.request.now.tables.now c.args.request.now.wanted.now c.args.request.now.stack.now
    c.args.request.now.model.now.atoms (IsCovered problem (take place matches)) (StandsFor problem item)
    (IsCovered problem (take (place + 1) matches))
    c.args.found.now.items c.can_leave_off_matches.new.found.items c.gather.new.found.items
    (λ inst w. (one_next (λ (partial : PartialInstance). StandsFor problem partial inst) matches place item c.loop-place-test.true
    c.index-matches-place.is).0 w)
    (gathers_reordered c.args.request.now.problem.now c.args.request.now.tables.now c.args.request.now.wanted.now
    c.args.request.now.stack.now c.args.request.now.model.now.atoms
    (IsCovered problem (take place matches)) c.args.found.now.items c.loop-place.found.items c.can_leave_off_matches.new.found.items
    c.can_leave_off_matches.ensures.members c.loop-place.invariant)
    c.in_ok-gather.ensures.gathers
