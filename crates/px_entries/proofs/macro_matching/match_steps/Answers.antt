use Rattle.std.proofs.Common.{◌+◌, List, drop, length, map, subst, arith}
use Rattle.px_table.specs.Kernels.{instance_under}
use Rattle.px_terms.specs.Operators.{IsAdded, adds}
use Rattle.px_terms.specs.declared.instance.OpInst.{OpInst}
use Rattle.px_gaps.specs.Closings.{OneOf}
use Rattle.px_entries.specs.Parameters.{IsLeftAdd, Matches}
use Rattle.px_entries.proofs.LeftAdds.{AddedBefore, added-before, added-whole}
use Rattle.px_entries.proofs.Slices.{rest_is}
use Rattle.px_entries.proofs.MatchLemmas.{matches_less, matches_none, matches_part}
use Rattle.px_entries.proofs.macro_matching.match_steps.Goals as goal

pub loop-place-init : goal.loop-place-init
loop-place-init c =
    matches_none c.args.problem.now.objects (length c.args.start.now) c.args.start.now
    (λ sigma. AddedBefore c.args.problem.now c.args.wanted.now sigma c.args.steps.now 0) c.args.found.now.items
    (λ sigma extends w. omega (arith, w.2))

pub loop-place-preserved : goal.loop-place-preserved
loop-place-preserved c =
    let problem = c.args.problem.now in
    let start = c.args.start.now in
    let steps = c.args.steps.now in
    let wanted = c.args.wanted.now in
    let place = c.loop-place.place in
    let step = c.index-steps-place.result in
    matches_part problem.objects (length start) start (λ sigma. AddedBefore problem wanted sigma steps place)
    (λ sigma. OneOf (adds problem step) (IsLeftAdd problem (drop (place + 1) steps) wanted sigma))
    (λ sigma. AddedBefore problem wanted sigma steps (place + 1))
    c.args.found.now.items c.loop-place.found.items c.match_step.new.found.items
    (λ sigma added. added-before problem wanted sigma steps place step c.index-steps-place.is added) c.loop-place.invariant
    (subst (λ (later : List OpInst). Matches problem.objects (length start) start
    (λ sigma. OneOf (adds problem step) (IsLeftAdd problem later wanted sigma)) c.loop-place.found.items c.match_step.new.found.items)
    (rest_is (place + 1) steps) c.in_ok-match_step.ensures)

pub returns : goal.returns
returns c =
    let problem = c.args.problem.now in
    let start = c.args.start.now in
    let steps = c.args.steps.now in
    let wanted = c.args.wanted.now in
    matches_less problem.objects (length start) start (λ sigma. AddedBefore problem wanted sigma steps c.loop-place.place)
    (λ sigma. IsAdded problem (map (instance_under sigma) steps) wanted) c.args.found.now.items c.loop-place.found.items
    (λ sigma added. added-whole problem wanted sigma steps c.loop-place.place (omega (arith, c.loop-place-test.false)) added)
    c.loop-place.invariant
