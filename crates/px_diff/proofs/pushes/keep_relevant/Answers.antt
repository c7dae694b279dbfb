use Rattle.std.proofs.Common.{◌∙◌, refl, sym, subst}
use Rattle.px_terms.specs.Validity.{IsInstanceOf}
use Rattle.px_diff.specs.Gathering.{instance_by}
use Rattle.px_diff.specs.Requests.{IsRelevantFor}
use Rattle.px_gaps.proofs.Grows.{kept_one, nothing_comes}
use Rattle.px_base.proofs.Loops.{on_ok, said_no, said_yes}
use Rattle.px_entries.proofs.PartialLemmas.{fills-instance}
use Rattle.px_diff.proofs.pushes.keep_relevant.Goals as goal

pub is_relevant-requires-clause-inst : goal.is_relevant-requires-clause-inst
is_relevant-requires-clause-inst c =
    subst (IsInstanceOf c.args.request.now.problem.now) (sym c.filled-inst.ensures)
    (fills-instance c.args.request.now.problem.now c.args.partial.now
    (instance_by c.args.partial.now c.args.objects.now) c.args.objects.now c.requires.partial
    (record { count = c.requires.objects.count; below = c.requires.objects.below; same = refl }))

pub returns-then-not-is_relevant : goal.returns-then-not-is_relevant
returns-then-not-is_relevant c = λ inst.
    nothing_comes (λ here. said_no c.is_relevant.result c.is_relevant.ensures c.if-not-is_relevant.true
    (subst (IsRelevantFor c.args.request.now) (sym (c.filled-inst.ensures ∙ here.0)) here.1))

pub returns : goal.returns
returns c =
    on_ok c.push.result (λ put inst. kept_one (IsRelevantFor c.args.request.now) c.filled-inst.result
    (instance_by c.args.partial.now c.args.objects.now) inst c.args.found.now.items c.push.new.items.items c.filled-inst.ensures
    (said_yes c.is_relevant.result c.is_relevant.ensures c.if-not-is_relevant.false) put) c.push.ensures.ok
