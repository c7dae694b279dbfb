use Rattle.std.proofs.Common.{◌∙◌, List, ap}
use Rattle.px_terms.specs.declared.atom.Atom.{Atom}
use Rattle.px_table.specs.declared.node.Node.{Node}
use Rattle.px_numbers.specs.NumberLaws.{one_model, one_node}
use Rattle.px_ends.specs.Lacks.{lacks, lacks_of, needs}
use Rattle.px_ends.specs.Tasks.{goal_from}
use Rattle.px_support.specs.Asking.{task_for}
use Rattle.px_search.proofs.StackSums.{summed-all, summed-next, summed-start, summed-top}
use Rattle.px_search.proofs.estimates.Estimates.needs.Goals as goal

pub loop-frame-init : goal.loop-frame-init
loop-frame-init c =
    let task = task_for c.args.asked.now in
    let kept = c.args.numbers.now in
    let node : Node = c.requires.node.0 in
    let counted = c.in_ok-count.ensures.count in
    record {
      counted = c.in_ok-count.ensures.counted;
      summed = (
        node,
        c.requires.node.1,
        summed-start task kept node c.args.key c.in_ok-count.count c.requires.node.1 c.requires.node.2
            (counted.2 ∙ ap (λ (m : List Atom). lacks_of (goal_from task m))
            (one_model kept c.args.key.model counted.0 node.model counted.1 c.requires.node.1.model)),
      );
    }

pub entry-requires-clause-place : goal.entry-requires-clause-place
entry-requires-clause-place c =
    let task = task_for c.args.asked.now in
    let s = c.loop-frame.invariant.summed in
    let top = summed-top task c.args.numbers.now s.0 c.loop-frame.rest c.loop-frame.count c.in-Some.frame s.2 c.in-Some.ensures.top in
    (s.0.model, top.0, s.1.model, top.1, top.2)

pub loop-frame-preserved : goal.loop-frame-preserved
loop-frame-preserved c =
    let task = task_for c.args.asked.now in
    let kept = c.args.numbers.now in
    let s = c.loop-frame.invariant.summed in
    let lacking = c.in_ok-lacks.ensures.count in
    let same = one_model kept c.args.key.model lacking.0 s.0.model lacking.2 s.1.model in
    record {
      counted = c.in_ok-lacks.ensures.counted;
      summed = (
        s.0,
        s.1,
        summed-next task kept s.0 c.loop-frame.rest c.loop-frame.count c.in_ok-lacks.lacks c.in_ok-total.total c.in-Some.frame lacking.1 s.2
            c.in-Some.ensures.top lacking.3 (lacking.4 ∙ ap (λ (m : List Atom). lacks task m lacking.1) same) c.in_ok-total.ensures,
      );
    }

pub returns-clause-needs : goal.returns-clause-needs
returns-clause-needs c node stands =
    let task = task_for c.args.asked.now in
    let kept = c.args.numbers.now in
    let s = c.loop-frame.invariant.summed in
    summed-all task kept s.0 c.loop-frame.rest c.loop-frame.count s.2 c.in_default.ensures.top
    ∙ ap (λ (n : Node). needs task n) (one_node kept c.args.key s.0 node s.1 stands)
