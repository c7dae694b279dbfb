use Rattle.std.proofs.Common.{List, take, sym, subst, arith}
use Rattle.std.proofs.lemmas.List.{take_all}
use Rattle.px_table.specs.declared.entry.Move.{Move}
use Rattle.px_search.specs.Steps.{AreStepsOf, unstruck}
use Rattle.px_search.proofs.NodeLemmas.{take_one}
use Rattle.px_search.proofs.StepLaws.{steps-count}
use Rattle.px_search.proofs.StruckLaws.{step_here, struck_on}
use Rattle.px_search.proofs.picks.struck.Goals as goal

pub loop-place-preserved : goal.loop-place-preserved
loop-place-preserved c = λ entries moves stands are.
    let kept = c.args.numbers.now in
    let place = c.loop-place.place in
    let step = c.step_at-step.result in
    let here = step_here kept c.args.steps.now moves place step are c.step_at-step.ensures in
    subst (λ (l : List Move). AreStepsOf kept c.put_unless.new.left.items (unstruck entries l)) (sym (take_one moves place here.0 here.1))
    (struck_on kept entries c.loop-place.left.items (take place moves) here.0 step c.is_struck-is_out.result c.put_unless.new.left.items
    (c.is_struck-is_out.ensures entries here.0 stands here.2)
    c.in_ok-put_unless.ensures (c.loop-place.invariant entries moves stands are) here.2)

pub returns : goal.returns
returns c = λ entries moves stands are.
    subst (λ (l : List Move). AreStepsOf c.args.numbers.now c.loop-place.left.items (unstruck entries l))
    (take_all c.loop-place.place moves (omega (arith, c.loop-place-test.false, steps-count c.args.numbers.now c.args.steps.now moves are)))
    (c.loop-place.invariant entries moves stands are)
