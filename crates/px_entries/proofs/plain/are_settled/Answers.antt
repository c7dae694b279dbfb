use Rattle.px_base.specs.ListLaws.{All-at}
use Rattle.px_entries.specs.Plain.{IsSettled}
use Rattle.px_base.proofs.Loops.{all_before_next, all_whole, contains_here}
use Rattle.px_entries.proofs.PlainLaws.{some-no, some-yes}
use Rattle.px_entries.proofs.plain.are_settled.Goals as goal

pub returns-in-Some-false : goal.returns-in-Some-false
returns-in-Some-false c = λ all.
    let Settled = IsSettled c.args.problem.now c.args.model.now.atoms in
    some-no {P = Settled c.atom-item.result} c.in_ok-is_settled.field-0 c.in-Some-false.field-0 c.in-Some-false.is
    c.in-Some-false.field-0-test c.in_ok-is_settled.ensures
    (All-at Settled c.args.formula.now c.atom-item.result all
    (contains_here c.args.formula.now c.loop-atom.atom-index c.atom-item.result c.loop-atom-test.true c.atom-item.is))

pub loop-atom-preserved : goal.loop-atom-preserved
loop-atom-preserved c =
    let Settled = IsSettled c.args.problem.now c.args.model.now.atoms in
    all_before_next Settled c.args.formula.now c.loop-atom.atom-index c.atom-item.result c.loop-atom.invariant c.loop-atom-test.true
    c.atom-item.is
    (some-yes {P = Settled c.atom-item.result} c.in_ok-is_settled.field-0 c.in-Some-true.field-0 c.in-Some-true.is
    c.in-Some-true.field-0-test c.in_ok-is_settled.ensures)

pub returns : goal.returns
returns c =
    all_whole (IsSettled c.args.problem.now c.args.model.now.atoms) c.args.formula.now c.loop-atom.atom-index c.loop-atom.invariant
    c.loop-atom-test.false
