use Rattle.std.proofs.Common.{List, length, subst, sym}
use Rattle.std.specs.Prelude.{All, Contains}
use Rattle.px_base.specs.ListLaws.{All-at}
use Rattle.px_table.specs.declared.mark.Mark.{Mark}
use Rattle.px_terms.specs.Language.{IsVariableBelow}
use Rattle.px_diff.specs.MacroOpen.{IsSettledMark}
use Rattle.px_base.proofs.Loops.{all_before_next, all_whole, contains_here}
use Rattle.px_diff.proofs.GatherLemmas.{prefix-table}
use Rattle.px_entries.proofs.PlainLaws.{some-no, some-yes}
use Rattle.px_entries.proofs.RowSteps.{mark-is_of, marks-variables}
use Rattle.px_diff.proofs.macro_open.are_settled_marks.Goals as goal

pub is_settled_mark-requires-clause-variables : goal.is_settled_mark-requires-clause-variables
is_settled_mark-requires-clause-variables c =
    let has = contains_here c.as_slice-marks.result.now c.loop-mark.mark-index c.mark-item.result c.loop-mark-test.true c.mark-item.is in
    All-at (λ (mark : Mark). All (IsVariableBelow (length c.args.sigma.now)) mark.atom.args) c.args.prefix.now.table.now.marks
    c.mark-item.result
    (marks-variables c.args.prefix.now.request.problem.now c.args.prefix.now.table.now c.args.sigma.now
    (prefix-table c.args.prefix.now c.requires.prefix) c.requires.sigma.count)
    (subst (λ (l : List Mark). Contains l c.mark-item.result) c.as_slice-marks.ensures has)

pub is_settled_mark-requires-clause-atom : goal.is_settled_mark-requires-clause-atom
is_settled_mark-requires-clause-atom c = λ early.
    let has = contains_here c.as_slice-marks.result.now c.loop-mark.mark-index c.mark-item.result c.loop-mark-test.true c.mark-item.is in
    mark-is_of c.args.prefix.now.request.problem.now c.args.prefix.now.table.now c.args.prefix.now.count c.args.sigma.now
    (prefix-table c.args.prefix.now c.requires.prefix) c.requires.sigma c.mark-item.result
    (subst (λ (l : List Mark). Contains l c.mark-item.result) c.as_slice-marks.ensures has) early

pub returns-in-Some-false : goal.returns-in-Some-false
returns-in-Some-false c = λ all.
    let Settled =
    IsSettledMark c.args.prefix.now.request.problem.now c.args.prefix.now.request.model.now.atoms c.args.prefix.now.count c.args.sigma.now
    in
    some-no {P = Settled c.mark-item.result} c.in_ok-is_settled_mark.field-0 c.in-Some-false.field-0 c.in-Some-false.is
    c.in-Some-false.field-0-test c.in_ok-is_settled_mark.ensures
    (All-at Settled c.as_slice-marks.result.now c.mark-item.result (subst (All Settled) (sym c.as_slice-marks.ensures) all)
    (contains_here c.as_slice-marks.result.now c.loop-mark.mark-index c.mark-item.result c.loop-mark-test.true c.mark-item.is))

pub loop-mark-preserved : goal.loop-mark-preserved
loop-mark-preserved c =
    let Settled =
    IsSettledMark c.args.prefix.now.request.problem.now c.args.prefix.now.request.model.now.atoms c.args.prefix.now.count c.args.sigma.now
    in
    all_before_next Settled c.as_slice-marks.result.now c.loop-mark.mark-index c.mark-item.result c.loop-mark.invariant
    c.loop-mark-test.true c.mark-item.is
    (some-yes {P = Settled c.mark-item.result} c.in_ok-is_settled_mark.field-0 c.in-Some-true.field-0 c.in-Some-true.is
    c.in-Some-true.field-0-test c.in_ok-is_settled_mark.ensures)

pub returns : goal.returns
returns c =
    let Settled =
    IsSettledMark c.args.prefix.now.request.problem.now c.args.prefix.now.request.model.now.atoms c.args.prefix.now.count c.args.sigma.now
    in
    subst (All Settled) c.as_slice-marks.ensures (all_whole Settled c.as_slice-marks.result.now c.loop-mark.mark-index c.loop-mark.invariant
    c.loop-mark-test.false)
