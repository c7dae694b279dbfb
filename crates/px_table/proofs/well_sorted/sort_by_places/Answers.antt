use Rattle.std.proofs.Common.{sym, ap, ◌∙◌, eq-eqb}
use Rattle.std.proofs.lemmas.List.{drop_all}
use Rattle.std.specs.Prelude.{List}
use Rattle.px_terms.specs.declared.instance.OpInst.{OpInst}
use Rattle.px_table.specs.WellSorted.{first_sort, sort_places}
use Rattle.px_table.proofs.SortSteps.{not-none, step-none, step-sorts}
use Rattle.px_table.proofs.well_sorted.sort_by_places.Goals as goal

pub returns-then-sort-ne0 : goal.returns-then-sort-ne0
returns-then-sort-ne0 c =
    step-sorts c.args.problem.now c.args.steps.now c.loop-inst.inst-index c.args.parameter c.inst-item.result c.inst-item.is
    c.loop-inst-test.true c.sort_in_step-sort.result
    (rw (c.sorts_of_step.ensures, c.args-in-loop-inst.ensures.value) at c.sort_in_step-sort.ensures) c.loop-inst.invariant
    (not-none c.sort_in_step-sort.result c.if-sort-ne0.true)

pub loop-inst-preserved : goal.loop-inst-preserved
loop-inst-preserved c =
    step-none c.args.problem.now c.args.steps.now c.loop-inst.inst-index c.args.parameter c.inst-item.result c.inst-item.is
    c.loop-inst-test.true c.sort_in_step-sort.result
    (rw (c.sorts_of_step.ensures, c.args-in-loop-inst.ensures.value) at c.sort_in_step-sort.ensures) c.loop-inst.invariant
    (eq-eqb c.sort_in_step-sort.result 0 c.if-sort-ne0.false)

pub returns : goal.returns
returns c =
    sym (ap (λ (l : List OpInst). first_sort (sort_places c.args.problem.now l) c.args.parameter)
    (drop_all c.loop-inst.inst-index c.args.steps.now c.loop-inst-test.false)) ∙ c.loop-inst.invariant
