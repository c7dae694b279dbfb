use Rattle.std.proofs.Common.{take, sym, subst}
use Rattle.std.specs.Prelude.{◌↔◌, All, IsTrue, List}
use Rattle.px_terms.specs.declared.instance.OpInst.{OpInst}
use Rattle.px_terms.specs.Sorts.{IsWellSorted}
use Rattle.px_terms.specs.Validity.{IsInstanceOf}
use Rattle.px_table.specs.Kernels.{instance_under}
use Rattle.px_table.specs.PrefixLaws.{each-instance, each-under}
use Rattle.px_table.proofs.well_sorted.steps_fit.Goals as goal

pub all_fit-requires-clause-instances : goal.all_fit-requires-clause-instances
all_fit-requires-clause-instances c =
    subst (λ (steps : List OpInst). All (λ (inst : OpInst). IsInstanceOf c.args.problem.now (instance_under c.args.sigma.now inst))
    (take c.args.prefix steps)) (sym c.as_slice-steps.ensures)
    (each-instance c.args.problem.now c.args.table.now c.args.prefix c.args.sigma.now c.requires.steps c.requires.count c.requires.used)

pub returns : goal.returns
returns c =
    let exact =
    subst (λ (steps : List OpInst). IsTrue c.all_fit.result
    ↔ All (λ (inst : OpInst). IsWellSorted c.args.problem.now (instance_under c.args.sigma.now inst)) (take c.args.prefix steps))
    c.as_slice-steps.ensures c.all_fit.ensures in
    let under = each-under (IsWellSorted c.args.problem.now) c.args.table.now c.args.prefix c.args.sigma.now in
    (λ holds. under.0 (exact.0 holds), λ all. exact.1 (under.1 all))
