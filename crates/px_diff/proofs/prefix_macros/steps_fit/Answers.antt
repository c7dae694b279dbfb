use Rattle.std.proofs.Common.{take, sym, subst}
use Rattle.std.specs.Prelude.{◌↔◌, All, IsTrue, List}
use Rattle.px_terms.specs.declared.instance.OpInst.{OpInst}
use Rattle.px_terms.specs.Sorts.{IsWellSorted}
use Rattle.px_terms.specs.Validity.{IsInstanceOf}
use Rattle.px_table.specs.Kernels.{instance_under}
use Rattle.px_table.specs.PrefixLaws.{each-instance, each-under}
use Rattle.px_diff.proofs.GatherLemmas.{prefix-table}
use Rattle.px_diff.proofs.prefix_macros.steps_fit.Goals as goal

pub all_fit-requires-clause-instances : goal.all_fit-requires-clause-instances
all_fit-requires-clause-instances c =
    let problem = c.args.prefix.now.request.problem.now in
    subst (λ (steps : List OpInst). All (λ (inst : OpInst). IsInstanceOf problem (instance_under c.args.sigma.now inst))
    (take c.args.prefix.now.count steps)) (sym c.as_slice-steps.ensures)
    (each-instance problem c.args.prefix.now.table.now c.args.prefix.now.count c.args.sigma.now
    (prefix-table c.args.prefix.now c.requires.prefix).in_range.steps c.requires.count c.requires.used)

pub returns : goal.returns
returns c =
    let problem = c.args.prefix.now.request.problem.now in
    let exact =
    subst (λ (steps : List OpInst). IsTrue c.all_fit.result
    ↔ All (λ (inst : OpInst). IsWellSorted problem (instance_under c.args.sigma.now inst)) (take c.args.prefix.now.count steps))
    c.as_slice-steps.ensures c.all_fit.ensures in
    let under = each-under (IsWellSorted problem) c.args.prefix.now.table.now c.args.prefix.now.count c.args.sigma.now in
    (λ holds. under.0 (exact.0 holds), λ all. exact.1 (under.1 all))
