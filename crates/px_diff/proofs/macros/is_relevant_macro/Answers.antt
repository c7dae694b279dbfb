use Rattle.std.proofs.Common.{◌∙◌, List, take, sym, subst}
use Rattle.std.specs.Prelude.{◌↔◌, All, Contains, IsTrue}
use Rattle.px_table.specs.Kernels.{steps_under}
use Rattle.px_table.specs.declared.entry.Entry.{Entry}
use Rattle.px_terms.specs.Validity.{IsInstanceOf}
use Rattle.px_terms.specs.declared.instance.OpInst.{OpInst}
use Rattle.px_gaps.specs.Closings.{OneOf}
use Rattle.px_terms.specs.Operators.{IsAdded}
use Rattle.px_diff.specs.Pushes.{IsRelevant}
use Rattle.px_diff.proofs.GatherLemmas.{prefix-table}
use Rattle.px_base.proofs.Loops.{is_false, said_no, said_yes}
use Rattle.px_diff.proofs.MacroLemmas.{macro_adds, relevance_macro}
use Rattle.px_table.specs.PrefixLaws.{prefix-instances}
use Rattle.px_entries.proofs.RowSteps.{steps-variables}
use Rattle.px_diff.proofs.macros.is_relevant_macro.Goals as goal

pub returns-then-is_stacked : goal.returns-then-is_stacked
returns-then-is_stacked c = is_false (λ relevant. relevant.fresh (said_yes c.is_stacked.result c.is_stacked.ensures c.if-is_stacked.true))

pub steps_with-requires-clause-prefix : goal.steps_with-requires-clause-prefix
steps_with-requires-clause-prefix c = c.requires.prefix.within

pub steps_with-requires-clause-steps : goal.steps_with-requires-clause-steps
steps_with-requires-clause-steps c =
    steps-variables c.args.prefix.now.request.problem.now c.args.prefix.now.table.now c.args.sigma.now
    (prefix-table c.args.prefix.now c.requires.prefix) c.requires.sigma.count

pub add_wanted-requires-clause-problem : goal.add_wanted-requires-clause-problem
add_wanted-requires-clause-problem c = c.requires.prefix.problem

pub add_wanted-requires-clause-steps : goal.add_wanted-requires-clause-steps
add_wanted-requires-clause-steps c =
    subst (All (IsInstanceOf c.args.prefix.now.request.problem.now)) (sym (c.deref.ensures.value ∙ c.in_ok-steps.ensures))
    (prefix-instances c.args.prefix.now.request.problem.now c.args.prefix.now.table.now c.args.prefix.now.count c.args.sigma.now
    (prefix-table c.args.prefix.now c.requires.prefix).in_range.steps c.requires.sigma.count c.requires.sigma.used)

pub returns : goal.returns
returns c =
    let problem = c.args.prefix.now.request.problem.now in
    let tables = c.args.prefix.now.request.tables.now in
    let wanted = c.args.prefix.now.request.wanted.now in
    let stack = c.args.prefix.now.request.stack.now in
    let table = c.args.prefix.now.table.now in
    let is_table = prefix-table c.args.prefix.now c.requires.prefix in
    let same = c.deref.ensures.value ∙ c.in_ok-steps.ensures in
    let adds : IsTrue c.add_wanted.result
    ↔ OneOf wanted (IsAdded problem (take c.args.prefix.now.count (steps_under table c.args.sigma.now))) =
    subst (λ (l : List OpInst). IsTrue c.add_wanted.result ↔ OneOf wanted (IsAdded problem l)) same c.add_wanted.ensures in (
      λ yes'. subst (IsRelevant problem tables wanted stack) (sym c.requires.entry)
          (relevance_macro problem tables wanted stack c.args.prefix.now.number c.args.prefix.now.count table c.requires.prefix.table is_table
          c.args.sigma.now c.requires.sigma
          (subst (λ (e : Entry). ¬ Contains stack e) c.requires.entry
          (said_no c.is_stacked.result c.is_stacked.ensures c.if-is_stacked.false)) (adds.0 yes')),
      λ relevant. adds.1 (macro_adds problem tables wanted stack c.args.prefix.now.number c.args.prefix.now.count table c.requires.prefix.table
          is_table c.args.sigma.now (subst (IsRelevant problem tables wanted stack) c.requires.entry relevant)),
    )
