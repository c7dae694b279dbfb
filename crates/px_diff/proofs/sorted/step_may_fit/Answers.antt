use Rattle.std.proofs.Common.{◌∙◌, ap, length, map}
use Rattle.px_terms.specs.Language.{substitute}
use Rattle.px_terms.specs.Operators.{schema_of}
use Rattle.px_terms.specs.declared.instance.OpInst.{OpInst}
use Rattle.px_terms.specs.declared.problem.Schema.{Schema}
use Rattle.px_gaps.proofs.Substituting.{term_variable}
use Rattle.px_diff.proofs.SortedLemmas.{chosen-fits, read-fits}
use Rattle.px_diff.proofs.sorted.step_may_fit.Goals as goal

pub returns : goal.returns
returns c = λ none sigma extends fits.
    let problem = c.args.problem.now in
    let step = c.args.step.now in
    let terms = c.args.terms.now in
    c.objects_may_stand.ensures none sigma (read-fits problem.object_sorts (schema_of problem step).param_sorts c.as_slice.result.now
    c.as_slice-2.result.now sigma (map (substitute terms) step.args) c.args-2.result.now c.as_slice.ensures
    (c.as_slice-2.ensures ∙ ap (λ (schema : Schema). schema.param_sorts) c.schema_of.ensures.schema)
    (c.args-2.ensures.value ∙ ap (λ (inst : OpInst). inst.args) c.apply_inst-here.ensures)
    (chosen-fits problem terms c.requires.binding sigma extends step
    (λ k d below. term_variable problem (length terms) _ (c.requires.step.terms k d below)) fits))
