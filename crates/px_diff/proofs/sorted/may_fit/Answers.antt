use Rattle.std.proofs.Common.{◌∙◌, ap, subst, sym}
use Rattle.px_terms.specs.Operators.{schema_of}
use Rattle.px_terms.specs.Sorts.{IsWellSorted}
use Rattle.px_terms.specs.declared.problem.Schema.{Schema}
use Rattle.px_diff.proofs.SortedLemmas.{partial-fits, read-fits}
use Rattle.px_diff.proofs.sorted.may_fit.Goals as goal

pub returns : goal.returns
returns c = λ none full stands fits.
    let problem = c.args.problem.now in
    let partial = c.args.partial.now in
    c.objects_may_stand.ensures none stands.0 (read-fits problem.object_sorts (schema_of problem partial.inst).param_sorts
    c.as_slice.result.now c.as_slice-2.result.now stands.0 partial.inst.args c.args-2.result.now c.as_slice.ensures
    (c.as_slice-2.ensures ∙ ap (λ (schema : Schema). schema.param_sorts) c.schema_of.ensures.schema) c.args-2.ensures.value
    (partial-fits problem partial stands.0 (subst (IsWellSorted problem) (sym stands.1.same) fits)))
