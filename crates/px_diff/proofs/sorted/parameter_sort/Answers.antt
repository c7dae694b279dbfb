use Rattle.std.proofs.Common.{◌∙◌, ℕ, List, ap, arith, subst}
use Rattle.std.specs.Prelude.{slice_index}
use Rattle.px_terms.specs.Operators.{schema_of}
use Rattle.px_terms.specs.Sorts.{FitsSort}
use Rattle.px_terms.specs.declared.problem.Schema.{Schema}
use Rattle.px_diff.proofs.SortedLemmas.{args-fit, read-fits, read-step-fits}
use Rattle.px_diff.proofs.sorted.parameter_sort.Goals as goal

pub returns-then-sort-ne0 : goal.returns-then-sort-ne0
returns-then-sort-ne0 c = λ sigma is within.
    let prefix = c.args.prefix.now in
    let problem = prefix.request.problem.now in
    let step = c.index-as_slice-place.result in
    let wanted = (schema_of problem step).param_sorts in
    let fits =
    read-step-fits problem prefix.table.now prefix.count sigma is c.as_slice.result.now c.loop-place.place step c.as_slice.ensures
    c.index-as_slice-place.is (omega (arith, c.loop-place-test.true)) in
    subst (λ (sorts : List ℕ). FitsSort sorts c.sort_of-sort.result (slice_index sigma c.args.parameter)) c.as_slice-in-loop-place.ensures
    (c.sort_of-sort.ensures sigma within (read-fits problem.object_sorts wanted c.as_slice-in-loop-place.result.now
    c.as_slice-in-loop-place-2.result.now sigma step.args c.args-in-loop-place.result.now c.as_slice-in-loop-place.ensures
    (c.as_slice-in-loop-place-2.ensures ∙ ap (λ (schema : Schema). schema.param_sorts) c.schema_of.ensures.schema)
    c.args-in-loop-place.ensures.value (args-fit problem.object_sorts wanted sigma step.args fits)))
