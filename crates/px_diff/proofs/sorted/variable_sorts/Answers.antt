use Rattle.std.proofs.Common.{◌∙◌, ◌<◌, ℕ, List, ap, arith, subst}
use Rattle.std.specs.Prelude.{slice_index}
use Rattle.std.proofs.lemmas.List.{length-set}
use Rattle.px_terms.specs.Operators.{schema_of}
use Rattle.px_terms.specs.Sorts.{FitsSort}
use Rattle.px_terms.specs.declared.problem.Schema.{Schema}
use Rattle.px_diff.proofs.SortedLemmas.{partial-fits, read-fits, set-next}
use Rattle.px_diff.proofs.sorted.variable_sorts.Goals as goal

pub loop-variable-preserved : goal.loop-variable-preserved
loop-variable-preserved c =
    let problem = c.args.problem.now in
    let partial = c.args.partial.now in
    let few : c.loop-variable.variable < partial.variable_count = c.loop-variable-test.true in
    record {
      long = length-set c.loop-variable.sorts c.loop-variable.variable c.sort_of.result ∙ c.loop-variable.invariant.long;
      fits = λ objects are well_sorted.
          set-next c.loop-variable.sorts objects problem.object_sorts c.loop-variable.variable c.sort_of.result
          (omega (arith, few, c.requires.partial.few, c.loop-variable.invariant.long))
          (c.loop-variable.invariant.fits objects are well_sorted)
          (subst (λ (sorts : List ℕ). FitsSort sorts c.sort_of.result (slice_index objects c.loop-variable.variable)) c.as_slice.ensures
          (c.sort_of.ensures objects (omega (arith, few, are.count))
          (read-fits problem.object_sorts (schema_of problem partial.inst).param_sorts c.as_slice.result.now c.as_slice-2.result.now objects
          partial.inst.args c.args-in-loop-variable.result.now c.as_slice.ensures
          (c.as_slice-2.ensures ∙ ap (λ (schema : Schema). schema.param_sorts) c.schema_of.ensures.schema)
          c.args-in-loop-variable.ensures.value (partial-fits problem partial objects well_sorted))));
    }
