use Rattle.std.proofs.Common.{ℕ, ◌<◌}
use Rattle.std.specs.Prelude.{slice_index, slice_index_or}
use Rattle.px_terms.specs.Sorts.{IsOfSort}
use Rattle.px_terms.specs.declared.term.Term.TheVariants.{Any}
use Rattle.px_table.proofs.well_sorted.may_stand.Given as goal

abbrev pub invariant-loop-place : goal.invariant-loop-place
invariant-loop-place l = (k : ℕ) → k < l.place → IsOfSort l.sorts l.param_sorts (slice_index l.wanted k) (slice_index_or l.args k Any)
