use Rattle.std.proofs.Common.{ℕ, ◌<◌}
use Rattle.std.specs.Prelude.{slice_index, slice_index_or}
use Rattle.px_terms.specs.Language.{object_of}
use Rattle.px_terms.specs.Sorts.{FitsSort}
use Rattle.px_terms.specs.declared.term.Term.TheVariants.{Any}
use Rattle.px_terms.proofs.sorts.are_of_sorts.Given as goal

abbrev pub invariant-loop-place : goal.invariant-loop-place
invariant-loop-place l = (k : ℕ) → k < l.place → FitsSort l.sorts (slice_index l.wanted k) (object_of (slice_index_or l.args k Any))
