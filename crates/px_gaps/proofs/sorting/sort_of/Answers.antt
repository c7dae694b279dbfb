use Rattle.std.proofs.Common.{ℕ, subst, sym}
use Rattle.std.specs.Prelude.{slice_index}
use Rattle.px_terms.specs.Sorts.{FitsSort}
use Rattle.px_gaps.proofs.SortedChoices.{first-fits}
use Rattle.px_gaps.proofs.sorting.sort_of.Goals as goal

pub returns : goal.returns
returns c = λ values below fits.
    let sorts = c.args.sorting.now.object_sorts.now in
    subst (λ (sort : ℕ). FitsSort sorts sort (slice_index values c.args.variable)) (sym c.sort_in_step.ensures)
    (first-fits sorts c.args.sorting.now.wanted.now values c.args.terms.now c.args.variable below fits)
