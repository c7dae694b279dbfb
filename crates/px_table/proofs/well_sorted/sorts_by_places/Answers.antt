use Rattle.std.proofs.Common.{◌++◌, ◌∷◌, [], map, sym, ap, ◌∙◌, arith}
use Rattle.std.specs.Prelude.{List, ℕ}
use Rattle.std.specs.List.{range_with_len}
use Rattle.std.proofs.lemmas.List.FromFn.{map-range_with_len_more}
use Rattle.px_table.specs.WellSorted.{first_sort, sort_places}
use Rattle.px_table.proofs.well_sorted.sorts_by_places.Goals as goal

pub loop-parameter-preserved : goal.loop-parameter-preserved
loop-parameter-preserved c =
    let sort_of = first_sort (sort_places c.args.problem.now c.args.steps.now) in
    c.in_ok-push.ensures.items ∙ ap (λ (l : List ℕ). l ++ c.sort_by_places.result ∷ []) c.loop-parameter.invariant
    ∙ ap (λ (n : ℕ). map sort_of (range_with_len 0 c.loop-parameter.parameter) ++ n ∷ []) c.sort_by_places.ensures
    ∙ sym (map-range_with_len_more sort_of 0 c.loop-parameter.parameter c.loop-parameter.parameter (omega arith))
