use Rattle.std.proofs.Common.{◌+◌, List, drop, refl, subst, take}
use Rattle.std.specs.Prelude.{remove}
use Rattle.px_terms.specs.declared.clause.Lit.{Lit}
use Rattle.px_gaps.specs.Bounds.{IsBoundBefore, IsBoundBy}
use Rattle.px_gaps.specs.declared.bounds.Bound.{Bound}
use Rattle.px_gaps.proofs.BoundLoops.{parts-by, preds_of, rest_from}
use Rattle.px_base.proofs.Loops.{some_map}
use Rattle.px_gaps.proofs.bounds.bound_of_parts.Goals as goal

abbrev empty : Bound
empty = record { unfinished = 0; finished = 1 }

pub returns : goal.returns
returns c =
    let table = c.args.table.now in
    let lits = c.args.lits.now in
    let place = c.args.place in
    let last = c.in_ok-last.last in
    let later : IsBoundBefore table (preds_of (drop (place + 1) lits)) empty last =
    subst (λ (left : List Lit). IsBoundBefore table (preds_of left) empty last) (rest_from lits (place + 1)) c.in_ok-last.ensures in
    some_map (IsBoundBefore table (preds_of (take place lits)) last)
    (IsBoundBy table (preds_of (remove lits place))) c.bound_before-2.result
    (λ both earlier. parts-by table lits place empty last both refl later earlier) c.bound_before-2.ensures
