use Rattle.std.proofs.Common.{List, Option, map, subst}
use Rattle.std.proofs.lemmas.Bool.{ltb-true}
use Rattle.px_terms.specs.declared.atom.Atom.{Atom}
use Rattle.px_gaps.specs.Bounds.{IsBoundBy}
use Rattle.px_gaps.specs.declared.bounds.Bound.{Bound}
use Rattle.px_gaps.proofs.ListBounds.{few-by_bound}
use Rattle.px_gaps.proofs.bounds.Bounds.has_few.Goals as goal

pub returns-in-Some : goal.returns-in-Some
returns-in-Some c = λ below.
    let problem = c.args.problem.now in
    let preds = map (λ (a : Atom). a.pred) c.args.formula.now in
    let by_table : IsBoundBy c.args.self.now.table preds c.in-Some.bound =
    subst (λ (table : List (Option Bound)). IsBoundBy table preds c.in-Some.bound) c.as_slice.ensures c.in-Some.ensures in
    few-by_bound problem preds c.in-Some.bound (by_table.holds problem problem.height c.requires)
    (ltb-true c.in-Some.bound.unfinished problem.shapes below)
