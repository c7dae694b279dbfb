use Rattle.std.proofs.Common.{◌≡◌, ◌∙◌, ℕ, List, inl, inr, map, subst, sym}
use Rattle.px_terms.specs.declared.atom.Atom.{Atom}
use Rattle.px_gaps.specs.Bounds.{HasFewShapes}
use Rattle.px_entries.specs.Few.{HasFew, initial_patterns}
use Rattle.px_base.proofs.Loops.{level_or_below}
use Rattle.px_entries.proofs.limiting.rows_have_few.Goals as goal

pub loop-row-preserved : goal.loop-row-preserved
loop-row-preserved c row below =
    let problem = c.args.problem.now in
    let table = c.args.table.now in
    let atoms_are : c.deref.result.now ≡ initial_patterns table c.loop-row.row = c.deref.ensures.value ∙ c.in_ok-atoms.ensures in
    let here : HasFew problem (initial_patterns table c.loop-row.row) =
    subst (λ (l : List Atom). HasFewShapes problem (map (λ (a : Atom). a.pred) l)) atoms_are
    (c.has_few.ensures c.if-not-has_few.false) in
    elim (level_or_below row c.loop-row.row below) [
      | inl before ↦ c.loop-row.invariant row before
      | inr level ↦ subst (λ (n : ℕ). HasFew problem (initial_patterns table n)) (sym level) here
    ]
