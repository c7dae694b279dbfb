use Rattle.std.proofs.Common.{◌≡◌, ℕ, List, length, sym, subst, arith}
use Rattle.px_question.specs.Settings.{setting_of}
use Rattle.px_terms.specs.declared.term.Term.{Term}
use Rattle.px_diff.specs.RowQuestions.{AreRowsKnown}
use Rattle.px_diff.proofs.RowSplitting.{rows-next, rows-none}
use Rattle.px_diff.proofs.row_questions.choices_of_rows.Goals as goal

pub loop-place-init : goal.loop-place-init
loop-place-init c =
    rows-none (setting_of c.args.problem.now c.args.model.now.atoms) c.args.table.now c.args.terms.now c.new-rows.result.items
    c.new-limited_rows.result.items c.new-rows.ensures.items c.new-limited_rows.ensures.items

pub loop-place-preserved : goal.loop-place-preserved
loop-place-preserved c =
    rows-next (setting_of c.args.problem.now c.args.model.now.atoms) c.args.table.now c.args.terms.now c.loop-place.place
    c.loop-place.rows.items c.loop-place.limited_rows.items c.push.new.items.items c.push-in-loop-place.new.items.items
    c.in_ok-choices.field-0.choices c.in_ok-choices.field-0.limited c.loop-place.invariant
    c.in_ok-choices.ensures c.in_ok-push.ensures.ok c.in_ok-push-2.ensures.ok

pub returns-clause-rows : goal.returns-clause-rows
returns-clause-rows c =
    let s = setting_of c.args.problem.now c.args.model.now.atoms in
    let table = c.args.table.now in
    let terms = c.args.terms.now in
    let done : c.loop-place.place ≡ length table.steps = omega (arith, c.loop-place-test.false, c.loop-place.auto.place-end) in
    subst (λ (l : List (List (List Term))). AreRowsKnown s table terms (length table.steps) l c.from_vec-2.result) (sym c.from_vec.ensures)
    (subst (λ (l : List (List (List Term))). AreRowsKnown s table terms (length table.steps) c.loop-place.rows.items l)
    (sym c.from_vec-2.ensures)
    (subst (λ (n : ℕ). AreRowsKnown s table terms n c.loop-place.rows.items c.loop-place.limited_rows.items) done c.loop-place.invariant))
