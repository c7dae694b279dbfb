use Rattle.px_base.specs.Bounds.{u32_max}
use Rattle.px_so_far.proofs.Common.{◌≤◌, ◌∙◌, ap, sym, subst, length, list_any, both_answers}
use Rattle.px_table.specs.Marks.{marks_from}
use Rattle.px_table.specs.Tables.{rows_of}
use Rattle.px_table.specs.WellSorted.{sorts_by_places}
use Rattle.px_so_far.proofs.TableEnds.{is_wide, made-is, not-wide, rows-few}
use Rattle.px_so_far.proofs.open_tables.OpenTable.made.Goals as goal

pub unreachable-requires : goal.unreachable-requires
unreachable-requires c =
    let wide = rw (c.in_default.is, c.deref.ensures.value) at c.in_ok-steps.ensures in
    both_answers (list_any is_wide c.args.self.steps.items) (not-wide c.args.problem.now c.requires.valid c.args.self c.requires.good) wide

pub marks-requires : goal.marks-requires
marks-requires c = subst (λ rows. length rows ≤ u32_max) (sym c.deref-3.ensures.value)
    (rows-few c.args.problem.now c.requires.valid c.args.self c.requires.good)

pub returns : goal.returns
returns c = made-is c.args.problem.now c.args.self c.from_vec.result c.from_vec-2.result c.in_ok-marks.marks c.from_vec-3.result
    c.in_ok-param_sorts.param_sorts
    (c.from_vec.ensures ∙ (rw (c.in-Some.is, c.deref.ensures.value) at c.in_ok-steps.ensures)) c.from_vec-2.ensures
    (c.in_ok-marks.ensures ∙ ap (λ rows. marks_from 1 (rows_of rows)) c.deref-3.ensures.value) c.from_vec-3.ensures
    (c.in_ok-param_sorts.ensures ∙ ap (λ steps. sorts_by_places c.args.problem.now steps c.args.self.parameters)
    (c.deref-2.ensures.value ∙ sym c.from_vec.ensures))
