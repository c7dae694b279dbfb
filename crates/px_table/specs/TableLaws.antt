-- A table is one with the marks of its rows.
use Rattle.std.specs.Prelude.{◌≡◌, All}
use Rattle.std.proofs.Common.{refl, sym, subst}
use Rattle.px_terms.specs.declared.problem.Problem.{Problem}
use Rattle.px_terms.specs.Validity.{IsAtomOf}
use Rattle.px_table.specs.declared.mark.Mark.{Mark}
use Rattle.px_table.specs.declared.table.Table.{Table}
use Rattle.px_table.specs.Marks.{IsNamed, marks_from}
use Rattle.px_table.specs.Tables.{IsTable, rows_of, table_of_rows}

-- the table with the marks of its rows in place of its own
abbrev pub marked_anew : Table → Table
marked_anew table = table_of_rows table.params table.param_sorts table.steps table.goal table.goal_variable_count table.proofs

pub marked-is : (problem : Problem) (table : Table) → IsTable problem table → IsTable problem (marked_anew table)
marked-is problem table is = record {
  in_range = record { short = is.in_range.short; steps = is.in_range.steps; goal = is.in_range.goal };
  prove = is.prove;
  marks = refl;
  atoms = subst (All (λ (mark : Mark). IsAtomOf problem table.params mark.atom)) is.marks is.atoms;
  named = subst (All (IsNamed problem table.steps)) is.marks is.named;
  sorted = record { count = is.sorted.count; sorts = is.sorted.sorts; steps = is.sorted.steps };
}

pub is-marked : (problem : Problem) (table : Table) → IsTable problem (marked_anew table)
    → table.marks ≡ marks_from 1 (rows_of table.proofs)
    → IsTable problem table
is-marked problem table is marks = record {
  in_range = record { short = is.in_range.short; steps = is.in_range.steps; goal = is.in_range.goal };
  prove = is.prove;
  marks = marks;
  atoms = subst (All (λ (mark : Mark). IsAtomOf problem table.params mark.atom)) (sym marks) is.atoms;
  named = subst (All (IsNamed problem table.steps)) (sym marks) is.named;
  sorted = record { count = is.sorted.count; sorts = is.sorted.sorts; steps = is.sorted.steps };
}
