use Rattle.px_causes.proofs.Common.{sym, subst, declared_of}
use Rattle.px_terms.specs.Validity.{IsValid}
use Rattle.px_so_far.specs.SoFarViews.{table_view}
use Rattle.px_so_far.proofs.ProblemLemmas.{table-problem}
use Rattle.px_causes.proofs.closing.has_bad_table.Goals as goal

pub problem_here-requires : goal.problem_here-requires
problem_here-requires c = record {
  problem = table-problem (declared_of c.args.so_far.now) c.in-Some.table.now.has_goal (table_view c.in-Some.table.now)
      (rw c.in-Some.is at c.open_table.ensures) c.requires;
}

pub is_bad-bad-requires : goal.is_bad-bad-requires
is_bad-bad-requires c = record {
  valid = subst IsValid (sym c.in_ok-problem-in-Some.ensures)
      (table-problem (declared_of c.args.so_far.now) c.in-Some.table.now.has_goal (table_view c.in-Some.table.now)
      (rw c.in-Some.is at c.open_table.ensures) c.requires).valid;
}
