use Rattle.std.proofs.Common.{◌↔◌, suc, drop}
use Rattle.std.specs.Prelude.{All}
use Rattle.px_terms.specs.Validity.{IsAtomOf}
use Rattle.px_table.specs.declared.mark.Mark.{Mark}
use Rattle.px_table.specs.Marks.{IsNamed, marks_from}
use Rattle.px_table.specs.Tables.{rows_of}
use Rattle.px_table.proofs.leaf_sources.leaves_are_named.Given as goal

-- what is left to be tested, where the marks of the rows up to here pass
abbrev pub invariant-loop-k : goal.invariant-loop-k
invariant-loop-k l =
    All (λ (mark : Mark). IsAtomOf l.problem l.params mark.atom × IsNamed l.problem l.steps mark) (marks_from (suc l.k) (rows_of (drop l.k l.rows)))
    ↔ All (λ (mark : Mark). IsAtomOf l.problem l.params mark.atom × IsNamed l.problem l.steps mark) (marks_from 1 (rows_of l.rows))
