use Rattle.std.proofs.Common.{length, map, arith}
use Rattle.std.proofs.lemmas.List.{length-map}
use Rattle.px_base.specs.Answers.{both_answers}
use Rattle.px_proof.specs.ProofTerm.{derivation_of}
use Rattle.px_edit.proofs.EditLimits.{deep-by, many-by}
use Rattle.px_edit.proofs.KeptParts.{table-rows, within}
use Rattle.px_edit.proofs.editing.edit_kept.Goals as goal

pub has_high_row-requires-clause-rows : goal.has_high_row-requires-clause-rows
has_high_row-requires-clause-rows c =
    omega (
      arith,
      table-rows c.args.problem.now c.args.table.now c.requires.table,
      length-map c.args.table.now.proofs (map derivation_of),
    )

pub has_high_row-requires-clause-numbers : goal.has_high_row-requires-clause-numbers
has_high_row-requires-clause-numbers c =
    within c.args.problem.now c.requires.problem c.args.table.now c.requires.table c.args.prefix c.args.wanted.now c.requires.editable
    c.args.kept.now c.requires.kept

pub returns-then-has_high_row-clause-refused : goal.returns-then-has_high_row-clause-refused
returns-then-has_high_row-clause-refused c = (
  λ many. omega (
    arith,
    many-by c.args.table.now c.args.wanted.now c.args.kept.now c.requires.kept many,
    c.if-kept-gt-MOST_STEPS.false,
  ),
  (c.args.kept.now, c.requires.kept, c.has_high_row.ensures.0 c.if-has_high_row.true),
)

pub returns-in-Ok-clause-allowed : goal.returns-in-Ok-clause-allowed
returns-in-Ok-clause-allowed c = record {
  few = λ many. omega (
    arith,
    many-by c.args.table.now c.args.wanted.now c.args.kept.now c.requires.kept many,
    c.if-kept-gt-MOST_STEPS.false,
  );
  low = λ deep. both_answers _ c.if-has_high_row.false
      (c.has_high_row.ensures.1 (deep-by c.args.table.now c.args.wanted.now c.args.kept.now c.requires.kept deep));
}
