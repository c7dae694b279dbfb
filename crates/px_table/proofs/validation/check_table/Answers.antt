use Rattle.std.proofs.Common.{map, arith}
use Rattle.std.proofs.lemmas.List.{length-map}
use Rattle.px_proof.specs.ProofTerm.{derivation_of}
use Rattle.px_proof.specs.Proves.{IsObjectOrParameter}
use Rattle.px_table.specs.KernelLaws.{kernels_carry}
use Rattle.px_table.specs.TableLaws.{is-marked}
use Rattle.px_table.specs.Tables.{rows_of}
use Rattle.px_table.proofs.RowSteps.{rows_length}
use Rattle.px_table.proofs.validation.check_table.Goals as goal

pub marks_are_leaves-requires : goal.marks_are_leaves-requires
marks_are_leaves-requires c =
    let t = c.args.table.now in
    let is = c.own_rows_make_table.ensures.0 c.if-own_rows_make_table.true in
    let long =
    rows_length (IsObjectOrParameter c.args.problem.now.objects t.params) c.args.problem.now t.params t.goal t.goal_variable_count t.steps
    (rows_of t.proofs) is.prove in
    omega (arith, long, is.in_range.short, length-map t.proofs (map derivation_of))

pub returns-then-own_rows_make_table-clause-carries : goal.returns-then-own_rows_make_table-clause-carries
returns-then-own_rows_make_table-clause-carries c =
    λ holds. kernels_carry c.args.problem.now c.args.table.now
    (is-marked c.args.problem.now c.args.table.now (c.own_rows_make_table.ensures.0 c.if-own_rows_make_table.true)
    (c.marks_are_leaves.ensures.0 holds))
