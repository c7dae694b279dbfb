use Rattle.std.proofs.Common.{map, arith}
use Rattle.std.proofs.lemmas.List.{length-map}
use Rattle.px_proof.specs.ProofTerm.{derivation_of}
use Rattle.px_proof.specs.Proves.{IsObjectOrParameter}
use Rattle.px_table.specs.Tables.{rows_of}
use Rattle.px_table.proofs.RowSteps.{rows_length}
use Rattle.px_table.proofs.validation.meets_each.Goals as goal

pub leaves_are_named-requires-clause-short : goal.leaves_are_named-requires-clause-short
leaves_are_named-requires-clause-short c =
    let in_range = c.are_in_range.ensures.0 c.if-not-are_in_range.false in
    let long =
    rows_length (IsObjectOrParameter c.args.problem.now.objects c.args.params) c.args.problem.now c.args.params c.args.goal.now
    c.args.goal_variable_count c.args.steps.now (rows_of c.args.rows.now) (c.rows_prove.ensures.0 c.if-rows_prove.true) in
    omega (arith, long, in_range.0, length-map c.args.rows.now (map derivation_of))
