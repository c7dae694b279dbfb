use Rattle.std.proofs.Common.{List, map, refl, sym, subst}
use Rattle.std.specs.Prelude.{All}
use Rattle.px_proof.specs.declared.proof.Proof.{Proof}
use Rattle.px_proof.specs.ProofTerm.{derivation_of}
use Rattle.px_support.specs.Sources.{HasFirstLeaves}
use Rattle.px_support.proofs.RowSteps.{if_first_row}
use Rattle.px_support.proofs.SourceLaws.{first-leaves}
use Rattle.px_support.proofs.rows.first_row.Goals as goal

pub sourced_row-requires-clause-leaves : goal.sourced_row-requires-clause-leaves
sourced_row-requires-clause-leaves c =
    subst (λ (ps : List Proof). All HasFirstLeaves (map derivation_of ps)) (sym c.as_slice.ensures)
    (first-leaves c.args.problem.now c.args.model.now.atoms c.args.formula.now c.args.variable_count c.in-Ok.answer.objects
    (map derivation_of c.in-Ok.answer.proofs) c.requires.problem c.requires.formula c.in-Ok.ensures.first)

pub returns-in-Ok : goal.returns-in-Ok
returns-in-Ok c =
    if_first_row c.args.problem.now c.args.steps.now c.args.model.now.atoms c.args.formula.now c.args.variable_count c.in-Ok.answer.objects
    c.in-Ok.answer.proofs c.as_slice.result.now c.sourced_row.result c.as_slice.ensures c.in-Ok.ensures.first c.sourced_row.ensures

pub unreachable-requires : goal.unreachable-requires
unreachable-requires c = (rw c.in-Err-Unprovable.field-0-is at c.in-Err-Unprovable.ensures.none) refl c.requires.findable.answer

pub unreachable-requires-in-Err-ShapeLimit : goal.unreachable-requires-in-Err-ShapeLimit
unreachable-requires-in-Err-ShapeLimit c =
    c.requires.findable.below _ (rw c.in-Err-ShapeLimit.field-0-is at c.in-Err-ShapeLimit.ensures.limited)
