use Rattle.std.proofs.Common.{map, refl}
use Rattle.px_proof.specs.ProofTerm.{derivation_of}
use Rattle.px_proof.specs.Substitution.{derivation_under}
use Rattle.px_support.proofs.GraftSteps.{are_firsts, if_grafted}
use Rattle.px_support.proofs.grafts.learned_row.Goals as goal

pub grafted_row-requires-clause-firsts : goal.grafted_row-requires-clause-firsts
grafted_row-requires-clause-firsts c =
    are_firsts c.args.graft.now c.args.facts.now.atoms c.in-Ok.answer.objects c.in-Ok.answer.proofs c.as_slice.result.now c.as_slice.ensures
    c.requires.graft.valid c.requires.graft.formula c.in-Ok.ensures.first

pub returns-in-Ok : goal.returns-in-Ok
returns-in-Ok c =
    if_grafted c.args.graft.now c.args.facts.now.atoms c.in-Ok.answer.objects c.in-Ok.answer.proofs c.as_slice.result.now c.as_slice.ensures
    c.requires.graft.valid c.requires.graft.formula c.in-Ok.ensures.first
    (map (derivation_under c.args.graft.now.terms.now) (map derivation_of c.args.proofs.now)) c.grafted_row.result c.grafted_row.ensures

pub unreachable-requires : goal.unreachable-requires
unreachable-requires c = (rw c.in-Err-Unprovable.field-0-is at c.in-Err-Unprovable.ensures.none) refl c.requires.findable.answer

pub unreachable-requires-in-Err-ShapeLimit : goal.unreachable-requires-in-Err-ShapeLimit
unreachable-requires-in-Err-ShapeLimit c =
    c.requires.findable.below _ (rw c.in-Err-ShapeLimit.field-0-is at c.in-Err-ShapeLimit.ensures.limited)
