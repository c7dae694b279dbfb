use Rattle.std.proofs.Common.{◌∙◌, List, map, refl, sym, subst}
use Rattle.std.specs.Prelude.{All}
use Rattle.px_terms.specs.declared.atom.Atom.{Atom}
use Rattle.px_terms.specs.Operators.{precondition}
use Rattle.px_terms.specs.Validity.{IsAtomOf, IsGroundInstanceOf}
use Rattle.px_terms.specs.ValidityLaws.{instance-is_ground, precondition-is_of}
use Rattle.px_proof.specs.ProofTerm.{derivation_of}
use Rattle.px_support.specs.Asking.{IsFindable}
use Rattle.px_support.proofs.GoingLaws.{applied-instance}
use Rattle.px_support.proofs.RowSteps.{first_row-here, rows-push}
use Rattle.px_support.proofs.walk.apply_instance.Goals as goal

pub first_row-requires-clause-steps : goal.first_row-requires-clause-steps
first_row-requires-clause-steps c =
    subst (All (IsGroundInstanceOf c.args.asked.now.problem.now)) (sym c.deref.ensures.value) c.requires.room.all_ground

pub first_row-requires-clause-formula : goal.first_row-requires-clause-formula
first_row-requires-clause-formula c =
    subst (All (IsAtomOf c.args.asked.now.problem.now 0)) (sym (c.deref-2.ensures.value ∙ c.in_ok-formula.ensures))
    (precondition-is_of c.args.asked.now.problem.now c.args.inst.now c.requires.asked.valid c.requires.inst)

pub first_row-requires-clause-findable : goal.first_row-requires-clause-findable
first_row-requires-clause-findable c =
    subst (λ (formula : List Atom). IsFindable c.args.asked.now.problem.now
    (record { formula = formula; variable_count = 0; facts = c.args.walk.model.atoms }))
    (sym (c.deref-2.ensures.value ∙ c.in_ok-formula.ensures)) c.requires.findable

pub apply_to-requires-clause-inst : goal.apply_to-requires-clause-inst
apply_to-requires-clause-inst c = instance-is_ground c.args.asked.now.problem.now c.args.inst.now c.requires.inst

pub returns : goal.returns
returns c =
    applied-instance c.args.asked.now.problem.now c.args.asked.now.tables.now c.args.inst.now c.args.walk _
    (map derivation_of c.in_ok-row.row) refl c.in_ok-apply_to.ensures.ok c.in_ok-push.ensures.ok
    (first_row-here c.args.asked.now.problem.now c.args.walk.steps.items c.deref.result.now c.args.walk.model.atoms
    (precondition c.args.asked.now.problem.now c.args.inst.now) c.deref-2.result.now 0 (map derivation_of c.in_ok-row.row)
    c.deref.ensures.value (c.deref-2.ensures.value ∙ c.in_ok-formula.ensures) c.in_ok-row.ensures)
    (rows-push c.args.walk.rows.items c.push-2.new.items.items c.in_ok-row.row c.in_ok-push-2.ensures.ok)
