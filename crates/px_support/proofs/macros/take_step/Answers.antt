use Rattle.std.proofs.Common.{◌∙◌, ◌≤◌, ◌+◌, List, length, arith, refl, sym, subst}
use Rattle.std.specs.Prelude.{All}
use Rattle.px_base.specs.Bounds.{u32_max}
use Rattle.px_terms.specs.declared.atom.Atom.{Atom}
use Rattle.px_terms.specs.declared.instance.OpInst.{OpInst}
use Rattle.px_terms.specs.Validity.{IsAtomOf, IsGroundInstanceOf}
use Rattle.px_entries.proofs.RowSteps.{initial-are_of, marks-variables, steps-ground, steps-variables}
use Rattle.px_support.specs.Asking.{IsFindable}
use Rattle.px_support.proofs.MacroGoing.{graftable-all, row-within, step-taken}
use Rattle.px_support.proofs.macros.take_step.Goals as goal

pub step_under-step-requires-clause-place : goal.step_under-step-requires-clause-place
step_under-step-requires-clause-place c = omega (arith, c.requires.place, c.requires.learned.is_macro.within)

pub step_under-step-requires-clause-steps : goal.step_under-step-requires-clause-steps
step_under-step-requires-clause-steps c =
    steps-variables c.args.asked.now.problem.now c.args.learned.now.table.now c.args.learned.now.sigma.now c.requires.learned.table
    c.requires.learned.is_macro.count

pub initial_of-requires : goal.initial_of-requires
initial_of-requires c =
    record {
      marks = marks-variables c.args.asked.now.problem.now c.args.learned.now.table.now c.args.learned.now.sigma.now
          c.requires.learned.table c.requires.learned.is_macro.count;
    }

pub proofs_at-requires : goal.proofs_at-requires
proofs_at-requires c = row-within c.args.asked.now.problem.now c.args.learned.now c.requires.learned c.args.place c.requires.place

pub learned_row-requires-clause-graft : goal.learned_row-requires-clause-graft
learned_row-requires-clause-graft c = record {
  valid = c.requires.asked.valid;
  all_ground = subst (All (IsGroundInstanceOf c.args.asked.now.problem.now)) (sym c.deref.ensures.value) c.requires.steps;
  short = subst (λ (s : List OpInst). length s ≤ u32_max) (sym c.deref.ensures.value) c.requires.short;
  formula = subst (All (IsAtomOf c.args.asked.now.problem.now 0)) (sym (c.deref-2.ensures.value ∙ c.in_ok-formula.ensures))
      (initial-are_of c.args.asked.now.problem.now c.args.learned.now.table.now c.args.learned.now.prefix c.args.learned.now.sigma.now
      c.requires.learned.table c.requires.learned.is_macro (c.args.place + 1) (omega (arith, c.requires.place)));
}

pub learned_row-requires-clause-proofs : goal.learned_row-requires-clause-proofs
learned_row-requires-clause-proofs c =
    graftable-all c.args.asked.now.problem.now c.args.learned.now c.requires.learned c.args.place c.proofs_at.result.now
    c.deref-2.result.now c.requires.place c.proofs_at.ensures (c.deref-2.ensures.value ∙ c.in_ok-formula.ensures)

pub learned_row-requires-clause-findable : goal.learned_row-requires-clause-findable
learned_row-requires-clause-findable c =
    subst (λ (formula : List Atom). IsFindable c.args.asked.now.problem.now
    (record { formula = formula; variable_count = 0; facts = c.args.within.facts.atoms }))
    (sym (c.deref-2.ensures.value ∙ c.in_ok-formula.ensures)) c.requires.findable

pub left_of-requires-clause-inst : goal.left_of-requires-clause-inst
left_of-requires-clause-inst c =
    steps-ground c.args.asked.now.problem.now c.args.learned.now.table.now c.args.learned.now.sigma.now c.args.place
    c.step_under-step.result c.requires.learned.table c.requires.learned.is_macro.count
    (omega (arith, c.requires.place, c.requires.learned.is_macro.within)) c.step_under-step.ensures

pub apply_to-requires-clause-inst : goal.apply_to-requires-clause-inst
apply_to-requires-clause-inst c =
    steps-ground c.args.asked.now.problem.now c.args.learned.now.table.now c.args.learned.now.sigma.now c.args.place
    c.step_under-step.result c.requires.learned.table c.requires.learned.is_macro.count
    (omega (arith, c.requires.place, c.requires.learned.is_macro.within)) c.step_under-step.ensures

pub returns : goal.returns
returns c =
    step-taken c.args.asked.now.problem.now c.args.learned.now c.requires.learned c.args.place c.args.within _ c.step_under-step.result
    c.proofs_at.result.now c.in_ok-row.row c.deref.result.now c.step_under-step.ensures c.proofs_at.ensures
    c.deref.ensures.value c.in_ok-row.ensures c.in_ok-push-2.ensures.ok c.in_ok-push.ensures.ok c.in_ok-apply_to.ensures.ok
    c.in_ok-facts.ensures refl
