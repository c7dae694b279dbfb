use Rattle.std.proofs.Common.{◌≡◌, ◌∙◌, List, subst, sym}
use Rattle.std.specs.Prelude.{All, OnOk}
use Rattle.px_terms.specs.declared.instance.OpInst.{OpInst}
use Rattle.px_terms.specs.Operators.{results_of}
use Rattle.px_terms.specs.Validity.{IsGroundInstanceOf}
use Rattle.px_search.proofs.EffectLaws.{effect-ground}
use Rattle.px_search.proofs.effects.apply_entry.Goals as goal

pub apply_steps-requires-clause-steps : goal.apply_steps-requires-clause-steps
apply_steps-requires-clause-steps c =
    subst (All (IsGroundInstanceOf c.args.asked.now.problem.now)) (sym (c.as_slice.ensures.value ∙ c.in_ok-steps.ensures))
    (effect-ground c.args.asked.now.problem.now c.args.asked.now.tables.now c.requires.asked.tables c.args.entry.now c.requires.entry)

pub returns : goal.returns
returns c =
    subst (λ (steps : List OpInst). OnOk c.apply_steps.result
    (c.apply_steps.new.model.atoms ≡ results_of c.args.asked.now.problem.now c.args.model.now.atoms steps))
    (c.as_slice.ensures.value ∙ c.in_ok-steps.ensures) c.apply_steps.ensures
