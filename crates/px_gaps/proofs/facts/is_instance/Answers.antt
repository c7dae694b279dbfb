use Rattle.std.proofs.Common.{◌≡◌, ◌∙◌, List, ap, length, subst, sym, arith}
use Rattle.std.specs.Prelude.{All}
use Rattle.px_terms.specs.Language.{IsObjectBelow}
use Rattle.px_terms.specs.OrderLaws.{atom_eq-decides}
use Rattle.px_terms.specs.Substitution.{substitute_atom}
use Rattle.px_terms.specs.declared.term.Term.{Term}
use Rattle.px_gaps.proofs.FactLemmas.{instance-from, instance-objects, instance-own}
use Rattle.px_base.specs.Answers.{both_answers}
use Rattle.px_gaps.proofs.facts.is_instance.Goals as goal

pub returns-then-are_objects_below : goal.returns-then-are_objects_below
returns-then-are_objects_below c =
    let problem = c.args.problem.now in
    let form = c.args.form.now in
    let q = c.args.fact.now in
    let own : c.apply.result ≡ substitute_atom q.args form =
    c.apply.ensures ∙ ap (λ (ts : List Term). substitute_atom ts form) c.args-objects.ensures.value in
    let decides = atom_eq-decides c.apply.result q in (
      λ yes. instance-from problem form c.requires q
          (omega (arith, c.if-objects-args.false, ap length c.args-objects.ensures.value, ap length c.args-else-pred.ensures.value))
          (subst (All (IsObjectBelow problem.objects)) c.args-objects.ensures.value
          (c.are_objects_below.ensures.0 c.if-are_objects_below.true))
          (sym own ∙ decides.0 (sym c.eq.ensures ∙ yes)),
      λ instance. c.eq.ensures ∙ decides.1 (own ∙ instance-own problem form c.requires q instance),
    )

pub returns-else-are_objects_below : goal.returns-else-are_objects_below
returns-else-are_objects_below c = (
  λ yes. both_answers c.are_objects_below.result c.if-are_objects_below.false yes,
  λ instance. c.are_objects_below.ensures.1 (subst (All (IsObjectBelow c.args.problem.now.objects)) (sym c.args-objects.ensures.value)
      (instance-objects c.args.problem.now c.args.form.now c.requires c.args.fact.now instance)),
)
