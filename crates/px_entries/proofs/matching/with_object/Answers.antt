use Rattle.std.proofs.Common.{◌<◌, ◌∙◌, ℕ, sym, ap, subst, inl, inr, arith}
use Rattle.px_terms.specs.declared.term.Term.TheVariants.{Obj}
use Rattle.px_entries.proofs.Covering.{object_is, object_within, not_other}
use Rattle.px_entries.proofs.PartialLemmas.{object_at}
use Rattle.px_entries.proofs.matching.with_object.Goals as goal

pub returns-then-object-problem-clause-stands : goal.returns-then-object-problem-clause-stands
returns-then-object-problem-clause-stands c = λ full objects fills is.
    c.bound_instance.ensures.fills c.args.problem.now full objects fills
    (object_is c.args.problem.now c.args.partial.now full objects c.args.variable c.in-Obj.object c.args.wanted fills
    c.requires.variable is c.in-Obj.is)

pub returns-else-object-problem-clause-stands : goal.returns-else-object-problem-clause-stands
returns-else-object-problem-clause-stands c = λ full objects fills is.
    let same =
    object_is c.args.problem.now c.args.partial.now full objects c.args.variable c.in-Obj.object c.args.wanted fills c.requires.variable
    is c.in-Obj.is in
    let within = object_within c.args.problem.now c.args.partial.now full objects c.args.variable fills c.requires.variable in
    omega (arith, subst (λ (n : ℕ). n < c.args.problem.now.objects) same within, c.if-object-problem.false)

pub returns-in-Var : goal.returns-in-Var
returns-in-Var c = record {
  form = tt;
  count = tt;
  only = tt;
  stands = λ full objects fills is.
      let never = not_other c.args.problem.now c.args.partial.now full objects c.args.variable c.args.wanted fills c.requires.variable is in
      elim c.in-Var.is [ inl a ↦ never.1 a.0 a.1 | inr b ↦ never.0 b ];
}

pub returns-then-object-problem-clause-only : goal.returns-then-object-problem-clause-only
returns-then-object-problem-clause-only c = λ full stands.
    let r = c.bound_instance.ensures.only c.args.problem.now full c.if-object-problem.true stands in
    (r.0, r.1, object_at r.0 c.args.variable (omega (arith, c.requires.variable, r.1.count)) ∙ ap (λ n. Obj n) r.2 ∙ sym c.in-Obj.is)
