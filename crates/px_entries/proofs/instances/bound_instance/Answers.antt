use Rattle.std.proofs.Common.{◌<◌, ◌-◌, ℕ, take, get_or, sym, subst, arith}
use Rattle.std.proofs.lemmas.List.{get_or-take}
use Rattle.std.specs.List.{insert}
use Rattle.px_terms.specs.declared.term.Term.TheVariants.{Any}
use Rattle.px_entries.specs.Instances.{IsRenamed}
use Rattle.px_entries.proofs.PartialLemmas.{bound-form, bound-fills, bound-only}
use Rattle.px_entries.proofs.instances.bound_instance.Goals as goal

pub returns-clause-form : goal.returns-clause-form
returns-clause-form c =
    let partial = c.args.partial.now in
    let are : (k : ℕ) → k < partial.variable_count → IsRenamed c.args.variable c.args.object k (get_or (take partial.variable_count c.loop-k.terms) k Any)
    = λ k below. subst (IsRenamed c.args.variable c.args.object k) (sym (get_or-take partial.variable_count c.loop-k.terms k Any below))
    (c.loop-k.invariant.are k (omega (arith, below, c.loop-k-test.false))) in
    bound-form partial (record { inst = c.apply_inst.result; variable_count = partial.variable_count - 1 })
    (take partial.variable_count c.loop-k.terms) c.args.variable c.args.object c.apply_inst.ensures
    (omega (arith, c.requires.variable)) c.requires.variable are

pub returns-clause-fills : goal.returns-clause-fills
returns-clause-fills c =
    let partial = c.args.partial.now in
    let are : (k : ℕ) → k < partial.variable_count → IsRenamed c.args.variable c.args.object k (get_or (take partial.variable_count c.loop-k.terms) k Any)
    = λ k below. subst (IsRenamed c.args.variable c.args.object k) (sym (get_or-take partial.variable_count c.loop-k.terms k Any below))
    (c.loop-k.invariant.are k (omega (arith, below, c.loop-k-test.false))) in
    bound-fills partial (record { inst = c.apply_inst.result; variable_count = partial.variable_count - 1 })
    (take partial.variable_count c.loop-k.terms) c.args.variable c.args.object c.apply_inst.ensures
    (omega (arith, c.requires.variable)) c.requires.variable are c.requires.terms

pub returns-clause-only : goal.returns-clause-only
returns-clause-only c = λ problem full is_object stands.
    let partial = c.args.partial.now in
    let are : (k : ℕ) → k < partial.variable_count → IsRenamed c.args.variable c.args.object k (get_or (take partial.variable_count c.loop-k.terms) k Any)
    = λ k below. subst (IsRenamed c.args.variable c.args.object k) (sym (get_or-take partial.variable_count c.loop-k.terms k Any below))
    (c.loop-k.invariant.are k (omega (arith, below, c.loop-k-test.false))) in
    let r =
    bound-only partial (record { inst = c.apply_inst.result; variable_count = partial.variable_count - 1 })
    (take partial.variable_count c.loop-k.terms) c.args.variable c.args.object c.apply_inst.ensures
    (omega (arith, c.requires.variable)) c.requires.variable are c.requires.terms problem full stands.0 is_object stands.1 in
    (insert stands.0 c.args.variable c.args.object, r.0, r.1)
