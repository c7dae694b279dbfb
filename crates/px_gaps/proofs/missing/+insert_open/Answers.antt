use Rattle.std.proofs.Common.{◌≡◌, ◌∙◌, ◌<◌, List, length, set, sym, subst, arith}
use Rattle.std.proofs.lemmas.Option.{slice_get_within}
use Rattle.px_question.specs.Answers.{object_terms}
use Rattle.px_terms.specs.Substitution.{substitute_atom}
use Rattle.px_terms.specs.declared.term.Term.{Term}
use Rattle.px_terms.specs.declared.term.Term.TheVariants.{Obj, Var}
use Rattle.px_gaps.specs.Bindings.{ArePlain, IsBinding, IsPlain, open_term_count}
use Rattle.px_gaps.proofs.Choosing.{before-all, before-next, before-none, bound-binding, bound-plain, bound-plain_one, count-falls, long-again, met-none, none-open, put-again}
use Rattle.px_gaps.proofs.Describing.{then-same}
use Rattle.px_gaps.proofs.Grows.{grouped, grown, nothing_comes}
use Rattle.px_base.proofs.Loops.{said_yes}
use Rattle.px_gaps.proofs.missing.+insert_open.Goals as goal

pub open_variable-requires-clause-binding : goal.open_variable-requires-clause-binding
open_variable-requires-clause-binding t c = (c.args.avoidance.now.limit, c.requires.bound.binding)

pub meets_under-requires : goal.meets_under-requires
meets_under-requires t c = c.requires.bound.plain

pub returns-then-meets_under : goal.returns-then-meets_under
returns-then-meets_under t c =
    none-open c.args.avoidance.now.limit c.args.terms.now c.args.avoidance.now.atoms.now c.args.avoidance.now.set.now.atoms
    (λ values. substitute_atom (object_terms values) c.args.target.now) c.args.found.now.atoms
    (met-none c.args.avoidance.now.limit c.args.terms.now c.requires.bound.binding c.args.avoidance.now.atoms.now
    c.args.avoidance.now.set.now.atoms c.requires.bound.plain c.requires.bound.is_ground
    (said_yes c.meets_under.result c.meets_under.ensures c.if-meets_under.true))

pub bind-requires : goal.bind-requires
bind-requires t c =
    let long = long-again c.args.terms.now c.loop-object.next.items c.in-Some.variable c.loop-object.invariant.1 in
    let within = slice_get_within c.args.terms.now c.in-Some.variable (Var c.in-Some.variable) c.in-Some.ensures.some in
    omega (arith, long, within)

pub loop-object-init : goal.loop-object-init
loop-object-init t c = (
  λ q. nothing_comes (before-none c.args.avoidance.now.limit c.args.terms.now c.args.avoidance.now.atoms.now c.args.avoidance.now.set.now.atoms
      (λ values. substitute_atom (object_terms values) c.args.target.now) c.in-Some.variable c.in-Some.ensures.some q),
  (Obj 0, c.in_ok-next.ensures),
)

pub insert_open-requires : goal.insert_open-requires
insert_open-requires t c =
    let terms = c.args.terms.now in
    let v = c.in-Some.variable in
    let object = c.loop-object.object in
    let next_is : c.deref.result.now ≡ set terms v (Obj object) = c.deref.ensures.value
    ∙ put-again terms c.loop-object.next.items c.bind.new.terms.items v (Obj object) c.loop-object.invariant.1 c.bind.ensures in
    let less : open_term_count c.deref.result.now < open_term_count terms =
    subst (λ (ts : List Term). open_term_count ts < open_term_count terms) (sym next_is)
    (count-falls terms v v object c.in-Some.ensures.some) in (
      omega (arith, less, c.decreases),
      (
        subst (λ (ts : List Term). IsPlain (length ts) c.args.target.now) (sym next_is)
            (bound-plain_one c.args.avoidance.now.limit terms v c.in-Some.ensures.some object c.args.target.now c.requires.target),
        record {
          plain =
              subst (λ (ts : List Term). ArePlain (length ts) c.args.avoidance.now.atoms.now) (sym next_is)
              (bound-plain c.args.avoidance.now.limit terms v c.in-Some.ensures.some object c.args.avoidance.now.atoms.now
              c.requires.bound.plain);
          binding =
              subst (IsBinding c.args.avoidance.now.limit) (sym next_is)
              (bound-binding c.args.avoidance.now.limit terms v c.in-Some.ensures.some object c.requires.bound.binding
              c.loop-object-test.true);
          is_ground = c.requires.bound.is_ground;
        },
      ),
    )

pub loop-object-preserved : goal.loop-object-preserved
loop-object-preserved t c =
    let next_is : c.bind.new.terms.items ≡ set c.args.terms.now c.in-Some.variable (Obj c.loop-object.object) =
    put-again c.args.terms.now c.loop-object.next.items c.bind.new.terms.items c.in-Some.variable (Obj c.loop-object.object)
    c.loop-object.invariant.1 c.bind.ensures in (
      λ q. grown (c.loop-object.invariant.0 q) (c.in_ok-insert_open.ensures q)
          (grouped (before-next c.args.avoidance.now.limit c.args.terms.now c.args.avoidance.now.atoms.now c.args.avoidance.now.set.now.atoms
          (λ values. substitute_atom (object_terms values) c.args.target.now) c.in-Some.variable c.in-Some.ensures.some c.loop-object.object
          c.deref.result.now (c.deref.ensures.value ∙ next_is) q)),
      (Obj c.loop-object.object, next_is),
    )

pub returns : goal.returns
returns t c = λ q.
    then-same (c.loop-object.invariant.0 q) (before-all c.args.avoidance.now.limit c.args.terms.now c.args.avoidance.now.atoms.now
    c.args.avoidance.now.set.now.atoms (λ values. substitute_atom (object_terms values) c.args.target.now) c.in-Some.variable
    c.in-Some.ensures.some c.loop-object.object c.loop-object-test.false q)
