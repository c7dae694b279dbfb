use Rattle.std.proofs.Common.{◌≡◌, ◌∙◌, ◌<◌, List, length, set, sym, subst, inl, inr, arith}
use Rattle.std.specs.Prelude.{slice_index}
use Rattle.std.proofs.lemmas.Option.{slice_get_within}
use Rattle.px_terms.specs.declared.term.Term.{Term}
use Rattle.px_terms.specs.declared.term.Term.TheVariants.{Obj, Var}
use Rattle.px_gaps.specs.Bindings.{ArePlain, CanAvoid, IsBinding, open_term_count}
use Rattle.px_gaps.proofs.Choosing.{avoids-bound, bound-avoids, bound-binding, bound-plain, closed-some, count-falls, met-none, said, said_not}
use Rattle.px_base.proofs.Loops.{level_or_below, said_no, said_yes}
use Rattle.px_gaps.proofs.bindings.+can_choose.Goals as goal

pub meets_under-requires : goal.meets_under-requires
meets_under-requires t c = c.requires.plain

pub first_open-requires-clause-plain : goal.first_open-requires-clause-plain
first_open-requires-clause-plain t c = c.requires.plain

pub first_open-requires-clause-binding : goal.first_open-requires-clause-binding
first_open-requires-clause-binding t c = (c.args.avoidance.now.limit, c.requires.binding)

pub returns-then-meets_under : goal.returns-then-meets_under
returns-then-meets_under t c =
    met-none c.args.avoidance.now.limit c.args.terms.now c.requires.binding c.args.avoidance.now.atoms.now
    c.args.avoidance.now.set.now.atoms c.requires.plain c.requires.is_ground
    (said_yes c.meets_under.result c.meets_under.ensures c.if-meets_under.true)

pub returns-in-None : goal.returns-in-None
returns-in-None t c =
    closed-some c.args.avoidance.now.limit c.args.terms.now c.requires.binding c.args.avoidance.now.atoms.now
    c.args.avoidance.now.set.now.atoms c.requires.plain c.requires.is_ground
    (said_no c.meets_under.result c.meets_under.ensures c.if-meets_under.false) c.in-None.ensures.none

pub bound-requires : goal.bound-requires
bound-requires t c = slice_get_within c.args.terms.now c.in-Some.variable (Var c.in-Some.variable) c.in-Some.ensures.variable

pub can_choose-requires : goal.can_choose-requires
can_choose-requires t c =
    let terms = c.args.terms.now in
    let v = c.in-Some.variable in
    let object = c.loop-object.object in
    let next_is : c.deref.result.now ≡ set terms v (Obj object) = c.deref.ensures.value ∙ c.in_ok-next.ensures in
    let less : open_term_count c.deref.result.now < open_term_count terms =
    subst (λ (ts : List Term). open_term_count ts < open_term_count terms) (sym next_is)
    (count-falls terms v v object c.in-Some.ensures.variable) in (
      omega (arith, less, c.decreases),
      record {
        plain =
            subst (λ (ts : List Term). ArePlain (length ts) c.args.avoidance.now.atoms.now) (sym next_is)
            (bound-plain c.args.avoidance.now.limit terms v c.in-Some.ensures.variable object c.args.avoidance.now.atoms.now
            c.requires.plain);
        binding =
            subst (IsBinding c.args.avoidance.now.limit) (sym next_is)
            (bound-binding c.args.avoidance.now.limit terms v c.in-Some.ensures.variable object c.requires.binding c.loop-object-test.true);
        is_ground = c.requires.is_ground;
      },
    )

pub returns-then-branch : goal.returns-then-branch
returns-then-branch t c =
    let terms = c.args.terms.now in
    let v = c.in-Some.variable in
    let object = c.loop-object.object in
    let next_is : c.deref.result.now ≡ set terms v (Obj object) = c.deref.ensures.value ∙ c.in_ok-next.ensures in
    let can =
    subst (λ (ts : List Term). CanAvoid c.args.avoidance.now.limit ts c.args.avoidance.now.atoms.now c.args.avoidance.now.set.now.atoms)
    next_is (said _ c.in_ok-can_choose.field-0 c.in_ok-can_choose.ensures c.if-branch.true) in (
      can.0,
      avoids-bound c.args.avoidance.now.limit terms c.args.avoidance.now.atoms.now c.args.avoidance.now.set.now.atoms v
          c.in-Some.ensures.variable object can.0 can.1,
    )

pub loop-object-preserved : goal.loop-object-preserved
loop-object-preserved t c =
    let terms = c.args.terms.now in
    let v = c.in-Some.variable in
    let object = c.loop-object.object in
    let next_is : c.deref.result.now ≡ set terms v (Obj object) = c.deref.ensures.value ∙ c.in_ok-next.ensures in
    λ values a less. elim (level_or_below (slice_index values v) object less) [
      | inl before ↦ c.loop-object.invariant values a before
      | inr level ↦ said_not _ c.in_ok-can_choose.field-0 c.in_ok-can_choose.ensures c.if-branch.false
          (subst (λ (ts : List Term). CanAvoid c.args.avoidance.now.limit ts c.args.avoidance.now.atoms.now
          c.args.avoidance.now.set.now.atoms) (sym next_is) (
            values,
            bound-avoids c.args.avoidance.now.limit terms c.args.avoidance.now.atoms.now c.args.avoidance.now.set.now.atoms v
                c.in-Some.ensures.variable object values level a,
          ))
    ]
