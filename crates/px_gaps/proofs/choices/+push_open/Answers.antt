use Rattle.std.proofs.Common.{◌≡◌, ◌∙◌, ◌<◌, List, length, map, set, sym, subst, arith}
use Rattle.std.specs.Prelude.{All}
use Rattle.std.proofs.lemmas.List.{length-set}
use Rattle.std.proofs.lemmas.Option.{slice_get_within}
use Rattle.px_prover.specs.Patterns.{object_under}
use Rattle.px_terms.specs.Language.{IsVariableBelow}
use Rattle.px_terms.specs.declared.term.Term.{Term}
use Rattle.px_terms.specs.declared.term.Term.TheVariants.{Obj, Var}
use Rattle.px_gaps.specs.Bindings.{ArePlain, IsBinding, open_term_count}
use Rattle.px_gaps.proofs.Choosing.{before-all, before-next, bound-binding, bound-plain, count-falls, met-none, none-open}
use Rattle.px_gaps.proofs.Describing.{then-same}
use Rattle.px_gaps.proofs.Grows.{grouped, grown}
use Rattle.px_gaps.proofs.SortedChoices.{fit-same, fit-split, none-fits, passed-over}
use Rattle.px_base.proofs.Loops.{said_no, said_yes}
use Rattle.px_gaps.proofs.choices.+push_open.Goals as goal

pub first_of-requires-clause-binding : goal.first_of-requires-clause-binding
first_of-requires-clause-binding t c = (c.args.avoidance.now.limit, c.requires.bound.binding)

pub meets_under-requires : goal.meets_under-requires
meets_under-requires t c = c.requires.bound.plain

pub returns-then-meets_under : goal.returns-then-meets_under
returns-then-meets_under t c = λ objects.
    none-fits (none-open c.args.avoidance.now.limit c.args.terms.now c.args.avoidance.now.atoms.now c.args.avoidance.now.set.now.atoms
    (λ values. map (object_under values) c.args.targets.now) c.args.found.now.items
    (met-none c.args.avoidance.now.limit c.args.terms.now c.requires.bound.binding c.args.avoidance.now.atoms.now
    c.args.avoidance.now.set.now.atoms c.requires.bound.plain c.requires.bound.is_ground
    (said_yes c.meets_under.result c.meets_under.ensures c.if-meets_under.true)) objects)

pub bound-requires : goal.bound-requires
bound-requires t c = slice_get_within c.args.terms.now c.in-Some.variable (Var c.in-Some.variable) c.in-Some.ensures.some

pub push_open-requires : goal.push_open-requires
push_open-requires t c =
    let terms = c.args.terms.now in
    let v = c.in-Some.variable in
    let object = c.loop-object.object in
    let next_is : c.deref.result.now ≡ set terms v (Obj object) = c.deref.ensures.value ∙ c.in_ok-next.ensures in
    let less : open_term_count c.deref.result.now < open_term_count terms =
    subst (λ (ts : List Term). open_term_count ts < open_term_count terms) (sym next_is)
    (count-falls terms v v object c.in-Some.ensures.some) in (
      omega (arith, less, c.decreases),
      (
        subst (λ (ts : List Term). All (IsVariableBelow (length ts)) c.args.targets.now) (sym next_is)
            (subst (λ (n : _). All (IsVariableBelow n) c.args.targets.now) (sym (length-set terms v (Obj object))) c.requires.below),
        record {
          plain =
              subst (λ (ts : List Term). ArePlain (length ts) c.args.avoidance.now.atoms.now) (sym next_is)
              (bound-plain c.args.avoidance.now.limit terms v c.in-Some.ensures.some object c.args.avoidance.now.atoms.now
              c.requires.bound.plain);
          binding =
              subst (IsBinding c.args.avoidance.now.limit) (sym next_is)
              (bound-binding c.args.avoidance.now.limit terms v c.in-Some.ensures.some object c.requires.bound.binding
              c.loop-object-test.true);
          is_ground = c.requires.bound.is_ground;
        },
      ),
    )

pub loop-object-preserved : goal.loop-object-preserved
loop-object-preserved t c = λ objects.
    grown (c.loop-object.invariant objects) (c.in_ok-push_open.ensures objects)
    (grouped (fit-split (before-next c.args.avoidance.now.limit c.args.terms.now c.args.avoidance.now.atoms.now
    c.args.avoidance.now.set.now.atoms
    (λ values. map (object_under values) c.args.targets.now) c.in-Some.variable c.in-Some.ensures.some c.loop-object.object
    c.deref.result.now (c.deref.ensures.value ∙ c.in_ok-next.ensures) objects)))

pub loop-object-preserved-then-not-fits_sort : goal.loop-object-preserved-then-not-fits_sort
loop-object-preserved-then-not-fits_sort t c = λ objects.
    then-same (c.loop-object.invariant objects)
    (passed-over c.args.avoidance.now.limit c.args.terms.now c.args.avoidance.now.atoms.now c.args.avoidance.now.set.now.atoms
    c.args.sorting.now.object_sorts.now c.args.sorting.now.wanted.now c.args.targets.now c.in-Some.variable c.sort_of-sort.result
    c.loop-object.object (slice_get_within c.args.terms.now c.in-Some.variable (Var c.in-Some.variable) c.in-Some.ensures.some)
    c.sort_of-sort.ensures (said_no c.fits_sort.result c.fits_sort.ensures c.if-not-fits_sort.true) objects)

pub returns : goal.returns
returns t c = λ objects.
    then-same (c.loop-object.invariant objects) (fit-same (before-all c.args.avoidance.now.limit c.args.terms.now
    c.args.avoidance.now.atoms.now
    c.args.avoidance.now.set.now.atoms (λ values. map (object_under values) c.args.targets.now) c.in-Some.variable
    c.in-Some.ensures.some c.loop-object.object c.loop-object-test.false objects))
