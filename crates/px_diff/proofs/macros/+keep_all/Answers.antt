use Rattle.std.proofs.Common.{◌≡◌, ◌∙◌, ◌<◌, ℕ, List, set, sym, subst, arith}
use Rattle.std.proofs.lemmas.Option.{slice_get_within}
use Rattle.px_terms.specs.Sorts.{FitsSort}
use Rattle.px_terms.specs.declared.term.Term.{Term}
use Rattle.px_terms.specs.declared.term.Term.TheVariants.{Obj, Var}
use Rattle.px_gaps.specs.Bindings.{IsBinding, open_term_count}
use Rattle.px_gaps.proofs.Choosing.{bound-binding, count-falls}
use Rattle.px_diff.proofs.GatherLemmas.{objects-all, objects-closed, objects-next, objects-none}
use Rattle.px_diff.proofs.SortedLemmas.{objects-passed, objects-unfit}
use Rattle.px_base.proofs.Loops.{on_ok, said_no}
use Rattle.px_diff.proofs.macros.+keep_all.Goals as goal

pub returns-then-not-steps_may_fit-clause-gathers : goal.returns-then-not-steps_may_fit-clause-gathers
returns-then-not-steps_may_fit-clause-gathers t c =
    objects-unfit c.args.prefix.now.request.problem.now c.args.prefix.now.request.tables.now c.args.prefix.now.request.wanted.now
    c.args.prefix.now.request.stack.now c.args.prefix.now.request.model.now.atoms c.args.prefix.now.number c.args.prefix.now.count
    c.args.prefix.now.table.now c.requires.prefix.table c.args.terms.now c.args.found.now.items
    (c.steps_may_fit.ensures c.if-not-steps_may_fit.true)

pub first_unbound-requires : goal.first_unbound-requires
first_unbound-requires t c = record { binding = (c.args.prefix.now.request.problem.now.objects, c.requires.binding) }

pub bound-requires : goal.bound-requires
bound-requires t c = slice_get_within c.args.terms.now c.in-Some.parameter (Var c.in-Some.parameter) c.in-Some.ensures.some

pub keep_all-requires : goal.keep_all-requires
keep_all-requires t c =
    let terms = c.args.terms.now in
    let v = c.in-Some.parameter in
    let object = c.loop-object.object in
    let next_is : c.deref.result.now ≡ set terms v (Obj object) = c.deref.ensures.value ∙ c.in_ok-next.ensures in
    let less : open_term_count c.deref.result.now < open_term_count terms =
    subst (λ (ts : List Term). open_term_count ts < open_term_count terms) (sym next_is)
    (count-falls terms v v object c.in-Some.ensures.some) in (
      omega (arith, less, c.decreases),
      (
        c.requires.prefix,
        subst (IsBinding c.args.prefix.now.request.problem.now.objects) (sym next_is)
            (bound-binding c.args.prefix.now.request.problem.now.objects terms v c.in-Some.ensures.some object c.requires.binding
            c.loop-object-test.true),
      ),
    )

pub loop-object-init : goal.loop-object-init
loop-object-init t c =
    objects-none c.args.prefix.now.request.problem.now c.args.prefix.now.request.tables.now c.args.prefix.now.request.wanted.now
    c.args.prefix.now.request.stack.now c.args.prefix.now.request.model.now.atoms c.args.prefix.now.number c.args.prefix.now.count
    c.args.terms.now c.in-Some.parameter c.args.found.now.items c.in-Some.ensures.some

pub loop-object-preserved-then-not-fits_sort : goal.loop-object-preserved-then-not-fits_sort
loop-object-preserved-then-not-fits_sort t c =
    objects-passed c.args.prefix.now.request.problem.now c.args.prefix.now.request.tables.now c.args.prefix.now.request.wanted.now
    c.args.prefix.now.request.stack.now c.args.prefix.now.request.model.now.atoms c.args.prefix.now.number c.args.prefix.now.count
    c.args.prefix.now.table.now c.requires.prefix.table c.args.terms.now c.in-Some.parameter c.loop-object.object c.parameter_sort-sort.result
    c.args.found.now.items c.loop-object.found.items c.in-Some.ensures.some c.parameter_sort-sort.ensures
    (λ fits. said_no c.fits_sort.result c.fits_sort.ensures c.if-not-fits_sort.true
    (subst (λ (sorts : List ℕ). FitsSort sorts c.parameter_sort-sort.result c.loop-object.object) (sym c.as_slice-in-loop-object.ensures)
    fits)) c.loop-object.invariant

pub loop-object-preserved : goal.loop-object-preserved
loop-object-preserved t c =
    objects-next c.args.prefix.now.request.problem.now c.args.prefix.now.request.tables.now c.args.prefix.now.request.wanted.now
    c.args.prefix.now.request.stack.now c.args.prefix.now.request.model.now.atoms c.args.prefix.now.number c.args.prefix.now.count
    c.args.terms.now c.deref.result.now c.in-Some.parameter c.loop-object.object c.args.found.now.items c.loop-object.found.items
    c.keep_all.new.found.items
    c.in-Some.ensures.some (c.deref.ensures.value ∙ c.in_ok-next.ensures) c.loop-object.invariant c.in_ok-keep_all.ensures.gathers

pub returns-clause-gathers : goal.returns-clause-gathers
returns-clause-gathers t c =
    objects-all c.args.prefix.now.request.problem.now c.args.prefix.now.request.tables.now c.args.prefix.now.request.wanted.now
    c.args.prefix.now.request.stack.now c.args.prefix.now.request.model.now.atoms c.args.prefix.now.number c.args.prefix.now.count
    c.args.terms.now c.in-Some.parameter c.loop-object.object c.args.found.now.items c.loop-object.found.items c.in-Some.ensures.some
    c.loop-object-test.false c.loop-object.invariant

pub returns-in-None-clause-gathers : goal.returns-in-None-clause-gathers
returns-in-None-clause-gathers t c =
    on_ok c.keep_open_macro.result (objects-closed c.args.prefix.now.request.problem.now c.args.prefix.now.request.tables.now
    c.args.prefix.now.request.wanted.now c.args.prefix.now.request.stack.now c.args.prefix.now.request.model.now.atoms
    c.args.prefix.now.number c.args.prefix.now.count c.args.terms.now c.as_slice.result.now c.args.found.now.items
    c.keep_open_macro.new.found.items c.in-None.ensures.none (c.as_slice.ensures.value ∙ c.in_ok-sigma-in-None.ensures))
    c.keep_open_macro.ensures.gathers
