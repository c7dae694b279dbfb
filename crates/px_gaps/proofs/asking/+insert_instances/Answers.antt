use Rattle.std.proofs.Common.{◌≡◌, ◌∙◌, ◌<◌, ℕ, List, length, set, sym, ap, subst, arith}
use Rattle.std.proofs.lemmas.List.{length-set}
use Rattle.std.proofs.lemmas.Option.{slice_get_within}
use Rattle.std.proofs.lemmas.Result.{err_from_is_err_and}
use Rattle.px_question.specs.Settings.{setting_of}
use Rattle.px_terms.specs.Validity.{IsAtomOf}
use Rattle.px_terms.specs.Substitution.{substitute_atom}
use Rattle.px_terms.specs.declared.atom.Atom.{Atom}
use Rattle.px_terms.specs.declared.term.Term.{Term}
use Rattle.px_terms.specs.declared.term.Term.TheVariants.{Obj, Var}
use Rattle.px_gaps.specs.Bindings.{IsBinding, IsInstanceUnder, open_term_count}
use Rattle.px_gaps.specs.Provable.{LimitsOne}
use Rattle.px_gaps.proofs.Choosing.{bound-binding, count-falls}
use Rattle.px_gaps.proofs.Describing.{atom-plain}
use Rattle.px_gaps.proofs.Limits.{limit_among, limit_weaker}
use Rattle.px_base.proofs.Loops.{on_ok}
use Rattle.px_gaps.proofs.Proving.{atom-variables, finds-same, found-end, found-next, ground-of, here-of, limits-among, none-found, one-instance, under-next}
use Rattle.px_gaps.proofs.asking.+insert_instances.Goals as goal

pub apply-here-requires : goal.apply-here-requires
apply-here-requires t c = atom-variables c.args.problem.now (length c.args.terms.now) c.args.form.now c.requires.form

pub open_variable-requires-clause-plain : goal.open_variable-requires-clause-plain
open_variable-requires-clause-plain t c = atom-plain c.args.problem.now (length c.args.terms.now) c.args.form.now c.requires.form

pub open_variable-requires-clause-binding : goal.open_variable-requires-clause-binding
open_variable-requires-clause-binding t c = (c.args.problem.now.objects, c.requires.binding)

pub insert_provable-requires-clause-atom : goal.insert_provable-requires-clause-atom
insert_provable-requires-clause-atom t c =
    let terms = c.args.terms.now in
    let here = here-of c.args.problem.now terms c.requires.binding c.args.form.now c.requires.form in
    subst (IsAtomOf c.args.problem.now 0) (sym c.apply-here.ensures)
    (ground-of c.args.problem.now (length terms) (substitute_atom terms c.args.form.now) here c.in-None.ensures.none)

pub returns-in-None-clause-found : goal.returns-in-None-clause-found
returns-in-None-clause-found t c =
    let problem = c.args.problem.now in
    let terms = c.args.terms.now in
    let form = c.args.form.now in
    on_ok c.insert_provable.result (finds-same (setting_of problem c.args.model.now.atoms) (λ (q : Atom). c.apply-here.result ≡ q)
    (IsInstanceUnder problem.objects terms form) c.args.found.now.atoms c.insert_provable.new.found.atoms
    (one-instance problem c.args.model.now.atoms terms c.requires.binding form c.requires.form c.in-None.ensures.none c.apply-here.result
    c.apply-here.ensures)) c.insert_provable.ensures.found

pub returns-in-None-clause-limited : goal.returns-in-None-clause-limited
returns-in-None-clause-limited t c =
    let problem = c.args.problem.now in
    let terms = c.args.terms.now in
    let form = c.args.form.now in
    let s = setting_of problem c.args.model.now.atoms in
    limit_among (LimitsOne s (λ (q : Atom). c.apply-here.result ≡ q))
    (LimitsOne s (IsInstanceUnder problem.objects terms form)) c.insert_provable.result
    (limits-among s (λ (q : Atom). c.apply-here.result ≡ q) (IsInstanceUnder problem.objects terms form)
    (λ q. (one-instance problem c.args.model.now.atoms terms c.requires.binding form c.requires.form c.in-None.ensures.none
    c.apply-here.result c.apply-here.ensures q).0)) c.insert_provable.ensures.limited

pub has_none-requires-clause-atom : goal.has_none-requires-clause-atom
has_none-requires-clause-atom t c =
    subst (IsAtomOf c.args.problem.now (length c.args.terms.now)) (sym c.apply-here.ensures)
    (here-of c.args.problem.now c.args.terms.now c.requires.binding c.args.form.now c.requires.form)

pub returns-then-branch-clause-found : goal.returns-then-branch-clause-found
returns-then-branch-clause-found t c =
    none-found c.args.problem.now c.args.model.now.atoms c.args.terms.now c.requires.binding c.args.form.now c.requires.form
    c.apply-here.result c.apply-here.ensures (c.in_ok-has_none.ensures.none c.if-branch.true)
    (c.in_ok-has_none.ensures.few c.if-branch.true) c.args.found.now.atoms

pub bound-requires : goal.bound-requires
bound-requires t c = slice_get_within c.args.terms.now c.in-Some.variable (Var c.in-Some.variable) c.in-Some.ensures.some

pub insert_instances-requires : goal.insert_instances-requires
insert_instances-requires t c =
    let terms = c.args.terms.now in
    let v = c.in-Some.variable in
    let object = c.loop-object.object in
    let next_is : c.deref.result.now ≡ set terms v (Obj object) = c.deref.ensures.value ∙ c.in_ok-next.ensures in
    let long : length c.deref.result.now ≡ length terms = ap length next_is ∙ length-set terms v (Obj object) in
    let less : open_term_count c.deref.result.now < open_term_count terms =
    subst (λ (ts : List Term). open_term_count ts < open_term_count terms) (sym next_is)
    (count-falls terms v v object c.in-Some.ensures.some) in (
      omega (arith, less, c.decreases),
      (
        c.requires.problem,
        (
          subst (λ (n : ℕ). IsAtomOf c.args.problem.now n c.args.form.now) (sym long) c.requires.form,
          (
            omega (arith, long, c.requires.few),
            subst (IsBinding c.args.problem.now.objects) (sym next_is)
                (bound-binding c.args.problem.now.objects terms v c.in-Some.ensures.some object c.requires.binding c.loop-object-test.true),
          ),
        ),
      ),
    )

pub returns-in_err-insert_instances-clause-limited : goal.returns-in_err-insert_instances-clause-limited
returns-in_err-insert_instances-clause-limited t c =
    let problem = c.args.problem.now in
    let terms = c.args.terms.now in
    let form = c.args.form.now in
    let s = setting_of problem c.args.model.now.atoms in
    let next_is : c.deref.result.now ≡ set terms c.in-Some.variable (Obj c.loop-object.object) =
    c.deref.ensures.value ∙ c.in_ok-next.ensures in
    let p = err_from_is_err_and c.from_residual-in_err-insert_instances.result c.from_residual-in_err-insert_instances.ensures.1 in
    rw (p.1, p.2) (limit_weaker (LimitsOne s (IsInstanceUnder problem.objects c.deref.result.now form))
    (LimitsOne s (IsInstanceUnder problem.objects terms form)) _
    (limits-among s (IsInstanceUnder problem.objects c.deref.result.now form) (IsInstanceUnder problem.objects terms form)
    (under-next problem.objects terms form c.in-Some.variable c.in-Some.ensures.some c.loop-object.object c.deref.result.now next_is))
    c.in_err-insert_instances.ensures.limited)

pub loop-object-preserved : goal.loop-object-preserved
loop-object-preserved t c =
    let problem = c.args.problem.now in
    let terms = c.args.terms.now in
    found-next problem.objects terms c.args.form.now c.in-Some.variable c.in-Some.ensures.some
    (setting_of problem c.args.model.now.atoms) c.loop-object.object c.deref.result.now
    (c.deref.ensures.value ∙ c.in_ok-next.ensures) c.args.found.now.atoms c.loop-object.found.atoms c.insert_instances.new.found.atoms
    c.loop-object.invariant c.in_ok-insert_instances.ensures.found

pub returns-clause-found : goal.returns-clause-found
returns-clause-found t c =
    let problem = c.args.problem.now in
    found-end problem.objects c.args.terms.now c.args.form.now c.in-Some.variable c.in-Some.ensures.some
    (setting_of problem c.args.model.now.atoms) c.loop-object.object c.loop-object-test.false c.args.found.now.atoms
    c.loop-object.found.atoms c.loop-object.invariant
