use Rattle.std.proofs.Common.{◌≡◌, List, ℕ, length, sym, ap, subst, arith}
use Rattle.px_question.specs.Settings.{setting_of}
use Rattle.px_terms.specs.Validity.{IsAtomOf}
use Rattle.px_terms.specs.declared.term.Term.{Term}
use Rattle.px_gaps.specs.Bindings.{AreUnbound, IsInstanceUnder}
use Rattle.px_gaps.specs.Forms.{IsInstanceIn}
use Rattle.px_gaps.specs.Provable.{LimitsOne}
use Rattle.px_gaps.proofs.Describing.{unbound-binding}
use Rattle.px_gaps.proofs.Limits.{limit_among}
use Rattle.px_base.proofs.Loops.{on_ok, said_no}
use Rattle.px_gaps.proofs.Proving.{finds-same, limits-among, unbound-instance}
use Rattle.px_gaps.specs.Concluding.{IsConcluded}
use Rattle.px_gaps.proofs.FactLemmas.{facts-found}
use Rattle.px_gaps.proofs.asking.insert_form.Goals as goal

unbound-as : (args others : List Term) (made terms : List Term) → args ≡ others → terms ≡ made → AreUnbound (length args) made
    → AreUnbound (length others) terms
unbound-as args others made terms same is are =
    subst (λ (n : ℕ). AreUnbound n terms) (ap length same) (subst (AreUnbound (length args)) (sym is) are)

pub insert_instances-requires-clause-form : goal.insert_instances-requires-clause-form
insert_instances-requires-clause-form c =
    let are =
    unbound-as c.args-then-is_derived.result.now c.args.form.now.args c.in_ok-terms.terms.items c.deref.result.now
    c.args-then-is_derived.ensures.value c.deref.ensures.value c.in_ok-terms.ensures in
    subst (λ (n : ℕ). IsAtomOf c.args.problem.now n c.args.form.now) (sym are.count) c.requires.form.is_atom

pub insert_instances-requires-clause-few : goal.insert_instances-requires-clause-few
insert_instances-requires-clause-few c =
    let are =
    unbound-as c.args-then-is_derived.result.now c.args.form.now.args c.in_ok-terms.terms.items c.deref.result.now
    c.args-then-is_derived.ensures.value c.deref.ensures.value c.in_ok-terms.ensures in
    omega (arith, are.count, c.args-then-is_derived.ensures.at_most)

pub insert_instances-requires-clause-binding : goal.insert_instances-requires-clause-binding
insert_instances-requires-clause-binding c =
    let are =
    unbound-as c.args-then-is_derived.result.now c.args.form.now.args c.in_ok-terms.terms.items c.deref.result.now
    c.args-then-is_derived.ensures.value c.deref.ensures.value c.in_ok-terms.ensures in
    unbound-binding c.args.problem.now.objects (length c.args.form.now.args) c.deref.result.now are c.requires.form.some_object

pub returns-then-is_derived-clause-found : goal.returns-then-is_derived-clause-found
returns-then-is_derived-clause-found c =
    let are =
    unbound-as c.args-then-is_derived.result.now c.args.form.now.args c.in_ok-terms.terms.items c.deref.result.now
    c.args-then-is_derived.ensures.value c.deref.ensures.value c.in_ok-terms.ensures in
    let limit = c.args.problem.now.objects in
    on_ok c.insert_instances.result (finds-same (setting_of c.args.problem.now c.args.model.now.atoms)
    (IsInstanceUnder limit c.deref.result.now c.args.form.now)
    (IsInstanceIn limit c.args.form.now) c.args.found.now.atoms c.insert_instances.new.found.atoms
    (unbound-instance limit c.deref.result.now c.args.form.now are)) c.insert_instances.ensures.found

pub returns-then-is_derived-clause-limited : goal.returns-then-is_derived-clause-limited
returns-then-is_derived-clause-limited c =
    let are =
    unbound-as c.args-then-is_derived.result.now c.args.form.now.args c.in_ok-terms.terms.items c.deref.result.now
    c.args-then-is_derived.ensures.value c.deref.ensures.value c.in_ok-terms.ensures in
    let limit = c.args.problem.now.objects in
    let s = setting_of c.args.problem.now c.args.model.now.atoms in
    limit_among (LimitsOne s (IsInstanceUnder limit c.deref.result.now c.args.form.now))
    (LimitsOne s (IsInstanceIn limit c.args.form.now)) c.insert_instances.result
    (limits-among s (IsInstanceUnder limit c.deref.result.now c.args.form.now) (IsInstanceIn limit c.args.form.now)
    (λ q. (unbound-instance limit c.deref.result.now c.args.form.now are q).0)) c.insert_instances.ensures.limited

pub returns-clause-found : goal.returns-clause-found
returns-clause-found c =
    facts-found c.args.problem.now c.args.model.now.atoms c.args.form.now c.requires.problem c.requires.form
    (λ concluded. said_no c.is_concluded-is_derived.result c.is_concluded-is_derived.ensures c.if-is_derived.false
    (subst (IsConcluded c.args.problem.now.axioms) (sym c.pred.ensures) concluded)) c.args.found.now.atoms
    c.insert_facts.new.found.atoms
    c.in_ok-insert_facts.ensures
