use Rattle.std.proofs.Common.{◌+◌, [], List, subst, take}
use Rattle.std.proofs.lemmas.List.{take_all}
use Rattle.std.proofs.lemmas.Result.{err_from_is_err_and}
use Rattle.px_base.specs.ListLaws.{All-at}
use Rattle.px_question.specs.Settings.{setting_of}
use Rattle.px_terms.specs.declared.atom.Atom.{Atom}
use Rattle.px_gaps.specs.Forms.{IsForm, IsInstanceIn, IsStoodFor}
use Rattle.px_gaps.specs.Provable.{FindsProvable, LimitsOne}
use Rattle.px_gaps.proofs.Grows.{one_next}
use Rattle.px_gaps.proofs.Limits.{limit_weaker}
use Rattle.px_base.proofs.Loops.{contains_here}
use Rattle.px_gaps.proofs.Proving.{finds-both, limits-among}
use Rattle.px_gaps.proofs.asking.provable_of.Goals as goal

pub insert_form-requires-clause-form : goal.insert_form-requires-clause-form
insert_form-requires-clause-form c =
    All-at (IsForm c.args.problem.now) c.args.forms.now c.form-item.result c.requires.forms
    (contains_here c.args.forms.now c.loop-form.form-index c.form-item.result c.loop-form-test.true c.form-item.is)

pub loop-form-preserved : goal.loop-form-preserved
loop-form-preserved c =
    let s = setting_of c.args.problem.now c.args.model.now.atoms in
    let limit = c.args.problem.now.objects in
    let forms = c.args.forms.now in
    let i = c.loop-form.form-index in
    finds-both s (IsStoodFor limit (take i forms)) (IsInstanceIn limit c.form-item.result)
    (IsStoodFor limit (take (i + 1) forms)) [] c.loop-form.provable.atoms c.insert_form.new.found.atoms
    (λ q. one_next (λ (form : Atom). IsInstanceIn limit form q) forms i c.form-item.result c.loop-form-test.true c.form-item.is)
    c.loop-form.invariant c.in_ok-insert_form.ensures.found

pub returns-clause-found : goal.returns-clause-found
returns-clause-found c =
    subst (λ (l : List Atom). FindsProvable (setting_of c.args.problem.now c.args.model.now.atoms)
    (IsStoodFor c.args.problem.now.objects l) [] c.loop-form.provable.atoms)
    (take_all c.loop-form.form-index c.args.forms.now c.loop-form-test.false) c.loop-form.invariant

pub returns-in_err-insert_form-clause-limited : goal.returns-in_err-insert_form-clause-limited
returns-in_err-insert_form-clause-limited c =
    let s = setting_of c.args.problem.now c.args.model.now.atoms in
    let limit = c.args.problem.now.objects in
    let p = err_from_is_err_and c.from_residual.result c.from_residual.ensures.1 in
    rw (p.1, p.2) (limit_weaker (LimitsOne s (IsInstanceIn limit c.form-item.result)) (LimitsOne s (IsStoodFor limit c.args.forms.now)) _
    (limits-among s (IsInstanceIn limit c.form-item.result) (IsStoodFor limit c.args.forms.now)
    (λ q instance. (
      c.form-item.result,
      contains_here c.args.forms.now c.loop-form.form-index c.form-item.result c.loop-form-test.true c.form-item.is,
      instance,
    )))
    c.in_err-insert_form.ensures.limited)
