use Rattle.std.proofs.Common.{[], ◌∷◌, length}
use Rattle.px_base.specs.ListLaws.{All-at}
use Rattle.px_question.specs.Limits.{AreFewGapShapes}
use Rattle.px_question.specs.Settings.{setting_of}
use Rattle.px_terms.specs.declared.atom.Atom.{Atom}
use Rattle.px_gaps.specs.Forms.{IsForm}
use Rattle.px_base.proofs.Loops.{all_before_next, contains_here}
use Rattle.px_diff.proofs.row_questions.have_few.Goals as goal

pub has_few-requires-clause-form : goal.has_few-requires-clause-form
has_few-requires-clause-form c =
    All-at (IsForm c.args.problem.now) c.args.forms.now c.form-item.result c.requires.forms
    (contains_here c.args.forms.now c.loop-form.form-index c.form-item.result c.loop-form-test.true c.form-item.is)

pub loop-form-preserved : goal.loop-form-preserved
loop-form-preserved c =
    all_before_next (λ (form : Atom). AreFewGapShapes (setting_of c.args.problem.now c.args.model.now.atoms) (form ∷ []) (length form.args))
    c.args.forms.now c.loop-form.form-index c.form-item.result c.loop-form.invariant c.loop-form-test.true c.form-item.is
    (c.in_ok-has_few.ensures c.if-not-branch.false)
