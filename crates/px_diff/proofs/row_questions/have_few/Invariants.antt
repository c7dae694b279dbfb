use Rattle.std.specs.Prelude.{[], ◌∷◌, length}
use Rattle.px_question.specs.Limits.{AreFewGapShapes}
use Rattle.px_question.specs.Settings.{setting_of}
use Rattle.px_terms.specs.declared.atom.Atom.{Atom}
use Rattle.px_base.proofs.Loops.{AllBefore}
use Rattle.px_diff.proofs.row_questions.have_few.Given as goal

abbrev pub invariant-loop-form : goal.invariant-loop-form
invariant-loop-form l =
    AllBefore (λ (form : Atom). AreFewGapShapes (setting_of l.problem l.model.atoms) (form ∷ []) (length form.args)) l.forms l.form-index
