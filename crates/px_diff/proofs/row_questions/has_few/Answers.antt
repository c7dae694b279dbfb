use Rattle.std.proofs.Common.{ℕ, [], ◌∷◌, length, ap, sym, subst}
use Rattle.std.proofs.lemmas.List.Elements.{All-cons, All-nil}
use Rattle.px_question.specs.Limits.{AreFewGapShapes}
use Rattle.px_question.specs.Settings.{setting_of}
use Rattle.px_terms.specs.Validity.{IsAtomOf}
use Rattle.px_diff.proofs.row_questions.has_few.Goals as goal

pub gap_patterns-requires-clause-formula : goal.gap_patterns-requires-clause-formula
gap_patterns-requires-clause-formula c =
    let variable_count = length c.args-2.result.now in
    All-cons (IsAtomOf c.args.problem.now variable_count) c.args.form.now []
    (subst (λ (n : ℕ). IsAtomOf c.args.problem.now n c.args.form.now) (ap length (sym c.args-2.ensures.value)) c.requires.form.is_atom)
    (All-nil (IsAtomOf c.args.problem.now variable_count))

pub returns-in-Ok : goal.returns-in-Ok
returns-in-Ok c =
    λ _. subst (λ (n : ℕ). AreFewGapShapes (setting_of c.args.problem.now c.args.model.now.atoms) (c.args.form.now ∷ []) n)
    (ap length c.args-2.ensures.value) c.in-Ok.ensures.few
