use Rattle.std.proofs.Common.{ap, sym, subst}
use Rattle.px_question.specs.Limits.{IsLimited}
use Rattle.px_question.specs.Settings.{setting_of}
use Rattle.px_gaps.specs.declared.question.Question.TheVariants.{Proving}
use Rattle.px_gaps.proofs.KnownSteps.{tried-limited}
use Rattle.px_gaps.proofs.knowing.try_formula.Goals as goal

pub returns-in-Err-ShapeLimit : goal.returns-in-Err-ShapeLimit
returns-in-Err-ShapeLimit c =
    tried-limited c.args.problem.now (record { formula = c.args.formula.now; variable_count = c.args.variable_count; facts = c.args.model.now.atoms })
    (record {
      question = Proving c.in_ok-asked-in-Err-ShapeLimit.asked;
      formula = c.in_ok-formula-in-Err-ShapeLimit.formula;
      shapes = c.from_vec-shapes.result;
    })
    (ap Proving c.in_ok-asked-in-Err-ShapeLimit.ensures) c.in_ok-formula-in-Err-ShapeLimit.ensures
    (subst (IsLimited (setting_of c.args.problem.now c.args.model.now.atoms) c.args.formula.now c.args.variable_count) (sym c.from_vec-shapes.ensures)
    (rw c.in-Err-ShapeLimit.field-0-is at c.in-Err-ShapeLimit.ensures.limited))
