use Rattle.std.proofs.Common.{[], take}
use Rattle.px_question.specs.Settings.{setting_of}
use Rattle.px_gaps.specs.Forms.{IsStoodFor}
use Rattle.px_gaps.specs.Provable.{FindsProvable}
use Rattle.px_gaps.proofs.asking.provable_of.Given as goal

abbrev pub invariant-loop-form : goal.invariant-loop-form
invariant-loop-form l =
    FindsProvable (setting_of l.problem l.model.atoms) (IsStoodFor l.problem.objects (take l.form-index l.forms)) [] l.provable.atoms
