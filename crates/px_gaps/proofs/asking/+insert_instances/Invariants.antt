use Rattle.px_question.specs.Settings.{setting_of}
use Rattle.px_gaps.specs.Bindings.{open_term_count}
use Rattle.px_gaps.specs.Provable.{FindsProvable}
use Rattle.px_gaps.proofs.Proving.{IsFoundBefore}
use Rattle.px_gaps.proofs.asking.+insert_instances.Given as goal

abbrev pub decreases-insert_instances : goal.decreases-insert_instances
decreases-insert_instances l = open_term_count l.terms.now

abbrev pub invariant-loop-object : goal.invariant-loop-object
invariant-loop-object l =
    FindsProvable (setting_of l.problem l.model.atoms)
    (IsFoundBefore l.problem.objects l.terms l.form l.variable l.object) l.initial.found.atoms l.found.atoms
