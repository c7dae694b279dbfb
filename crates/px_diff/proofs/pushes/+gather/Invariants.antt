use Rattle.std.proofs.Common.{◌<◌, ℕ, List}
use Rattle.std.specs.Prelude.{slice_index}
use Rattle.px_terms.specs.declared.instance.OpInst.{OpInst}
use Rattle.px_diff.specs.Gathering.{Gathers}
use Rattle.px_entries.specs.Instances.{Fills}
use Rattle.px_diff.proofs.pushes.+gather.Given as goal

abbrev pub decreases-gather : goal.decreases-gather
decreases-gather l = l.partial.now.variable_count

abbrev pub invariant-loop-object : goal.invariant-loop-object
invariant-loop-object l =
    Gathers l.request.problem.now l.request.tables.now l.request.wanted.now l.request.stack.now l.request.model.now.atoms
    (λ (inst : OpInst). (objects : List ℕ) × Fills l.request.problem.now l.partial inst objects × (slice_index objects 0 < l.object))
    l.initial.found.items l.found.items
