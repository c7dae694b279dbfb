use Rattle.std.proofs.Common.{take}
use Rattle.px_diff.specs.Gathering.{Gathers}
use Rattle.px_entries.specs.Instances.{IsCovered}
use Rattle.px_diff.proofs.first_instances.gather_first.Given as goal

abbrev pub invariant-loop-place : goal.invariant-loop-place
invariant-loop-place l =
    Gathers l.request.problem.now l.request.tables.now l.request.wanted.now l.request.stack.now l.request.model.now.atoms
    (IsCovered l.request.problem.now (take l.place l.matches)) l.initial.found.items l.found.items
