use Rattle.std.proofs.Common.{take}
use Rattle.px_table.specs.Kernels.{steps_under}
use Rattle.px_entries.proofs.RowSteps.{AreAsked}
use Rattle.px_entries.proofs.entry_rows.known_prefix.Given as goal

abbrev pub invariant-loop-place : goal.invariant-loop-place
invariant-loop-place l =
    AreAsked l.problem l.table l.sigma (take l.prefix (steps_under l.table l.sigma)) l.model.atoms l.place l.facts.atoms l.known
