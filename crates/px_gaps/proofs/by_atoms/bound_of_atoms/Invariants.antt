use Rattle.std.proofs.Common.{◌-◌, drop, length}
use Rattle.px_question.specs.Settings.{setting_of}
use Rattle.px_gaps.specs.ByAtoms.{IsBoundOfAtoms}
use Rattle.px_gaps.proofs.by_atoms.bound_of_atoms.Given as goal

abbrev pub invariant-loop-passed : goal.invariant-loop-passed
invariant-loop-passed l =
    IsBoundOfAtoms (setting_of l.problem l.model.atoms) (drop (length l.atoms - l.passed) l.atoms) l.bound
