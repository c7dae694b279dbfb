use Rattle.std.specs.Prelude.{take}
use Rattle.px_question.specs.Settings.{setting_of}
use Rattle.px_gaps.proofs.Apartness.{AreTogether}
use Rattle.px_gaps.proofs.by_atoms.gaps_together.Given as goal

abbrev pub invariant-loop-atom : goal.invariant-loop-atom
invariant-loop-atom l = AreTogether (setting_of l.problem l.model.atoms) (take l.atom-index l.atoms) l.each_has l.found.atoms
