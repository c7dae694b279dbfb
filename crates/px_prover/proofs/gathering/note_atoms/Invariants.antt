use Rattle.std.specs.Prelude.{take}
use Rattle.px_prover.specs.Gathering.{IsArgument, NotesEnds}
use Rattle.px_prover.proofs.gathering.note_atoms.Given as goal

abbrev pub invariant-loop-atom : goal.invariant-loop-atom
invariant-loop-atom l = NotesEnds (IsArgument (take l.atom-index l.atoms)) l.roots l.fn.free.items l.free.items
