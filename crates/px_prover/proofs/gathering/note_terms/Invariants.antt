use Rattle.std.specs.Prelude.{take, Contains}
use Rattle.px_prover.specs.Gathering.{NotesEnds}
use Rattle.px_prover.proofs.gathering.note_terms.Given as goal

abbrev pub invariant-loop-term : goal.invariant-loop-term
invariant-loop-term l = NotesEnds (Contains (take l.term-index l.terms)) l.roots l.fn.free.items l.free.items
