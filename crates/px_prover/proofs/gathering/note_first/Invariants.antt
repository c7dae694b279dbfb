use Rattle.px_prover.specs.Gathering.{IsFirstVariable, NotesEnds}
use Rattle.px_prover.proofs.gathering.note_first.Given as goal

abbrev pub invariant-loop-variable : goal.invariant-loop-variable
invariant-loop-variable l = NotesEnds (IsFirstVariable l.variable) l.roots l.fn.free.items l.free.items
