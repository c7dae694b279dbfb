use Rattle.std.proofs.Common.{take}
use Rattle.std.specs.Prelude.{IfSome}
use Rattle.px_entries.specs.Deciding.{AreDeciding}
use Rattle.px_entries.specs.Decisions.{IsRightDecision}
use Rattle.px_entries.proofs.deciding.deciding_part.Given as goal

abbrev pub invariant-loop-atom : goal.invariant-loop-atom
invariant-loop-atom l = record {
  part : AreDeciding l.problem (take l.atom-index l.facts) l.part.atoms;
  right : IfSome l.last (IsRightDecision l.problem);
}
