use Rattle.px_match.proofs.Renewed.{IsComing}
use Rattle.px_match.proofs.keeping.put_new.Given as goal

abbrev pub invariant-loop-atom : goal.invariant-loop-atom
invariant-loop-atom l = IsComing l.new.atoms l.marks l.initial.kept l.initial.lists l.atom-index l.kept l.lists
