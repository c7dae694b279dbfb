use Rattle.std.proofs.Common.{◌≡◌, false}
use Rattle.px_terms.specs.Operators.{deletes}
use Rattle.px_terms.specs.declared.atom.Atom.{Atom}
use Rattle.px_base.proofs.Loops.{AllBefore}
use Rattle.px_entries.proofs.entry_rows.none_is_deleted.Given as goal

abbrev pub invariant-loop-atom : goal.invariant-loop-atom
invariant-loop-atom l = AllBefore (λ (atom : Atom). deletes l.problem l.inst atom ≡ false) l.atoms l.atom-index
