use Rattle.std.proofs.Common.{◌≡◌, false}
use Rattle.px_terms.specs.Operators.{deletes}
use Rattle.px_terms.specs.declared.instance.OpInst.{OpInst}
use Rattle.px_base.proofs.Loops.{AllBefore}
use Rattle.px_entries.proofs.macro_steps.none_deletes.Given as goal

abbrev pub invariant-loop-later : goal.invariant-loop-later
invariant-loop-later l = AllBefore (λ (later : OpInst). deletes l.problem later l.atom ≡ false) l.steps l.later-index
