use Rattle.std.proofs.Common.{◌≡◌}
use Rattle.px_terms.specs.Operators.{adds}
use Rattle.px_terms.specs.declared.atom.Atom.{Atom}
use Rattle.px_base.proofs.Loops.{AllBefore}
use Rattle.px_entries.proofs.macro_steps.step_adds.Given as goal

abbrev pub invariant-loop-place : goal.invariant-loop-place
invariant-loop-place l = AllBefore (λ (a : Atom). ¬ (a ≡ l.atom)) (adds l.problem l.step) l.place
