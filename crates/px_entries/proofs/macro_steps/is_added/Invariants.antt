use Rattle.std.proofs.Common.{drop}
use Rattle.px_terms.specs.Operators.{IsAdded}
use Rattle.px_entries.proofs.macro_steps.is_added.Given as goal

abbrev pub invariant-loop-place : goal.invariant-loop-place
invariant-loop-place l = IsAdded l.problem l.steps l.atom → IsAdded l.problem (drop l.place l.steps) l.atom
