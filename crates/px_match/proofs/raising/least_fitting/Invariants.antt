use Rattle.std.specs.Prelude.{ℕ, ◌<◌, ◌≤◌}
use Rattle.px_terms.specs.Sorts.{FitsSort}
use Rattle.px_match.proofs.raising.least_fitting.Given as goal

abbrev pub invariant-loop-object : goal.invariant-loop-object
invariant-loop-object l = (n : ℕ) → l.from ≤ n → n < l.object → ¬ FitsSort l.question.problem.now.object_sorts l.wanted n
