-- A question of gaps that is proper, and whose formula has an atom.
use Rattle.std.specs.Prelude.{◌<◌, length}
use Rattle.px_prover.specs.declared.gap_question.GapQuestion.{GapQuestion}
use Rattle.px_prover.specs.GapAsking.{gap_setting}
use Rattle.px_prover.specs.Standing.{IsProperQuestion}

pub record IsAsked (q : GapQuestion) : Type 0 where
  pub proper : IsProperQuestion (gap_setting q) q.formula.now q.variable_count
  pub some_atom : 0 < length q.formula.now
  pub some_shape : 0 < q.problem.now.shapes
