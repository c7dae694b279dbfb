-- What a question to the prover reads.
use Rattle.std.specs.Prelude.{List}
use Rattle.px_prover.specs.declared.question.ProofQuestion.{ProofQuestion}
use Rattle.px_proof.specs.declared.shape.Tick.{Tick}
use Rattle.px_question.specs.Settings.{Setting, setting_of}
use Rattle.px_proof_walk.specs.Possible.{IsPossible, IsFinished}

abbrev pub setting_in : ProofQuestion → Setting
setting_in q = setting_of q.problem.now q.facts.now

-- the ticks may be those of a list of the question
abbrev pub IsPossibleIn : ProofQuestion → List Tick → Type 0
IsPossibleIn q ticks = IsPossible q.loose (setting_in q) q.formula.now q.variable_count ticks

abbrev pub IsFinishedIn : ProofQuestion → List Tick → Type 0
IsFinishedIn q ticks = IsFinished q.loose (setting_in q) q.formula.now q.variable_count ticks
