-- What a question for gaps reads.
use Rattle.std.specs.Prelude.{true, List}
use Rattle.px_prover.specs.declared.gap_question.GapQuestion.{GapQuestion}
use Rattle.px_proof.specs.declared.shape.Tick.{Tick}
use Rattle.px_question.specs.Settings.{Setting, setting_of}
use Rattle.px_proof_walk.specs.Possible.{IsGoingOn}

-- Alike: `setting_in` of Asking, of the other kind of questions, which has a field more.
abbrev pub gap_setting : GapQuestion → Setting
gap_setting q = setting_of q.problem.now q.facts.now

-- the ticks may be those of a list of the question in which a place is open
abbrev pub IsGoingOnIn : GapQuestion → List Tick → Type 0
IsGoingOnIn q ticks = IsGoingOn true (gap_setting q) q.formula.now q.variable_count ticks
