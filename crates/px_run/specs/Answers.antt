-- What answering the next command of a session gives.
use Rattle.std.specs.Prelude.{◌≡◌, ◌+◌, ℕ, List, [], Result, Ok, Err, slice_index_or}
use Rattle.px_printer.specs.Replies.{reply_text}
use Rattle.px_printer.specs.declared.reply.Reply.{Reply}
use Rattle.px_script.specs.declared.command.Command.TheVariants.{Facts}
use Rattle.px_session.specs.Lawful.{Lawful}
use Rattle.px_session.specs.Opened.{SessionValue}
use Rattle.px_run.specs.Outcomes.{SinkEnds, Wrote, Broke}
use Rattle.px_run.specs.Sums.{HasMore}
use Rattle.px_run.specs.declared.counts.Counts.{Counts}
use Rattle.px_run.specs.declared.running.AnswerErr.{AnswerErr}
use Rattle.px_run.specs.declared.running.AnswerErr.TheVariants as answer_err

-- the reply is lawful for the session's next command, and leaves the session in this state, with one command more done
pub record IsAnswered (old : SessionValue) (answer : Reply) (new : SessionValue) : Type 0 where
  pub lawful : Lawful old.problem old.state (slice_index_or old.commands old.done Facts) answer new.state
  pub frame : new ≡ record old { done = old.done + 1; state = new.state }

-- the text of a lawful reply to the next command
abbrev pub IsAnswerText : SessionValue → SessionValue → List ℕ → Type 0
IsAnswerText old new text = (answer : Reply) × IsAnswered old answer new × (text ≡ reply_text new.names answer)

-- the counts with those of a lawful reply to the next command
abbrev pub IsAnswerCount : SessionValue → SessionValue → Counts → Counts → Type 0
IsAnswerCount old new counts more = (answer : Reply) × IsAnswered old answer new × HasMore counts answer more

-- the outcomes of answering the next command
abbrev pub AnswerRight : {T : Type 0} → SessionValue → SessionValue → SinkEnds → Result T AnswerErr → Type 0
AnswerRight old new sink (Ok done) = (answer : Reply) × IsAnswered old answer new × Wrote sink (reply_text new.names answer)
AnswerRight old new sink (Err answer_err.Fault) = (answer : Reply) × IsAnswered old answer new × Broke sink [] (reply_text new.names answer)
AnswerRight old new sink (Err answer_err.NoMemory) = Wrote sink []

-- the outcomes of writing a text
abbrev pub PutRight : {T : Type 0} → List ℕ → SinkEnds → Result T AnswerErr → Type 0
PutRight text sink (Ok done) = Wrote sink text
PutRight text sink (Err answer_err.Fault) = Broke sink [] text
PutRight text sink (Err answer_err.NoMemory) = ⊥
