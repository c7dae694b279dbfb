-- What is counted of the replies to a session's commands.
use Rattle.std.specs.Prelude.{◌≡◌, ◌+◌, ℕ, List, cond, count_by, length, sum_by}
use Rattle.px_printer.specs.declared.reply.Reply.{Reply}
use Rattle.px_session.specs.Demo.{is_plan, reaches_goal, step_count, summary_line}
use Rattle.px_session.specs.Opened.{SessionValue}
use Rattle.px_session.specs.Sessions.{SessionState}
use Rattle.px_session.specs.Transcripts.{AreAnswers}
use Rattle.px_run.specs.declared.counts.Counts.{Counts}

-- lawful replies to all commands of a session, in order, from its state on
pub record IsAnsweredBy (session : SessionValue) (answers : List Reply) : Type 0 where
  pub last : SessionState
  pub lawful : AreAnswers session.problem session.state session.commands answers last

-- these are the plans, their steps and the goals that are reached
pub record IsCountOf (answers : List Reply) (counts : Counts) : Type 0 where
  pub plans : counts.plans ≡ count_by is_plan answers
  pub steps : counts.steps ≡ sum_by step_count answers
  pub goals : counts.goals ≡ count_by reaches_goal answers

-- the counts with those of one reply more
pub record HasMore (counts : Counts) (answer : Reply) (more : Counts) : Type 0 where
  pub plans : more.plans ≡ counts.plans + cond (is_plan answer) 1 0
  pub steps : more.steps ≡ counts.steps + step_count answer
  pub goals : more.goals ≡ counts.goals + cond (reaches_goal answer) 1 0

-- the counts of lawful replies to all commands
abbrev pub IsCounted : SessionValue → Counts → Type 0
IsCounted session counts = (answers : List Reply) × IsAnsweredBy session answers × IsCountOf answers counts

-- the line that sums up lawful replies to all commands
abbrev pub IsSumOf : (rooms seed : ℕ) → SessionValue → List ℕ → Type 0
IsSumOf rooms seed session text =
    (answers : List Reply) × IsAnsweredBy session answers × (text ≡ summary_line rooms seed (length session.commands) answers)
