-- What follows of a transcript: that the bytes determine it, and what its plans and tables are worth.
use Rattle.std.specs.Prelude.{◌≡◌, ◌≤◌, ◌++◌, ℕ, List, [], Some, length, take, All, slice_index_or}
use Rattle.px_terms.specs.Plans.{Carries}
use Rattle.px_terms.specs.declared.problem.Problem.{Problem}
use Rattle.px_table.specs.declared.table.Table.{Table}
use Rattle.px_table.specs.Kernels.{KernelsCarry}
use Rattle.px_world.specs.declared.thing.Thing.{Thing}
use Rattle.px_rooms.specs.States.{RoomState, first_state}
use Rattle.px_cert.specs.Certificates.{Claim, IsCertificate}
use Rattle.px_printer.specs.Notices.{yes_text}
use Rattle.px_printer.specs.declared.reply.Reply.{Reply}
use Rattle.px_printer.specs.declared.reply.Reply.TheVariants as reply
use Rattle.px_script.specs.declared.command.Command.{Command}
use Rattle.px_script.specs.declared.command.Command.TheVariants.{Plan, Facts, Run}
use Rattle.px_script.specs.Content.{ScriptValue}
use Rattle.px_session.specs.CertifiedReplies.{ReplyIsAccepted}
use Rattle.px_session.specs.Opened.{tables_of}
use Rattle.px_session.specs.RoomRuns.{AreAnswersIn, IsInBuilding}
use Rattle.px_session.specs.Lawful.{Lawful}
use Rattle.px_session.specs.Sessions.{SessionState, any_table, opening}
use Rattle.px_session.specs.ToldPursuits.{PursuitIsWorth}
use Rattle.px_session.specs.Transcripts.{AreAnswers, Transcript}
use Rattle.px_session.specs.Undisturbed.{ReachesGoal}
use Rattle.px_run.specs.Outcomes.{Came, IsCheckText, IsVerdict, SourceEnds}
use Rattle.px_run.specs.Transcripts.{Begun}
use Rattle.px_run.specs.declared.status.Status.{Status}
use Rattle.px_run.specs.declared.status.Status.TheVariants as status

-- The bytes determine the whole text. The text of the first commands begins it, and so is no longer. They determine what `check` writes,
-- too.
pub record TextsAreOne : Type 0 where
  pub whole : (bytes text other : List ℕ) → Transcript bytes text → Transcript bytes other → text ≡ other
  pub prefix : (bytes begun text : List ℕ) → Begun bytes begun → Transcript bytes text → (rest : List ℕ) × (text ≡ begun ++ rest)
  pub short : (bytes begun text : List ℕ) → Begun bytes begun → Transcript bytes text → length begun ≤ length text
  pub check : (bytes text other : List ℕ) → IsCheckText bytes text → IsCheckText bytes other → text ≡ other

-- the atoms of the state carry the steps of a plan that a reply prints to the goal that was asked for
abbrev pub PlanCarries : Problem → SessionState → Command → Reply → Type 0
PlanCarries problem state (Plan name goal variable_count) (reply.Plan given moves steps) = Carries problem state.atoms steps variable_count goal
PlanCarries problem state _ _ = Unit {0}

-- a run that a reply prints reaches the goal of the name's table, once it has sensed a kernel and nothing disturbs it after that
abbrev pub RunReaches : SessionState → Command → Reply → Type 0
RunReaches state (Run name bound) (reply.Ran given told) = (table : Table) → any_table state name ≡ Some table
    → ReachesGoal table state.recorded told
RunReaches state _ _ = Unit {0}

-- Each state that the reply leaves is worth what is said of a pursuit: it made at most one search more than disturbances are recorded, and
-- where it ends at the goal, the goal that was asked for holds wherever the axioms and the world's atoms do.
abbrev pub PursuitReaches : Problem → SessionState → Command → Reply → Type 0
PursuitReaches problem state command answer = (new : SessionState) → Lawful problem state command answer new
    → PursuitIsWorth problem state command answer new

-- From the first state of a building the replies leave one state of it after the other, each run by the edits and steps of its turns. The
-- session is in the last of these states: the world's atoms are its facts.
pub record AreInBuilding (script : ScriptValue) (things : List Thing) (done : ℕ) (answers : List Reply)
    (state : SessionState) : Type 0 where
  pub building : RoomState
  pub left : AreAnswersIn script.problem (opening script.facts script.saved) (first_state things) (take done script.commands)
      (take done answers) state building
  pub inside : IsInBuilding script.problem building state

-- `done` commands are done. In the state that their replies leave, the next command is answered by a plan only where the world's atoms
-- carry its steps to the goal; and each proper instance of each kernel of each stored and each learned table carries the steps that are
-- left to that table's goal. It is answered by a run only if that reaches the goal, once it has sensed a kernel and nothing disturbs it
-- after that. It is answered by a pursuit only if that made at most one search more than disturbances are recorded, and where it ended at
-- the goal, that holds wherever the axioms and the world's atoms do. The bytes by which it is answered where a certificate is asked for are
-- one, of the script's problem but for its limits, and what they claim is so. With a building the replies leave a state of it.
pub record CarriesAfter (script : ScriptValue) (answers : List Reply) (done : ℕ) : Type 0 where
  pub state : SessionState
  pub left : AreAnswers script.problem (opening script.facts script.saved) (take done script.commands) (take done answers) state
  pub plan : PlanCarries script.problem state (slice_index_or script.commands done Facts) (slice_index_or answers done (reply.FactsAre []))
  pub run : RunReaches state (slice_index_or script.commands done Facts) (slice_index_or answers done (reply.FactsAre []))
  pub pursuit : PursuitReaches script.problem state (slice_index_or script.commands done Facts)
      (slice_index_or answers done (reply.FactsAre []))
  pub kernels : All (KernelsCarry script.problem) (tables_of state)
  pub certified : ReplyIsAccepted script.problem state (slice_index_or answers done (reply.FactsAre []))
  pub rooms : (things : List Thing) → script.building ≡ Some things → AreInBuilding script things done answers state

-- this holds before each command of a transcript, and after the last
pub record TranscriptsCarry : Type 0 where
  pub carry : (bytes text : List ℕ) → (transcript : Transcript bytes text) → (done : ℕ) → done ≤ length transcript.script.commands
      → CarriesAfter transcript.script transcript.answers done

-- Where all commands were answered, `CarriesAfter` holds at each place of each transcript of the bytes that came.
abbrev pub CarriesWhereDone : SourceEnds → Status → Type 0
CarriesWhereDone source status.Done = (bytes text : List ℕ) → Came source bytes → (transcript : Transcript bytes text) → (done : ℕ)
    → done ≤ length transcript.script.commands → CarriesAfter transcript.script transcript.answers done
CarriesWhereDone source _ = Unit {0}

-- Where `yes` is the line of a certificate that came, each proper instance of each kernel of its table carries the steps that are left.
abbrev pub CertifiesWhereDone : SourceEnds → Status → Type 0
CertifiesWhereDone source status.Done = (bytes text : List ℕ) (claim : Claim) → Came source bytes → IsCertificate bytes claim
    → IsVerdict claim text → text ≡ yes_text claim.table.params (length claim.table.steps) → KernelsCarry claim.problem claim.table
CertifiesWhereDone source _ = Unit {0}
