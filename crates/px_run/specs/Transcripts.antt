-- What is to be written for the bytes that were read.
use Rattle.std.specs.Prelude.{◌≡◌, ◌⊎◌, ℕ, List, [], ◌∷◌, ◌++◌}
use Rattle.px_printer.specs.Notices.{refused_text}
use Rattle.px_printer.specs.Replies.{reply_text}
use Rattle.px_printer.specs.declared.reply.Reply.{Reply}
use Rattle.px_reader.specs.declared.refused.Refused.{Refused}
use Rattle.px_script.specs.declared.command.Command.{Command}
use Rattle.px_script.specs.Content.{ScriptValue}
use Rattle.px_script.specs.Stages.{stage_now}
use Rattle.px_script.specs.Scripts.{IsScript, FirstFault}
use Rattle.px_session.specs.Lawful.{Lawful}
use Rattle.px_session.specs.Opened.{SessionValue, opened_session}
use Rattle.px_session.specs.Sessions.{SessionState}
use Rattle.px_session.specs.Transcripts.{AreAnswers, texts}

-- the texts of lawful replies to all commands of a session, in order, from its state on
pub record IsTextOf (session : SessionValue) (text : List ℕ) : Type 0 where
  pub answers : List Reply
  pub last : SessionState
  pub lawful : AreAnswers session.problem session.state session.commands answers last
  pub text_is : text ≡ texts session.names answers

-- the texts of lawful replies to its first commands
pub record IsBegunOf (session : SessionValue) (text : List ℕ) : Type 0 where
  pub before : List Command
  pub after : List Command
  pub answers : List Reply
  pub last : SessionState
  pub whole : session.commands ≡ before ++ after
  pub lawful : AreAnswers session.problem session.state before answers last
  pub text_is : text ≡ texts session.names answers

-- the texts of lawful replies to its first commands, and the text of a lawful reply to the next one
pub record IsNextOf (session : SessionValue) (done next : List ℕ) : Type 0 where
  pub before : List Command
  pub command : Command
  pub after : List Command
  pub answers : List Reply
  pub state : SessionState
  pub answer : Reply
  pub last : SessionState
  pub whole : session.commands ≡ before ++ command ∷ after
  pub lawful : AreAnswers session.problem session.state before answers state
  pub lawful_next : Lawful session.problem state command answer last
  pub done_text : done ≡ texts session.names answers
  pub next_text : next ≡ reply_text session.names answer

-- the bytes are a script, and the text is the replies to its first commands
abbrev pub Begun : List ℕ → List ℕ → Type 0
Begun bytes text = (script : ScriptValue) × IsScript stage_now bytes script × IsBegunOf (opened_session script) text

-- the first fault of the bytes, with its line, its code, and the number of the limit that is passed, or 0
abbrev pub IsScriptRefused : List ℕ → Refused → Type 0
IsScriptRefused bytes refused = FirstFault stage_now bytes refused.line (record { code = refused.code; limit = refused.limit })

-- the text of a refusal
abbrev pub refusal_text : Refused → List ℕ
refusal_text refused = refused_text refused.line refused.code refused.limit

-- what is written at once for the bytes, and what is written before it: the refusal, and nothing; or the reply to a command, and those to
-- the commands before it
abbrev pub IsWritten : List ℕ → List ℕ → List ℕ → Type 0
IsWritten bytes done next = ((refused : Refused) × IsScriptRefused bytes refused × (done ≡ []) × (next ≡ refusal_text refused))
    ⊎ ((script : ScriptValue) × IsScript stage_now bytes script × IsNextOf (opened_session script) done next)
