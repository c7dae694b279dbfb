-- Transcripts: what is to be written for a script.
use Rattle.std.specs.Prelude.{◌≡◌, ℕ, List, [], ◌∷◌}
use Rattle.std.specs.List.{flat_map}
use Rattle.px_names.specs.Lists.{NameLists}
use Rattle.px_terms.specs.declared.problem.Problem.{Problem}
use Rattle.px_printer.specs.Replies.{reply_text}
use Rattle.px_printer.specs.declared.reply.Reply.{Reply}
use Rattle.px_script.specs.declared.command.Command.{Command}
use Rattle.px_script.specs.Content.{ScriptValue}
use Rattle.px_script.specs.Scripts.{IsScript}
use Rattle.px_script.specs.Stages.{stage_now}
use Rattle.px_session.specs.Lawful.{Lawful}
use Rattle.px_session.specs.Sessions.{SessionState, opening}

-- each command is answered lawfully in the state that the one before left
abbrev pub AreAnswers : Problem → SessionState → List Command → List Reply → SessionState → Type 0
AreAnswers problem old [] [] last = last ≡ old
AreAnswers problem old [] (answer ∷ answers) last = ⊥
AreAnswers problem old (first ∷ commands) [] last = ⊥
AreAnswers problem old (first ∷ commands) (answer ∷ answers) last =
    (next : SessionState) × Lawful problem old first answer next × AreAnswers problem next commands answers last

-- lawful replies to all commands of the script, the first from the opening state
pub record AreAnswersTo (script : ScriptValue) (answers : List Reply) : Type 0 where
  pub last : SessionState
  pub lawful : AreAnswers script.problem (opening script.facts script.saved) script.commands answers last

-- the texts of replies, one after the other
abbrev pub texts : NameLists → List Reply → List ℕ
texts names answers = flat_map (reply_text names) answers

-- the bytes are a script, and the text is that of lawful replies to its commands
pub record Transcript (bytes text : List ℕ) : Type 0 where
  pub script : ScriptValue
  pub spelt : IsScript stage_now bytes script
  pub answers : List Reply
  pub lawful : AreAnswersTo script answers
  pub text_is : text ≡ texts script.names answers
