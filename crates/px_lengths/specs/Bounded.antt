-- That no text is longer than its bound.
use Rattle.std.specs.Prelude.{◌≡◌, ◌≤◌, ◌++◌, ℕ, List, length}
use Rattle.px_printer.specs.Notices.{no_text, yes_text}
use Rattle.px_printer.specs.declared.reply.Reply.{Reply}
use Rattle.px_script.specs.declared.command.Command.{Command}
use Rattle.px_script.specs.Content.{ScriptValue}
use Rattle.px_script.specs.Ranges.{IsInRange}
use Rattle.px_session.specs.Demo.{Summary}
use Rattle.px_session.specs.Sessions.{SessionState, opening}
use Rattle.px_session.specs.Transcripts.{AreAnswers, texts}
use Rattle.px_lengths.specs.Longest.{longest_summary, longest_transcript, longest_verdict}

-- The texts of lawful replies to the first commands of a script are no longer than the script's longest transcript. The line of a demo has
-- a bound, too, and so has that of a certificate.
pub record TextsAreBounded : Type 0 where
  pub begun : (script : ScriptValue) (before after : List Command) (answers : List Reply) (last : SessionState) → IsInRange script
      → script.commands ≡ before ++ after → AreAnswers script.problem (opening script.facts script.saved) before answers last
      → length (texts script.names answers) ≤ longest_transcript script
  pub summaries : (rooms seed : ℕ) (text : List ℕ) → Summary rooms seed text → length text ≤ longest_summary
  pub right : (params steps : ℕ) → length (yes_text params steps) ≤ longest_verdict
  pub wrong : length no_text ≤ longest_verdict
