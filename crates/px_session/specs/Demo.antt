-- The line that sums up the replies to the demo's script.
use Rattle.std.specs.Prelude.{◌≡◌, ℕ, Bool, true, false, List, [], ◌∷◌, codes, count_by, length, sum_by}
use Rattle.std.specs.Fmt.{decimal}
use Rattle.px_demo.specs.Script.{demo_script}
use Rattle.px_printer.specs.Texts.{text_line}
use Rattle.px_printer.specs.declared.reply.Reply.{Reply}
use Rattle.px_printer.specs.declared.reply.Reply.TheVariants as reply
use Rattle.px_printer.specs.declared.turn.Turn.{Turn}
use Rattle.px_printer.specs.declared.turn.TurnEnd.{TurnEnd}
use Rattle.px_printer.specs.declared.turn.TurnEnd.TheVariants.{Goal}
use Rattle.px_script.specs.Content.{ScriptValue}
use Rattle.px_script.specs.Scripts.{IsScript}
use Rattle.px_script.specs.Stages.{stage_now}
use Rattle.px_session.specs.Transcripts.{AreAnswersTo}

abbrev pub is_plan : Reply → Bool
is_plan (reply.Plan name moves steps) = true
is_plan answer = false

abbrev pub step_count : Reply → ℕ
step_count (reply.Plan name moves steps) = length steps
step_count answer = 0

abbrev pub is_goal : TurnEnd → Bool
is_goal Goal = true
is_goal end = false

abbrev pub ends_in_goal : List Turn → Bool
ends_in_goal [] = false
ends_in_goal (turn ∷ []) = is_goal turn.end
ends_in_goal (turn ∷ next ∷ turns) = ends_in_goal (next ∷ turns)

-- a run whose last turn is at the goal
abbrev pub reaches_goal : Reply → Bool
reaches_goal (reply.Ran name turns) = ends_in_goal turns
reaches_goal answer = false

abbrev pub summary_line : ℕ → ℕ → ℕ → List Reply → List ℕ
summary_line rooms seed commands answers =
    text_line (codes "demo" ∷ decimal rooms ∷ decimal seed ∷ decimal commands ∷ codes "commands" ∷ decimal (count_by is_plan answers)
    ∷ codes "plans"
    ∷ decimal (sum_by step_count answers) ∷ codes "steps" ∷ decimal (count_by reaches_goal answers) ∷ codes "goals" ∷ [])

-- the text sums up lawful replies to the commands of the demo's script
pub record Summary (rooms seed : ℕ) (text : List ℕ) : Type 0 where
  pub script : ScriptValue
  pub spelt : IsScript stage_now (demo_script rooms seed) script
  pub answers : List Reply
  pub lawful : AreAnswersTo script answers
  pub text_is : text ≡ summary_line rooms seed (length script.commands) answers
