-- A worked script: two predicates without arguments, of which one occurs, neither axioms nor operators, and most kinds of replies.
use Rattle.std.specs.Prelude.{◌≡◌, ◌++◌, ℕ, false, None, List, [], ◌∷◌, codes}
use Rattle.std.specs.List.{flat_map}
use Rattle.px_names.specs.Lists.{NameLists}
use Rattle.px_ends.specs.WorkedEnds.{idle, p, p_at_once}
use Rattle.px_world.specs.declared.edits.AtomEdit.TheVariants.{Add, Remove}
use Rattle.px_printer.specs.declared.reply.Reply.{Reply}
use Rattle.px_printer.specs.declared.reply.Reply.TheVariants as reply
use Rattle.px_printer.specs.declared.turn.Turn.{Turn}
use Rattle.px_printer.specs.declared.turn.TurnEnd.TheVariants.{Goal, NoKernel}
use Rattle.px_script.specs.declared.command.Command.TheVariants as command
use Rattle.px_script.specs.Content.{ScriptValue}
use Rattle.px_session.specs.Transcripts.{AreAnswersTo, Transcript, texts}

-- P and Q, and the results N, O and M
abbrev pub idle_names : NameLists
idle_names = record { objects = []; predicates = codes "P" ∷ codes "Q" ∷ []; operators = []; results = codes "N" ∷ codes "O" ∷ codes "M" ∷ [] }

-- `fact P`, `plan N P`, `show N`, `disturb 1 before -P`, `run N`, `facts`, `plan O P`, `show O`, `disturb 1 before +P`, `run O`,
-- `disturb 2 before -P`, `run N`, `facts`, `learn M from O`
abbrev pub idle_script : ScriptValue
idle_script = record {
  version = 1;
  names = idle_names;
  problem = idle;
  facts = p ∷ [];
  building = None;
  saved = [];
  commands =
      command.Plan 0 (p ∷ []) 0
      ∷ command.Show 0
      ∷ command.DisturbAtoms 1 false (Remove p ∷ [])
      ∷ command.Run 0 []
      ∷ command.Facts
      ∷ command.Plan 1 (p ∷ []) 0
      ∷ command.Show 1
      ∷ command.DisturbAtoms 1 false (Add p ∷ [])
      ∷ command.Run 1 []
      ∷ command.DisturbAtoms 2 false (Remove p ∷ [])
      ∷ command.Run 0 []
      ∷ command.Facts
      ∷ command.Learn 2 1
      ∷ [];
}

-- the turn that senses the goal, and the one that senses nothing
abbrev pub at_goal : Turn
at_goal = record { kernel = 1; op = None; end = Goal }

abbrev pub at_nothing : Turn
at_nothing = record { kernel = 0; op = None; end = NoKernel }

abbrev pub idle_answers : List Reply
idle_answers =
    reply.Plan 0 0 []
    ∷ reply.Shown 0 p_at_once
    ∷ reply.Noted 1
    ∷ reply.Ran 0 (at_nothing ∷ [])
    ∷ reply.FactsAre []
    ∷ reply.Exhausted 1
    ∷ reply.Unknown 1
    ∷ reply.Noted 1
    ∷ reply.Unknown 1
    ∷ reply.Noted 2
    ∷ reply.Ran 0 (at_goal ∷ [])
    ∷ reply.FactsAre (p ∷ [])
    ∷ reply.Unknown 1
    ∷ []

-- texts, each with a line feed
abbrev pub in_lines : List (List ℕ) → List ℕ
in_lines lines = flat_map (λ one. one ++ codes "\n") lines

abbrev pub idle_lines : List (List ℕ)
idle_lines =
    codes "plan N 0 steps 0 moves"
    ∷ codes "table N 0 parameters 0 steps"
    ∷ codes "row 1 goal P"
    ∷ codes "  0 P"
    ∷ codes "noted 1"
    ∷ codes "run N"
    ∷ codes "  turn 1 nokernel"
    ∷ codes "facts 0"
    ∷ codes "exhausted O"
    ∷ codes "unknown O"
    ∷ codes "noted 1"
    ∷ codes "unknown O"
    ∷ codes "noted 2"
    ∷ codes "run N"
    ∷ codes "  turn 1 kernel 1 goal"
    ∷ codes "facts 1"
    ∷ codes "  P"
    ∷ codes "unknown O"
    ∷ []

-- the script's bytes
abbrev pub idle_bytes : List ℕ
idle_bytes = codes "predicate P 0\npredicate Q 0\nheight 1\nnodes 1\nshapes 2\nfact P\nplan N P\nshow N\ndisturb 1 before -P\nrun N\n"
    ++ codes "facts\nplan O P\nshow O\ndisturb 1 before +P\nrun O\ndisturb 2 before -P\nrun N\nfacts\nlearn M from O\n"

-- The text is the transcript of the bytes. These are lawful replies. Where P is gone nothing fits; a run of a name without a table keeps what is recorded; and the second
-- disturbance is for a turn that isn't reached.
pub record WorkedSession : Type 0 where
  pub lawful : AreAnswersTo idle_script idle_answers
  pub text : texts idle_names idle_answers ≡ in_lines idle_lines
  pub transcript : Transcript idle_bytes (in_lines idle_lines)
