-- What a state and a command determine, and what a session keeps.
use Rattle.std.specs.Prelude.{◌≡◌, ◌≤◌, ◌⊎◌, ◌++◌, ℕ, List, length, All}
use Rattle.std.specs.List.{AllZip}
use Rattle.px_names.specs.Lists.{NameLists}
use Rattle.px_terms.specs.declared.atom.Atom.{Atom}
use Rattle.px_terms.specs.declared.instance.OpInst.{OpInst}
use Rattle.px_terms.specs.declared.problem.Problem.{Problem}
use Rattle.px_terms.specs.AtomSets.{IsAtomSet}
use Rattle.px_terms.specs.Plans.{Carries}
use Rattle.px_terms.specs.Validity.{IsAtomOf, IsValid}
use Rattle.px_table.specs.declared.node.Node.{Node}
use Rattle.px_gaps.specs.declared.question.MetLimit.{MetLimit}
use Rattle.px_table.specs.declared.table.Table.{Table}
use Rattle.px_table.specs.Limits.{most_tables}
use Rattle.px_table.specs.Kernels.{KernelsCarry}
use Rattle.px_printer.specs.Replies.{reply_text}
use Rattle.px_printer.specs.declared.pursue_end.PursueEnd.{PursueEnd}
use Rattle.px_printer.specs.declared.reply.Reply.{Reply}
use Rattle.px_printer.specs.declared.reply.Reply.TheVariants as reply
use Rattle.px_printer.specs.declared.turn.Turn.{Turn}
use Rattle.px_pursue.specs.PursuitLaws.{AreLimitEnds}
use Rattle.px_script.specs.declared.command.Command.{Command}
use Rattle.px_script.specs.declared.command.Command.TheVariants.{Plan}
use Rattle.px_script.specs.Content.{ScriptValue}
use Rattle.px_script.specs.Ranges.{IsInRange}
use Rattle.px_session.specs.Demo.{Summary}
use Rattle.px_session.specs.Lawful.{Lawful}
use Rattle.px_session.specs.OwnStates.{HasOwnEdits, IsOwnGoal, IsOwnPursuit, IsOwnState}
use Rattle.px_session.specs.Sessions.{IsLearnedTable, IsSession, SessionState, opening}
use Rattle.px_session.specs.Transcripts.{AreAnswersTo, Transcript, texts}

-- both say that the search met the limit of shapes, by equally many shapes, perhaps at different questions
pub record AreLimits (one other : Reply) : Type 0 where
  pub name : ℕ
  pub node : Node
  pub also_node : Node
  pub limit : MetLimit
  pub also_limit : MetLimit
  pub one_is : one ≡ reply.ShapeLimit name node limit
  pub other_is : other ≡ reply.ShapeLimit name also_node also_limit
  pub as_many : length limit.shapes ≡ length also_limit.shapes

-- both say the same of a pursuit, whose last search met the limit of shapes, by equally many shapes, perhaps at different questions
pub record ArePursuitLimits (one other : Reply) : Type 0 where
  pub name : ℕ
  pub searches : ℕ
  pub turns : List Turn
  pub end : PursueEnd
  pub also_end : PursueEnd
  pub one_is : one ≡ reply.Pursuit name searches turns end
  pub other_is : other ≡ reply.Pursuit name searches turns also_end
  pub ends : AreLimitEnds end also_end

-- the same reply, apart from the question at which a search met the limit of shapes
abbrev pub SameReply : Reply → Reply → Type 0
SameReply one other = (one ≡ other) ⊎ (AreLimits one other ⊎ ArePursuitLimits one other)

-- A session's state and a command have at most one lawful reply and leave one state; and the same replies have one text.
pub record LawfulIsOne : Type 0 where
  pub replies : (problem : Problem) (old : SessionState) (command : Command) (one other : Reply) (new later : SessionState)
      → IsValid problem → IsSession problem old → Lawful problem old command one new → Lawful problem old command other later
      → SameReply one other × (new ≡ later)
  pub texts : (names : NameLists) (one other : Reply) → SameReply one other → reply_text names one ≡ reply_text names other

-- The opening state is one of a session, where the facts are a set and the saved tables are like learned ones, and no more; so it is for
-- each script that is in range. Where the problem is valid and a goal is one of the problem, each lawful reply leaves such a state; and
-- where the world's atoms, all edits and a goal that is pursued are of the problem, atoms and edits are so after it. Of the tables that a
-- session has, each proper instance of each kernel carries the steps that are left to the goal; and the world's atoms carry the steps of
-- each plan that a reply prints.
pub record SessionsAreKept : Type 0 where
  pub opened : (problem : Problem) (facts : List Atom) (saved : List (ℕ × Table)) → IsAtomSet facts
      → All (λ (one : ℕ × Table). IsLearnedTable problem one.1) saved → length saved ≤ most_tables → IsSession problem (opening facts saved)
  pub scripts : (script : ScriptValue) → IsInRange script → IsSession script.problem (opening script.facts script.saved)
  pub kept : (problem : Problem) (old : SessionState) (command : Command) (answer : Reply) (new : SessionState)
      → IsValid problem → IsSession problem old → IsOwnGoal problem command → Lawful problem old command answer new
      → IsSession problem new
  pub kernels : (problem : Problem) (state : SessionState) → IsSession problem state
      → All (KernelsCarry problem) (state.plans.tables ++ state.learned.tables)
  pub own : (problem : Problem) (old : SessionState) (command : Command) (answer : Reply) (new : SessionState)
      → IsValid problem → IsSession problem old → IsOwnState problem old → HasOwnEdits problem command → IsOwnPursuit problem command
      → Lawful problem old command answer new → IsOwnState problem new
  pub plans : (problem : Problem) (old : SessionState) (name : ℕ) (goal : List Atom)
      (variable_count given count : ℕ) (steps : List OpInst) (new : SessionState)
      → IsValid problem → IsSession problem old → All (IsAtomOf problem variable_count) goal
      → Lawful problem old (Plan name goal variable_count) (reply.Plan given count steps) new → Carries problem old.atoms steps variable_count goal

-- A script whose opening state is one of a session has one list of lawful replies, apart from questions at limits of shapes; the state
-- after them is one, and so is the text.
pub record AnswersAreOne : Type 0 where
  pub answers : (script : ScriptValue) (answers others : List Reply) → IsValid script.problem
      → IsSession script.problem (opening script.facts script.saved) → All (IsOwnGoal script.problem) script.commands
      → (one : AreAnswersTo script answers) (other : AreAnswersTo script others) → AllZip SameReply answers others × (one.last ≡ other.last)
  pub texts : (names : NameLists) (answers others : List Reply) → AllZip SameReply answers others → texts names answers ≡ texts names others

-- The text is determined by the bytes, and the line of the demo by its two numbers.
pub record TranscriptsAreOne : Type 0 where
  pub transcripts : (bytes text other : List ℕ) → Transcript bytes text → Transcript bytes other → text ≡ other
  pub summaries : (rooms seed : ℕ) (text other : List ℕ) → Summary rooms seed text → Summary rooms seed other → text ≡ other
