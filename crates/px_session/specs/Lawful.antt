-- Which replies to a command are lawful, and what state each leaves.
use Rattle.std.specs.Prelude.{◌≡◌, ◌+◌, ◌≤◌, ◌++◌, ℕ, Bool, not, nat_lt, Option, Some, None, is_some, List, [], ◌∷◌, map, find, length, option_map}
use Rattle.px_table.specs.Limits.{most_tables}
use Rattle.px_terms.specs.declared.atom.Atom.{Atom}
use Rattle.px_terms.specs.declared.instance.OpInst.{OpInst}
use Rattle.px_terms.specs.declared.problem.Problem.{Problem}
use Rattle.px_terms.specs.AtomSets.{IsAtomSet}
use Rattle.px_table.specs.declared.entry.Move.{Move}
use Rattle.px_table.specs.declared.table.Table.{Table}
use Rattle.px_general.specs.General.{Generalises}
use Rattle.px_general.specs.Limits.{IsTooDeep, IsTooLong, IsTooWide}
use Rattle.px_library.specs.Libraries.{table_named, with_table}
use Rattle.px_planex.specs.Turns.{Recorded, RunsTable}
use Rattle.px_duo.specs.Duos.{both}
use Rattle.px_pursue.specs.Pursuits.{IsPursuit}
use Rattle.px_edit.specs.EditCauses.{IsBadPrefix, IsEditable, IsFirstBadWant, KeepsTooDeep, KeepsTooMany}
use Rattle.px_edit.specs.Editing.{IsEdited}
use Rattle.px_ends.specs.ByValue.{IsExhausted, IsFound, IsNodeLimit, IsShapeLimit}
use Rattle.px_ends.specs.Made.{IsTableOfMoves}
use Rattle.px_ends.specs.Tasks.{Task, steps_of, task_of, task_with}
use Rattle.px_printer.specs.declared.duo_line.DuoLine.{DuoLine}
use Rattle.px_printer.specs.declared.pursue_end.PursueEnd.{PursueEnd}
use Rattle.px_printer.specs.declared.reply.EditWhy.{EditWhy}
use Rattle.px_printer.specs.declared.reply.EditWhy.TheVariants as edit_why
use Rattle.px_printer.specs.declared.reply.Reply.{Reply}
use Rattle.px_printer.specs.declared.reply.Reply.TheVariants as reply
use Rattle.px_printer.specs.declared.reply.Why.{Why}
use Rattle.px_printer.specs.declared.reply.Why.TheVariants.{TooLong, TooDeep, TooWide, Full}
use Rattle.px_printer.specs.declared.turn.Turn.{Turn}
pub use Rattle.px_turns.specs.Told.{end_told, turn_told}
use Rattle.px_ends.specs.Trees.{IsTree}
use Rattle.px_script.specs.declared.command.Command.{Command}
use Rattle.px_script.specs.declared.command.Command.TheVariants as command
use Rattle.px_session.specs.Asked.{TellsCertifying, TellsSaving, TellsShow}
use Rattle.px_session.specs.DuoRuns.{RunsDuo}
use Rattle.px_session.specs.Sessions.{Edit, SessionState, any_table, leaves_edit, of_atoms, of_rooms}

-- ---- plan

-- The search found `count` moves, which take these steps, and the table of the moves is stored under the name. (So the world's atoms carry
-- the steps to the goal, and the table is like each plan's: law `sessions_are_kept`.)
pub record FindsPlan (task : Task) (name : ℕ) (old : SessionState) (count : ℕ) (steps : List OpInst) (new : SessionState) : Type 0 where
  pub moves : List Move
  pub found : IsFound task task.problem.weight moves
  pub counted : count ≡ length moves
  pub taken : steps ≡ steps_of task.tables [] moves
  pub made : Table
  pub table : IsTableOfMoves task moves made
  pub stored : new ≡ record old { plans = with_table old.plans name made }

-- Each reply says how the search ended, which has the problem's weight. Where no plan is found nothing changes.
abbrev pub TellsSearch : Task → ℕ → SessionState → Reply → SessionState → Type 0
TellsSearch task name old (reply.Plan given count steps) new = (given ≡ name) × FindsPlan task name old count steps new
TellsSearch task name old (reply.Exhausted given) new = (given ≡ name) × IsExhausted task task.problem.weight × (new ≡ old)
TellsSearch task name old (reply.NodeLimit given nodes moves) new = (given ≡ name)
    × IsNodeLimit task task.problem.weight nodes moves × (new ≡ old)
TellsSearch task name old (reply.ShapeLimit given node limit) new = (given ≡ name)
    × IsShapeLimit task task.problem.weight node limit × (new ≡ old)
TellsSearch task name old answer new = ⊥

-- ---- learn

-- the plan may not be learned, for the first of these causes
abbrev pub RefusesLearning : SessionState → Table → Why → Type 0
RefusesLearning state plan TooLong = IsTooLong plan
RefusesLearning state plan TooDeep = (¬ IsTooLong plan) × IsTooDeep plan
RefusesLearning state plan TooWide = (¬ IsTooLong plan) × (¬ IsTooDeep plan) × IsTooWide plan
RefusesLearning state plan Full = (¬ IsTooLong plan) × (¬ IsTooDeep plan) × (¬ IsTooWide plan) × (most_tables ≤ length state.learned.tables)

-- the stored plan may not be learned for this cause, and nothing changes
pub record IsNotLearned (source : ℕ) (old : SessionState) (why : Why) (new : SessionState) : Type 0 where
  pub plan : Table
  pub named : table_named old.plans source ≡ Some plan
  pub refused : RefusesLearning old plan why
  pub same : new ≡ old

-- The stored plan has no cause not to be learned. Its general table, of these numbers of parameters and steps, is put last among
-- the learned ones.
pub record IsLearned (problem : Problem) (name source : ℕ) (old : SessionState) (params steps : ℕ) (new : SessionState) : Type 0 where
  pub plan : Table
  pub named : table_named old.plans source ≡ Some plan
  pub allowed : (why : Why) → ¬ RefusesLearning old plan why
  pub general : Table
  pub generalises : Generalises problem plan general
  pub params_are : params ≡ general.params
  pub steps_are : steps ≡ length general.steps
  pub learned : new ≡ record old { learned = with_table old.learned name general }

-- to `learn NAME from SOURCE`: the source has no plan, or its plan may not be learned, or it is
abbrev pub TellsLearning : Problem → SessionState → ℕ → ℕ → Reply → SessionState → Type 0
TellsLearning problem old name source (reply.Unknown given) new = (given ≡ source) × (table_named old.plans source ≡ None) × (new ≡ old)
TellsLearning problem old name source (reply.LearnRefused given why) new = (given ≡ name) × IsNotLearned source old why new
TellsLearning problem old name source (reply.Learned given params steps) new = (given ≡ name)
    × IsLearned problem name source old params steps new
TellsLearning problem old name source answer new = ⊥

-- ---- edit

-- the table may not be edited so, for the first of these causes
abbrev pub RefusesEditing : Problem → SessionState → Table → ℕ → List (ℕ × ℕ) → EditWhy → Type 0
RefusesEditing problem state table prefix wanted edit_why.Prefix = IsBadPrefix table prefix
RefusesEditing problem state table prefix wanted edit_why.Want =
    (¬ IsBadPrefix table prefix) × ((place : ℕ) × IsFirstBadWant problem table prefix wanted place)
RefusesEditing problem state table prefix wanted edit_why.TooLong = IsEditable problem table prefix wanted × KeepsTooMany table wanted
RefusesEditing problem state table prefix wanted edit_why.TooDeep =
    IsEditable problem table prefix wanted × (¬ KeepsTooMany table wanted) × KeepsTooDeep table wanted
RefusesEditing problem state table prefix wanted edit_why.Full =
    IsEditable problem table prefix wanted × (¬ KeepsTooMany table wanted) × (¬ KeepsTooDeep table wanted)
    × (most_tables ≤ length state.learned.tables)

-- the name's table may not be edited so for this cause, and nothing changes
pub record IsNotEdited (problem : Problem) (source prefix : ℕ) (wanted : List (ℕ × ℕ))
    (old : SessionState) (why : EditWhy) (new : SessionState) : Type 0 where
  pub table : Table
  pub named : any_table old source ≡ Some table
  pub refused : RefusesEditing problem old table prefix wanted why
  pub same : new ≡ old

-- The name's table may be edited so, neither are too many steps kept nor is a proof of their rows too high, and there is room. The edited
-- table, of these numbers of parameters and steps, is put last among the learned ones.
pub record IsEditedInto (problem : Problem) (name source prefix : ℕ) (wanted : List (ℕ × ℕ))
    (old : SessionState) (params steps : ℕ) (new : SessionState) : Type 0 where
  pub table : Table
  pub named : any_table old source ≡ Some table
  pub editable : IsEditable problem table prefix wanted
  pub few : ¬ KeepsTooMany table wanted
  pub low : ¬ KeepsTooDeep table wanted
  pub room : ¬ (most_tables ≤ length old.learned.tables)
  pub edited : Table
  pub is : IsEdited problem table wanted edited
  pub params_are : params ≡ edited.params
  pub steps_are : steps ≡ length edited.steps
  pub learned : new ≡ record old { learned = with_table old.learned name edited }

-- to `edit NAME from SOURCE ..`: the source has no table, or its table may not be edited so, or it is
abbrev pub TellsEditing : Problem → SessionState → ℕ → ℕ → ℕ → List (ℕ × ℕ) → Reply → SessionState → Type 0
TellsEditing problem old name source prefix wanted (reply.Unknown given) new =
    (given ≡ source) × (any_table old source ≡ None) × (new ≡ old)
TellsEditing problem old name source prefix wanted (reply.EditRefused given why) new =
    (given ≡ name) × IsNotEdited problem source prefix wanted old why new
TellsEditing problem old name source prefix wanted (reply.Edited given params steps) new =
    (given ≡ name) × IsEditedInto problem name source prefix wanted old params steps new
TellsEditing problem old name source prefix wanted answer new = ⊥

-- ---- disturb

-- the disturbance is recorded, after the others, and the reply says how many are recorded then
abbrev pub Notes : SessionState → Recorded Edit → Reply → SessionState → Type 0
Notes old one (reply.Noted count) new = (count ≡ length old.recorded + 1) × (new ≡ record old { recorded = old.recorded ++ one ∷ [] })
Notes old one answer new = ⊥

-- ---- run

-- the first bound parameter that the table does not have; parameters are counted from 1
abbrev pub first_unknown : Table → List (ℕ × ℕ) → Option ℕ
first_unknown table bound = option_map (λ (pair : ℕ × ℕ). pair.0) (find (λ (pair : ℕ × ℕ). nat_lt table.params pair.0) bound)

-- the name's table does not have this parameter, the first of those that are bound; nothing changes, so what is recorded stays
pub record HasNoParameter (name : ℕ) (bound : List (ℕ × ℕ)) (old : SessionState) (param : ℕ) (new : SessionState) : Type 0 where
  pub table : Table
  pub named : any_table old name ≡ Some table
  pub unknown : first_unknown table bound ≡ Some param
  pub same : new ≡ old

-- The name's table has each bound parameter, and is run with all that is recorded, in the turns that the reply prints. The world is then
-- the one after the run, and nothing is recorded.
pub record IsRunOf (problem : Problem) (name : ℕ) (bound : List (ℕ × ℕ))
    (old : SessionState) (told : List Turn) (new : SessionState) : Type 0 where
  pub table : Table
  pub named : any_table old name ≡ Some table
  pub known : first_unknown table bound ≡ None
  pub after : List Atom
  pub runs : RunsTable leaves_edit problem table bound old.recorded old.atoms (map turn_told told) after
  pub changed : new ≡ record old { atoms = after; recorded = [] }

-- the name has no table, and nothing changes; or its table lacks a bound parameter; or it is run
abbrev pub TellsRun : Problem → SessionState → ℕ → List (ℕ × ℕ) → Reply → SessionState → Type 0
TellsRun problem old name bound (reply.Unknown given) new = (given ≡ name) × (any_table old name ≡ None) × (new ≡ old)
TellsRun problem old name bound (reply.UnknownParam param) new = HasNoParameter name bound old param new
TellsRun problem old name bound (reply.Ran given told) new = (given ≡ name) × IsRunOf problem name bound old told new
TellsRun problem old name bound answer new = ⊥

-- ---- duo

-- the first of these names that has no table
abbrev pub first_without_table : SessionState → List ℕ → Option ℕ
first_without_table state names = find (λ name. not (is_some (any_table state name))) names

-- Both names have tables, and two executors of these have the lines that the reply prints, from the world's atoms on. The world is then the
-- one that they leave, and what is recorded stays so.
pub record IsDuoOf (problem : Problem) (first second : ℕ) (numbers : List ℕ)
    (old : SessionState) (lines : List DuoLine) (new : SessionState) : Type 0 where
  pub one : Table
  pub other : Table
  pub first_named : any_table old first ≡ Some one
  pub second_named : any_table old second ≡ Some other
  pub after : List Atom
  pub runs : RunsDuo leaves_edit problem (both one other) old.atoms numbers lines after
  pub changed : new ≡ record old { atoms = after }

-- the reply has the first name without a table, and nothing changes; or both tables are executed in one world
abbrev pub TellsDuo : Problem → SessionState → ℕ → ℕ → List ℕ → Reply → SessionState → Type 0
TellsDuo problem old first second numbers (reply.Unknown given) new =
    (first_without_table old (first ∷ second ∷ []) ≡ Some given) × (new ≡ old)
TellsDuo problem old first second numbers (reply.DuoRan one other lines) new =
    (one ≡ first) × (other ≡ second) × IsDuoOf problem first second numbers old lines new
TellsDuo problem old first second numbers answer new = ⊥

-- ---- pursue

-- The goal is pursued from the world's atoms, with the learned tables and all that is recorded, by so many searches and in the turns that
-- the reply prints. The world is then the one after it, nothing is recorded, and no table is stored or learned.
pub record IsPursuitOf (problem : Problem) (goal : List Atom) (variable_count : ℕ)
    (old : SessionState) (searches : ℕ) (told : List Turn) (end : PursueEnd) (new : SessionState) : Type 0 where
  pub after : List Atom
  pub pursues : IsPursuit leaves_edit problem old.learned.tables goal variable_count old.recorded old.atoms searches (map turn_told told) end after
  pub changed : new ≡ record old { atoms = after; recorded = [] }

-- to `pursue NAME ..`: such a pursuit
abbrev pub TellsPursuit : Problem → SessionState → ℕ → List Atom → ℕ → Reply → SessionState → Type 0
TellsPursuit problem old name goal variable_count (reply.Pursuit given searches told end) new =
    (given ≡ name) × IsPursuitOf problem goal variable_count old searches told end new
TellsPursuit problem old name goal variable_count answer new = ⊥

-- ---- tree

-- to `tree NAME ..`: the names of the learned tables, and the tree of the search, which has the problem's weight. Nothing changes, and so
-- nothing is stored.
abbrev pub TellsTree : Task → ℕ → SessionState → Reply → SessionState → Type 0
TellsTree task name old (reply.Tree given tables tree) new =
    (given ≡ name) × (tables ≡ old.learned.names) × IsTree task task.problem.weight tree × (new ≡ old)
TellsTree task name old answer new = ⊥

-- ---- facts

-- the world's atoms, ascending
abbrev pub TellsFacts : SessionState → Reply → SessionState → Type 0
TellsFacts old (reply.FactsAre atoms) new = (atoms ≡ old.atoms) × IsAtomSet atoms × (new ≡ old)
TellsFacts old answer new = ⊥

-- ---- all commands

-- edits for a turn, before its sensing or between that and its action
abbrev pub recorded_for : ℕ → Bool → List Edit → Recorded Edit
recorded_for turn between edits = record { turn = turn; between = between; edits = edits }

-- In this state the command may have this reply, which leaves that state. A search starts from the world's atoms, with the learned tables;
-- that of a tree has room for as many nodes as the command says.
abbrev pub Lawful : Problem → SessionState → Command → Reply → SessionState → Type 0
Lawful problem old (command.Plan name goal variable_count) answer new =
    TellsSearch (task_of problem old.learned.tables old.atoms goal variable_count) name old answer new
Lawful problem old (command.Learn name source) answer new = TellsLearning problem old name source answer new
Lawful problem old (command.Edit name source prefix wanted) answer new = TellsEditing problem old name source prefix wanted answer new
Lawful problem old (command.Show name) answer new = TellsShow old name answer new
Lawful problem old (command.Save name) answer new = TellsSaving old name answer new
Lawful problem old (command.Certify name) answer new = TellsCertifying problem old name answer new
Lawful problem old (command.DisturbAtoms turn between edits) answer new =
    Notes old (recorded_for turn between (map of_atoms edits)) answer new
Lawful problem old (command.DisturbRooms turn between edits) answer new =
    Notes old (recorded_for turn between (map of_rooms edits)) answer new
Lawful problem old (command.Run name bound) answer new = TellsRun problem old name bound answer new
Lawful problem old (command.Duo first second numbers) answer new = TellsDuo problem old first second numbers answer new
Lawful problem old (command.Pursue name goal variable_count) answer new = TellsPursuit problem old name goal variable_count answer new
Lawful problem old (command.Tree name nodes goal variable_count) answer new =
    TellsTree (task_with problem nodes old.learned.tables old.atoms goal variable_count) name old answer new
Lawful problem old command.Facts answer new = TellsFacts old answer new
