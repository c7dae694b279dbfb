-- What a lawful reply changes of a session's state.
use Rattle.std.specs.Prelude.{◌≡◌, ◌++◌, ℕ, Bool, List, [], ◌∷◌, map}
use Rattle.std.proofs.Common.{refl, sym, ap, subst}
use Rattle.px_terms.specs.declared.atom.Atom.{Atom}
use Rattle.px_terms.specs.declared.instance.OpInst.{OpInst}
use Rattle.px_terms.specs.declared.problem.Problem.{Problem}
use Rattle.px_library.specs.Libraries.{with_table}
use Rattle.px_ends.specs.Tasks.{Task, task_of, task_with}
use Rattle.px_printer.specs.declared.duo_line.DuoLine.{DuoLine}
use Rattle.px_printer.specs.declared.pursue_end.PursueEnd.{PursueEnd}
use Rattle.px_printer.specs.declared.reply.Reply.{Reply}
use Rattle.px_printer.specs.declared.reply.Reply.TheVariants as reply
use Rattle.px_printer.specs.declared.turn.Turn.{Turn}
use Rattle.px_script.specs.declared.command.Command.{Command}
use Rattle.px_script.specs.declared.command.Command.TheVariants as command
use Rattle.px_session.specs.Lawful.{FindsPlan, IsDuoOf, IsEditedInto, IsLearned, IsPursuitOf, IsRunOf, Lawful, Notes, TellsDuo, TellsEditing, TellsFacts, TellsLearning, TellsPursuit, TellsRun, TellsSearch, TellsTree, recorded_for}
use Rattle.px_session.specs.OwnStates.{edits_given}
use Rattle.px_session.specs.Sessions.{Edit, SessionState, of_atoms, of_rooms}
use Rattle.px_session.proofs.AskedReplies.{certifying-same, saving-same, show-same}

-- What holds of the state, and of each state that one more plan, one more learned or edited table, one more disturbance, a run, two
-- executors or a pursuit leave of it, holds of the state after each lawful reply.
module _ (problem : Problem) (old : SessionState) (given : Command) (P : SessionState → Type 0) (same : P old)
    (stored : (name : ℕ) (goal : List Atom) (variable_count count : ℕ) (steps : List OpInst) (new : SessionState) → given ≡ command.Plan name goal variable_count
    → (is : FindsPlan (task_of problem old.learned.tables old.atoms goal variable_count) name old count steps new)
    → P (record old { plans = with_table old.plans name is.made }))
    (learned : (name source params steps : ℕ) (new : SessionState) → given ≡ command.Learn name source
    → IsLearned problem name source old params steps new → P new)
    (edited : (name source prefix : ℕ) (wanted : List (ℕ × ℕ)) (params steps : ℕ) (new : SessionState)
    → given ≡ command.Edit name source prefix wanted → IsEditedInto problem name source prefix wanted old params steps new → P new)
    (noted : (turn : ℕ) (between : Bool) → P (record old { recorded = old.recorded ++ recorded_for turn between (edits_given given) ∷ [] }))
    (ran : (name : ℕ) (bound : List (ℕ × ℕ)) (told : List Turn) (new : SessionState) → given ≡ command.Run name bound
    → IsRunOf problem name bound old told new → P new)
    (dual : (first second : ℕ) (numbers : List ℕ) (lines : List DuoLine) (new : SessionState) → given ≡ command.Duo first second numbers
    → IsDuoOf problem first second numbers old lines new → P new)
    (pursued : (name : ℕ) (goal : List Atom) (variable_count searches : ℕ) (told : List Turn) (end : PursueEnd) (new : SessionState)
    → given ≡ command.Pursue name goal variable_count → IsPursuitOf problem goal variable_count old searches told end new → P new) where
  unchanged : (new : SessionState) → new ≡ old → P new
  unchanged new is = subst P (sym is) same

  after-search : (name : ℕ) (goal : List Atom) (variable_count : ℕ) → given ≡ command.Plan name goal variable_count → (answer : Reply) (new : SessionState)
      → TellsSearch (task_of problem old.learned.tables old.atoms goal variable_count) name old answer new → P new
  after-search name goal variable_count by (reply.Plan told count steps) new is =
      subst P (sym is.1.stored) (stored name goal variable_count count steps new by is.1)
  after-search name goal variable_count by (reply.Exhausted told) new is = unchanged new is.2
  after-search name goal variable_count by (reply.NodeLimit told nodes moves) new is = unchanged new is.2
  after-search name goal variable_count by (reply.ShapeLimit told node limit) new is = unchanged new is.2
  after-search name goal variable_count by answer new is = absurd is

  after-learning : (name source : ℕ) → given ≡ command.Learn name source → (answer : Reply) (new : SessionState)
      → TellsLearning problem old name source answer new → P new
  after-learning name source by (reply.Unknown told) new is = unchanged new is.2
  after-learning name source by (reply.LearnRefused told why) new is = unchanged new is.1.same
  after-learning name source by (reply.Learned told params steps) new is = learned name source params steps new by is.1
  after-learning name source by answer new is = absurd is

  after-editing : (name source prefix : ℕ) (wanted : List (ℕ × ℕ)) → given ≡ command.Edit name source prefix wanted
      → (answer : Reply) (new : SessionState) → TellsEditing problem old name source prefix wanted answer new → P new
  after-editing name source prefix wanted by (reply.Unknown told) new is = unchanged new is.2
  after-editing name source prefix wanted by (reply.EditRefused told why) new is = unchanged new is.1.same
  after-editing name source prefix wanted by (reply.Edited told params steps) new is =
      edited name source prefix wanted params steps new by is.1
  after-editing name source prefix wanted by answer new is = absurd is

  after-notes : (turn : ℕ) (between : Bool) (edits : List Edit) → edits_given given ≡ edits → (answer : Reply) (new : SessionState)
      → Notes old (recorded_for turn between edits) answer new → P new
  after-notes turn between edits are (reply.Noted count) new is = subst P (sym is.1)
      (subst (λ (l : List Edit). P (record old { recorded = old.recorded ++ recorded_for turn between l ∷ [] })) are (noted turn between))
  after-notes turn between edits are answer new is = absurd is

  after-run : (name : ℕ) (bound : List (ℕ × ℕ)) → given ≡ command.Run name bound → (answer : Reply) (new : SessionState)
      → TellsRun problem old name bound answer new → P new
  after-run name bound by (reply.Unknown told) new is = unchanged new is.2
  after-run name bound by (reply.UnknownParam param) new is = unchanged new is.same
  after-run name bound by (reply.Ran told turns) new is = ran name bound turns new by is.1
  after-run name bound by answer new is = absurd is

  after-duo : (first second : ℕ) (numbers : List ℕ) → given ≡ command.Duo first second numbers → (answer : Reply) (new : SessionState)
      → TellsDuo problem old first second numbers answer new → P new
  after-duo first second numbers by (reply.Unknown told) new is = unchanged new is.1
  after-duo first second numbers by (reply.DuoRan one other lines) new is = dual first second numbers lines new by is.2
  after-duo first second numbers by answer new is = absurd is

  after-pursuit : (name : ℕ) (goal : List Atom) (variable_count : ℕ) → given ≡ command.Pursue name goal variable_count → (answer : Reply) (new : SessionState)
      → TellsPursuit problem old name goal variable_count answer new → P new
  after-pursuit name goal variable_count by (reply.Pursuit told searches turns end) new is = pursued name goal variable_count searches turns end new by is.1
  after-pursuit name goal variable_count by answer new is = absurd is

  after-tree : (task : Task) (name : ℕ) (answer : Reply) (new : SessionState) → TellsTree task name old answer new → P new
  after-tree task name (reply.Tree told tables tree) new is = unchanged new is.3
  after-tree task name answer new is = absurd is

  after-facts : (answer : Reply) (new : SessionState) → TellsFacts old answer new → P new
  after-facts (reply.FactsAre atoms) new is = unchanged new is.2
  after-facts answer new is = absurd is

  after-reply : (one : Command) → given ≡ one → (answer : Reply) (new : SessionState) → Lawful problem old one answer new → P new
  after-reply (command.Plan name goal variable_count) by answer new is =
      after-search name goal variable_count by answer new is
  after-reply (command.Learn name source) by answer new is = after-learning name source by answer new is
  after-reply (command.Edit name source prefix wanted) by answer new is = after-editing name source prefix wanted by answer new is
  after-reply (command.Show name) by answer new is = unchanged new (show-same problem old name answer new is)
  after-reply (command.Save name) by answer new is = unchanged new (saving-same problem old name answer new is)
  after-reply (command.Certify name) by answer new is = unchanged new (certifying-same problem old name answer new is)
  after-reply (command.DisturbAtoms turn between edits) by answer new is =
      after-notes turn between (map of_atoms edits) (ap edits_given by) answer new is
  after-reply (command.DisturbRooms turn between edits) by answer new is =
      after-notes turn between (map of_rooms edits) (ap edits_given by) answer new is
  after-reply (command.Run name bound) by answer new is = after-run name bound by answer new is
  after-reply (command.Duo first second numbers) by answer new is = after-duo first second numbers by answer new is
  after-reply (command.Pursue name goal variable_count) by answer new is = after-pursuit name goal variable_count by answer new is
  after-reply (command.Tree name nodes goal variable_count) by answer new is =
      after-tree (task_with problem nodes old.learned.tables old.atoms goal variable_count) name answer new is
  after-reply command.Facts by answer new is = after-facts answer new is

  pub replied : (answer : Reply) (new : SessionState) → Lawful problem old given answer new → P new
  replied answer new is = after-reply given refl answer new is
