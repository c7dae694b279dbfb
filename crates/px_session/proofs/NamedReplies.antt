-- Each lawful reply to a command that is built has its names.
use Rattle.std.specs.Prelude.{◌≡◌, ◌<◌, ℕ, cond, not, Option, Some, None, is_some, List, length, map, All}
use Rattle.std.proofs.Common.{sym, ap, ◌∙◌, subst, arith}
use Rattle.std.proofs.lemmas.List.Elements.{All-weaker}
use Rattle.px_base.specs.Answers.{some_same}
use Rattle.px_names.specs.Lists.{NameLists}
use Rattle.px_terms.specs.declared.atom.Atom.{Atom}
use Rattle.px_terms.specs.declared.instance.OpInst.{OpInst}
use Rattle.px_terms.specs.declared.problem.Problem.{Problem}
use Rattle.px_terms.specs.Validity.{IsAtomOf, IsValid}
use Rattle.px_table.specs.declared.table.Table.{Table}
use Rattle.px_planex.specs.Turns.{Recorded}
use Rattle.px_ends.specs.Tasks.{Task, task_of, task_with}
use Rattle.px_duo.specs.Duos.{both}
use Rattle.px_printer.specs.DuoLines.{IsNamedDuoLine}
use Rattle.px_printer.specs.declared.reply.Reply.{Reply}
use Rattle.px_printer.specs.declared.reply.Reply.TheVariants as reply
use Rattle.px_printer.specs.Replies.{IsReplyNamed}
use Rattle.px_printer.specs.Texts.{IsNamedAtom, IsNamedInstance}
use Rattle.px_script.specs.declared.command.Command.{Command}
use Rattle.px_script.specs.declared.command.Command.TheVariants as command
use Rattle.px_session.specs.Lawful.{FindsPlan, Lawful, Notes, TellsDuo, TellsEditing, TellsFacts, TellsLearning, TellsPursuit, TellsRun, TellsSearch, TellsTree, recorded_for, turn_told}
use Rattle.px_session.specs.Named.{AreNamesOfProblem, HasTableNames, IsTellable, RepliesAreNamed, TellsOfNamed}
use Rattle.px_session.specs.Sessions.{Edit, IsLearnedTable, IsPlanTable, IsSession, SessionState, any_table, of_atoms, of_rooms}
use Rattle.px_session.proofs.AskedReplies.{named-certifying, named-saving, named-show}
use Rattle.px_session.proofs.FoundTables.{found-table}
use Rattle.px_session.proofs.Learned.{are-learned}
use Rattle.px_session.proofs.NamedTables.{tables-named, tables-named-later}
use Rattle.px_session.proofs.NamedTrees.{named-nodes}
use Rattle.px_session.proofs.NamedTerms.{named-atoms, named-step-of, named-steps, named-turns}
use Rattle.px_session.proofs.OneLearning.{any-right}
use Rattle.px_session.proofs.OwnDuos.{duo-steps, each_table}
use Rattle.px_session.proofs.OwnRuns.{IsOwnStep, run-steps}
use Rattle.px_session.proofs.PursuitRuns.{pursuit-steps}

-- a result of the same number has its name
same-result : (given name results : ℕ) → given ≡ name → name < results → given < results
same-result given name results same below = omega (arith, same, below)

module _ (problem : Problem) (names : NameLists) (all : AreNamesOfProblem problem names) where
  -- the first name without a table is one of the two
  named-unknown : (first second : ℕ) (one other : Option Table) (given : ℕ) → first < length names.results
      → second < length names.results
      → cond (not (is_some one)) (Some first) (cond (not (is_some other)) (Some second) None) ≡ Some given
      → given < length names.results
  named-unknown first second None other given below also is = same-result given first (length names.results) (sym (some_same is)) below
  named-unknown first second (Some table) None given below also is =
      same-result given second (length names.results) (sym (some_same is)) also
  named-unknown first second (Some table) (Some more) given below also is = absurd (cc)

  -- ---- replies

  module _ (valid : IsValid problem) (old : SessionState) (session : IsSession problem old) (goal : List Atom) (variable_count : ℕ)
      (own : All (IsAtomOf problem variable_count) goal) (name : ℕ) where
    abbrev task : Task
    task = task_of problem old.learned.tables old.atoms goal variable_count

    -- the steps of a plan that is found are those of its table
    named-plan : (count : ℕ) (steps : List OpInst) (new : SessionState) → FindsPlan task name old count steps new
        → All (IsNamedInstance names) steps
    named-plan count steps new is =
        let same : is.made.steps ≡ steps = is.table.steps ∙ sym is.taken in
        let plan = found-table task valid own (are-learned problem old session) valid.nodes.1 name count old new steps is in
        subst (All (IsNamedInstance names)) same (named-steps problem names all is.made.params is.made.steps plan.table.in_range.steps)

    named-search : (answer : Reply) (new : SessionState) → name < length names.results → TellsSearch task name old answer new
        → IsReplyNamed names answer
    named-search (reply.Plan given count steps) new below is =
        (same-result given name (length names.results) is.0 below, named-plan count steps new is.1)
    named-search (reply.Exhausted given) new below is = same-result given name (length names.results) is.0 below
    named-search (reply.NodeLimit given nodes moves) new below is = same-result given name (length names.results) is.0 below
    named-search (reply.ShapeLimit given node limit) new below is = same-result given name (length names.results) is.0 below
    named-search answer new below is = absurd is

    named-pursuit : (answer : Reply) (new : SessionState) → name < length names.results
        → TellsPursuit problem old name goal variable_count answer new → IsReplyNamed names answer
    named-pursuit (reply.Pursuit given searches told end) new below is =
        let steps = pursuit-steps problem old.learned.tables goal variable_count old.recorded valid (are-learned problem old session) own old.atoms
        searches (map turn_told told) end is.1.after is.1.pursues in
        (same-result given name (length names.results) is.0 below, named-turns problem names all told steps)
    named-pursuit answer new below is = absurd is

  -- the tables of a tree are those of the session
  named-tree : (old : SessionState) (session : IsSession problem old) (tables_named : HasTableNames (length names.results) old)
      (nodes : ℕ) (goal : List Atom) (variable_count name : ℕ) (answer : Reply) (new : SessionState) → name < length names.results
      → TellsTree (task_with problem nodes old.learned.tables old.atoms goal variable_count) name old answer new → IsReplyNamed names answer
  named-tree old session tables_named nodes goal variable_count name (reply.Tree given tables tree) new below is = (
    same-result given name (length names.results) is.0 below,
    record {
      tables = subst (All (λ n. n < length names.results)) (sym is.1) tables_named.known;
      nodes = named-nodes (task_with problem nodes old.learned.tables old.atoms goal variable_count) names all (are-learned problem old session) tables
          (ap length is.1 ∙ tables_named.each) problem.weight tree is.2;
    },
  )
  named-tree old session tables_named nodes goal variable_count name answer new below is = absurd is

  module _ (old : SessionState) (plans : All (IsPlanTable problem) old.plans.tables)
      (learned : All (IsLearnedTable problem) old.learned.tables) where
    named-run : (name : ℕ) (bound : List (ℕ × ℕ)) (answer : Reply) (new : SessionState) → name < length names.results
        → TellsRun problem old name bound answer new → IsReplyNamed names answer
    named-run name bound (reply.Unknown given) new below is = same-result given name (length names.results) is.0 below
    named-run name bound (reply.UnknownParam param) new below is = tt
    named-run name bound (reply.Ran given told) new below is =
        let right = any-right problem old plans learned name is.1.table is.1.named in
        let steps = run-steps problem is.1.table right bound old.recorded old.atoms (map turn_told told) is.1.after is.1.runs in
        (same-result given name (length names.results) is.0 below, named-turns problem names all told steps)
    named-run name bound answer new below is = absurd is

    named-duo : (first second : ℕ) (numbers : List ℕ) (answer : Reply) (new : SessionState) → first < length names.results
        → second < length names.results → TellsDuo problem old first second numbers answer new → IsReplyNamed names answer
    named-duo first second numbers (reply.Unknown given) new below also is =
        named-unknown first second (any_table old first) (any_table old second) given below also is.0
    named-duo first second numbers (reply.DuoRan one other lines) new below also is =
        let right = any-right problem old plans learned first is.2.one is.2.first_named in
        let other_right = any-right problem old plans learned second is.2.other is.2.second_named in
        let steps = duo-steps problem (both is.2.one is.2.other) (each_table problem is.2.one is.2.other right other_right) old.atoms numbers
        lines is.2.after is.2.runs in (
          same-result one first (length names.results) is.0 below,
          same-result other second (length names.results) is.1 also,
          All-weaker (λ line. IsOwnStep problem line.op) (IsNamedDuoLine names) (λ line own. named-step-of problem names all line.op own) lines steps,
        )
    named-duo first second numbers answer new below also is = absurd is

    named-facts : (answer : Reply) (new : SessionState) → All (IsAtomOf problem 0) old.atoms
        → TellsFacts old answer new → IsReplyNamed names answer
    named-facts (reply.FactsAre atoms) new of is = subst (All (IsNamedAtom names)) (sym is.0) (named-atoms problem names all 0 old.atoms of)
    named-facts answer new of is = absurd is

-- how many disturbances are recorded is no name
named-noted : (names : NameLists) (old : SessionState) (one : Recorded Edit) (answer : Reply) (new : SessionState)
    → Notes old one answer new
    → IsReplyNamed names answer
named-noted names old one (reply.Noted count) new is = tt
named-noted names old one answer new is = absurd is

-- learning reports a name of the two that are given
named-learning : (problem : Problem) (names : NameLists) (old : SessionState) (name source : ℕ) (answer : Reply) (new : SessionState)
    → name < length names.results → source < length names.results → TellsLearning problem old name source answer new
    → IsReplyNamed names answer
named-learning problem names old name source (reply.Unknown given) new below also is =
    same-result given source (length names.results) is.0 also
named-learning problem names old name source (reply.LearnRefused given why) new below also is =
    same-result given name (length names.results) is.0 below
named-learning problem names old name source (reply.Learned given params steps) new below also is =
    same-result given name (length names.results) is.0 below
named-learning problem names old name source answer new below also is = absurd is

-- so does editing
named-editing : (problem : Problem) (names : NameLists) (old : SessionState) (name source prefix : ℕ) (wanted : List (ℕ × ℕ))
    (answer : Reply) (new : SessionState) → name < length names.results → source < length names.results
    → TellsEditing problem old name source prefix wanted answer new → IsReplyNamed names answer
named-editing problem names old name source prefix wanted (reply.Unknown given) new below also is =
    same-result given source (length names.results) is.0 also
named-editing problem names old name source prefix wanted (reply.EditRefused given why) new below also is =
    same-result given name (length names.results) is.0 below
named-editing problem names old name source prefix wanted (reply.Edited given params steps) new below also is =
    same-result given name (length names.results) is.0 below
named-editing problem names old name source prefix wanted answer new below also is = absurd is

-- for each command that is built
named-each : (problem : Problem) (names : NameLists) (old : SessionState) (given : Command) (answer : Reply)
    (new : SessionState)
    → IsValid problem → AreNamesOfProblem problem names → All (IsAtomOf problem 0) old.atoms → IsSession problem old
    → TellsOfNamed (length names.results) old given → IsTellable problem (length names.results) given
    → Lawful problem old given answer new → IsReplyNamed names answer
named-each problem names old (command.Plan name goal variable_count) answer new valid all atoms session tables tellable is =
    named-search problem names all valid old session goal variable_count tellable.1 name answer new tellable.0 is
named-each problem names old (command.Pursue name goal variable_count) answer new valid all atoms session tables tellable is =
    named-pursuit problem names all valid old session goal variable_count tellable.1 name answer new tellable.0 is
named-each problem names old (command.Tree name nodes goal variable_count) answer new valid all atoms session tables tellable is =
    named-tree problem names all old session tables nodes goal variable_count name answer new tellable.0 is
named-each problem names old (command.Show name) answer new valid all atoms session tables tellable is =
    named-show problem old name names all session.plans session.learned tellable answer new is
named-each problem names old (command.Save name) answer new valid all atoms session tables tellable is =
    named-saving problem old name names all session.plans session.learned tellable answer new is
named-each problem names old (command.Certify name) answer new valid all atoms session tables tellable is =
    named-certifying problem old name names all session.plans session.learned tellable answer new is
named-each problem names old (command.Duo first second numbers) answer new valid all atoms session tables tellable is =
    named-duo problem names all old session.plans session.learned first second numbers answer new tellable.0 tellable.1 is
named-each problem names old command.Facts answer new valid all atoms session tables tellable is =
    named-facts problem names all old session.plans session.learned answer new atoms is
named-each problem names old (command.Learn name source) answer new valid all atoms session tables tellable is =
    named-learning problem names old name source answer new tellable.0 tellable.1 is
named-each problem names old (command.Edit name source prefix wanted) answer new valid all atoms session tables tellable is =
    named-editing problem names old name source prefix wanted answer new tellable.0 tellable.1 is
named-each problem names old (command.DisturbAtoms turn between edits) answer new valid all atoms session tables tellable is =
    named-noted names old (recorded_for turn between (map of_atoms edits)) answer new is
named-each problem names old (command.DisturbRooms turn between edits) answer new valid all atoms session tables tellable is =
    named-noted names old (recorded_for turn between (map of_rooms edits)) answer new is
named-each problem names old (command.Run name bound) answer new valid all atoms session tables tellable is =
    named-run problem names all old session.plans session.learned name bound answer new tellable is

pub replies_are_named : RepliesAreNamed
replies_are_named = record { replies = named-each; opened = tables-named; kept = tables-named-later }
