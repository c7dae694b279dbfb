-- Each command has a lawful reply, and each script a transcript.
use Rattle.std.specs.Prelude.{◌≡◌, ◌+◌, ◌++◌, ℕ, Bool, cond, not, Option, Some, None, is_some, List, [], ◌∷◌, length, map, All}
use Rattle.std.proofs.Common.{refl, sym, ap, subst, inl, inr}
use Rattle.std.proofs.lemmas.List.Elements.{All-head, All-tail}
use Rattle.px_terms.specs.declared.atom.Atom.{Atom}
use Rattle.px_terms.specs.declared.problem.Problem.{Problem}
use Rattle.px_terms.specs.Validity.{IsAtomOf, IsValid}
use Rattle.px_table.specs.declared.table.Table.{Table}
use Rattle.px_table.specs.Tables.{IsTable}
use Rattle.px_ends.specs.Tasks.{Task, steps_of, task_of, task_with}
use Rattle.px_library.specs.Libraries.{with_table}
use Rattle.px_planex.specs.Existing.{TracesExist}
use Rattle.px_planex.specs.Turns.{AtGoal, AtNoKernel, ByActing, BySlipping, Recorded, RunsTable, TurnValue}
use Rattle.px_planex.specs.Turns as executed
use Rattle.px_duo.specs.DuoLaws.{DuoTracesExist, DuosStayReady}
use Rattle.px_duo.specs.Duos.{both}
use Rattle.px_printer.specs.declared.reply.Reply.{Reply}
use Rattle.px_printer.specs.declared.reply.Reply.TheVariants as reply
use Rattle.px_printer.specs.declared.turn.Turn.{Turn}
use Rattle.px_printer.specs.declared.turn.TurnEnd.{TurnEnd}
use Rattle.px_printer.specs.declared.turn.TurnEnd.TheVariants.{Acted, Slipped, Goal, NoKernel}
use Rattle.px_pursue.specs.Pursuits.{IsPursuit}
use Rattle.px_script.specs.declared.command.Command.{Command}
use Rattle.px_script.specs.declared.command.Command.TheVariants as command
use Rattle.px_script.specs.Stages.{stage_now}
use Rattle.px_script.proofs.Kept.{in-range}
use Rattle.px_totality.specs.SearchEnds.{HasEnd}
use Rattle.px_totality.proofs.EndingRuns.{runs_end}
use Rattle.px_totality.proofs.MadeTables.{found_have_tables}
use Rattle.px_totality.proofs.SomeEnd.{searches_end}
use Rattle.px_session.specs.Existing.{AsksNoSearch, HasReply, RepliesExist, TranscriptsExist}
use Rattle.px_session.specs.Lawful.{Notes, end_told, first_unknown, recorded_for, turn_told}
use Rattle.px_session.specs.OwnStates.{IsOwnGoal}
use Rattle.px_session.specs.Sessions.{Edit, IsSession, SessionState, any_table, leaves_edit, of_atoms, of_rooms, opening}
use Rattle.px_session.specs.Transcripts.{AreAnswers, texts}
use Rattle.px_session.proofs.AskedReplies.{certify-reply, save-reply, show-reply}
use Rattle.px_session.proofs.DuosEnd.{duo-ends}
use Rattle.px_session.proofs.Executing.{own-goals}
use Rattle.px_session.proofs.ExistingEdits.{edit-reply}
use Rattle.px_session.proofs.ExistingLearning.{learn-reply}
use Rattle.px_session.proofs.Kept.{sessions_are_kept}
use Rattle.px_session.proofs.Learned.{are-learned}
use Rattle.px_session.proofs.OneLearning.{any-right}
use Rattle.px_session.proofs.OwnDuos.{each_table}
use Rattle.px_session.proofs.PursuitsEnd.{pursuits_end}
use Rattle.px_totality.proofs.TreesExist.{trees_exist}

-- ---- turns are told

abbrev told_end_of : executed.TurnEnd → TurnEnd
told_end_of AtGoal = Goal
told_end_of AtNoKernel = NoKernel
told_end_of ByActing = Acted
told_end_of BySlipping = Slipped

same_end : (end : executed.TurnEnd) → end_told (told_end_of end) ≡ end
same_end AtGoal = refl
same_end AtNoKernel = refl
same_end ByActing = refl
same_end BySlipping = refl

abbrev told_of : TurnValue → Turn
told_of turn = record { kernel = turn.kernel; op = turn.op; end = told_end_of turn.end }

turns-back : (turns : List TurnValue) → map turn_told (map told_of turns) ≡ turns
turns-back [] = refl
turns-back (turn ∷ turns) =
    let here : turn_told (told_of turn) ≡ turn =
    ap (λ (end : executed.TurnEnd). record { kernel = turn.kernel; op = turn.op; end = end }) (same_end turn.end) in
    let rest = turns-back turns in
    λ i. here i ∷ rest i

-- ---- trees

tree-reply : (problem : Problem) (old : SessionState) (name nodes : ℕ) (goal : List Atom) (variable_count : ℕ)
    → ¬ ¬ HasReply problem old (command.Tree name nodes goal variable_count)
tree-reply problem old name nodes goal variable_count never =
    trees_exist (task_with problem nodes old.learned.tables old.atoms goal variable_count) problem.weight
    (λ grown. never (reply.Tree name old.learned.names grown.0, (old, (refl, refl, grown.1, refl))))

-- ---- each command

module _ (traces-exist : TracesExist leaves_edit) (duo-traces-exist : DuoTracesExist leaves_edit) (stay-ready : DuosStayReady leaves_edit)
    (problem : Problem) (old : SessionState) where
  noted : (turn : ℕ) (between : Bool) (edits : List Edit)
      → (answer : Reply) × ((new : SessionState) × Notes old (recorded_for turn between edits) answer new)
  noted turn between edits =
      (reply.Noted (length old.recorded + 1), (record old { recorded = old.recorded ++ recorded_for turn between edits ∷ [] }, (refl, refl)))

  module _ (valid : IsValid problem) (session : IsSession problem old) where
    right : (name : ℕ) (table : Table) → any_table old name ≡ Some table → IsTable problem table
    right = any-right problem old session.plans session.learned

    ran-by : (name : ℕ) (bound : List (ℕ × ℕ)) (table : Table) → any_table old name ≡ Some table → first_unknown table bound ≡ None
        → HasReply problem old (command.Run name bound)
    ran-by name bound table named known =
        let run = runs_end leaves_edit traces-exist problem table bound old.recorded old.atoms valid (right name table named) in (
          reply.Ran name (map told_of run.0),
          (
            record old { atoms = run.1.0; recorded = [] },
            (
              refl,
              record {
                table = table;
                named = named;
                known = known;
                after = run.1.0;
                runs = subst (λ (turns : List TurnValue). RunsTable leaves_edit problem table bound old.recorded old.atoms turns run.1.0)
                    (sym (turns-back run.0)) run.1.1;
                changed = refl;
              },
            ),
          ),
        )

    ran : (name : ℕ) (bound : List (ℕ × ℕ)) → HasReply problem old (command.Run name bound)
    ran name bound = by (any_table old name) refl
      where
        by-parameter : (table : Table) → any_table old name ≡ Some table → (param : Option ℕ) → first_unknown table bound ≡ param
            → HasReply problem old (command.Run name bound)
        by-parameter table named None known = ran-by name bound table named known
        by-parameter table named (Some param) unknown =
            (reply.UnknownParam param, (old, record { table = table; named = named; unknown = unknown; same = refl }))

        by : (found : Option Table) → any_table old name ≡ found → HasReply problem old (command.Run name bound)
        by None named = (reply.Unknown name, (old, (refl, named, refl)))
        by (Some table) named = by-parameter table named (first_unknown table bound) refl

    duo-by : (first second : ℕ) (numbers : List ℕ) (one other : Table) → any_table old first ≡ Some one → any_table old second ≡ Some other
        → HasReply problem old (command.Duo first second numbers)
    duo-by first second numbers one other first_named second_named =
        let found = duo-ends leaves_edit duo-traces-exist stay-ready problem valid (both one other)
        (each_table problem one other (right first one first_named) (right second other second_named)) old.atoms numbers in (
          reply.DuoRan first second found.0,
          (
            record old { atoms = found.1.0 },
            (
              refl,
              refl,
              record {
                one = one;
                other = other;
                first_named = first_named;
                second_named = second_named;
                after = found.1.0;
                runs = found.1.1;
                changed = refl;
              },
            ),
          ),
        )

    -- the first of the two names that has no table
    abbrev missing : ℕ → ℕ → Option Table → Option Table → Option ℕ
    missing first second one other = cond (not (is_some one)) (Some first) (cond (not (is_some other)) (Some second) None)

    duo-ran : (first second : ℕ) (numbers : List ℕ) → HasReply problem old (command.Duo first second numbers)
    duo-ran first second numbers = by (any_table old first) refl (any_table old second) refl
      where
        by : (one : Option Table) → any_table old first ≡ one → (other : Option Table) → any_table old second ≡ other
            → HasReply problem old (command.Duo first second numbers)
        by None first_named other second_named =
            (reply.Unknown first, (old, (ap (λ (o : Option Table). missing first second o (any_table old second)) first_named, refl)))
        by (Some one) first_named None second_named =
            (reply.Unknown second, (old, ((λ i. missing first second (first_named i) (second_named i)), refl)))
        by (Some one) first_named (Some other) second_named = duo-by first second numbers one other first_named second_named

    other-reply : (given : Command) → AsksNoSearch given → HasReply problem old given
    other-reply (command.Plan name goal variable_count) asks = absurd asks
    other-reply (command.Learn name source) asks = learn-reply problem old valid session name source
    other-reply (command.Edit name source prefix wanted) asks = absurd asks
    other-reply (command.Pursue name goal variable_count) asks = absurd asks
    other-reply (command.Tree name nodes goal variable_count) asks = absurd asks
    other-reply (command.Show name) asks = show-reply problem old name
    other-reply (command.Save name) asks = save-reply problem old name
    other-reply (command.Certify name) asks = certify-reply problem old name
    other-reply (command.DisturbAtoms turn between edits) asks = noted turn between (map of_atoms edits)
    other-reply (command.DisturbRooms turn between edits) asks = noted turn between (map of_rooms edits)
    other-reply (command.Run name bound) asks = ran name bound
    other-reply (command.Duo first second numbers) asks = duo-ran first second numbers
    other-reply command.Facts asks = (reply.FactsAre old.atoms, (old, (refl, session.atoms, refl)))

    -- ---- plans

    module _ (name : ℕ) (goal : List Atom) (variable_count : ℕ) (own : All (IsAtomOf problem variable_count) goal) where
      abbrev task : Task
      task = task_of problem old.learned.tables old.atoms goal variable_count

      by-end : HasEnd task problem.weight → HasReply problem old (command.Plan name goal variable_count)
      by-end (inl found) =
          let moves = found.0 in
          let made = found_have_tables task problem.weight moves valid own (are-learned problem old session) found.1 in (
            reply.Plan name (length moves) (steps_of task.tables [] moves),
            (
              record old { plans = with_table old.plans name made.0 },
              (
                refl,
                record { moves = moves; found = found.1; counted = refl; taken = refl; made = made.0; table = made.1; stored = refl },
              ),
            ),
          )
      by-end (inr (inl exhausted)) = (reply.Exhausted name, (old, (refl, exhausted, refl)))
      by-end (inr (inr (inl limit))) = (reply.NodeLimit name limit.0 limit.1, (old, (refl, limit.2, refl)))
      by-end (inr (inr (inr limit))) = (reply.ShapeLimit name limit.0 limit.1, (old, (refl, limit.2, refl)))

      plan-reply : ¬ ¬ HasReply problem old (command.Plan name goal variable_count)
      plan-reply never = searches_end task problem.weight (λ end. never (by-end end))

      pursuit-reply : ¬ ¬ HasReply problem old (command.Pursue name goal variable_count)
      pursuit-reply never =
          pursuits_end traces-exist problem valid old.learned.tables (are-learned problem old session) goal variable_count own old.recorded old.atoms
          (λ found. never (
            reply.Pursuit name found.0 (map told_of found.1) found.2.0,
            (
              record old { atoms = found.2.1; recorded = [] },
              (
                refl,
                record {
                  after = found.2.1;
                  pursues = subst (λ (ts : List TurnValue). IsPursuit leaves_edit problem old.learned.tables goal variable_count old.recorded old.atoms
                      found.0 ts found.2.0 found.2.1) (sym (turns-back found.1)) found.2.2;
                  changed = refl;
                },
              ),
            ),
          ))

    each-reply : (given : Command) → IsOwnGoal problem given → ¬ ¬ HasReply problem old given
    each-reply (command.Plan name goal variable_count) own = plan-reply name goal variable_count own
    each-reply (command.Pursue name goal variable_count) own = pursuit-reply name goal variable_count own
    each-reply (command.Tree name nodes goal variable_count) own = tree-reply problem old name nodes goal variable_count
    each-reply (command.Edit name source prefix wanted) own = edit-reply problem old name source prefix wanted valid session
    each-reply (command.Learn name source) own = λ never. never (other-reply (command.Learn name source) tt)
    each-reply (command.Show name) own = λ never. never (other-reply (command.Show name) tt)
    each-reply (command.Save name) own = λ never. never (other-reply (command.Save name) tt)
    each-reply (command.Certify name) own = λ never. never (other-reply (command.Certify name) tt)
    each-reply (command.DisturbAtoms turn between edits) own = λ never. never (other-reply (command.DisturbAtoms turn between edits) tt)
    each-reply (command.DisturbRooms turn between edits) own = λ never. never (other-reply (command.DisturbRooms turn between edits) tt)
    each-reply (command.Run name bound) own = λ never. never (other-reply (command.Run name bound) tt)
    each-reply (command.Duo first second numbers) own = λ never. never (other-reply (command.Duo first second numbers) tt)
    each-reply command.Facts own = λ never. never (other-reply command.Facts tt)

-- ---- all commands

module _ (traces-exist : TracesExist leaves_edit) (duo-traces-exist : DuoTracesExist leaves_edit)
    (stay-ready : DuosStayReady leaves_edit) where
  answers-there : (problem : Problem) → IsValid problem → (old : SessionState) → IsSession problem old → (commands : List Command)
      → All (IsOwnGoal problem) commands
      → ¬ ¬ ((answers : List Reply) × ((last : SessionState) × AreAnswers problem old commands answers last))
  answers-there problem valid old session [] own never = never ([], (old, refl))
  answers-there problem valid old session (given ∷ commands) own never =
      let here = All-head (IsOwnGoal problem) given commands own in
      each-reply traces-exist duo-traces-exist stay-ready problem old valid session given here
      (λ first.
      let kept = sessions_are_kept.kept problem old given first.0 first.1.0 valid session here first.1.1 in
      answers-there problem valid first.1.0 kept commands (All-tail (IsOwnGoal problem) given commands own)
      (λ rest. never (first.0 ∷ rest.0, (rest.1.0, (first.1.0, first.1.1, rest.1.1)))))

  pub transcripts_exist : TranscriptsExist
  transcripts_exist bytes script is never =
      let range = in-range stage_now bytes script is in
      let session = sessions_are_kept.scripts script range in
      answers-there script.problem range.problem.valid (opening script.facts script.saved) session script.commands (own-goals script range)
      (λ found. never (
        texts script.names found.0,
        record {
          script = script;
          spelt = is;
          answers = found.0;
          lawful = record { last = found.1.0; lawful = found.1.1 };
          text_is = refl;
        },
      ))

  pub replies_exist : RepliesExist
  replies_exist = record {
    others = λ problem old given valid session asks.
        other-reply traces-exist duo-traces-exist stay-ready problem old valid session given asks;
    plans = λ problem old name goal variable_count valid session own.
        plan-reply traces-exist duo-traces-exist stay-ready problem old valid session name goal variable_count own;
    pursued = λ problem old name goal variable_count valid session own.
        pursuit-reply traces-exist duo-traces-exist stay-ready problem old valid session name goal variable_count own;
    grown = tree-reply;
    edited = λ problem old name source prefix wanted valid session. edit-reply problem old name source prefix wanted valid session;
  }
