-- Each lawful reply in a building leaves a state of it.
use Rattle.std.specs.Prelude.{◌≡◌, ℕ, Option, Some, IfSome, List, [], ◌∷◌, map, take, All}
use Rattle.std.proofs.Common.{refl, sym, ap, subst, get_or}
use Rattle.std.proofs.lemmas.List.Elements.{All-head, All-nil, All-tail, All-take, All-weaker}
use Rattle.px_terms.specs.declared.problem.Problem.{Problem}
use Rattle.px_terms.specs.declared.atom.Atom.{Atom}
use Rattle.px_terms.specs.Validity.{IsValid}
use Rattle.px_world.specs.declared.thing.Thing.{Thing}
use Rattle.px_rooms.specs.States.{RoomState, first_state}
use Rattle.px_planex.specs.Turns.{Recorded}
use Rattle.px_duo.specs.Duos.{both}
use Rattle.px_printer.specs.declared.reply.Reply.{Reply}
use Rattle.px_printer.specs.declared.reply.Reply.TheVariants as reply
use Rattle.px_script.specs.declared.command.Command.{Command}
use Rattle.px_script.specs.declared.command.Command.TheVariants as command
use Rattle.px_script.specs.Content.{ScriptValue}
use Rattle.px_script.specs.Ranges.{IsBuildingOf, IsInRange}
use Rattle.px_session.specs.Lawful.{Lawful, TellsDuo, TellsPursuit, TellsRun, turn_told}
use Rattle.px_session.specs.OwnStates.{IsOwnGoal, IsOwnPursuit, edits_given}
use Rattle.px_session.specs.RunWorlds.{IsPlaced, Takes}
use Rattle.px_session.specs.RoomRuns.{AreAnswersIn, HasTakenEdits, IsAnsweredInBuilding, IsInBuilding, LeavesRooms, RoomsAreKept}
use Rattle.px_session.specs.Sessions.{Edit, IsSession, SessionState, opening}
use Rattle.px_session.specs.Transcripts.{AreAnswers}
use Rattle.px_session.proofs.DuoRooms.{duo-in}
use Rattle.px_session.proofs.Executing.{own-goals, own-pursuit, ready-at}
use Rattle.px_session.proofs.Kept.{sessions_are_kept}
use Rattle.px_session.proofs.Learned.{are-learned}
use Rattle.px_session.proofs.OneLearning.{any-right}
use Rattle.px_session.proofs.OwnDuos.{each_table}
use Rattle.px_session.proofs.Placing.{RunsNothing, placed-duo, placed-later, placed-run, same_taken, takes-later}
use Rattle.px_session.proofs.PursuitRooms.{pursuit-in}
use Rattle.px_session.proofs.RoomEdits.{at_first, placed-first}
use Rattle.px_session.proofs.RoomRuns.{rules-left, run-in, same-left}

-- ---- each command

module _ (problem : Problem) (old : SessionState) (building : RoomState) (session : IsSession problem old)
    (inside : IsInBuilding problem building old) where
  abbrev Answered : Command → Reply → SessionState → Type 0
  Answered given answer new = (left : RoomState) × IsAnsweredInBuilding problem old building given answer new left

  -- where the building is as it was
  as-it-was : (given : Command) (answer : Reply) (new : SessionState) → Lawful problem old given answer new
      → LeavesRooms old given answer building building → IsPlaced problem (Some building) new → Answered given answer new
  as-it-was given answer new lawful leaves placed = (
    building,
    record {
      lawful = lawful;
      leaves = leaves;
      inside = record { is_state = inside.is_state; placed = placed };
      same = same_taken (Some building);
    },
  )

  placed-as : (new : SessionState) → new ≡ old → IsPlaced problem (Some building) new
  placed-as new same = subst (IsPlaced problem (Some building)) (sym same) inside.placed

  run-answered : (name : ℕ) (bound : List (ℕ × ℕ)) (answer : Reply) (new : SessionState) → TellsRun problem old name bound answer new
      → Answered (command.Run name bound) answer new
  run-answered name bound (reply.Unknown given) new is =
      as-it-was (command.Run name bound) (reply.Unknown given) new is refl (placed-as new is.2)
  run-answered name bound (reply.UnknownParam param) new is =
      as-it-was (command.Run name bound) (reply.UnknownParam param) new is refl (placed-as new is.same)
  run-answered name bound (reply.Ran given told) new is =
      let right = any-right problem old session.plans session.learned name is.1.table is.1.named in
      let run = run-in problem is.1.table right bound old.recorded building old.atoms (map turn_told told) is.1.after inside.is_state
      inside.placed.place.1 inside.placed.edits inside.placed.place.0 is.1.runs in (
        run.after,
        record {
          lawful = is;
          leaves = run.turned;
          inside = record {
            is_state = run.left.state;
            placed = placed-run problem (Some run.after) new is.1.after (ap (λ (s : SessionState). s.atoms) is.1.changed)
                (ap (λ (s : SessionState). s.recorded) is.1.changed)
                (run.facts, rules-left problem building run.after run.left inside.placed.place.1);
          };
          same = same-left building run.after run.left;
        },
      )
  run-answered name bound answer new is = absurd is

  duo-answered : (first second : ℕ) (numbers : List ℕ) (answer : Reply) (new : SessionState)
      → TellsDuo problem old first second numbers answer new → Answered (command.Duo first second numbers) answer new
  duo-answered first second numbers (reply.Unknown given) new is =
      as-it-was (command.Duo first second numbers) (reply.Unknown given) new is refl (placed-as new is.1)
  duo-answered first second numbers (reply.DuoRan a b lines) new is =
      let one = any-right problem old session.plans session.learned first is.2.one is.2.first_named in
      let other = any-right problem old session.plans session.learned second is.2.other is.2.second_named in
      let run = duo-in problem (both is.2.one is.2.other) (each_table problem is.2.one is.2.other one other) building old.atoms numbers lines
      is.2.after inside.is_state inside.placed.place.1 inside.placed.place.0 is.2.runs in
      let same = same-left building run.after run.left in (
        run.after,
        record {
          lawful = is;
          leaves = run.lined;
          inside = record {
            is_state = run.left.state;
            placed = placed-duo problem (Some building) (Some run.after) old new is.2.after is.2.changed inside.placed.edits same
                (run.facts, rules-left problem building run.after run.left inside.placed.place.1);
          };
          same = same;
        },
      )
  duo-answered first second numbers answer new is = absurd is

  pursuit-answered : (name : ℕ) (goal : List Atom) (variable_count : ℕ) → IsOwnPursuit problem (command.Pursue name goal variable_count) → (answer : Reply)
      (new : SessionState) → TellsPursuit problem old name goal variable_count answer new → Answered (command.Pursue name goal variable_count) answer new
  pursuit-answered name goal variable_count own (reply.Pursuit given searches told end) new is =
      let run = pursuit-in problem own.0 old.learned.tables (are-learned problem old session) goal variable_count own.1 old.recorded building old.atoms
      searches (map turn_told told) end is.1.after
      (record { is_state = inside.is_state; rules = inside.placed.place.1; taken = inside.placed.edits; facts = inside.placed.place.0 })
      is.1.pursues in (
        run.after,
        record {
          lawful = is;
          leaves = run.turned;
          inside = record {
            is_state = run.left.state;
            placed = placed-run problem (Some run.after) new is.1.after (ap (λ (s : SessionState). s.atoms) is.1.changed)
                (ap (λ (s : SessionState). s.recorded) is.1.changed)
                (run.facts, rules-left problem building run.after run.left inside.placed.place.1);
          };
          same = same-left building run.after run.left;
        },
      )
  pursuit-answered name goal variable_count own answer new is = absurd is

  unmoved : (given : Command) → RunsNothing given → (answer : Reply) (new : SessionState)
      → LeavesRooms old given answer building building
      → HasTakenEdits (Some building) given → Lawful problem old given answer new → Answered given answer new
  unmoved given no_run answer new leaves taken is =
      as-it-was given answer new is leaves (placed-later problem (Some building) old inside.placed given no_run taken answer new is)

  answered : (given : Command) (answer : Reply) (new : SessionState) → HasTakenEdits (Some building) given → IsOwnPursuit problem given
      → Lawful problem old given answer new
      → Answered given answer new
  answered (command.Plan name goal variable_count) answer new taken own is = unmoved (command.Plan name goal variable_count) tt answer new refl taken is
  answered (command.Learn name source) answer new taken own is = unmoved (command.Learn name source) tt answer new refl taken is
  answered (command.Edit name source prefix wanted) answer new taken own is =
      unmoved (command.Edit name source prefix wanted) tt answer new refl taken is
  answered (command.Show name) answer new taken own is = unmoved (command.Show name) tt answer new refl taken is
  answered (command.Save name) answer new taken own is = unmoved (command.Save name) tt answer new refl taken is
  answered (command.Certify name) answer new taken own is = unmoved (command.Certify name) tt answer new refl taken is
  answered (command.DisturbAtoms turn between edits) answer new taken own is =
      unmoved (command.DisturbAtoms turn between edits) tt answer new refl taken is
  answered (command.DisturbRooms turn between edits) answer new taken own is =
      unmoved (command.DisturbRooms turn between edits) tt answer new refl taken is
  answered (command.Run name bound) answer new taken own is = run-answered name bound answer new is
  answered (command.Duo first second numbers) answer new taken own is = duo-answered first second numbers answer new is
  answered (command.Pursue name goal variable_count) answer new taken own is = pursuit-answered name goal variable_count own answer new is
  answered (command.Tree name nodes goal variable_count) answer new taken own is =
      unmoved (command.Tree name nodes goal variable_count) tt answer new refl taken is
  answered command.Facts answer new taken own is = unmoved command.Facts tt answer new refl taken is

-- ---- all commands

module _ (problem : Problem) (valid : IsValid problem) where
  abbrev AllAnswered : SessionState → RoomState → List Command → List Reply → SessionState → Type 0
  AllAnswered old building commands answers last =
      (end : RoomState) × AreAnswersIn problem old building commands answers last end × IsInBuilding problem end last

  all-answered : (commands : List Command) (answers : List Reply) (old : SessionState) (building : RoomState) (last : SessionState)
      → IsSession problem old → IsInBuilding problem building old → All (HasTakenEdits (Some building)) commands
      → All (IsOwnGoal problem) commands → AreAnswers problem old commands answers last → AllAnswered old building commands answers last
  all-answered [] [] old building last session inside taken own is =
      (building, (is, refl), subst (IsInBuilding problem building) (sym is) inside)
  all-answered [] (answer ∷ answers) old building last session inside taken own is = absurd is
  all-answered (first ∷ commands) [] old building last session inside taken own is = absurd is
  all-answered (first ∷ commands) (answer ∷ answers) old building last session inside taken own (next, lawful, later) =
      let here = answered problem old building session inside first answer next
      (All-head (HasTakenEdits (Some building)) first commands taken)
      (own-pursuit problem valid first (All-head (IsOwnGoal problem) first commands own)) lawful in
      let rest = all-answered commands answers next here.0 last
      (sessions_are_kept.kept problem old first answer next valid session (All-head (IsOwnGoal problem) first commands own) lawful)
      here.1.inside
      (All-weaker (HasTakenEdits (Some building)) (HasTakenEdits (Some here.0))
      (λ later taken. takes-later (Some building) (Some here.0) (edits_given later) here.1.same taken) commands
      (All-tail (HasTakenEdits (Some building)) first commands taken)) (All-tail (IsOwnGoal problem) first commands own) later in
      (rest.0, (next, (here.0, here.1, rest.1)), rest.2)

-- ---- scripts

module _ (script : ScriptValue) (things : List Thing) (range : IsInRange script) (has : script.building ≡ Some things) where
  its-building : IsBuildingOf script.names script.problem script.facts things
  its-building = subst (λ (b : Option (List Thing)). IfSome b (IsBuildingOf script.names script.problem script.facts)) has range.building

  opens : IsInBuilding script.problem (first_state things) (opening script.facts script.saved)
  opens = record {
    is_state = its-building.is_building.1;
    placed = record {
      place = placed-first script.names script.problem script.facts (Some things) its-building;
      edits = All-nil (λ (one : Recorded Edit). All (Takes (Some (first_state things))) one.edits);
    };
  }

  takes-all : All (HasTakenEdits (Some (first_state things))) script.commands
  takes-all k c below =
      subst (λ (b : Option (List Thing)). HasTakenEdits (at_first b) (get_or script.commands k c)) has
      (ready-at script range k c below).0.1.taken

pub rooms_are_kept : RoomsAreKept
rooms_are_kept = record {
  opened = opens;
  kept = λ problem old building given answer new session inside taken own is.
      answered problem old building session inside given answer new taken own is;
  answers = λ script things count answers last range has is.
      all-answered script.problem range.problem.valid (take count script.commands) answers (opening script.facts script.saved)
      (first_state things) last (sessions_are_kept.scripts script range) (opens script things range has)
      (All-take (HasTakenEdits (Some (first_state things))) count script.commands (takes-all script things range has))
      (All-take (IsOwnGoal script.problem) count script.commands (own-goals script range)) is;
}
