-- What a session keeps, from its opening on and by each lawful reply.
use Rattle.std.specs.Prelude.{◌≡◌, ◌≢◌, ◌⊎◌, ◌<◌, ◌≤◌, ◌+◌, ℕ, Option, List, [], ◌∷◌, length, map, drop, flat_map, All, AllPairs, Contains, IfSome}
use Rattle.std.proofs.Common.{refl, sym, ap, ◌∙◌, subst, arith, get_or, zero, suc, inl}
use Rattle.std.proofs.lemmas.List.{length-append}
use Rattle.std.proofs.lemmas.List.Elements.{All-nil, All-weaker, Contains-append_cases}
use Rattle.px_base.specs.Bounds.{u32_max}
use Rattle.px_names.specs.Lists.{AreNameLists}
use Rattle.px_terms.specs.declared.problem.Problem.{Problem}
use Rattle.px_terms.specs.Validity.{IsValid}
use Rattle.px_table.specs.declared.table.Table.{Table}
use Rattle.px_table.specs.Kernels.{KernelsCarry}
use Rattle.px_printer.specs.Replies.{IsReplyNamed}
use Rattle.px_printer.specs.declared.reply.Reply.{Reply}
use Rattle.px_script.specs.declared.command.Command.{Command}
use Rattle.px_script.specs.declared.command.Command.TheVariants as command
use Rattle.px_script.specs.Content.{ScriptValue}
use Rattle.px_script.specs.declared.limits.Limit.TheVariants as limit
use Rattle.px_script.specs.Limits.{greatest}
use Rattle.px_script.specs.RangeLaws.{version-most}
use Rattle.px_script.specs.Ranges.{ArePairsOf, IsBindingOf, IsBuildingOf, IsCommandOf, IsInRange, result_given}
use Rattle.px_world.specs.declared.thing.Thing.{Thing}
use Rattle.px_rooms.specs.States.{RoomState}
use Rattle.px_session.specs.KeptSessions.{AreAddsToWant, AreEditsToNote, IsBindingToRun, IsKeptSession, IsRunnable}
use Rattle.px_session.specs.Lawful.{Lawful, recorded_for}
use Rattle.px_session.specs.Named.{HasTableNames, IsTellable, TellsOfNamed}
use Rattle.px_session.specs.Opened.{SessionValue, opened_session, tables_of}
use Rattle.px_session.specs.OwnStates.{IsOwnEdit, IsOwnGoal, IsOwnPursuit, edits_given}
use Rattle.px_session.specs.RunWorlds.{IsPlaced, TakeSame, Takes}
use Rattle.px_session.specs.Sessions.{SessionState}
use Rattle.px_session.specs.Writable.{AsksWritable}
use Rattle.px_session.proofs.GivenNames.{commands-apart, names-next, saved-given}
use Rattle.px_session.proofs.Kept.{sessions_are_kept}
use Rattle.px_session.proofs.NamedReplies.{replies_are_named}
use Rattle.px_session.proofs.Placing.{takes-later}
use Rattle.px_session.proofs.Replied.{replied}
use Rattle.px_session.proofs.Writables.{all-ask, certifiable-problem, writable-kept, writable-opened}
use Rattle.px_session.proofs.RoomEdits.{OwnsRoomEdits, at_first, each-building, note-atoms, note-rooms, owns-room-edits, placed-first}

-- ---- the opening

some-object : (objects variable_count : ℕ) → (objects ≡ 0 → variable_count ≡ 0) → 0 < variable_count → 0 < objects
some-object zero variable_count none some = absurd (omega (arith, none refl, some))
some-object (suc objects) variable_count none some = omega arith

binding-ready : (problem : Problem) (bound : List (ℕ × ℕ)) → All (IsBindingOf problem) bound → AllPairs (λ one other. one.0 ≢ other.0) bound
    → IsBindingToRun problem bound
binding-ready problem bound each once = record {
  from_one = All-weaker (IsBindingOf problem) (λ pair. 1 ≤ pair.0) (λ pair is. is.0) bound each;
  objects = All-weaker (IsBindingOf problem) (λ pair. pair.1 < problem.objects) (λ pair is. is.2) bound each;
  once = once;
}

no-edits : (problem : Problem) (building : Option RoomState) → AreEditsToNote problem building []
no-edits problem building = record { own = All-nil (IsOwnEdit problem); taken = All-nil (Takes building) }

wanted-ready : (version : ℕ) (wanted : List (ℕ × ℕ)) → ArePairsOf version wanted → AreAddsToWant wanted
wanted-ready version wanted are = record { some = omega (arith, are.some); few = omega (arith, are.few) }

abbrev IsReady : Problem → Option (List Thing) → ℕ → Command → Type 0
IsReady problem building results given = IsRunnable problem (at_first building) given × IsTellable problem results given

ready : (version : ℕ) (problem : Problem) (building : Option (List Thing)) (results : ℕ) (c : Command)
    → IfSome building (OwnsRoomEdits problem) → IsCommandOf version problem building results c
    → IsReady problem building results c
ready version problem building results (command.Plan name goal variable_count) owns of = (
  (
    record { atoms = of.1.atoms; few = of.1.few_variables; some_object = some-object problem.objects variable_count of.1.no_objects },
    no-edits problem (at_first building),
  ),
  (of.0, of.1.atoms),
)
ready version problem building results (command.Learn name source) owns of = ((tt, no-edits problem (at_first building)), of)
ready version problem building results (command.Edit name source prefix wanted) owns of =
    ((wanted-ready version wanted of.3, no-edits problem (at_first building)), (of.0, of.1))
ready version problem building results (command.Show name) owns of = ((tt, no-edits problem (at_first building)), of)
ready version problem building results (command.Save name) owns of = ((tt, no-edits problem (at_first building)), of)
ready version problem building results (command.Certify name) owns of = ((tt, no-edits problem (at_first building)), of)
ready version problem building results (command.DisturbAtoms turn between edits) owns of =
    ((tt, note-atoms problem building edits of.1 of.2), tt)
ready version problem building results (command.DisturbRooms turn between edits) owns of =
    ((tt, note-rooms problem building edits owns of.1), tt)
ready version problem building results (command.Run name bindings) owns of =
    ((binding-ready problem bindings of.1 of.2, no-edits problem (at_first building)), of.0)
ready version problem building results (command.Duo first second numbers) owns of =
    ((tt, no-edits problem (at_first building)), (of.0, of.1))
ready version problem building results (command.Pursue name goal variable_count) owns of = (
  (
    record { atoms = of.1.atoms; few = of.1.few_variables; some_object = some-object problem.objects variable_count of.1.no_objects },
    no-edits problem (at_first building),
  ),
  (of.0, of.1.atoms),
)
ready version problem building results (command.Tree name nodes goal variable_count) owns of = (
  (
    (
      of.1.0,
      omega (arith, of.1.1),
      record { atoms = of.2.atoms; few = of.2.few_variables; some_object = some-object problem.objects variable_count of.2.no_objects },
    ),
    no-edits problem (at_first building),
  ),
  (of.0, of.2.atoms),
)
ready version problem building results command.Facts owns of = ((tt, no-edits problem (at_first building)), tt)

pub ready-at : (script : ScriptValue) → IsInRange script → (k : ℕ) (c : Command) → k < length script.commands
    → IsReady script.problem script.building (length script.names.results) (get_or script.commands k c)
ready-at script range k c below =
    ready script.version script.problem script.building (length script.names.results) (get_or script.commands k c)
    (each-building (IsBuildingOf script.names script.problem script.facts) (OwnsRoomEdits script.problem) script.building
    (owns-room-edits script.names script.problem script.facts) range.building) (range.commands.each k c below)

few-commands : (version count : ℕ) → count ≤ greatest version limit.Commands → count < u32_max
few-commands version count few = let most = version-most version count 512 1024 (omega arith) few in omega (arith, most)

-- the names of the saved tables
abbrev saved_names : ScriptValue → List ℕ
saved_names script = map (λ (one : ℕ × Table). one.0) script.saved

-- a session keeps what it is to keep before its first command
pub kept-opened : (script : ScriptValue) → IsInRange script → AreNameLists script.names → IsKeptSession (at_first script.building) (opened_session script)
kept-opened script range named = record {
  problem = range.problem.valid;
  names = record { objects = sym range.problem.objects; predicates = sym range.problem.predicates; operators = range.operators };
  state = sessions_are_kept.scripts script range;
  own = record { atoms = range.facts.atoms; edits = All-nil (λ one. All (IsOwnEdit script.problem) one.edits) };
  placed = record {
    place = placed-first script.names script.problem script.facts script.building range.building;
    edits = All-nil (λ one. All (Takes (at_first script.building)) one.edits);
  };
  commands = λ k c below. (ready-at script range k c below).0;
  tellable = λ k c below. (ready-at script range k c below).1;
  once = commands-apart (saved_names script) script.commands (length script.names.results) range.commands.given;
  learned = saved-given (saved_names script) script.commands (length script.names.results) range.commands.given;
  tables_named = replies_are_named.opened script range;
  few = few-commands script.version (length script.commands) range.commands.few;
  recorded = omega arith;
  written = writable-opened script range;
  asked = all-ask script range;
  certifiable = certifiable-problem script range;
  named = named;
  short_names = range.names.results.short;
}

-- ---- each command

-- at most one disturbance more is recorded, and a learned table has a name that one had before, or one of these
record KeepsParts (names : List ℕ) (old new : SessionState) : Type 0 where
  pub recorded : length new.recorded ≤ length old.recorded + 1
  pub learned : (name : ℕ) → Contains new.learned.names name → Contains old.learned.names name ⊎ Contains names name

keeps-parts : (problem : Problem) (old : SessionState) (given : Command) (answer : Reply) (new : SessionState)
    → Lawful problem old given answer new → KeepsParts (result_given given) old new
keeps-parts problem old given answer new is =
    replied problem old given (KeepsParts (result_given given) old) (record { recorded = omega arith; learned = λ n has. inl has })
    (λ name goal variable_count count steps new by is. record { recorded = omega arith; learned = λ n has. inl has })
    -- the name of the table is the last one
    (λ name source params steps new by is. subst (KeepsParts (result_given given) old) (sym is.learned)
    (record {
      recorded = omega arith;
      learned = λ n has. subst (λ (c : Command). Contains old.learned.names n ⊎ Contains (result_given c) n) (sym by)
          (Contains-append_cases old.learned.names (name ∷ []) n has);
    }))
    (λ name source prefix wanted params steps new by is. subst (KeepsParts (result_given given) old) (sym is.learned)
    (record {
      recorded = omega arith;
      learned = λ n has. subst (λ (c : Command). Contains old.learned.names n ⊎ Contains (result_given c) n) (sym by)
          (Contains-append_cases old.learned.names (name ∷ []) n has);
    }))
    (λ turn between. record {
      recorded = omega (arith, length-append old.recorded (recorded_for turn between (edits_given given) ∷ []));
      learned = λ n has. inl has;
    })
    (λ name bound told new by is. subst (KeepsParts (result_given given) old) (sym is.changed)
    (record { recorded = omega arith; learned = λ n has. inl has }))
    (λ first second numbers lines new by is. subst (KeepsParts (result_given given) old) (sym is.changed)
    (record { recorded = omega arith; learned = λ n has. inl has }))
    (λ name goal variable_count searches told end new by is. subst (KeepsParts (result_given given) old) (sym is.changed)
    (record { recorded = omega arith; learned = λ n has. inl has }))
    answer new is

-- the goal of a command that can be run is one of the problem
pub own-goal : (problem : Problem) (building : Option RoomState) (given : Command) → IsRunnable problem building given
    → IsOwnGoal problem given
own-goal problem building (command.Plan name goal variable_count) runs = runs.0.atoms
own-goal problem building (command.Learn name source) runs = tt
own-goal problem building (command.Edit name source prefix wanted) runs = tt
own-goal problem building (command.Show name) runs = tt
own-goal problem building (command.Save name) runs = tt
own-goal problem building (command.Certify name) runs = tt
own-goal problem building (command.DisturbAtoms turn between edits) runs = tt
own-goal problem building (command.DisturbRooms turn between edits) runs = tt
own-goal problem building (command.Run name bound) runs = tt
own-goal problem building (command.Duo first second numbers) runs = tt
own-goal problem building (command.Pursue name goal variable_count) runs = runs.0.atoms
own-goal problem building (command.Tree name nodes goal variable_count) runs = runs.0.2.atoms
own-goal problem building command.Facts runs = tt

-- a pursuit's goal is so where the problem is valid
pub own-pursuit : (problem : Problem) → IsValid problem → (given : Command) → IsOwnGoal problem given → IsOwnPursuit problem given
own-pursuit problem valid (command.Pursue name goal variable_count) own = (valid, own)
own-pursuit problem valid given own = tt

-- so are those of a script
pub own-goals : (script : ScriptValue) → IsInRange script → All (IsOwnGoal script.problem) script.commands
own-goals script range k c below =
    own-goal script.problem (at_first script.building) (get_or script.commands k c) (ready-at script range k c below).0

-- the session after one command more
abbrev pub after_command : SessionValue → SessionState → ℕ → SessionValue
after_command session state done = record session { done = done; state = state }

-- a command can be run as long as the same edits are taken
runnable-later : (problem : Problem) (old new : Option RoomState) → TakeSame old new → (given : Command)
    → IsRunnable problem old given
    → IsRunnable problem new given
runnable-later problem old new same given runs =
    (runs.0, record { own = runs.1.own; taken = takes-later old new (edits_given given) same runs.1.taken })

pub kept-after : (building left : Option RoomState) (session : SessionValue) (given : Command) (answer : Reply) (new : SessionState)
    (done : ℕ)
    → IsKeptSession building session → done ≡ session.done + 1 → session.done < length session.commands
    → given ≡ get_or session.commands session.done given → IsRunnable session.problem building given → AsksWritable session.problem given
    → IsTellable session.problem (length session.names.results) given → Lawful session.problem session.state given answer new
    → IsPlaced session.problem left new → TakeSame building left → IsKeptSession left (after_command session new done)
kept-after building left session given answer new done kept more below is runs asks tellable lawful placed same =
    let parts = keeps-parts session.problem session.state given answer new lawful in
    let names = names-next session.commands session.done given below is session.state.learned.names new.learned.names kept.once kept.learned
    parts.learned in
    record {
      problem = kept.problem;
      names = kept.names;
      state = sessions_are_kept.kept session.problem session.state given answer new kept.problem kept.state
          (own-goal session.problem building given runs) lawful;
      own = sessions_are_kept.own session.problem session.state given answer new kept.problem kept.state kept.own runs.1.own
          (own-pursuit session.problem kept.problem given (own-goal session.problem building given runs)) lawful;
      placed = placed;
      commands = All-weaker (IsRunnable session.problem building) (IsRunnable session.problem left)
          (runnable-later session.problem building left same)
          session.commands kept.commands;
      tellable = kept.tellable;
      once = kept.once;
      learned = subst (λ n. All (λ name. ¬ Contains (flat_map result_given (drop n session.commands)) name) new.learned.names) (sym more)
          names;
      tables_named = replies_are_named.kept session.problem (length session.names.results) session.state given answer new kept.tables_named
          tellable lawful;
      few = kept.few;
      recorded = omega (arith, more, parts.recorded, kept.recorded);
      written = writable-kept session.problem session.state given answer new kept.problem kept.state kept.written asks lawful;
      asked = kept.asked;
      certifiable = kept.certifiable;
      named = kept.named;
      short_names = kept.short_names;
    }

tells-of-named : (results : ℕ) (state : SessionState) (given : Command) → HasTableNames results state → TellsOfNamed results state given
tells-of-named results state (command.Tree name nodes goal variable_count) named = named
tells-of-named results state given named = tt

pub named-after : (building : Option RoomState) (session : SessionValue) (given : Command) (answer : Reply) (new : SessionState)
    → IsKeptSession building session
    → IsTellable session.problem (length session.names.results) given → Lawful session.problem session.state given answer new
    → IsReplyNamed session.names answer
named-after building session given answer new kept tellable lawful =
    replies_are_named.replies session.problem session.names session.state given answer new kept.problem kept.names kept.own.atoms kept.state
    (tells-of-named (length session.names.results) session.state given kept.tables_named) tellable lawful

-- the kernels of its tables carry
pub kernels-after : (building : Option RoomState) (session : SessionValue) (given : Command) (answer : Reply) (new : SessionState)
    → IsKeptSession building session → IsRunnable session.problem building given
    → Lawful session.problem session.state given answer new → All (KernelsCarry session.problem) (tables_of new)
kernels-after building session given answer new kept runs lawful =
    sessions_are_kept.kernels session.problem new
    (sessions_are_kept.kept session.problem session.state given answer new kept.problem kept.state
    (own-goal session.problem building given runs) lawful)

-- the command at the place
pub command-at : (commands listed : List Command) (k : ℕ) (one : Command) → listed ≡ commands
    → one ≡ get_or listed k one → one ≡ get_or commands k one
command-at commands listed k one same is = is ∙ ap (λ (l : List Command). get_or l k one) same

-- what holds of all commands holds of the one at the place
pub at-place : (P : Command → Type 0) (commands listed : List Command) (k : ℕ) (one : Command)
    → All P commands → listed ≡ commands → k < length commands → one ≡ get_or listed k one → P one
at-place P commands listed k one all same below is = subst P (sym (command-at commands listed k one same is)) (all k one below)
