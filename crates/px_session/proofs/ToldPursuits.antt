-- A pursuit that is reported: its searches and turns are few, its runs are traces, and the goal holds where it ends there.
use Rattle.std.specs.Prelude.{◌≡◌, ◌≤◌, ◌+◌, ◌*◌, ◌++◌, ℕ, List, [], length, map, All}
use Rattle.std.proofs.Common.{zero, suc, refl, sym, ap, ◌∙◌, subst, arith}
use Rattle.std.proofs.lemmas.List.{append_assoc, length-append, length-map}
use Rattle.px_terms.specs.declared.atom.Atom.{Atom}
use Rattle.px_terms.specs.declared.problem.Problem.{Problem}
use Rattle.px_terms.specs.Plans.{Carries}
use Rattle.px_terms.specs.Validity.{IsAtomOf, IsValid}
use Rattle.px_printer.specs.declared.pursue_end.PursueEnd.{PursueEnd}
use Rattle.px_printer.specs.declared.pursue_end.PursueEnd.TheVariants.{Goal, Exhausted, NodeLimit, ShapeLimit}
use Rattle.px_printer.specs.declared.reply.Reply.{Reply}
use Rattle.px_printer.specs.declared.reply.Reply.TheVariants as reply
use Rattle.px_printer.specs.declared.turn.Turn.{Turn}
use Rattle.px_planex.specs.Turns.{TurnValue}
use Rattle.px_pursue.specs.Pursuits.{EndsBy, IsPursuit, RunsInVain, RunsPlan}
use Rattle.px_pursue.proofs.Few.{searches_are_few}
use Rattle.px_pursue.proofs.Reaching.{goals_are_reached}
use Rattle.px_pursue.proofs.Short.{pursuits_are_short}
use Rattle.px_script.specs.declared.command.Command.{Command}
use Rattle.px_script.specs.declared.command.Command.TheVariants as command
use Rattle.px_session.specs.Lawful.{IsPursuitOf, Lawful, TellsPursuit, turn_told}
use Rattle.px_session.specs.Opened.{tables_of}
use Rattle.px_session.specs.OwnStates.{IsOwnGoal}
use Rattle.px_session.specs.Sessions.{IsSession, SessionState, leaves_edit}
use Rattle.px_session.specs.ToldPursuits.{EndsTraced, PursuitIsWorth, ToldPursuits, TracesPlan, TracesSearches}
use Rattle.px_session.proofs.Learned.{are-learned}
use Rattle.px_session.proofs.PursuitRuns.{run-table, searchable}
use Rattle.px_session.proofs.Shifted.{turns-traced}

module _ (problem : Problem) (valid : IsValid problem) (old : SessionState) (session : IsSession problem old) (goal : List Atom) (variable_count : ℕ)
    (own : All (IsAtomOf problem variable_count) goal) where
  -- ---- runs are traces

  traces-plan : (number : ℕ) → 1 ≤ number → (atoms : List Atom) (run : List TurnValue) (after : List Atom)
      → RunsPlan leaves_edit problem old.learned.tables goal variable_count old.recorded number atoms run after
      → TracesPlan problem old goal variable_count number atoms run after
  traces-plan number some atoms run after plan =
      let traced = turns-traced leaves_edit problem plan.plan [] old.recorded number some atoms run after plan.memory plan.takes in
      record {
        moves = plan.moves;
        found = plan.found;
        plan = plan.plan;
        made = plan.made;
        is_table = run-table problem old.learned.tables goal variable_count old.recorded valid (are-learned problem old session) own number atoms run
            after plan;
        memory = traced.0;
        traces = traced.1;
      }

  ends-traced : (number : ℕ) → 1 ≤ number → (atoms : List Atom) (run : List TurnValue) (end : PursueEnd) (after : List Atom)
      → EndsBy leaves_edit problem old.learned.tables goal variable_count old.recorded number atoms run end after
      → EndsTraced problem old goal variable_count number atoms run end after
  ends-traced number some atoms run Goal after ends = (traces-plan number some atoms run after ends.0, ends.1)
  ends-traced number some atoms run Exhausted after ends = ends
  ends-traced number some atoms run (NodeLimit nodes moves) after ends = ends
  ends-traced number some atoms run (ShapeLimit node limit) after ends = ends

  searches-traced : (count number : ℕ) → 1 ≤ number → (atoms : List Atom) (before : List TurnValue) (mid : List Atom)
      (last : List TurnValue) (end : PursueEnd) (after : List Atom)
      → RunsInVain leaves_edit problem old.learned.tables goal variable_count old.recorded count number atoms before mid
      → EndsBy leaves_edit problem old.learned.tables goal variable_count old.recorded (number + length before) mid last end after
      → TracesSearches problem old goal variable_count (suc count) number atoms (before ++ last) end after
  searches-traced zero number some atoms before mid last end after vain ends =
      let place : number + length before ≡ number = omega (arith, ap length vain.0) in
      subst (λ (ts : List TurnValue). EndsTraced problem old goal variable_count number atoms (ts ++ last) end after) (sym vain.0)
      (ends-traced number some atoms last end after
      (subst (λ n. EndsBy leaves_edit problem old.learned.tables goal variable_count old.recorded n atoms last end after) place
      (subst (λ (m : List Atom). EndsBy leaves_edit problem old.learned.tables goal variable_count old.recorded (number + length before) m last end
      after) vain.1 ends)))
  searches-traced (suc count) number some atoms before mid last end after (run, rest, (next, plan, none, are, later)) ends =
      let place : number + length before ≡ (number + length run) + length rest = omega (arith, ap length are, length-append run rest) in
      let moved = subst (λ n. EndsBy leaves_edit problem old.learned.tables goal variable_count old.recorded n mid last end after) place ends in (
        run,
        rest ++ last,
        (
          next,
          traces-plan number some atoms run next plan,
          none,
          ap (λ (ts : List TurnValue). ts ++ last) are ∙ append_assoc run rest last,
          searches-traced count (number + length run) (omega (arith, some)) next rest mid last end after later moved,
        ),
      )

  module _ (searches : ℕ) (told : List Turn) (end : PursueEnd) (new : SessionState)
      (is : IsPursuitOf problem goal variable_count old searches told end new) where
    abbrev turns : List TurnValue
    turns = map turn_told told

    atoms-are : new.atoms ≡ is.after
    atoms-are = ap (λ (s : SessionState). s.atoms) is.changed

    traced : TracesSearches problem old goal variable_count searches 1 old.atoms turns end new.atoms
    traced =
        let place : length is.pursues.before + 1 ≡ 1 + length is.pursues.before = omega arith in
        let ends = subst (λ n. EndsBy leaves_edit problem old.learned.tables goal variable_count old.recorded n is.pursues.mid is.pursues.last end
        is.after) place is.pursues.ends in
        let all = searches-traced is.pursues.in_vain 1 (omega arith) old.atoms is.pursues.before is.pursues.mid is.pursues.last end is.after
        is.pursues.vain ends in
        subst (λ (atoms : List Atom). TracesSearches problem old goal variable_count searches 1 old.atoms turns end atoms) (sym atoms-are)
        (subst (λ (ts : List TurnValue). TracesSearches problem old goal variable_count searches 1 old.atoms ts end is.after)
        (sym is.pursues.turns_are)
        (subst (λ n. TracesSearches problem old goal variable_count n 1 old.atoms (is.pursues.before ++ is.pursues.last) end is.after)
        (sym is.pursues.searches_are) all))

    few : searches ≤ length old.recorded + 1
    few = searches_are_few leaves_edit problem old.learned.tables goal variable_count old.recorded old.atoms is.after searches turns end
        (searchable problem old.learned.tables goal variable_count old.recorded valid (are-learned problem old session) own old.atoms) is.pursues

    reached : end ≡ Goal → Carries problem new.atoms [] variable_count goal
    reached goal_there =
        subst (λ (atoms : List Atom). Carries problem atoms [] variable_count goal) (sym atoms-are)
        (goals_are_reached leaves_edit problem old.learned.tables goal variable_count old.recorded old.atoms is.after searches turns
        (searchable problem old.learned.tables goal variable_count old.recorded valid (are-learned problem old session) own old.atoms)
        (subst (λ (e : PursueEnd). IsPursuit leaves_edit problem old.learned.tables goal variable_count old.recorded old.atoms searches turns e
        is.after) goal_there is.pursues))

worth : (problem : Problem) (old : SessionState) (given : Command) (answer : Reply) (new : SessionState) → IsValid problem
    → IsSession problem old → IsOwnGoal problem given → Lawful problem old given answer new → PursuitIsWorth problem old given answer new
worth problem old (command.Pursue name goal variable_count) (reply.Pursuit given searches told end) new valid session own is = record {
  few = few problem valid old session goal variable_count own searches told end new is.1;
  reached = reached problem valid old session goal variable_count own searches told end new is.1;
}
worth problem old (command.Pursue name goal variable_count) answer new valid session own is = absurd is
worth problem old given answer new valid session own is = tt

keeps : (problem : Problem) (old : SessionState) (name : ℕ) (goal : List Atom) (variable_count : ℕ) (answer : Reply) (new : SessionState)
    → TellsPursuit problem old name goal variable_count answer new → (tables_of new ≡ tables_of old) × (new.recorded ≡ [])
keeps problem old name goal variable_count (reply.Pursuit given searches told end) new is =
    (ap tables_of is.1.changed, ap (λ (s : SessionState). s.recorded) is.1.changed)
keeps problem old name goal variable_count answer new is = absurd is

pub told_pursuits : ToldPursuits
told_pursuits = record {
  worth = worth;
  traced = λ problem old name given goal variable_count searches told end new valid session own is.
      traced problem valid old session goal variable_count own searches told end new is.1;
  short = λ problem old name given goal variable_count searches told end new n valid session own short is.
      let few = pursuits_are_short leaves_edit problem old.learned.tables goal variable_count old.recorded old.atoms is.1.after searches
      (map turn_told told) end n
      (searchable problem old.learned.tables goal variable_count old.recorded valid (are-learned problem old session) own old.atoms) short
      is.1.pursues in
      let count : length (map turn_told told) ≡ length told = length-map told turn_told in
      subst (λ m. m ≤ (2 * length old.recorded + 1) * (n + 1)) count few;
  keeps = keeps;
}
