-- What a pursuit does in a building: what its turns do there, one after the other.
use Rattle.std.specs.Prelude.{◌≡◌, ◌+◌, ◌++◌, ℕ, Some, List, [], ◌∷◌, length, All}
use Rattle.std.proofs.Common.{zero, suc, refl, sym, ap, ◌∙◌, subst, arith}
use Rattle.px_terms.specs.declared.atom.Atom.{Atom}
use Rattle.px_terms.specs.declared.problem.Problem.{Problem}
use Rattle.px_terms.specs.Validity.{IsAtomOf, IsValid}
use Rattle.px_table.specs.declared.table.Table.{Table}
use Rattle.px_entries.specs.Learned.{AreLearned}
use Rattle.px_world.specs.Worlds.{HaveSameRules}
use Rattle.px_rooms.specs.States.{IsRoomState, RoomState, building_rules, rendering}
use Rattle.px_rooms.proofs.Actions.{IsLeft}
use Rattle.px_planex.specs.Turns.{Recorded, TurnValue}
use Rattle.px_printer.specs.declared.pursue_end.PursueEnd.{PursueEnd}
use Rattle.px_printer.specs.declared.pursue_end.PursueEnd.TheVariants.{Goal, Exhausted, NodeLimit, ShapeLimit}
use Rattle.px_pursue.specs.Pursuits.{EndsBy, IsPursuit, RunsInVain, RunsPlan}
use Rattle.px_session.specs.RunWorlds.{TakesAll}
use Rattle.px_session.specs.RoomRuns.{AreTurnsInRooms}
use Rattle.px_session.specs.Sessions.{Edit, leaves_edit}
use Rattle.px_session.proofs.Placing.{takes-all-later}
use Rattle.px_session.proofs.PursuitRuns.{run-table}
use Rattle.px_session.proofs.RoomRuns.{RunLeaves, left-both, left-same, rules-left, same-left, turns-in}

-- turns after other ones
turns-after : (recorded : List (Recorded Edit)) (run rest : List TurnValue) (number : ℕ) (old mid new : RoomState)
    → AreTurnsInRooms recorded number run old mid → AreTurnsInRooms recorded (number + length run) rest mid new
    → AreTurnsInRooms recorded number (run ++ rest) old new
turns-after recorded [] rest number old mid new same later =
    let none : number + 0 ≡ number = omega arith in
    subst (λ n. AreTurnsInRooms recorded n rest old new) none
    (subst (λ (start : RoomState). AreTurnsInRooms recorded (number + 0) rest start new) same later)
turns-after recorded (turn ∷ run) rest number old mid new (sensed, made, (next, ends, more)) later =
    let place : number + length (turn ∷ run) ≡ suc number + length run = omega arith in (
      sensed,
      made,
      (
        next,
        ends,
        turns-after recorded run rest (suc number) next mid new more
            (subst (λ n. AreTurnsInRooms recorded n rest mid new) place later),
      ),
    )

-- in a state of the building, which has the problem's rules and takes all that is recorded
pub record StandsIn (problem : Problem) (recorded : List (Recorded Edit)) (building : RoomState) (atoms : List Atom) : Type 0 where
  pub is_state : IsRoomState building
  pub rules : HaveSameRules (building_rules building) problem
  pub taken : TakesAll (Some building) recorded
  pub facts : atoms ≡ rendering building

module _ (problem : Problem) (valid : IsValid problem) (tables : List Table) (learned : AreLearned problem tables) (goal : List Atom)
    (variable_count : ℕ) (own : All (IsAtomOf problem variable_count) goal) (recorded : List (Recorded Edit)) where
  stands-later : (building : RoomState) (atoms : List Atom) (number : ℕ) (turns : List TurnValue) (after : List Atom)
      → StandsIn problem recorded building atoms → (leaves : RunLeaves recorded number turns building after)
      → StandsIn problem recorded leaves.after after
  stands-later building atoms number turns after stands leaves = record {
    is_state = leaves.left.state;
    rules = rules-left problem building leaves.after leaves.left stands.rules;
    taken = takes-all-later (Some building) (Some leaves.after) recorded (same-left building leaves.after leaves.left) stands.taken;
    facts = leaves.facts;
  }

  nothing-done : (building : RoomState) (atoms : List Atom) (number : ℕ) (turns : List TurnValue) (after : List Atom)
      → StandsIn problem recorded building atoms → turns ≡ [] → after ≡ atoms → RunLeaves recorded number turns building after
  nothing-done building atoms number turns after stands none same = record {
    after = building;
    turned = subst (λ (ts : List TurnValue). AreTurnsInRooms recorded number ts building building) (sym none) refl;
    left = left-same building stands.is_state;
    facts = same ∙ stands.facts;
  }

  both-runs : (building : RoomState) (number : ℕ) (run rest : List TurnValue) (mid after : List Atom)
      → (first : RunLeaves recorded number run building mid) → RunLeaves recorded (number + length run) rest first.after after
      → RunLeaves recorded number (run ++ rest) building after
  both-runs building number run rest mid after first later = record {
    after = later.after;
    turned = turns-after recorded run rest number building first.after later.after first.turned later.turned;
    left = left-both building first.after later.after first.left later.left;
    facts = later.facts;
  }

  run-there : (building : RoomState) (number : ℕ) (atoms : List Atom) (run : List TurnValue) (after : List Atom)
      → StandsIn problem recorded building atoms
      → RunsPlan leaves_edit problem tables goal variable_count recorded number atoms run after → RunLeaves recorded number run building after
  run-there building number atoms run after stands plan =
      turns-in problem plan.plan (run-table problem tables goal variable_count recorded valid learned own number atoms run after plan) [] recorded
      number building _ run _ stands.is_state stands.rules stands.taken stands.facts plan.takes

  vain-there : (count : ℕ) (building : RoomState) (number : ℕ) (atoms : List Atom) (turns : List TurnValue) (after : List Atom)
      → StandsIn problem recorded building atoms → RunsInVain leaves_edit problem tables goal variable_count recorded count number atoms turns after
      → RunLeaves recorded number turns building after
  vain-there zero building number atoms turns after stands is = nothing-done building atoms number turns after stands is.0 is.1
  vain-there (suc count) building number atoms turns after stands (run, rest, (mid, plan, ends, are, later)) =
      let first = run-there building number atoms run mid stands plan in
      let more = vain-there count first.after (number + length run) mid rest after
      (stands-later building atoms number run mid stands first) later in
      subst (λ (ts : List TurnValue). RunLeaves recorded number ts building after) (sym are)
      (both-runs building number run rest mid after first more)

  ends-there : (building : RoomState) (number : ℕ) (atoms : List Atom) (run : List TurnValue) (end : PursueEnd) (after : List Atom)
      → StandsIn problem recorded building atoms → EndsBy leaves_edit problem tables goal variable_count recorded number atoms run end after
      → RunLeaves recorded number run building after
  ends-there building number atoms run Goal after stands ends = run-there building number atoms run after stands ends.0
  ends-there building number atoms run Exhausted after stands ends = nothing-done building atoms number run after stands ends.1 ends.2
  ends-there building number atoms run (NodeLimit nodes moves) after stands ends =
      nothing-done building atoms number run after stands ends.1 ends.2
  ends-there building number atoms run (ShapeLimit node limit) after stands ends =
      nothing-done building atoms number run after stands ends.1 ends.2

  pub pursuit-in : (building : RoomState) (atoms : List Atom) (searches : ℕ) (turns : List TurnValue) (end : PursueEnd) (after : List Atom)
      → StandsIn problem recorded building atoms → IsPursuit leaves_edit problem tables goal variable_count recorded atoms searches turns end after
      → RunLeaves recorded 1 turns building after
  pursuit-in building atoms searches turns end after stands is =
      let first = vain-there is.in_vain building 1 atoms is.before is.mid stands is.vain in
      let place : length is.before + 1 ≡ 1 + length is.before = omega arith in
      let last = ends-there first.after (length is.before + 1) is.mid is.last end after
      (stands-later building atoms 1 is.before is.mid stands first) is.ends in
      subst (λ (ts : List TurnValue). RunLeaves recorded 1 ts building after) (sym is.turns_are)
      (both-runs building 1 is.before is.last is.mid after first
      (subst (λ n. RunLeaves recorded n is.last first.after after) place last))
