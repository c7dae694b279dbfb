-- What two executors do in a building.
use Rattle.std.specs.Prelude.{◌≡◌, ℕ, Option, None, Some, List, [], ◌∷◌}
use Rattle.std.proofs.Common.{refl, sym, ap, ◌∙◌, subst}
use Rattle.px_terms.specs.declared.atom.Atom.{Atom}
use Rattle.px_terms.specs.declared.instance.OpInst.{OpInst}
use Rattle.px_terms.specs.declared.problem.Problem.{Problem}
use Rattle.px_terms.specs.Operators.{result_of}
use Rattle.px_table.specs.declared.table.Table.{Table}
use Rattle.px_table.specs.Tables.{IsTable}
use Rattle.px_world.specs.Worlds.{HaveSameRules}
use Rattle.px_rooms.specs.States.{IsRoomState, RoomState, building_rules, rendering}
use Rattle.px_rooms.proofs.Actions.{IsLeft}
use Rattle.px_match.specs.Matching.{KernelInstance}
use Rattle.px_planex.specs.Execution.{KernelRowHolds, remembered_step}
use Rattle.px_duo.specs.Duos.{AreReady, DuoRunning, Pair, both, duo_running, neither_sensed, other_than, own, with_own}
use Rattle.px_duo.specs.declared.event.Who.{Who}
use Rattle.px_duo.specs.declared.event.Who.TheVariants.{First, Second}
use Rattle.px_printer.specs.declared.duo_line.DuoEnd.{DuoEnd}
use Rattle.px_printer.specs.declared.duo_line.DuoEnd.TheVariants.{Sensed, Acted, Slipped, Goal, NoKernel}
use Rattle.px_printer.specs.declared.duo_line.DuoLine.{DuoLine}
use Rattle.px_session.specs.DuoRuns.{AreDuoLines, RunsDuo, who_of}
use Rattle.px_session.specs.RoomRuns.{AreDuoLinesInRooms, EndsDuoInRooms}
use Rattle.px_session.specs.Sessions.{leaves_edit}
use Rattle.px_session.proofs.OwnDuos.{step-ready}
use Rattle.px_session.proofs.RoomRuns.{does, left-both, left-same, rules-left}
use Rattle.px_session.proofs.TwoRunning.{EndLeaves, first_ready, line_leaves, line_readies, line_stays, line_step}

module _ (problem : Problem) (tables : Pair Table) (are_tables : (who : Who) → IsTable problem (own who tables)) where
  -- each of the two remembers its step
  abbrev AreRemembered : Pair (Option OpInst) → DuoRunning → Type 0
  AreRemembered steps now = (who : Who) → own who steps ≡ remembered_step (own who tables) (own who now.memories)

  none-remembered : AreRemembered (both None None) (duo_running [] neither_sensed)
  none-remembered First = refl
  none-remembered Second = refl

  remembered-next : (who : Who) (step : Option OpInst) (steps : Pair (Option OpInst)) (old new : DuoRunning) → AreRemembered steps old
      → step ≡ remembered_step (own who tables) (own who new.memories)
      → own (other_than who) new.memories ≡ own (other_than who) old.memories → AreRemembered (with_own who step steps) new
  remembered-next First step steps old new are here stays First = here
  remembered-next First step steps old new are here stays Second = are Second ∙ ap (remembered_step tables.second) (sym stays)
  remembered-next Second step steps old new are here stays First = are First ∙ ap (remembered_step tables.first) (sym stays)
  remembered-next Second step steps old new are here stays Second = here

  -- a line leaves a state, and these atoms are its facts
  record LineLeaves (step : Option OpInst) (end : DuoEnd) (building : RoomState) (atoms : List Atom) : Type 0 where
    pub after : RoomState
    pub ends : EndsDuoInRooms step end building after
    pub left : IsLeft building after
    pub facts : atoms ≡ rendering after

  stays : (step : Option OpInst) (end : DuoEnd) (building : RoomState) (atoms : List Atom) → IsRoomState building
      → EndsDuoInRooms step end building building → atoms ≡ rendering building → LineLeaves step end building atoms
  stays step end building atoms is ends facts = record { after = building; ends = ends; left = left-same building is; facts = facts }

  line-in : (who : Who) (step : Option OpInst) (end : DuoEnd) (building : RoomState) (old new : DuoRunning) → IsRoomState building
      → HaveSameRules (building_rules building) problem → AreReady problem tables old.memories
      → step ≡ remembered_step (own who tables) (own who old.memories) → old.atoms ≡ rendering building
      → EndLeaves leaves_edit problem tables who end old new → LineLeaves step end building new.atoms
  line-in who step (Sensed kernel) building old new is rules ready at facts same =
      stays step (Sensed kernel) building new.atoms is refl (same ∙ facts)
  line-in who step Slipped building old new is rules ready at facts same = stays step Slipped building new.atoms is refl (same ∙ facts)
  line-in who step Goal building old new is rules ready at facts same = stays step Goal building new.atoms is refl (same ∙ facts)
  line-in who step NoKernel building old new is rules ready at facts same = stays step NoKernel building new.atoms is refl (same ∙ facts)
  line-in who step Acted building old new is rules ready at facts taken =
      let able = step-ready problem tables are_tables who old new ready taken in
      let done = does problem (own who tables) (are_tables who) [] building is rules taken.kernel taken.inst able.2
      (subst (KernelRowHolds (own who tables) taken.kernel) facts taken.holds) taken.step in
      let memory = own who old.memories in
      let remembered : remembered_step (own who tables) memory ≡ Some taken.inst =
      ap (λ (r : Option KernelInstance). remembered_step (own who tables) (record { remembered = r; instance = memory.instance }))
      taken.remembered
      ∙ taken.step in
      record {
        after = done.after;
        ends = (taken.inst, at ∙ remembered, done.done);
        left = done.left;
        facts = taken.left ∙ ap (λ (atoms : List Atom). result_of problem atoms taken.inst) facts ∙ sym done.facts;
      }

  -- lines leave a state, and these atoms are its facts
  pub record LinesLeave (steps : Pair (Option OpInst)) (lines : List DuoLine) (building : RoomState) (atoms : List Atom) : Type 0 where
    pub after : RoomState
    pub lined : AreDuoLinesInRooms steps lines building after
    pub left : IsLeft building after
    pub facts : atoms ≡ rendering after

  lines-in : (numbers : List ℕ) (steps : Pair (Option OpInst)) (building : RoomState) (old new : DuoRunning) (lines : List DuoLine)
      → IsRoomState building → HaveSameRules (building_rules building) problem → AreReady problem tables old.memories
      → AreRemembered steps old → old.atoms ≡ rendering building → AreDuoLines leaves_edit problem tables numbers old lines new
      → LinesLeave steps lines building new.atoms
  lines-in [] steps building old new [] is rules ready are facts same = record {
    after = building;
    lined = refl;
    left = left-same building is;
    facts = ap (λ (d : DuoRunning). d.atoms) same ∙ facts;
  }
  lines-in [] steps building old new (line ∷ lines) is rules ready are facts same = absurd same
  lines-in (n ∷ ns) steps building old new [] is rules ready are facts same = absurd same
  lines-in (n ∷ ns) steps building old new (line ∷ lines) is rules ready are facts (mid, leads, rest) =
      let who = who_of n in
      let here = line-in who (own who steps) line.end building old mid is rules ready (are who) facts
      (line_leaves leaves_edit problem tables n old mid line leads) in
      let more = lines-in ns (with_own who line.op steps) here.after mid new lines here.left.state
      (rules-left problem building here.after here.left rules) (line_readies leaves_edit problem tables n old mid line leads ready)
      (remembered-next who line.op steps old mid are (line_step leaves_edit problem tables n old mid line leads)
      (line_stays leaves_edit problem tables n old mid line leads)) here.facts rest in
      record {
        after = more.after;
        lined = subst (λ m. AreDuoLinesInRooms steps (record line { who = m } ∷ lines) building more.after) (sym leads.who)
            (here.after, here.ends, more.lined);
        left = left-both building here.after more.after here.left more.left;
        facts = more.facts;
      }

  pub duo-in : (building : RoomState) (atoms : List Atom) (numbers : List ℕ) (lines : List DuoLine) (after : List Atom)
      → IsRoomState building → HaveSameRules (building_rules building) problem → atoms ≡ rendering building
      → RunsDuo leaves_edit problem tables atoms numbers lines after → LinesLeave (both None None) lines building after
  duo-in building atoms numbers lines after is rules facts (memories, runs) =
      lines-in numbers (both None None) building (duo_running atoms neither_sensed) (duo_running after memories) lines is rules
      (first_ready leaves_edit problem tables) none-remembered facts runs
