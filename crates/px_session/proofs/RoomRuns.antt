-- What a run, and each lawful reply, does in a building.
use Rattle.std.specs.Prelude.{◌≡◌, ◌⊎◌, ℕ, Bool, true, false, Option, Some, List, [], ◌∷◌, All, Contains}
use Rattle.std.proofs.Common.{suc, refl, sym, ap, ◌∙◌, subst, inl, inr}
use Rattle.std.proofs.lemmas.List.Elements.{All-head, All-tail}
use Rattle.px_base.specs.ListLaws.{All-each, Contains-cases, Contains-first, Contains-later, Contains-none}
use Rattle.px_terms.specs.declared.atom.Atom.{Atom}
use Rattle.px_terms.specs.declared.instance.OpInst.{OpInst}
use Rattle.px_terms.specs.declared.problem.Problem.{Problem}
use Rattle.px_terms.specs.Operators.{precondition, result_of}
use Rattle.px_terms.specs.Order.{atom_eq}
use Rattle.px_terms.specs.OrderLaws.{atom_eq-decides}
use Rattle.px_table.specs.declared.table.Table.{Table}
use Rattle.px_table.specs.Kernels.{IsInstantiation}
use Rattle.px_table.specs.Tables.{IsTable}
use Rattle.px_world.specs.Worlds.{HaveSameRules}
use Rattle.px_rooms.specs.Changes.{acted, state_edited}
use Rattle.px_rooms.specs.Following.{IsMet}
use Rattle.px_rooms.specs.States.{IsRoomState, RoomState, building_rules, rendering}
use Rattle.px_rooms.proofs.Actions.{IsLeft, action-leaves, edit-leaves, left-admits, left-rules}
use Rattle.px_rooms.proofs.Guarding.{refusals-allowed}
use Rattle.px_rooms.proofs.Instances.{action-of-instance}
use Rattle.px_match.specs.Matching.{KernelInstance}
use Rattle.px_planex.specs.declared.event.Outcome.{Outcome}
use Rattle.px_planex.specs.declared.event.Outcome.TheVariants.{Disturbed, Sensed, Acted, Slipped, Goal, NoKernel, NotSensed}
use Rattle.px_planex.specs.Execution.{KernelRowHolds, Running, remembered_step, step_of_kernel}
use Rattle.px_planex.specs.Executors.{IsActable}
use Rattle.px_planex.specs.Turns.{EndsTurn, Recorded, RunsTable, TakesTurn, TakesTurns, TurnValue, after_edits, disturbed_by, edits_at}
use Rattle.px_planex.proofs.Guarding.{guard_never}
use Rattle.px_planex.proofs.Taking.{same_instance, same_result}
use Rattle.px_session.specs.RunWorlds.{TakeSame, Takes, TakesAll}
use Rattle.px_session.specs.RoomRuns.{AreMade, AreTurnsInRooms, EndsInRooms, IsDone}
use Rattle.px_session.specs.Sessions.{Edit, leaves_edit, of_atoms, of_rooms}
use Rattle.px_session.proofs.OwnRuns.{kernel-own, sense-can}
use Rattle.px_session.proofs.Placing.{takes-all-later, takes-later}
use Rattle.px_session.proofs.Walks.{all-at, sense-atoms}

-- ---- what stays of a building

pub left-same : (building : RoomState) → IsRoomState building → IsLeft building building
left-same building is = record { state = is; count = refl; kinds = refl }

pub left-both : (old mid new : RoomState) → IsLeft old mid → IsLeft mid new → IsLeft old new
left-both old mid new first second = record { state = second.state; count = second.count ∙ first.count; kinds = second.kinds ∙ first.kinds }

pub same-left : (old new : RoomState) → IsLeft old new → TakeSame (Some old) (Some new)
same-left old new left = record { same = both } where
  both : (edit : Edit) → (Takes (Some new) edit → Takes (Some old) edit) × (Takes (Some old) edit → Takes (Some new) edit)
  both (of_atoms one) = (λ is. is, λ is. is)
  both (of_rooms one) = left-admits old new new refl left one

pub rules-left : (problem : Problem) (old new : RoomState) → IsLeft old new → HaveSameRules (building_rules old) problem
    → HaveSameRules (building_rules new) problem
rules-left problem old new left rules = subst (λ (p : Problem). HaveSameRules p problem) (sym (left-rules old new new refl left)) rules

taken-left : (old new : RoomState) (edits : List Edit) → IsLeft old new → All (Takes (Some old)) edits → All (Takes (Some new)) edits
taken-left old new edits left taken = takes-later (Some old) (Some new) edits (same-left old new left) taken

-- ---- edits

-- a state that the edits leave, and its facts
record Makes (edits : List Edit) (building : RoomState) : Type 0 where
  pub after : RoomState
  pub made : AreMade edits building after
  pub left : IsLeft building after
  pub facts : rendering after ≡ after_edits leaves_edit edits (rendering building)

makes : (edits : List Edit) (building : RoomState) → IsRoomState building → All (Takes (Some building)) edits → Makes edits building
makes [] building is taken = record { after = building; made = refl; left = left-same building is; facts = refl }
makes (of_atoms one ∷ edits) building is taken = absurd (All-head (Takes (Some building)) (of_atoms one) edits taken)
makes (of_rooms one ∷ edits) building is taken =
    let admitted = All-head (Takes (Some building)) (of_rooms one) edits taken in
    let leaves = edit-leaves building one is admitted in
    let next = state_edited one building in
    let rest = makes edits next leaves.left.state
    (taken-left building next edits leaves.left (All-tail (Takes (Some building)) (of_rooms one) edits taken)) in
    record {
      after = rest.after;
      made = (admitted, rest.made);
      left = left-both building next rest.after leaves.left rest.left;
      facts = rest.facts ∙ ap (after_edits leaves_edit edits) leaves.facts;
    }

-- ---- steps

clash : ¬ (false ≡ true)
clash e = cc

-- an atom is among some or not
known : (atoms : List Atom) (atom : Atom) → Contains atoms atom ⊎ (¬ Contains atoms atom)
known [] atom = inr (Contains-none atom)
known (x ∷ xs) atom = by_test (known xs atom) (atom_eq x atom) refl where
  by_test : Contains xs atom ⊎ (¬ Contains xs atom) → (b : Bool) → atom_eq x atom ≡ b → Contains (x ∷ xs) atom ⊎ (¬ Contains (x ∷ xs) atom)
  by_test rest true is = inl (subst (Contains (x ∷ xs)) ((atom_eq-decides x atom).0 is) (Contains-first x xs))
  by_test (inl later) false is = inl (Contains-later x xs atom later)
  by_test (inr not) false is = inr (λ has. elim (Contains-cases x xs atom has) [
    | inl same ↦ clash (sym is ∙ (atom_eq-decides x atom).1 same)
    | inr later ↦ not later
  ])

-- a state in which the step is done, and its facts
pub record Does (problem : Problem) (inst : OpInst) (building : RoomState) : Type 0 where
  pub after : RoomState
  pub done : IsDone inst building after
  pub left : IsLeft building after
  pub facts : rendering after ≡ result_of problem (rendering building) inst

-- turns leave a state, and these atoms are its facts
pub record RunLeaves (recorded : List (Recorded Edit)) (number : ℕ) (turns : List TurnValue) (building : RoomState)
    (atoms : List Atom) : Type 0 where
  pub after : RoomState
  pub turned : AreTurnsInRooms recorded number turns building after
  pub left : IsLeft building after
  pub facts : atoms ≡ rendering after

module _ (problem : Problem) (table : Table) (is_table : IsTable problem table) (bound : List (ℕ × ℕ)) where
  -- where the marks of a kernel's row are facts, the precondition of its step is met
  row-meets : (building : RoomState) → IsRoomState building → HaveSameRules (building_rules building) problem
      → (kernel : KernelInstance) (inst : OpInst) → IsInstantiation problem table kernel.objects
      → KernelRowHolds table kernel (rendering building) → step_of_kernel table kernel ≡ Some inst → IsMet building inst
  row-meets building is rules kernel inst given row at =
      let own = same_instance (building_rules building) problem inst rules (kernel-own problem table is_table bound kernel inst given at) in
      All-each (Contains (rendering building)) (precondition (building_rules building) inst)
      (λ atom needed. elim (known (rendering building) atom) [
        | inl has ↦ has
        | inr not ↦ absurd (guard_never (building_rules building) problem table kernel (rendering building) inst is_table given rules row at
            (refusals-allowed building inst atom is own needed not))
      ])

  pub does : (building : RoomState) → IsRoomState building → HaveSameRules (building_rules building) problem
      → (kernel : KernelInstance) (inst : OpInst) → IsInstantiation problem table kernel.objects
      → KernelRowHolds table kernel (rendering building) → step_of_kernel table kernel ≡ Some inst → Does problem inst building
  does building is rules kernel inst given row at =
      let own = same_instance (building_rules building) problem inst rules (kernel-own problem table is_table bound kernel inst given at) in
      let met = row-meets building is rules kernel inst given row at in
      let action = action-of-instance building inst own in
      let leaves = action-leaves building is action.0 (subst (IsMet building) action.1 met) in
      record {
        after = acted action.0 building;
        done = record { met = met; moved = record { action = action.0; by_action = action.1; left = refl } };
        left = leaves.left;
        facts = leaves.facts ∙ ap (result_of (building_rules building) (rendering building)) (sym action.1)
            ∙ same_result (building_rules building) problem (rendering building) inst rules;
      }

  -- ---- turns

  -- what follows the sensing leaves a state, and these atoms are its facts
  record Ends (between : List Edit) (turn : TurnValue) (sensed : RoomState) (atoms : List Atom) : Type 0 where
    pub after : RoomState
    pub ends : EndsInRooms between turn.op turn.end sensed after
    pub left : IsLeft sensed after
    pub facts : atoms ≡ rendering after

  module _ (sensed : RoomState) (is : IsRoomState sensed) (rules : HaveSameRules (building_rules sensed) problem) where
    abbrev EndsTo : List Edit → RoomState → TurnValue → Type 0
    EndsTo between after turn = EndsInRooms between turn.op turn.end sensed after

    stays : (between : List Edit) (turn same : TurnValue) (old new : Running) → old.atoms ≡ rendering sensed → turn ≡ same
        → EndsTo between sensed same
        → new ≡ old → Ends between turn sensed new.atoms
    stays between turn same old new facts told ends left = record {
      after = sensed;
      ends = subst (EndsTo between sensed) (sym told) ends;
      left = left-same sensed is;
      facts = ap (λ (r : Running). r.atoms) left ∙ facts;
    }

    ends-in : (between : List Edit) → All (Takes (Some sensed)) between
        → (old : Running) (outcome : Outcome) (turn : TurnValue) (new : Running)
        → old.atoms ≡ rendering sensed → IsActable problem table old.memory.remembered
        → EndsTurn leaves_edit problem table bound between old outcome turn new → Ends between turn sensed new.atoms
    ends-in between taken old NoKernel turn new facts can ends = stays between turn _ old new facts ends.0 refl ends.1
    ends-in between taken old Goal turn new facts can ends = stays between turn _ old new facts ends.0 refl ends.1
    ends-in between taken old (Sensed i) turn new facts can (inl (told, (kernel, remembered, row, (inst, at, same)))) =
        let first = makes between sensed is taken in
        let seen : after_edits leaves_edit between old.atoms ≡ rendering first.after =
        ap (after_edits leaves_edit between) facts ∙ sym first.facts in
        let able : IsActable problem table (Some kernel) = subst (IsActable problem table) remembered can in
        let second = does first.after first.left.state (rules-left problem sensed first.after first.left rules) kernel inst able.2
        (subst (KernelRowHolds table kernel) seen row) at in
        let step : remembered_step table old.memory ≡ Some inst =
        ap (λ (r : Option KernelInstance). remembered_step table (record { remembered = r; instance = old.memory.instance })) remembered
        ∙ at in
        record {
          after = second.after;
          ends = subst (EndsTo between second.after) (sym told) (inst, step, (first.after, first.made, second.done));
          left = left-both sensed first.after second.after first.left second.left;
          facts = ap (λ (r : Running). r.atoms) same ∙ ap (λ (atoms : List Atom). result_of problem atoms inst) seen ∙ sym second.facts;
        }
    ends-in between taken old (Sensed i) turn new facts can (inr (told, (kernel, remembered, fails, same))) =
        let first = makes between sensed is taken in
        record {
          after = first.after;
          ends = subst (EndsTo between first.after) (sym told) first.made;
          left = first.left;
          facts = ap (λ (r : Running). r.atoms) same ∙ ap (after_edits leaves_edit between) facts ∙ sym first.facts;
        }
    ends-in between taken old Disturbed turn new facts can ends = absurd ends
    ends-in between taken old NotSensed turn new facts can ends = absurd ends
    ends-in between taken old Slipped turn new facts can ends = absurd ends
    ends-in between taken old Acted turn new facts can ends = absurd ends

  -- a turn leaves a state, and these atoms are its facts
  record TurnLeaves (before between : List Edit) (turn : TurnValue) (building : RoomState) (atoms : List Atom) : Type 0 where
    pub sensed : RoomState
    pub disturbed : AreMade before building sensed
    pub after : RoomState
    pub ends : EndsInRooms between turn.op turn.end sensed after
    pub left : IsLeft building after
    pub facts : atoms ≡ rendering after

  turn-in : (before between : List Edit) (building : RoomState) (old : Running) (turn : TurnValue) (new : Running)
      → IsRoomState building → HaveSameRules (building_rules building) problem
      → All (Takes (Some building)) before → All (Takes (Some building)) between → old.atoms ≡ rendering building
      → TakesTurn leaves_edit problem table bound before between old turn new → TurnLeaves before between turn building new.atoms
  turn-in before between building old turn new is rules first second facts (outcome, (sensed, senses, ends)) =
      let disturbed = disturbed_by leaves_edit before old in
      let made = makes before building is first in
      let seen : sensed.atoms ≡ rendering made.after =
      sense-atoms leaves_edit problem table bound outcome disturbed sensed senses ∙ ap (after_edits leaves_edit before) facts
      ∙ sym made.facts in
      let rest = ends-in made.after made.left.state (rules-left problem building made.after made.left rules) between
      (taken-left building made.after between made.left second) sensed outcome turn new seen
      (sense-can problem table is_table bound outcome disturbed sensed senses) ends in
      record {
        sensed = made.after;
        disturbed = made.made;
        after = rest.after;
        ends = rest.ends;
        left = left-both building made.after rest.after made.left rest.left;
        facts = rest.facts;
      }

  pub turns-in : (recorded : List (Recorded Edit)) (number : ℕ) (building : RoomState) (old : Running) (turns : List TurnValue) (new : Running)
      → IsRoomState building → HaveSameRules (building_rules building) problem → TakesAll (Some building) recorded
      → old.atoms ≡ rendering building
      → TakesTurns leaves_edit problem table bound recorded number old turns new → RunLeaves recorded number turns building new.atoms
  turns-in recorded number building old [] new is rules taken facts takes = absurd takes
  turns-in recorded number building old (turn ∷ turns) new is rules taken facts (mid, takes, inl (last, none, same)) =
      let here = turn-in (edits_at recorded number false) (edits_at recorded number true) building old turn mid is rules
      (all-at (Takes (Some building)) recorded number false taken)
      (all-at (Takes (Some building)) recorded number true taken) facts takes in
      record {
        after = here.after;
        turned = subst (λ (l : List TurnValue). AreTurnsInRooms recorded number (turn ∷ l) building here.after) (sym none)
            (here.sensed, here.disturbed, (here.after, here.ends, refl));
        left = here.left;
        facts = ap (λ (r : Running). r.atoms) same ∙ here.facts;
      }
  turns-in recorded number building old (turn ∷ turns) new is rules taken facts (mid, takes, inr (goes_on, later)) =
      let here = turn-in (edits_at recorded number false) (edits_at recorded number true) building old turn mid is rules
      (all-at (Takes (Some building)) recorded number false taken)
      (all-at (Takes (Some building)) recorded number true taken) facts takes in
      let rest = turns-in recorded (suc number) here.after mid turns new here.left.state
      (rules-left problem building here.after here.left rules)
      (takes-all-later (Some building) (Some here.after) recorded (same-left building here.after here.left) taken) here.facts later in
      record {
        after = rest.after;
        turned = (here.sensed, here.disturbed, (here.after, here.ends, rest.turned));
        left = left-both building here.after rest.after here.left rest.left;
        facts = rest.facts;
      }

  pub run-in : (recorded : List (Recorded Edit)) (building : RoomState) (atoms : List Atom) (turns : List TurnValue) (after : List Atom)
      → IsRoomState building → HaveSameRules (building_rules building) problem → TakesAll (Some building) recorded
      → atoms ≡ rendering building
      → RunsTable leaves_edit problem table bound recorded atoms turns after → RunLeaves recorded 1 turns building after
  run-in recorded building atoms turns after is rules taken facts (memory, takes) =
      turns-in recorded 1 building _ turns _ is rules taken facts takes
