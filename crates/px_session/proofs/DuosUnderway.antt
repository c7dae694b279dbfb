-- Two executors that are underway: their lines so far, and how many places the others may take.
use Rattle.std.specs.Prelude.{◌≡◌, ◌⊎◌, ◌<◌, ◌≤◌, ◌+◌, ◌-◌, ◌*◌, ℕ, Option, None, Some, List, [], ◌∷◌, ◌++◌, length, take}
use Rattle.std.proofs.Common.{suc, refl, sym, ap, ◌∙◌, subst, get_or, inl, inr, arith}
use Rattle.std.proofs.lemmas.List.{take_all}
use Rattle.px_base.proofs.Loops.{take_next}
use Rattle.px_terms.specs.declared.atom.Atom.{Atom}
use Rattle.px_terms.specs.declared.instance.OpInst.{OpInst}
use Rattle.px_terms.specs.declared.problem.Problem.{Problem}
use Rattle.px_match.specs.Matching.{KernelInstance}
use Rattle.px_world.specs.Worlds.{HaveSameRules}
use Rattle.px_planex.specs.Execution.{remembered_step}
use Rattle.px_planex.specs.declared.event.Outcome.{Outcome}
use Rattle.px_planex.specs.declared.event.Outcome.TheVariants as outcome
use Rattle.px_duo.specs.DuoValue.{DuoValue}
use Rattle.px_duo.specs.Duos.{HappensInDuo, duo_running, own}
use Rattle.px_duo.specs.declared.event.DuoEvent.{DuoEvent}
use Rattle.px_duo.specs.declared.event.DuoEvent.TheVariants as duo_event
use Rattle.px_duo.specs.declared.event.Who.{Who}
use Rattle.px_printer.specs.declared.duo_line.DuoEnd.{DuoEnd}
use Rattle.px_printer.specs.declared.duo_line.DuoEnd.TheVariants as told
use Rattle.px_printer.specs.declared.duo_line.DuoLine.{DuoLine}
use Rattle.px_session.specs.declared.run_world.RunWorld.{RunWorld}
use Rattle.px_session.specs.DuoRuns.{AreDuoLines, IsDuoLine, event_of, next_event, outcome_told, step_told, who_of}
use Rattle.px_session.specs.RunWorlds.{TakeSame, building_of, run_world_atoms}
use Rattle.px_turns.specs.Turning.{adds_most}
use Rattle.px_session.specs.Running.{HasDuoPlaces, TookPlaces}
use Rattle.px_session.specs.Sessions.{Edit, leaves_edit}
use Rattle.px_session.proofs.Placing.{same-both, same_taken}
use Rattle.px_session.proofs.TwoRunning.{lines-more}

-- ---- whose event it is

pub senses-next : (who : Who) (remembered : Option KernelInstance) → remembered ≡ None
    → duo_event.Sense who ≡ event_of {E = Edit} who remembered
senses-next who remembered none = sym (ap (event_of who) none)

-- a sensing is told by a line
pub sensed-line : (duo next : DuoValue) (number : ℕ) (who : Who) (old new : List Atom) (end : DuoEnd) (answer : Outcome) (op : Option OpInst)
    → who ≡ who_of number → (own (who_of number) duo.memories).remembered ≡ None → answer ≡ outcome_told end
    → next ≡ record duo { memories = next.memories }
    → HappensInDuo leaves_edit duo.problem duo.tables (duo_running old duo.memories) (duo_event.Sense who) answer (duo_running new next.memories)
    → op ≡ step_told end (remembered_step (own who next.tables) (own who next.memories))
    → IsDuoLine leaves_edit duo.problem duo.tables number (duo_running old duo.memories) (record { who = number; end = end; op = op })
    (duo_running new next.memories)
sensed-line duo next number who old new end answer op who_is none answer_is frame happens op_is =
    let Comes : DuoEvent Edit → Outcome → Type 0 = λ event outcome.
    HappensInDuo leaves_edit duo.problem duo.tables (duo_running old duo.memories) event outcome (duo_running new next.memories) in
    let tables : next.tables ≡ duo.tables = ap (λ (d : DuoValue). d.tables) frame in
    let event : duo_event.Sense who ≡ next_event {E = Edit} number duo.memories =
    ap duo_event.Sense who_is ∙ senses-next (who_of number) (own (who_of number) duo.memories).remembered none in
    record {
      who = refl;
      happens = subst (λ (e : DuoEvent Edit). Comes e (outcome_told end)) event
          (subst (λ (o : Outcome). Comes (duo_event.Sense who) o) answer_is happens);
      step = op_is ∙ (λ i. step_told end (remembered_step (own (who_is i) (tables i)) (own (who_is i) next.memories)));
    }

-- ---- lines so far

module _ (duo : DuoValue) (numbers : List ℕ) where
  abbrev places_left : ℕ → ℕ
  places_left made = (length numbers - made) * adds_most duo.problem.schemas

  -- so many lines have led here
  pub record AreUnderway (start : RunWorld) (made : ℕ) (lines : List DuoLine) (now : DuoValue) (world : RunWorld) : Type 0 where
    pub same : now ≡ record duo { memories = now.memories }
    pub lines_are : AreDuoLines leaves_edit duo.problem duo.tables (take made numbers) (duo_running (run_world_atoms start) duo.memories) lines
        (duo_running (run_world_atoms world) now.memories)
    pub places : HasDuoPlaces duo (places_left made) world
    pub takes : TakeSame (building_of start) (building_of world)

  pub duos-first : (world : RunWorld) → HasDuoPlaces duo (length numbers * adds_most duo.problem.schemas) world → AreUnderway world 0 [] duo world
  duos-first world places =
      let all : length numbers ≡ length numbers - 0 = omega arith in
      record {
        same = refl;
        lines_are = refl;
        places = subst (λ n. HasDuoPlaces duo (n * adds_most duo.problem.schemas) world) all places;
        takes = same_taken (building_of world);
      }

  one-more : (n m : ℕ) → m < n → n - m ≡ suc (n - (m + 1))
  one-more n m below = omega (arith, below)

  left-more : (made : ℕ) → made < length numbers
      → places_left made ≡ suc (length numbers - (made + 1)) * adds_most duo.problem.schemas
  left-more made below = ap (λ n. n * adds_most duo.problem.schemas) (one-more (length numbers) made below)

  one-of : (left m : ℕ) → m ≤ suc left * m
  one-of left m = omega arith

  -- the places of a line
  pub duos-here : (start : RunWorld) (made : ℕ) (lines : List DuoLine) (now : DuoValue) (world : RunWorld) → made < length numbers
      → AreUnderway start made lines now world → HasDuoPlaces now (adds_most now.problem.schemas) world
  duos-here start made lines now world below is =
      let m = adds_most duo.problem.schemas in
      let here = left-more made below in
      let one = one-of (length numbers - (made + 1)) m in
      subst (λ (d : DuoValue). HasDuoPlaces d (adds_most d.problem.schemas) world) (sym is.same)
      (record {
        rules = is.places.rules;
        spare = omega (arith, is.places.spare, here, one);
        room = omega (arith, is.places.room, here, one);
      })

  pub duos-next : (start : RunWorld) (made : ℕ) (lines : List DuoLine) (now next : DuoValue) (world new : RunWorld) (number : ℕ) (line : DuoLine)
      → made < length numbers → number ≡ get_or numbers made number → AreUnderway start made lines now world
      → IsDuoLine leaves_edit now.problem now.tables number (duo_running (run_world_atoms world) now.memories) line
      (duo_running (run_world_atoms new) next.memories)
      → next ≡ record now { memories = next.memories } → TookPlaces (adds_most now.problem.schemas) world new
      → AreUnderway start (made + 1) (lines ++ line ∷ []) next new
  duos-next start made lines now next world new number line below at is here frame taken =
      let m = adds_most duo.problem.schemas in
      let left = left-more made below in
      let used = subst (λ (d : DuoValue). TookPlaces (adds_most d.problem.schemas) world new) is.same taken in
      let leads = subst (λ (d : DuoValue). IsDuoLine leaves_edit d.problem d.tables number (duo_running (run_world_atoms world) now.memories) line
      (duo_running (run_world_atoms new) next.memories)) is.same here in
      record {
        same = frame ∙ ap (λ (d : DuoValue). record d { memories = next.memories }) is.same;
        lines_are = subst (λ (ns : List ℕ). AreDuoLines leaves_edit duo.problem duo.tables ns (duo_running (run_world_atoms start) duo.memories)
            (lines ++ line ∷ []) (duo_running (run_world_atoms new) next.memories)) (sym (take_next numbers made number below at))
            (lines-more leaves_edit duo.problem duo.tables (take made numbers) number (duo_running (run_world_atoms start) duo.memories)
            (duo_running (run_world_atoms world) now.memories) (duo_running (run_world_atoms new) next.memories) lines line is.lines_are leads);
        places = record {
          rules = subst (λ (p : Problem). HaveSameRules p duo.problem) (sym used.rules) is.places.rules;
          spare = omega (arith, is.places.spare, left, used.spare);
          room = omega (arith, is.places.room, left, used.number);
        };
        takes = same-both (building_of start) (building_of world) (building_of new) is.takes used.edits;
      }

  pub duos-last : (start : RunWorld) (made : ℕ) (lines : List DuoLine) (now : DuoValue) (world : RunWorld) → length numbers ≤ made
      → AreUnderway start made lines now world
      → AreDuoLines leaves_edit duo.problem duo.tables numbers (duo_running (run_world_atoms start) duo.memories) lines
      (duo_running (run_world_atoms world) now.memories)
  duos-last start made lines now world past is =
      subst (λ (ns : List ℕ). AreDuoLines leaves_edit duo.problem duo.tables ns (duo_running (run_world_atoms start) duo.memories) lines
      (duo_running (run_world_atoms world) now.memories)) (take_all made numbers past) is.lines_are
