-- One search of a pursuit, and the run of the plan that it found.
use Rattle.std.specs.Prelude.{◌≡◌, ◌≢◌, ℕ, ◌+◌, Bool, true, false, List, [], ◌∷◌, ◌++◌, length, map}
use Rattle.std.proofs.Common.{refl, ap, ◌∙◌, subst}
use Rattle.std.proofs.lemmas.List.{map-append}
use Rattle.px_terms.specs.declared.atom.Atom.{Atom}
use Rattle.px_terms.specs.declared.problem.Problem.{Problem}
use Rattle.px_table.specs.declared.table.Table.{Table}
use Rattle.px_ends.specs.Tasks.{Task, task_of}
use Rattle.px_planex.specs.Execution.{Running}
use Rattle.px_planex.specs.Turns.{AtGoal, AtNoKernel, Recorded, TakesTurns, TurnValue}
use Rattle.px_printer.specs.declared.pursue_end.PursueEnd.{PursueEnd}
use Rattle.px_printer.specs.declared.pursue_end.PursueEnd.TheVariants.{Goal, Exhausted, NodeLimit, ShapeLimit}
use Rattle.px_printer.specs.declared.turn.Turn.{Turn}
use Rattle.px_turns.specs.Told.{AddsRun, turn_told}
use Rattle.px_turns.proofs.Ending.{ends-later}
use Rattle.px_pursue.specs.declared.seeking.Sought.TheVariants.{Plan}
use Rattle.px_pursue.specs.Pursuits.{EndsBy, RunsPlan}
use Rattle.px_pursue.specs.Searches.{EndsWithoutPlan}
use Rattle.px_pursue.specs.Seeking.{EndsPlanRun, IsSought}

-- the last of all turns is that of the run, if it has any
ends-run : (b : Bool) (before run : List TurnValue) → run ≢ [] → EndsPlanRun b (before ++ run) → EndsPlanRun b run
ends-run true before run some ends = ends-later before run AtGoal some ends
ends-run false before run some ends = ends-later before run AtNoKernel some ends

module _ {E : Type 0} (leaves : E → List Atom → List Atom) (problem : Problem) (tables : List Table) (goal : List Atom) (variable_count : ℕ)
    (recorded : List (Recorded E)) where
  abbrev from : List Atom → Task
  from atoms = task_of problem tables atoms goal variable_count

  some-turns : (plan : Table) (number : ℕ) (old new : Running) (run : List TurnValue)
      → TakesTurns leaves problem plan [] recorded number old run new → run ≢ []
  some-turns plan number old new [] takes none = takes
  some-turns plan number old new (turn ∷ run) takes none = cc (none)

  -- the run of the plan that was found
  pub ran-plan : (atoms after : List Atom) (before turns : List Turn) (plan : Table) (b : Bool) → IsSought (from atoms) (Plan plan)
      → AddsRun leaves problem plan [] recorded before atoms turns after → EndsPlanRun b (map turn_told turns)
      → (run : List Turn) × (turns ≡ before ++ run)
      × RunsPlan leaves problem tables goal variable_count recorded (length before + 1) atoms (map turn_told run) after
      × EndsPlanRun b (map turn_told run)
  ran-plan atoms after before turns plan b (moves, found, made, is_table) adds ends =
      let told = ap (map turn_told) adds.turns_are ∙ map-append turn_told before adds.run in (
        adds.run,
        adds.turns_are,
        record { moves = moves; found = found; plan = plan; made = made; memory = adds.memory; takes = adds.takes },
        ends-run b (map turn_told before) (map turn_told adds.run)
            (some-turns plan (length before + 1) _ _ (map turn_told adds.run) adds.takes)
            (subst (EndsPlanRun b) told ends),
      )

  -- the end without a plan
  pub ends-without : (number : ℕ) (atoms : List Atom) (end : PursueEnd) → EndsWithoutPlan (from atoms) end
      → EndsBy leaves problem tables goal variable_count recorded number atoms [] end atoms
  ends-without number atoms Goal is = absurd is
  ends-without number atoms Exhausted is = (is, refl, refl)
  ends-without number atoms (NodeLimit nodes moves) is = (is, refl, refl)
  ends-without number atoms (ShapeLimit node limit) is = (is, refl, refl)
