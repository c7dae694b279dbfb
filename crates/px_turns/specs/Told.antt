-- The turns of a run as they are told, after those of earlier runs.
use Rattle.std.specs.Prelude.{◌≡◌, ◌↔◌, ◌+◌, ◌++◌, ℕ, List, [], ◌∷◌, length, map, All}
use Rattle.px_terms.specs.declared.atom.Atom.{Atom}
use Rattle.px_terms.specs.declared.problem.Problem.{Problem}
use Rattle.px_table.specs.declared.table.Table.{Table}
use Rattle.px_planex.specs.Execution.{Memory, nothing_sensed}
use Rattle.px_planex.specs.Executors.{running}
use Rattle.px_planex.specs.Turns.{AtGoal, AtNoKernel, ByActing, BySlipping, Recorded, TakesTurns, TurnValue}
use Rattle.px_planex.specs.Turns as executed
use Rattle.px_printer.specs.declared.turn.Turn.{Turn}
use Rattle.px_printer.specs.declared.turn.TurnEnd.{TurnEnd}
use Rattle.px_printer.specs.declared.turn.TurnEnd.TheVariants.{Acted, Slipped, Goal, NoKernel}

-- how a turn that is told ended
abbrev pub end_told : TurnEnd → executed.TurnEnd
end_told Goal = AtGoal
end_told NoKernel = AtNoKernel
end_told Acted = ByActing
end_told Slipped = BySlipping

-- the turn that is told like this
abbrev pub turn_told : Turn → TurnValue
turn_told turn = record { kernel = turn.kernel; op = turn.op; end = end_told turn.end }

-- the last of the turns ended like this
abbrev pub EndsRun : executed.TurnEnd → List TurnValue → Type 0
EndsRun end [] = ⊥
EndsRun end (turn ∷ []) = turn.end ≡ end
EndsRun end (turn ∷ next ∷ turns) = EndsRun end (next ∷ turns)

-- both admit the same edits
pub record AdmitSame {E : Type 0} (old new : E → Type 0) : Type 0 where
  pub same : (edit : E) → new edit ↔ old edit

-- all that is recorded is admitted
abbrev pub AdmitsAll : {E : Type 0} → (E → Type 0) → List (Recorded E) → Type 0
AdmitsAll admits recorded = All (λ one. All admits one.edits) recorded

-- In a world of these atoms, in which an edit leaves those, an executor of the table with this binding, which has sensed nothing yet, has
-- turns that come after the ones before: the first has the next number, and the last is the one that ends the run.
pub record AddsRun {E : Type 0} (leaves : E → List Atom → List Atom) (problem : Problem) (table : Table) (bound : List (ℕ × ℕ))
    (recorded : List (Recorded E)) (before : List Turn) (atoms : List Atom) (turns : List Turn) (after : List Atom) : Type 0 where
  pub run : List Turn
  pub turns_are : turns ≡ before ++ run
  pub memory : Memory
  pub takes : TakesTurns leaves problem table bound recorded (length before + 1) (running atoms nothing_sensed) (map turn_told run)
      (running after memory)
