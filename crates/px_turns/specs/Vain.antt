-- Runs that end where no kernel fits.
use Rattle.std.specs.Prelude.{◌<◌, ◌+◌, ℕ, cond, nat_le, List, [], ◌∷◌, length}
use Rattle.px_terms.specs.declared.atom.Atom.{Atom}
use Rattle.px_terms.specs.declared.problem.Problem.{Problem}
use Rattle.px_terms.specs.Validity.{IsValid}
use Rattle.px_table.specs.declared.table.Table.{Table}
use Rattle.px_table.specs.Tables.{IsTable}
use Rattle.px_match.specs.Matching.{NoKernelFits}
use Rattle.px_planex.specs.Execution.{Running}
use Rattle.px_planex.specs.Turns.{AtNoKernel, Recorded, TakesTurns, TurnValue}
use Rattle.px_turns.specs.Told.{EndsRun}

-- how many disturbances are recorded for that turn and later ones
abbrev pub count_from : {E : Type 0} → ℕ → List (Recorded E) → ℕ
count_from number [] = 0
count_from number (one ∷ recorded) = cond (nat_le number one.turn) 1 0 + count_from number recorded

-- A run at whose start some kernel fits, and that ends where none does, uses a disturbance: fewer are recorded for the turns after it than
-- for its own and those after it.
abbrev pub VainRunsUse : {E : Type 0} → (E → List Atom → List Atom) → Type 0
VainRunsUse {E} leaves = (problem : Problem) (table : Table) (bound : List (ℕ × ℕ)) (recorded : List (Recorded E))
    (number : ℕ) (old new : Running) (run : List TurnValue) → IsValid problem → IsTable problem table
    → (¬ NoKernelFits problem table bound old.atoms) → TakesTurns leaves problem table bound recorded number old run new
    → EndsRun AtNoKernel run → count_from (number + length run) recorded < count_from number recorded
