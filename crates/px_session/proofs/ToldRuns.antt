-- A run that is reported has few turns, and is a trace.
use Rattle.std.specs.Prelude.{◌≡◌, ◌≤◌, ◌+◌, ◌*◌, ℕ, Some, List, length, map}
use Rattle.std.proofs.Common.{sym, ap, subst}
use Rattle.std.proofs.lemmas.List.{length-map}
use Rattle.px_terms.specs.declared.atom.Atom.{Atom}
use Rattle.px_terms.specs.declared.problem.Problem.{Problem}
use Rattle.px_table.specs.declared.table.Table.{Table}
use Rattle.px_planex.specs.Execution.{Memory, Traces, nothing_sensed}
use Rattle.px_planex.specs.Executors.{running}
use Rattle.px_planex.specs.RunTraces.{run_events, run_outcomes}
use Rattle.px_planex.specs.Turns.{RunsTable}
use Rattle.px_planex.proofs.TracedRuns.{runs_are_traces}
use Rattle.px_planex.proofs.TurnBound.{turns_are_few}
use Rattle.px_printer.specs.declared.turn.Turn.{Turn}
use Rattle.px_session.specs.Lawful.{IsRunOf, turn_told}
use Rattle.px_session.specs.Sessions.{SessionState, any_table, leaves_edit}
use Rattle.px_session.specs.ToldRuns.{ToldRuns}
use Rattle.px_session.proofs.OneLearning.{any-right, one_some}

module _ (problem : Problem) (old : SessionState) (name : ℕ) (bound : List (ℕ × ℕ)) (told : List Turn) (new : SessionState) where
  -- the run is one of the table of the name
  pub runs-of : (table : Table) → any_table old name ≡ Some table → (run : IsRunOf problem name bound old told new)
      → RunsTable leaves_edit problem table bound old.recorded old.atoms (map turn_told told) run.after
  runs-of table named run =
      subst (λ (t : Table). RunsTable leaves_edit problem t bound old.recorded old.atoms (map turn_told told) run.after)
      (one_some (any_table old name) run.table table run.named named) run.runs

  abbrev IsTraced : Table → List Atom → Type 0
  IsTraced table atoms = (memory : Memory) × Traces leaves_edit problem table bound (running old.atoms nothing_sensed)
      (run_events old.recorded 1 (map turn_told told)) (run_outcomes old.recorded 1 (map turn_told told)) (running atoms memory)

  told-traced : (table : Table) → any_table old name ≡ Some table → IsRunOf problem name bound old told new → IsTraced table new.atoms
  told-traced table named run =
      subst (IsTraced table) (sym (ap (λ (s : SessionState). s.atoms) run.changed))
      (runs_are_traces leaves_edit problem table bound old.recorded old.atoms (map turn_told told) run.after (runs-of table named run))

pub told_runs : ToldRuns
told_runs = record {
  few = λ problem old name given bound table told new valid session named is.
      let right = any-right problem old session.plans session.learned name table named in
      let few = turns_are_few leaves_edit problem table bound old.recorded old.atoms (map turn_told told) is.1.after valid right
      (runs-of problem old name bound told new table named is.1) in
      let count : length (map turn_told told) ≡ length told = length-map told turn_told in
      subst (λ n. n ≤ (length old.recorded + 1) * (length table.steps + 1)) count few;
  traced = λ problem old name given bound table told new named is. told-traced problem old name bound told new table named is.1;
}
