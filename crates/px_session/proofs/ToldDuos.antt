-- What two executors did, as a reply prints it, is a trace.
use Rattle.std.specs.Prelude.{◌≡◌, ℕ, Some, List, map}
use Rattle.std.proofs.Common.{sym, ap, subst}
use Rattle.px_terms.specs.declared.atom.Atom.{Atom}
use Rattle.px_terms.specs.declared.problem.Problem.{Problem}
use Rattle.px_table.specs.declared.table.Table.{Table}
use Rattle.px_duo.specs.Duos.{DuoTraces, Pair, both, duo_running, neither_sensed}
use Rattle.px_planex.specs.Execution.{Memory}
use Rattle.px_printer.specs.declared.duo_line.DuoLine.{DuoLine}
use Rattle.px_session.specs.DuoRuns.{RunsDuo, outcome_told}
use Rattle.px_session.specs.Lawful.{IsDuoOf}
use Rattle.px_session.specs.Sessions.{SessionState, any_table, leaves_edit}
use Rattle.px_session.specs.ToldDuos.{ToldDuos, event_told}
use Rattle.px_session.proofs.OneLearning.{one_some}
use Rattle.px_session.proofs.TwoRunning.{lines_numbered, lines_traced}

module _ (problem : Problem) (old : SessionState) (first second : ℕ) (numbers : List ℕ) (lines : List DuoLine) (new : SessionState) where
  abbrev IsTraced : Pair Table → List Atom → Type 0
  IsTraced tables atoms = (memories : Pair Memory) × DuoTraces leaves_edit problem tables (duo_running old.atoms neither_sensed)
      (map event_told lines) (map (λ line. outcome_told line.end) lines) (duo_running atoms memories)

  traced-by : (tables : Pair Table) (after : List Atom) → RunsDuo leaves_edit problem tables old.atoms numbers lines after
      → IsTraced tables after
  traced-by tables after (memories, is) = (
    memories,
    lines_traced leaves_edit problem tables numbers (duo_running old.atoms neither_sensed) (duo_running after memories) lines is,
  )

  told-traced : (table also : Table) → any_table old first ≡ Some table → any_table old second ≡ Some also
      → IsDuoOf problem first second numbers old lines new → IsTraced (both table also) new.atoms
  told-traced table also named also_named is =
      let one : is.one ≡ table = one_some (any_table old first) is.one table is.first_named named in
      let other : is.other ≡ also = one_some (any_table old second) is.other also is.second_named also_named in
      subst (IsTraced (both table also)) (sym (ap (λ (s : SessionState). s.atoms) is.changed))
      (subst (λ (ts : Pair Table). IsTraced ts is.after) (λ i. both (one i) (other i))
      (traced-by (both is.one is.other) is.after is.runs))

  told-numbered : IsDuoOf problem first second numbers old lines new → map (λ line. line.who) lines ≡ numbers
  told-numbered is =
      lines_numbered leaves_edit problem (both is.one is.other) numbers (duo_running old.atoms neither_sensed)
      (duo_running is.after is.runs.0) lines is.runs.1

pub told_duos : ToldDuos
told_duos = record {
  numbered = λ problem old first second one other numbers lines new is. told-numbered problem old first second numbers lines new is.2;
  traced = λ problem old first second one other numbers table also lines new named also_named is.
      told-traced problem old first second numbers lines new table also named also_named is.2;
}
