-- A pursuit has few turns, since each plan that it finds has a table.
use Rattle.std.specs.Prelude.{◌≤◌, ◌+◌, ◌-◌, ◌*◌, ℕ, List, [], length, All}
use Rattle.std.proofs.Common.{ap, arith}
use Rattle.std.proofs.lemmas.Nat.{mul-le}
use Rattle.px_base.specs.Bounds.{u32_max}
use Rattle.px_terms.specs.declared.atom.Atom.{Atom}
use Rattle.px_terms.specs.declared.problem.Problem.{Problem}
use Rattle.px_terms.specs.Validity.{IsAtomOf, IsValid}
use Rattle.px_table.specs.declared.entry.Move.{Move}
use Rattle.px_ends.specs.Tasks.{steps_of, task_of}
use Rattle.px_printer.specs.declared.pursue_end.PursueEnd.{PursueEnd}
use Rattle.px_printer.specs.declared.reply.Reply.TheVariants as reply
use Rattle.px_printer.specs.declared.turn.Turn.{Turn}
use Rattle.px_pursue.specs.Searches.{FindsMoves, IsSearchable}
use Rattle.px_pursue.proofs.FoundTables.{found-table}
use Rattle.px_totality.proofs.MadeTables.{found_have_tables}
use Rattle.px_script.specs.declared.command.Command.TheVariants as command
use Rattle.px_session.specs.Lawful.{Lawful}
use Rattle.px_session.specs.Sessions.{IsSession, SessionState}
use Rattle.px_session.proofs.Learned.{are-learned}
use Rattle.px_session.proofs.ToldPursuits.{told_pursuits}

module _ (problem : Problem) (old : SessionState) (valid : IsValid problem) (session : IsSession problem old) (goal : List Atom) (variable_count : ℕ)
    (own : All (IsAtomOf problem variable_count) goal) where
  -- the plan of moves that a search finds is shorter than any list may be
  found-short : (from : List Atom) (moves : List Move) → FindsMoves (task_of problem old.learned.tables from goal variable_count) moves
      → length (steps_of old.learned.tables [] moves) ≤ u32_max - 1
  found-short from moves found =
      let learned = are-learned problem old session in
      let task = task_of problem old.learned.tables from goal variable_count in
      let made = found_have_tables task problem.weight moves valid own learned found in
      let searchable : IsSearchable task = record { valid = valid; nodes = valid.nodes.1; goal = own; learned = learned } in
      let is = found-table task searchable moves made.0 found made.1 in
      let same = ap length made.1.steps in
      omega (arith, is.in_range.short, same)

  pub pursuit-few : (name given searches : ℕ) (told : List Turn) (end : PursueEnd) (new : SessionState) (disturbances : ℕ)
      → length old.recorded ≤ disturbances
      → Lawful problem old (command.Pursue name goal variable_count) (reply.Pursuit given searches told end) new
      → length told ≤ (2 * disturbances + 1) * u32_max
  pursuit-few name given searches told end new disturbances few is =
      let all = told_pursuits.short problem old name given goal variable_count searches told end new (u32_max - 1) valid session own
      (λ count before from moves vain found. found-short from moves found) is in
      let most : (2 * length old.recorded + 1) * u32_max ≤ (2 * disturbances + 1) * u32_max =
      mul-le (2 * length old.recorded + 1) u32_max (2 * disturbances + 1) u32_max (omega (arith, few)) (omega arith) in
      omega (arith, all, most)
