-- The smallest searches: with nothing to reach, with the goal among the facts, with no operator, with one that reaches the goal, and with
-- one that can't be used.
use Rattle.std.specs.Prelude.{◌≤◌, ℕ, List, [], ◌∷◌}
use Rattle.px_terms.specs.declared.atom.Atom.{Atom}
use Rattle.px_terms.specs.declared.problem.Problem.{Problem}
use Rattle.px_terms.specs.declared.problem.Schema.{Schema}
use Rattle.px_terms.specs.Problems.{problem_without_sorts, schema_without_sorts}
use Rattle.px_proof.specs.declared.proof.Proof.TheVariants.{Fact}
use Rattle.px_table.specs.declared.entry.Entry.{Entry}
use Rattle.px_table.specs.declared.entry.Entry.TheVariants.{Op}
use Rattle.px_table.specs.declared.entry.Move.TheVariants.{Apply, Push}
use Rattle.px_table.specs.declared.node.Node.{Node}
use Rattle.px_table.specs.declared.table.Table.{Table}
use Rattle.px_table.specs.Tables.{table_without_sorts}
use Rattle.px_ends.specs.Ends.{IsExhausted, IsFound, IsNodeLimit}
use Rattle.px_ends.specs.Made.{IsTableOfMoves}
use Rattle.px_ends.specs.Tasks.{Task, task_of}

-- two predicates without arguments, no axioms, these operators, and room for so many nodes
abbrev pub plain_problem : List Schema → ℕ → Problem
plain_problem schemas nodes = problem_without_sorts 0 (0 ∷ 0 ∷ []) [] schemas 1 nodes 2

-- no operators
abbrev pub idle : Problem
idle = plain_problem [] 1

abbrev pub p : Atom
p = record { pred = 0; args = [] }

abbrev pub q : Atom
q = record { pred = 1; args = [] }

-- no steps, and the goal P from the initial model
abbrev pub p_at_once : Table
p_at_once =
    table_without_sorts 0 [] (p ∷ []) 0 (record { atom = p; row = 1; column = 0; index = 0 } ∷ [])
    ((Fact (record { column = 0; index = 0; atom = p }) ∷ []) ∷ [])

-- adds P, and needs Q, which nothing adds
abbrev pub stuck : Schema
stuck = schema_without_sorts 0 0 (q ∷ []) [] (p ∷ [])

-- adds P, and needs nothing
abbrev pub maker : Schema
maker = schema_without_sorts 1 0 [] [] (p ∷ [])

abbrev pub make : Entry
make = Op (record { op = 1; args = [] })

-- to reach P from no facts, by these operators
abbrev pub p_from_none : List Schema → ℕ → Task
p_from_none schemas nodes = task_of (plain_problem schemas nodes) [] [] (p ∷ []) 0

-- the node without facts on whose stack the entries stand
abbrev pub bare : List Entry → Node
bare stack = record { model = []; stack = stack }

-- A goal without atoms is reached by no moves, from whatever model. So is P where it is a fact, and its table is that of no moves. Where
-- P isn't a fact the search is exhausted. Where two operators add P, but one of them isn't open, P is reached by a push of the other and an
-- application, as the third node; with room for two nodes that is the node limit. With the operator alone that isn't open nothing is
-- pushed: the search is exhausted, with room for one node.
pub record EndFacts : Type 0 where
  pub nothing_to_reach : (problem : Problem) (tables : List Table) (initial : List Atom) → 1 ≤ problem.nodes → 2 ≤ problem.shapes
      → IsFound (task_of problem tables initial [] 0) []
  pub there : IsFound (task_of idle [] (p ∷ []) (p ∷ []) 0) []
  pub table_there : IsTableOfMoves (task_of idle [] (p ∷ []) (p ∷ []) 0) [] p_at_once
  pub not_there : IsExhausted (task_of idle [] [] (p ∷ []) 0)
  pub made : IsFound (p_from_none (stuck ∷ maker ∷ []) 3) (Push make ∷ Apply ∷ [])
  pub no_room : IsNodeLimit (p_from_none (stuck ∷ maker ∷ []) 2) (bare [] ∷ bare (make ∷ []) ∷ []) 2
  pub not_open : IsExhausted (p_from_none (stuck ∷ []) 1)
