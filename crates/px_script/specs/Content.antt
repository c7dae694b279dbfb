-- What a script is about: what its lines declared.
use Rattle.std.specs.Prelude.{ℕ, List, Option, None, Some}
use Rattle.px_table.specs.declared.table.Table.{Table}
use Rattle.px_script.specs.Common.{NameLists, first_state, rendering, Atom, Problem, Thing}
use Rattle.px_script.specs.Commands.{Command}
use Rattle.px_script.specs.Declarations.{Declared, problem_here}
-- the problem of the lines, with and without a building
pub use Rattle.px_script.specs.Declarations.{own_problem, problem_of}

pub record ScriptValue : Type 0 where
  pub version : ℕ
  pub names : NameLists
  pub problem : Problem
  pub facts : List Atom
  pub building : Option (List Thing)
  -- the tables that stand in it, each with the number of its name
  pub saved : List (ℕ × Table)
  pub commands : List Command

-- A building has the facts of its first state (`px_rooms`).
abbrev pub facts_of : List Atom → Option (List Thing) → List Atom
facts_of own None = own
facts_of own (Some things) = rendering (first_state things)

abbrev pub content_of : Declared → ScriptValue
content_of d = record {
  version = d.version;
  names = d.names;
  problem = problem_here d;
  facts = facts_of d.facts d.things;
  building = d.things;
  saved = d.saved;
  commands = d.commands;
}
