-- What contracts see of a session, and the one before the first command of a script.
use Rattle.std.specs.Prelude.{ℕ, List, ◌++◌}
use Rattle.px_names.specs.Lists.{NameLists}
use Rattle.px_terms.specs.declared.problem.Problem.{Problem}
use Rattle.px_table.specs.declared.table.Table.{Table}
use Rattle.px_script.specs.declared.command.Command.{Command}
use Rattle.px_script.specs.Content.{ScriptValue}
use Rattle.px_session.specs.Sessions.{SessionState, opening}

-- what is asked of it, how many of the commands are done, and the state that they left
pub record SessionValue : Type 0 where
  pub problem : Problem
  pub names : NameLists
  pub commands : List Command
  pub done : ℕ
  pub state : SessionState

-- before the first command of the script
abbrev pub opened_session : ScriptValue → SessionValue
opened_session script = record {
  problem = script.problem;
  names = script.names;
  commands = script.commands;
  done = 0;
  state = opening script.facts script.saved;
}

-- the tables of the stored plans, and the learned ones, with the script's saved ones among these
abbrev pub tables_of : SessionState → List Table
tables_of state = state.plans.tables ++ state.learned.tables
