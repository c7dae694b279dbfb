-- What a script with these parts is about.
use Rattle.std.specs.Option.{option_map}
use Rattle.std.specs.Prelude.{ℕ, List, Option}
use Rattle.px_ops.specs.ModelValue.{ModelValue}
use Rattle.px_rooms.specs.declared.building.Building.{Building}
use Rattle.px_table.specs.declared.table.Table.{Table}
use Rattle.px_script.specs.Commands.{Command}
use Rattle.px_script.specs.Common.{NameLists, Problem}
use Rattle.px_script.specs.Content.{ScriptValue}

abbrev pub script_of : ℕ → NameLists → Problem → ModelValue → Option Building → List (ℕ × Table) → List Command → ScriptValue
script_of version names problem facts building saved commands = record {
  version = version;
  names = names;
  problem = problem;
  facts = facts.atoms;
  building = option_map (λ building. building.things) building;
  saved = saved;
  commands = commands;
}
