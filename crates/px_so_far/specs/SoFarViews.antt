-- What the definitions see of the lines so far.
use Rattle.px_names.specs.Lists.{NameLists}
use Rattle.px_script.specs.Statements.{Statement, line_of}
use Rattle.std.specs.Option.{option_map}
use Rattle.std.specs.Prelude.{ℕ, Bool, true, false, List, ◌++◌, map, length, Option}
use Rattle.std.specs.String.{string_bytes}
use Rattle.px_names.specs.declared.kind.Kind.{Kind}
use Rattle.px_names.specs.declared.kind.Kind.TheVariants as kind
use Rattle.px_table.specs.Tables.{rows_of}
use Rattle.px_terms.specs.declared.instance.OpInst.{OpInst}
use Rattle.px_script.specs.Declarations.{Declared, OpenBlock, OpenOperator, WrittenTable, BlockKind, of_operator, of_building, of_table_steps, of_table_rows, declares, declared_by, with_all_names}
use Rattle.px_so_far.specs.declared.so_far.SoFar.{SoFar}
use Rattle.px_so_far.specs.declared.blocks.OpenBlock as code
use Rattle.px_so_far.specs.declared.blocks.OpenOperator as operator
use Rattle.px_so_far.specs.declared.blocks.BlockKind as block
use Rattle.px_so_far.specs.declared.open_tables.OpenTable as table
use Rattle.px_so_far.specs.declared.open_tables.WrittenStep as step

-- an open operator with the number that its schema will have
abbrev pub operator_view : ℕ → operator.OpenOperator → OpenOperator
operator_view number o = record {
  parameters = map string_bytes o.parameters.items;
  schema = record {
    op = number;
    params = length (map string_bytes o.parameters.items);
    pre = o.pre.items;
    del = o.delete.items;
    add = o.add.items;
    param_sorts = o.sorts.items;
  };
}

abbrev pub step_view : step.WrittenStep → OpInst
step_view s = record { op = s.op; args = s.terms.items }

abbrev pub table_view : table.OpenTable → WrittenTable
table_view t = record {
  name = t.name;
  parameters = t.parameters;
  steps = map step_view t.steps.items;
  goal = t.goal.items;
  goal_variable_count = t.goal_variable_count;
  rows = rows_of t.rows.items;
}

-- a table's block after its goal, or before
abbrev pub table_kind : Bool → WrittenTable → BlockKind
table_kind true t = of_table_rows t
table_kind false t = of_table_steps t

-- the block of an open table
abbrev pub open_table_view : table.OpenTable → BlockKind
open_table_view t = table_kind t.has_goal (table_view t)

abbrev pub kind_view : ℕ → block.BlockKind → BlockKind
kind_view number (block.TheVariants.Operator o) = of_operator (operator_view number o)
kind_view number block.TheVariants.Building = of_building
kind_view number (block.TheVariants.Table t) = open_table_view t

abbrev pub open_block_view : ℕ → code.OpenBlock → OpenBlock
open_block_view number block = record { line = block.line; kind = kind_view number block.kind }

abbrev pub declared_of : SoFar → Declared
declared_of so_far = record {
  version = so_far.version;
  names = so_far.names;
  roles = record {
    rooms = map string_bytes so_far.rooms.items;
    doors = map string_bytes so_far.doors.items;
    boxes = map string_bytes so_far.boxes.items;
    plans = map string_bytes so_far.plans.items;
    tables = map string_bytes so_far.tables.items;
  };
  sorts = map string_bytes so_far.sorts.items;
  object_sorts = so_far.object_sorts.items;
  arities = so_far.arities.items;
  axioms = so_far.axioms;
  schemas = so_far.schemas.items;
  facts = so_far.facts.atoms;
  things = option_map (λ things. things.items) so_far.things;
  height = so_far.height;
  nodes = so_far.nodes;
  shapes = so_far.shapes;
  weight = so_far.weight;
  saved = so_far.saved.items;
  commands = so_far.commands.items;
  disturbs = so_far.disturbs;
  block = option_map (open_block_view (length so_far.schemas.items)) so_far.block;
  own_domain = so_far.own_domain;
  begun = so_far.begun;
}

-- what the open block is of
abbrev pub kind_here : Declared → Option BlockKind
kind_here d = option_map (λ block. block.kind) d.block

-- what a line without a fault leaves, but for `own_domain` and `begun`
abbrev pub leaves : ℕ → Declared → Statement → Declared
leaves n d s = with_all_names (declared_by (line_of s)) (declares n d s)

-- the lists with more names of a kind
abbrev pub with_more : Kind → List (List ℕ) → NameLists → NameLists
with_more kind.Object more names = record names { objects = names.objects ++ more }
with_more kind.Predicate more names = record names { predicates = names.predicates ++ more }
with_more kind.Operator more names = record names { operators = names.operators ++ more }
with_more kind.Result more names = record names { results = names.results ++ more }
