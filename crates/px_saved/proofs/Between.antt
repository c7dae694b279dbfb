-- What the lines of a table's block leave, one after the other.
use Rattle.px_proof.specs.Derivation.{Derivation}
use Rattle.px_table.specs.declared.table.Table.{Table}
use Rattle.px_script.specs.Common.{OpInst}
use Rattle.px_script.specs.Declarations.{Declared, BlockKind, WrittenTable, of_table_rows, of_table_steps, problem_here, table_made, with_names}
use Rattle.px_script.specs.declared.kinds.Named.TheVariants.{Table as a_table}
use Rattle.px_script.proofs.Common.{ℕ, true, List, [], ◌∷◌, ◌++◌, length, Some}

-- in the block, which that line opened
abbrev pub inside : Declared → List ℕ → ℕ → BlockKind → Declared
inside d name line block =
    record (with_names a_table (name ∷ []) d) { block = Some (record { line = line; kind = block }); begun = true }

-- after so many steps of the table
abbrev pub of_steps : Declared → Table → List OpInst → BlockKind
of_steps d table steps = of_table_steps (record {
  name = length d.names.results;
  parameters = table.params;
  steps = steps;
  goal = [];
  goal_variable_count = 0;
  rows = [];
})

-- after its goal, and so many of its rows
abbrev pub written : Declared → Table → List (List Derivation) → WrittenTable
written d table rows = record {
  name = length d.names.results;
  parameters = table.params;
  steps = table.steps;
  goal = table.goal;
  goal_variable_count = table.goal_variable_count;
  rows = rows;
}

abbrev pub of_rows : Declared → Table → List (List Derivation) → BlockKind
of_rows d table rows = of_table_rows (written d table rows)

-- after its end: the lines before, with the table of these rows last
abbrev pub ended : Declared → List ℕ → Table → List (List Derivation) → Declared
ended d name table rows = record (with_names a_table (name ∷ []) d) {
  saved = d.saved ++ (length d.names.results, table_made (problem_here d) (written d table rows)) ∷ [];
  begun = true;
}
