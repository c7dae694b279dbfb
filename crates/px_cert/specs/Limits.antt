-- The greatest numbers that stand in a certificate. Those of atoms, axioms and steps are the limits of problems and of tables.
use Rattle.std.specs.Prelude.{ℕ, ◌+◌}
use Rattle.px_terms.specs.Limits.{most_formula_variables}

-- the most objects, predicates, operators, and the greatest sort
abbrev pub most_objects : ℕ
most_objects = 1024

abbrev pub most_predicates : ℕ
most_predicates = 64

abbrev pub most_operators : ℕ
most_operators = 32

abbrev pub greatest_sort : ℕ
greatest_sort = 32

-- the most atoms of a list of an operator and of a goal, and the most proofs of a row
abbrev pub most_atoms : ℕ
most_atoms = 16

-- the most parameters of a table
abbrev pub most_table_parameters : ℕ
most_table_parameters = 9999

-- the greatest column, index, ancestor and place of a proof
abbrev pub most_places : ℕ
most_places = 9999

-- how many variables a step, a goal and a proof may name: the parameters of a table, and those of a goal
abbrev pub table_variables : ℕ
table_variables = most_table_parameters + most_formula_variables

-- the greatest height of a proof
abbrev pub greatest_written_height : ℕ
greatest_written_height = 56

-- the least limits that a valid problem has: a certificate asks for no search
abbrev pub least_height : ℕ
least_height = 1

abbrev pub least_nodes : ℕ
least_nodes = 1

abbrev pub least_shapes : ℕ
least_shapes = 2
