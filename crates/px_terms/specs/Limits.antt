-- The limits of atoms, operators, axioms and problems.
use Rattle.std.specs.Prelude.{ℕ}

-- the most arguments of an atom, and the most parameters of an operator
abbrev pub most_arguments : ℕ
most_arguments = 6

abbrev pub most_parameters : ℕ
most_parameters = 8

-- the most axioms, the most literals of one, and the most variables of one or of a goal
abbrev pub most_clauses : ℕ
most_clauses = 64

abbrev pub most_literals : ℕ
most_literals = 6

abbrev pub most_formula_variables : ℕ
most_formula_variables = 12

-- the greatest limits that a problem may have: the height of a proof, the nodes of a search, the shapes of a question, and the weight
abbrev pub most_height : ℕ
most_height = 8

abbrev pub most_nodes : ℕ
most_nodes = 1000000

abbrev pub most_shapes : ℕ
most_shapes = 70000

abbrev pub most_weight : ℕ
most_weight = 1000
