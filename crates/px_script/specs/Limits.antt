-- The words of a version, and the limits of its scripts.
use Rattle.std.specs.Prelude.{ℕ, Bool, List, [], ◌∷◌, ◌++◌, codes, if◌then◌else◌, nat_le}
use Rattle.std.specs.List.{list_any}
use Rattle.std.specs.Str.{bytes_eq}
use Rattle.px_terms.specs.Limits.{most_arguments, most_clauses, most_formula_variables, most_height, most_literals, most_nodes, most_parameters, most_shapes, most_weight}
use Rattle.px_script.specs.declared.limits.TheConstants.{NAME_BYTES, OBJECTS, OBJECTS_OF_TWO, PREDICATES, OPERATORS, OPERATOR_ATOMS, FACTS, FACTS_OF_TWO, GOAL_ATOMS, COMMANDS, COMMANDS_OF_TWO, DISTURBS, EDITS, SORTS, LAST_VERSION, EVENTS, PAIRS, TABLES, TABLE_STEPS, PROOF_HEIGHT, MOST_OLD_NODES, DEFAULT_OLD_NODES, DEFAULT_NODES, DEFAULT_WEIGHT}
-- what a script has limits of; the number of the limit of numbers, those that a script may give; the most nodes of a search tree, the last
-- turn that a disturbance may name, the greatest number of a table's block and of an edit, and how many executors share a world; the height
-- and the shapes of a script whose lines give none
pub use Rattle.px_script.specs.declared.limits.Limit.{Limit}
pub use Rattle.px_script.specs.declared.limits.Limit.TheVariants.{NameBytes as name_bytes, Objects as objects, Predicates as predicates, Arity as arity, Axioms as axioms, Literals as literals, Variables as variables, Operators as operators, Parameters as parameters, OperatorAtoms as operator_atoms, Facts as facts, GoalAtoms as goal_atoms, Commands as commands, Disturbs as disturbs, Edits as edits, Sorts as sorts, Tables as tables, TableSteps as table_steps, ProofHeight as proof_height, Pairs as pairs, Events as events}
pub use Rattle.px_script.specs.declared.limits.TheConstants.{NUMBER_OF_NUMBERS as number_of_numbers, MOST_TREE_NODES as most_tree_nodes, LAST_TURN as last_turn, LAST_NUMBER as last_number, DEFAULT_HEIGHT as default_height, DEFAULT_SHAPES as default_shapes, EXECUTORS as executors}

-- the words that may begin a line in every version
abbrev pub words_of_all : List (List ℕ)
words_of_all =
    codes "script" ∷ codes "object" ∷ codes "predicate" ∷ codes "axiom" ∷ codes "operator" ∷ codes "pre" ∷ codes "delete" ∷ codes "add"
    ∷ codes "building" ∷ codes "room" ∷ codes "door" ∷ codes "box" ∷ codes "robot" ∷ codes "end" ∷ codes "fact"
    ∷ codes "height" ∷ codes "nodes" ∷ codes "shapes"
    ∷ codes "plan" ∷ codes "learn" ∷ codes "show" ∷ codes "disturb" ∷ codes "run" ∷ codes "facts" ∷ []

-- those that version 2 is the first to have
abbrev pub words_of_two : List (List ℕ)
words_of_two = codes "sort" ∷ codes "param" ∷ codes "table" ∷ codes "step" ∷ codes "goal" ∷ codes "proof"
    ∷ codes "save" ∷ codes "certify" ∷ codes "edit" ∷ codes "duo" ∷ codes "pursue" ∷ []

-- those that version 3 is the first to have
abbrev pub words_of_three : List (List ℕ)
words_of_three = codes "weight" ∷ codes "tree" ∷ []

-- every word that may begin a line of a script of a version
abbrev pub words : ℕ → List (List ℕ)
words version =
    words_of_all ++ ((if nat_le 2 version then words_of_two else []) ++ (if nat_le 3 version then words_of_three else []))

abbrev pub is_word : ℕ → List ℕ → Bool
is_word version w = list_any (bytes_eq w) (words version)

abbrev pub number_of : Limit → ℕ
number_of name_bytes = 1
number_of objects = 2
number_of predicates = 3
number_of arity = 4
number_of axioms = 5
number_of literals = 6
number_of variables = 7
number_of operators = 8
number_of parameters = 9
number_of operator_atoms = 10
number_of facts = 11
number_of goal_atoms = 12
number_of commands = 13
number_of disturbs = 14
number_of edits = 15
number_of sorts = 17
number_of tables = 18
number_of table_steps = 19
number_of proof_height = 20
number_of pairs = 21
number_of events = 22

-- the number of a version: of version 1, and of those from 2 on
abbrev pub by_version : ℕ → ℕ → ℕ → ℕ
by_version version one two = if nat_le version 1 then one else two

-- likewise of the versions before 3, and of those from 3 on
abbrev pub from_three : ℕ → ℕ → ℕ → ℕ
from_three version old three = if nat_le version 2 then old else three

-- how many there may be in a script of a version
abbrev pub greatest : ℕ → Limit → ℕ
greatest version name_bytes = NAME_BYTES
greatest version objects = by_version version OBJECTS OBJECTS_OF_TWO
greatest version predicates = PREDICATES
greatest version arity = most_arguments
greatest version axioms = most_clauses
greatest version literals = most_literals
greatest version variables = most_formula_variables
greatest version operators = OPERATORS
greatest version parameters = most_parameters
greatest version operator_atoms = OPERATOR_ATOMS
greatest version facts = by_version version FACTS FACTS_OF_TWO
greatest version goal_atoms = GOAL_ATOMS
greatest version commands = by_version version COMMANDS COMMANDS_OF_TWO
greatest version disturbs = DISTURBS
greatest version edits = EDITS
greatest version sorts = SORTS
greatest version tables = TABLES
greatest version table_steps = TABLE_STEPS
greatest version proof_height = PROOF_HEIGHT
greatest version pairs = PAIRS
greatest version events = EVENTS

pub record Bounds : Type 0 where
  pub least : ℕ
  pub most : ℕ

abbrev bounds : ℕ → ℕ → Bounds
bounds least most = record { least = least; most = most }

abbrev pub of_version : Bounds
of_version = bounds 1 LAST_VERSION

abbrev pub of_height : Bounds
of_height = bounds 1 most_height

-- how many nodes a script of a version may ask for, and how many it asks for where no line says it
abbrev pub most_script_nodes : ℕ → ℕ
most_script_nodes version = from_three version MOST_OLD_NODES most_nodes

abbrev pub default_nodes : ℕ → ℕ
default_nodes version = from_three version DEFAULT_OLD_NODES DEFAULT_NODES

abbrev pub of_nodes : ℕ → Bounds
of_nodes version = bounds 1 (most_script_nodes version)

-- the greatest weight of a search in a script of a version, and the weight where no line says it
abbrev pub most_script_weight : ℕ → ℕ
most_script_weight version = from_three version 0 most_weight

abbrev pub default_weight : ℕ → ℕ
default_weight version = from_three version 0 DEFAULT_WEIGHT

abbrev pub of_weight : ℕ → Bounds
of_weight version = bounds 0 (most_script_weight version)

abbrev pub of_shapes : Bounds
of_shapes = bounds 2 most_shapes

abbrev pub of_tree : Bounds
of_tree = bounds 1 most_tree_nodes

abbrev pub of_turn : Bounds
of_turn = bounds 1 last_turn

-- the numbers of a table's block
abbrev pub of_table : Bounds
of_table = bounds 0 last_number

-- the numbers of the executors that share a world
abbrev pub of_executor : Bounds
of_executor = bounds 1 executors
