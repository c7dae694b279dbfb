-- Which lines are refused, and why: the causes of all lines, in their order.
use Rattle.std.specs.Prelude.{◌≡◌, ◌⊎◌, ℕ, ◌+◌, Bool, false, List, [], ◌∷◌, ◌++◌, map, length, Option, None, Some, is_some, if◌then◌else◌, ◌||◌, ◌==◌, nat_lt, not, slice_index, max, fold, take, drop, true}
use Rattle.std.specs.List.{list_any, filter, flat_map}
use Rattle.std.specs.Str.{bytes_eq}
use Rattle.px_script.specs.Common.{Schema, atom_set, Problem}
use Rattle.px_script.specs.Items.{SignedAtom, Binding, Part, a_fact, an_ancestor, an_axiom}
use Rattle.px_script.specs.Statements.{Statement, line_of, script, object, predicate, «axiom», operator, pre, delete, add, building, room, door, box, robot, end, fact, height, nodes, shapes, weight, plan, learn, ask, disturb_atoms, disturb_rooms, run, facts, sort, param, duo, edit, pursue, tree, table, step, goal, proof}
use Rattle.px_script.specs.Limits as limit
use Rattle.px_script.specs.Limits.{Limit, Bounds, greatest, number_of, number_of_numbers, of_version, of_height, of_nodes, of_shapes, of_weight, of_turn, of_tree, of_executor, last_number}
use Rattle.px_script.specs.Declarations.{Declared, OpenOperator, operator_here, has_building, number_in, variable_names_of, atom_of, BlockKind, of_table_steps, of_table_rows, table_here, OpenBlock, problem_here}
use Rattle.px_table.specs.Deciding.{rows_are_table}
use Rattle.px_table.specs.WellSorted.{sorts_by_places}
use Rattle.px_script.specs.Stages.{Stage, whole_language, is_unbuilt}
use Rattle.px_script.specs.Causes.{is_out_of_order, has_unknown_name, repeats_name, has_wrong_arity, is_unbound, has_long_name, has_robot, repeats}

pub record Refusal : Type 0 where
  pub code : ℕ
  pub limit : ℕ

-- some parameter is bound more than once
abbrev pub binds_twice : List Binding → Bool
binds_twice bs = list_any (λ b. nat_lt 1 (length (filter (λ other. other.parameter == b.parameter) bs))) bs

-- the parameter of the open operator has a sort
abbrev pub has_sort : Option OpenOperator → List ℕ → Bool
has_sort None p = false
has_sort (Some o) p = not (slice_index o.schema.param_sorts (number_in p o.parameters) == 0)

-- a parameter that has a sort, or stands more than once
abbrev pub sorts_twice : Declared → List (List ℕ) → Bool
sorts_twice d ps = list_any (has_sort (operator_here d.block)) ps || repeats [] ps

-- the duplicates of single words
abbrev pub repeats_itself : Declared → Statement → Bool
repeats_itself d building = has_building d
repeats_itself d (door n one other is_open) = bytes_eq one other
repeats_itself d (robot r) = has_robot d
repeats_itself d (height limit) = is_some d.height
repeats_itself d (nodes limit) = is_some d.nodes
repeats_itself d (shapes limit) = is_some d.shapes
repeats_itself d (weight limit) = is_some d.weight
repeats_itself d (run n bs) = binds_twice bs
repeats_itself d (param n ps) = sorts_twice d ps
repeats_itself d _ = false

abbrev pub has_duplicate : Declared → Statement → Bool
has_duplicate d s = repeats_name d (line_of s) || repeats_itself d s

-- the atoms that a list of the open operator has with the line
abbrev pub grown : Option OpenOperator → (Schema → ℕ) → List SignedAtom → ℕ
grown None count xs = 0
grown (Some o) count xs = count o.schema + length xs

-- whether the count is above the limit, and the limit's number
abbrev pub over : Declared → Limit → ℕ → Bool × ℕ
over d limit n = (nat_lt (greatest d.version limit) n, number_of limit)

abbrev pub outside : Bounds → ℕ → Bool × ℕ
outside bounds n = (nat_lt n bounds.least || nat_lt bounds.most n, number_of_numbers)

-- some number is outside the bounds
abbrev pub any_outside : Bounds → List ℕ → Bool × ℕ
any_outside bounds ns = (list_any (λ n. (outside bounds n).0) ns, number_of_numbers)

-- some of the numbers is greater than one of a table's block or of an edit may be
abbrev pub has_great_number : List ℕ → Bool × ℕ
has_great_number ns = (list_any (nat_lt last_number) ns, number_of_numbers)

-- the steps of the table whose block is open
abbrev pub steps_here : Option OpenBlock → ℕ
steps_here block = elim (table_here block) [ None ↦ 0 | Some t ↦ length t.steps ]

abbrev pub numbers_of_part : Part → List ℕ
numbers_of_part (a_fact column index x) = column ∷ index ∷ []
numbers_of_part (an_ancestor k) = k ∷ []
numbers_of_part (an_axiom k place count ts) = k ∷ place ∷ count ∷ []

abbrev pub highest : List ℕ → ℕ
highest heights = fold max 0 heights

-- the heights of the proofs that parts are: a step is one higher than the highest of the proofs that it takes
abbrev pub heights_of : List Part → List ℕ
heights_of [] = []
heights_of (an_axiom k place count ts ∷ more) = let after = heights_of more in
    (1 + highest (take count after)) ∷ drop count after
heights_of (part ∷ more) = 1 ∷ heights_of more

abbrev pub one_more_object : Declared → Bool × ℕ
one_more_object d = over d limit.objects (length d.names.objects + 1)

abbrev pub one_more_command : Declared → Bool × ℕ
one_more_command d = over d limit.commands (length d.commands + 1)

abbrev pub disturbance_limits : Declared → ℕ → ℕ → List (Bool × ℕ)
disturbance_limits d turn edits =
    one_more_command d ∷ over d limit.disturbs (d.disturbs + 1) ∷ over d limit.edits edits ∷ outside of_turn turn ∷ []

-- the limits that a line may pass but for that of long names, in the order of their numbers, and whether it passes them
abbrev pub own_limits : Declared → Statement → List (Bool × ℕ)
own_limits d (script version) = outside of_version version ∷ []
own_limits d (object ns) = over d limit.objects (length d.names.objects + length ns) ∷ []
own_limits d (predicate p arity) = over d limit.predicates (length d.names.predicates + 1) ∷ over d limit.arity arity ∷ []
own_limits d («axiom» xs) =
    over d limit.axioms (length d.axioms + 1) ∷ over d limit.literals (length xs) ∷ over d limit.variables (length (variable_names_of xs))
    ∷ []
own_limits d (operator o ps) = over d limit.operators (length d.names.operators + 1) ∷ over d limit.parameters (length ps) ∷ []
own_limits d (pre xs) = over d limit.operator_atoms (grown (operator_here d.block) (λ schema. length schema.pre) xs) ∷ []
own_limits d (delete xs) = over d limit.operator_atoms (grown (operator_here d.block) (λ schema. length schema.del) xs) ∷ []
own_limits d (add xs) = over d limit.operator_atoms (grown (operator_here d.block) (λ schema. length schema.add) xs) ∷ []
own_limits d (room r) = one_more_object d ∷ []
own_limits d (door n one other is_open) = one_more_object d ∷ []
own_limits d (box b r) = one_more_object d ∷ []
own_limits d (fact xs) = over d limit.facts (length (atom_set (map (atom_of d []) xs ++ d.facts))) ∷ []
own_limits d (height n) = outside of_height n ∷ []
own_limits d (nodes n) = outside (of_nodes d.version) n ∷ []
own_limits d (shapes n) = outside of_shapes n ∷ []
own_limits d (weight n) = outside (of_weight d.version) n ∷ []
own_limits d (plan n xs) =
    over d limit.variables (length (variable_names_of xs)) ∷ over d limit.goal_atoms (length xs) ∷ one_more_command d ∷ []
own_limits d (learn n source) = one_more_command d ∷ []
own_limits d (ask about n) = one_more_command d ∷ []
own_limits d (disturb_atoms turn between xs) = disturbance_limits d turn (length xs)
own_limits d (disturb_rooms turn between es) = disturbance_limits d turn (length es)
own_limits d (run n bs) = one_more_command d ∷ []
own_limits d (duo one other ns) = one_more_command d ∷ any_outside of_executor ns ∷ over d limit.events (length ns) ∷ []
own_limits d facts = one_more_command d ∷ []
own_limits d (sort n ns) = over d limit.objects (length d.names.objects + length ns) ∷ over d limit.sorts (length d.sorts + 1) ∷ []
own_limits d (param n ps) = []
own_limits d (table n parameters) = has_great_number (parameters ∷ []) ∷ over d limit.tables (length d.saved + 1) ∷ []
own_limits d (step o ts) = over d limit.table_steps (steps_here d.block + 1) ∷ []
own_limits d (goal xs) = over d limit.goal_atoms (length xs) ∷ []
own_limits d (proof parts) = has_great_number (flat_map numbers_of_part parts) ∷ over d limit.proof_height (highest (heights_of parts)) ∷ []
own_limits d (edit n source prefix ps) = one_more_command d ∷ has_great_number (prefix ∷ flat_map (λ p. p.0 ∷ p.1 ∷ []) ps)
    ∷ over d limit.pairs (length ps) ∷ []
own_limits d (pursue n xs) =
    over d limit.variables (length (variable_names_of xs)) ∷ over d limit.goal_atoms (length xs) ∷ one_more_command d ∷ []
own_limits d (tree n most xs) = over d limit.variables (length (variable_names_of xs)) ∷ over d limit.goal_atoms (length xs)
    ∷ one_more_command d ∷ outside of_tree most ∷ []
own_limits d building = []
own_limits d (robot r) = []
own_limits d end = []

abbrev pub limits : Declared → Statement → List (Bool × ℕ)
limits d s = (has_long_name d (line_of s), number_of limit.name_bytes) ∷ own_limits d s

abbrev pub coded : ℕ → Refusal
coded code = record { code = code; limit = 0 }

abbrev pub passed : Bool × ℕ → Bool × Refusal
passed test = (test.0, record { code = 8; limit = test.1 })

-- ---- a table's block that is no table's

-- The block is a table's, and has no goal, or its parts make no table of the problem with the sorts that their places have.
abbrev pub is_bad_block : Problem → BlockKind → Bool
is_bad_block problem (of_table_steps t) = true
is_bad_block problem (of_table_rows t) =
    not (rows_are_table problem t.parameters (sorts_by_places problem t.steps t.parameters) t.steps t.goal t.goal_variable_count t.rows)
is_bad_block problem kind = false

-- the line closes such a block
abbrev pub is_bad_table : Declared → Statement → Bool
is_bad_table d end = elim d.block [ None ↦ false | Some block ↦ is_bad_block (problem_here d) block.kind ]
is_bad_table d _ = false

-- the causes to refuse a line for what it says, in their order, and whether they are there, where this much is built; then these limits
abbrev pub causes_with : Stage → Declared → Statement → List (Bool × ℕ) → List (Bool × Refusal)
causes_with stage d s last = let l = line_of s in
    (is_out_of_order d l, coded 9) ∷ (is_unbuilt stage s, coded 11) ∷ (has_unknown_name d l, coded 4)
    ∷ (has_duplicate d s, coded 5) ∷ (has_wrong_arity d l, coded 6) ∷ (is_unbound d l, coded 7) ∷ map passed last

abbrev pub causes : Stage → Declared → Statement → List (Bool × Refusal)
causes stage d s = causes_with stage d s (limits d s) ++ (is_bad_table d s, coded 12) ∷ []

-- the first cause that is there
abbrev pub first_of : List (Bool × Refusal) → Option Refusal
first_of [] = None
first_of (cause ∷ more) = if cause.0 then Some cause.1 else first_of more

-- the first fault of what a line says, where this much is built
abbrev pub fault_at : Stage → Declared → Statement → Option Refusal
fault_at stage d s = first_of (causes stage d s)

-- A stage only takes away: where this much is built a line has the fault that it has in the whole language, or isn't built.
abbrev pub OnlyTakesAway : Stage → Declared → Statement → Type 0
OnlyTakesAway stage d s = (fault_at stage d s ≡ fault_at whole_language d s) ⊎ (fault_at stage d s ≡ Some (coded 11))
