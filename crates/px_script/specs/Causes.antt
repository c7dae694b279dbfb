-- The causes to refuse a line that follow from its description alone.
use Rattle.std.specs.Prelude.{ℕ, Bool, true, false, List, ◌∷◌, length, Option, None, Some, not, ◌||◌, ◌&&◌, ◌==◌, nat_lt, slice_index}
use Rattle.std.specs.Fmt.{decimal}
use Rattle.std.specs.List.{list_any, flat_map, filter, range_with_len}
use Rattle.std.specs.Str.{bytes_eq}
use Rattle.px_script.specs.Common.{has_name, Thing}
use Rattle.px_world.specs.declared.thing.Thing.TheVariants as thing
use Rattle.px_script.specs.Items.{Named, Argument, named, open_variable, anything, a_parameter, a_room, a_door, a_box, a_plan, a_table, is_variable, has_parameter, wanted_in, is_empty}
use Rattle.px_script.specs.Statements.{Line, Place, Block, Manner, first, opens, inside, closes, command, operator_block, building_block, table_steps, table_rows, patterns, literals, goals, table_terms, table_goals}
use Rattle.px_script.specs.Limits.{greatest, name_bytes, variables}
use Rattle.px_script.specs.Declarations.{Declared, has_building, block_here, names_here, declared_by, excludes_building, parameters_here, table_parameters_here, number_in}
use Rattle.px_script.specs.Forms.{line_atoms, arguments_of}

-- the six cases of a line that is out of order

abbrev pub is_command : Place → Bool
is_command command = true
is_command _ = false

abbrev pub declares_after_command : Declared → Place → Bool
declares_after_command d place = not (is_command place) && not (is_empty d.commands)

-- Alike: `is_signed` of Forms. Both are tables of cases, of other things.
abbrev pub same_block : Block → Block → Bool
same_block operator_block operator_block = true
same_block building_block building_block = true
same_block table_steps table_steps = true
same_block table_rows table_rows = true
same_block _ _ = false

-- the line may stand where this block is open, or no block
abbrev pub may_stand : Option Block → Place → Bool
may_stand None (inside block) = false
may_stand None closes = false
may_stand None _ = true
may_stand (Some here) (inside block) = same_block here block
may_stand (Some here) closes = true
may_stand (Some here) _ = false

abbrev pub is_late : Declared → Place → Bool
is_late d first = d.begun
is_late d _ = false

-- a building and a line that it excludes
abbrev pub has_two_domains : Declared → Place → Bool
has_two_domains d (opens building_block) = d.own_domain
has_two_domains d place = excludes_building place && has_building d

abbrev pub varies : Line → Bool
varies l = list_any is_variable (arguments_of l) || list_any has_parameter l.items

abbrev pub varies_too_early : Declared → Line → Bool
varies_too_early d l = varies l && is_empty d.names.objects

abbrev pub is_robot : Thing → Bool
is_robot (thing.Robot r) = true
is_robot _ = false

abbrev pub has_robot : Declared → Bool
has_robot d = elim d.things [ None ↦ false | Some things ↦ list_any is_robot things ]

-- `end` of a building without a robot
abbrev pub lacks_robot : Declared → Option Block → Place → Bool
lacks_robot d (Some building_block) closes = not (has_robot d)
lacks_robot d _ _ = false

abbrev pub is_out_of_order : Declared → Line → Bool
is_out_of_order d l = declares_after_command d l.place
    || not (may_stand (block_here d) l.place)
    || is_late d l.place
    || has_two_domains d l.place
    || varies_too_early d l
    || lacks_robot d (block_here d) l.place

abbrev pub is_known_argument : Declared → Argument → Bool
is_known_argument d (named n) = has_name n d.names.objects || has_name n (parameters_here d)
is_known_argument d _ = true

-- the names outside atoms that have to be declared before, with their kinds
abbrev pub wanted_by : Line → List (Named × List ℕ)
wanted_by l = flat_map wanted_in l.items

-- names that no earlier line declared, in the kind of their place
abbrev pub has_unknown_name : Declared → Line → Bool
has_unknown_name d l = list_any (λ x. not (has_name x.atom.predicate d.names.predicates)) (line_atoms l)
    || list_any (λ a. not (is_known_argument d a)) (arguments_of l)
    || list_any (λ w. not (has_name w.1 (names_here d w.0))) (wanted_by l)

-- the names that a new name of a kind may not be
abbrev pub taken_here : Declared → Named → List (List ℕ)
taken_here d a_parameter = d.names.objects
taken_here d a_room = d.names.objects
taken_here d a_door = d.names.objects
taken_here d a_box = d.names.objects
taken_here d a_plan = d.names.results
taken_here d a_table = d.names.results
taken_here d kind = names_here d kind

-- the name stands more than once in the list
abbrev pub stands_twice : List (List ℕ) → List ℕ → Bool
stands_twice ns n = nat_lt 1 (length (filter (bytes_eq n) ns))

-- some name of the list is one of the others, or stands more than once in the list
abbrev pub repeats : List (List ℕ) → List (List ℕ) → Bool
repeats others ns = list_any (λ n. has_name n others || stands_twice ns n) ns

-- Names that are declared twice. No line declares names of two kinds of which one may not be like the other.
abbrev pub repeats_name : Declared → Line → Bool
repeats_name d l = list_any (λ group. repeats (taken_here d group.0) group.1) (declared_by l)

-- arities
abbrev pub has_wrong_arity : Declared → Line → Bool
has_wrong_arity d l =
    list_any (λ x. not (length x.atom.arguments == slice_index d.arities (number_in x.atom.predicate d.names.predicates))) (line_atoms l)

-- the letter directly followed by a number from 1 to this, without a leading zero
abbrev pub is_numbered_by : ℕ → ℕ → List ℕ → Bool
is_numbered_by letter most v = list_any (λ k. bytes_eq v (letter ∷ decimal k)) (range_with_len 1 most)

-- ?pK, where K is from 1 to the number of parameters of the table whose block is open
abbrev pub is_table_parameter : Declared → List ℕ → Bool
is_table_parameter d v = is_numbered_by 112 (table_parameters_here d.block) v

-- ?gK, where K is from 1 to the number of variables that a goal may have
abbrev pub is_goal_variable : Declared → List ℕ → Bool
is_goal_variable d v = is_numbered_by 103 (greatest d.version variables) v

-- variables and wild cards: whether an argument may stand in a line
abbrev pub takes : Declared → Manner → Argument → Bool
takes d _ (named n) = true
takes d literals (open_variable v) = true
takes d goals (open_variable v) = true
takes d patterns anything = true
takes d table_terms (open_variable v) = is_table_parameter d v
takes d table_goals (open_variable v) = is_table_parameter d v || is_goal_variable d v
takes d _ _ = false

abbrev pub is_unbound : Declared → Line → Bool
is_unbound d l = list_any (λ a. not (takes d l.manner a)) (arguments_of l)

-- names of parameters may have any length: they have no number in a kind of their own
abbrev pub is_numbered : Named → Bool
is_numbered a_parameter = false
is_numbered _ = true

abbrev pub is_long : ℕ → List ℕ → Bool
is_long version n = nat_lt (greatest version name_bytes) (length n)

abbrev pub has_long_name : Declared → Line → Bool
has_long_name d l = list_any (λ group. is_numbered group.0 && list_any (is_long d.version) group.1) (declared_by l)
