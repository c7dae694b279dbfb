-- The variables that the arguments of a line may be, and the variables of a table's goal.
use Rattle.std.specs.Prelude.{◌≡◌, ◌≤◌, ℕ, ◌+◌, true, false, List, ◌++◌, map, length, position, Option, None, Some}
use Rattle.px_names.specs.Lists.{has_name}
use Rattle.std.specs.Str.{bytes_eq}
use Rattle.px_terms.specs.Limits.{most_formula_variables}
use Rattle.px_script.specs.Declarations.{letter_numbers, number_in}
use Rattle.px_script.specs.Items.{Argument, open_variable}
use Rattle.px_script.specs.declared.limits.TheConstants.{LAST_NUMBER as last_number}
use Rattle.px_lines.specs.ItemViews.{text_of}
use Rattle.px_so_far.specs.declared.line_variables.Variables.{Variables}
use Rattle.px_so_far.specs.declared.line_variables.Variables.TheVariants as variables

-- ?g1, ?g2 and so on
abbrev pub goal_names : List (List ℕ)
goal_names = letter_numbers 103 most_formula_variables

-- ?p1, ?p2 and so on, and then the variables of the goal
abbrev pub table_names : ℕ → List (List ℕ)
table_names parameters = letter_numbers 112 parameters ++ goal_names

abbrev pub variables_view : Variables → List (List ℕ)
variables_view (variables.Named names) = map text_of names.now
variables_view (variables.OfTable parameters) = table_names parameters

-- the place of a name among some, counted from 0, if it is one of them
abbrev pub IsPlaceAmong : List (List ℕ) → List ℕ → Option ℕ → Type 0
IsPlaceAmong names v None = has_name v names ≡ false
IsPlaceAmong names v (Some place) = (has_name v names ≡ true) × (place ≡ number_in v names)

-- no number of a variable is great
abbrev pub AreFew : Variables → Type 0
AreFew (variables.Named names) = length names.now ≤ most_formula_variables
AreFew (variables.OfTable parameters) = parameters ≤ last_number

-- the number of a variable of the goal, and 0 for what is none: `goal_number` in every version
abbrev pub goal_number_of : Argument → ℕ
goal_number_of (open_variable v) = elim (position (bytes_eq v) goal_names) [ None ↦ 0 | Some k ↦ k + 1 ]
goal_number_of _ = 0
