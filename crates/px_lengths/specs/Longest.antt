-- How long texts are at most, by kind. None of these bounds is the least one.
use Rattle.std.specs.Prelude.{◌+◌, ◌*◌, ℕ, List, [], ◌∷◌, length, map, flat_map, slice_index}
use Rattle.std.proofs.Common.{zero, suc}
use Rattle.std.specs.List.{range_with_len}
use Rattle.px_base.specs.Bounds.{u32_max}
use Rattle.px_terms.specs.declared.atom.Atom.{Atom}
use Rattle.px_terms.specs.declared.problem.Problem.{Problem}
use Rattle.px_terms.specs.declared.term.Term.{Term}
use Rattle.px_terms.specs.declared.term.Term.TheVariants.{Obj}
use Rattle.px_terms.specs.Limits.{most_literals}
use Rattle.px_table.specs.Limits.{most_steps}
use Rattle.px_cert.specs.Limits.{greatest_written_height, most_atoms, most_table_parameters}
use Rattle.px_script.specs.Content.{ScriptValue}
use Rattle.px_script.specs.declared.limits.Limit.TheVariants.{Events as events}
use Rattle.px_script.specs.declared.limits.TheConstants.{MOST_TREE_NODES as most_tree_nodes}
use Rattle.px_script.specs.Limits.{greatest}

-- ---- pieces

-- the most digits with which a number is written, the most bytes of a name, and those of a term: a name, or `?p` or `?g` with a number
abbrev pub longest_number : ℕ
longest_number = 64

abbrev pub longest_name : ℕ
longest_name = 64

abbrev pub longest_term : ℕ
longest_term = 66

-- a line that has no more than one atom or step, and an item of any other line: an atom, a step, or what a proof says at one place
abbrev pub longest_piece : ℕ
longest_piece = 1024

-- ---- how many facts, marks and places of proofs there are

-- all lists of so many of these terms
abbrev pub lists_of : ℕ → List Term → List (List Term)
lists_of zero terms = [] ∷ []
lists_of (suc count) terms = flat_map (λ (rest : List Term). map (λ (term : Term). term ∷ rest) terms) (lists_of count terms)

-- the atom of that predicate with these arguments
abbrev pub atom_with : ℕ → List Term → Atom
atom_with pred args = record { pred = pred; args = args }

abbrev pub objects_of : Problem → List Term
objects_of problem = map Obj (range_with_len 0 problem.objects)

-- all atoms of the problem without variables, predicate by predicate
abbrev pub ground_atoms : Problem → List Atom
ground_atoms problem =
    flat_map (λ (pred : ℕ). map (atom_with pred) (lists_of (slice_index problem.arities pred) (objects_of problem)))
    (range_with_len 0 (length problem.arities))

-- as many atoms can be true
unfoldable pub most_facts : Problem → ℕ
most_facts problem = length (ground_atoms problem)

-- the most places of a proof of that height: where a clause is used, each of its other literals is proved
unfoldable pub most_places : ℕ → ℕ
most_places zero = 0
most_places (suc height) = 1 + most_literals * most_places height

-- the most places of the proofs of a row of a table that may be saved
unfoldable pub most_row_places : ℕ
most_row_places = most_atoms * most_places greatest_written_height

-- the most marks of a table: in each row of a plan's table a fact from each column at each index, and the places of all rows of any other
unfoldable pub most_marks : Problem → ℕ
most_marks problem = u32_max * (most_facts problem * (u32_max * most_atoms)) + (most_steps + 1) * most_row_places

-- ---- replies

-- a plan: a line for each step
unfoldable pub longest_plan : ℕ
longest_plan = u32_max * longest_piece

-- a shown table: a line for each step, each with the marks of its row
unfoldable pub longest_table : Problem → ℕ
longest_table problem = (u32_max + 20) * (longest_piece + most_marks problem * longest_piece)

-- the block of a saved table: its steps, its goal, and its rows
unfoldable pub longest_block : ℕ
longest_block = (100 + (most_steps + 1) * (1 + most_row_places)) * longest_piece

-- a certificate: the lines of the problem, and those of the table
unfoldable pub longest_certificate : Problem → ℕ
longest_certificate problem =
    (200 + length problem.object_sorts + length problem.arities + 8 * length problem.axioms + 64 * length problem.schemas
    + most_table_parameters + (most_steps + 1) * (1 + most_row_places))
    * longest_piece

-- a run with so many recorded disturbances: a line for each turn
unfoldable pub longest_run : ℕ → ℕ
longest_run disturbances = longest_piece + (disturbances + 1) * u32_max * longest_piece

-- a pursuit
unfoldable pub longest_pursuit : ℕ → ℕ
longest_pursuit disturbances = 2 * longest_piece + (2 * disturbances + 1) * u32_max * longest_piece

-- what two executors do: a line for each event
unfoldable pub longest_duo : ℕ
longest_duo = longest_piece + greatest 2 events * longest_piece

-- the world's facts, one on each line
unfoldable pub longest_facts : Problem → ℕ
longest_facts problem = longest_piece + most_facts problem * longest_piece

-- a search tree: the line of a node has the steps of an entry
unfoldable pub longest_tree : ℕ
longest_tree = 2 * longest_piece + most_tree_nodes * ((most_steps + 2) * longest_piece)

-- any reply with so many recorded disturbances
unfoldable pub longest_reply : Problem → ℕ → ℕ
longest_reply problem disturbances =
    longest_plan + longest_table problem + longest_block + longest_certificate problem + longest_run disturbances
    + longest_pursuit disturbances + longest_duo + longest_facts problem + longest_tree

-- ---- what is written in all

-- the replies to a script's commands
unfoldable pub longest_transcript : ScriptValue → ℕ
longest_transcript script = length script.commands * longest_reply script.problem (length script.commands)

-- the line that sums up a demo, and the line of a certificate
abbrev pub longest_summary : ℕ
longest_summary = 512

abbrev pub longest_verdict : ℕ
longest_verdict = 256
