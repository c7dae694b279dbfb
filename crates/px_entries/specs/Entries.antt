-- What may stand on the stack of a search: what an entry needs, does and adds. An entry is an
-- operator instance (Fikes and Nilsson 1971), or a MACROP: the first steps of a learned table, with objects for the table's
-- parameters (Fikes, Hart and Nilsson 1972).
use Rattle.std.specs.Prelude.{◌≡◌, ◌==◌, ◌&&◌, ◌-◌, not, ℕ, Some, List, [], ◌∷◌, length, map, filter, take, slice_get, unwrap_or}
use Rattle.std.specs.List.{list_any, range_with_len}
use Rattle.px_terms.specs.declared.atom.Atom.{Atom}
use Rattle.px_terms.specs.declared.instance.OpInst.{OpInst}
use Rattle.px_terms.specs.declared.problem.Problem.{Problem}
use Rattle.px_terms.specs.Operators.{precondition, deletes}
use Rattle.px_terms.specs.Sorts.{IsWellSortedInstance}
use Rattle.px_table.specs.declared.entry.Entry.{Entry}
use Rattle.px_table.specs.declared.entry.Entry.TheVariants.{Op, Macro}
use Rattle.px_table.specs.declared.mark.Mark.{Mark}
use Rattle.px_table.specs.declared.table.Table.{Table}
use Rattle.px_table.specs.Kernels.{atom_under, steps_under}
use Rattle.px_table.specs.Prefixes.{IsMacro}
use Rattle.px_table.specs.Tables.{empty_table}
use Rattle.px_gaps.specs.declared.question.Obligation.{Obligation}

-- ---- what an entry does

-- the learned table of that number, counted from 0; past the last one a table without steps
abbrev pub table_at : List Table → ℕ → Table
table_at tables number = unwrap_or (slice_get tables number) empty_table

-- the steps that applying the entry takes: the instance alone, or the table's first steps with the objects for its parameters
abbrev pub effect_of : List Table → Entry → List OpInst
effect_of tables (Op inst) = inst ∷ []
effect_of tables (Macro number prefix sigma) = take prefix (steps_under (table_at tables number) sigma)

-- ---- what an entry needs

-- the atoms of the marks of a row that come from the initial model, with the objects for the parameters
abbrev pub initial_atoms : Table → List ℕ → ℕ → List Atom
initial_atoms table sigma row = map (λ (mark : Mark). atom_under sigma mark.atom)
    (filter (λ (mark : Mark). (mark.row == row) && (mark.column == 0)) table.marks)

-- what some steps leave of a model, without what they add: the atoms that none of them deletes
abbrev pub left_after : Problem → List OpInst → List Atom → List Atom
left_after problem steps model = filter (λ atom. not (list_any (λ step. deletes problem step atom) steps)) model

-- for each of the steps, counted from 1: the atoms of its row, from what the steps before it leave of the model
abbrev pub row_needs : Problem → Table → List ℕ → List Atom → List OpInst → List Obligation
row_needs problem table sigma model steps =
    map (λ row. record { formula = initial_atoms table sigma row; variable_count = 0; facts = left_after problem (take (row - 1) steps) model })
    (range_with_len 1 (length steps))

-- what the entry needs: an operator its precondition, proved from the model; a MACROP for each of its steps the row's atoms, proved
-- from what is left of the model
abbrev pub obligations_of : Problem → List Table → List Atom → Entry → List Obligation
obligations_of problem tables model (Op inst) = record { formula = precondition problem inst; variable_count = 0; facts = model } ∷ []
obligations_of problem tables model (Macro number prefix sigma) =
    row_needs problem (table_at tables number) sigma model (effect_of tables (Macro number prefix sigma))

-- ---- which entries there are

-- an instance of one of the problem's operators over its objects, each of which fits its parameter, or a MACROP of one of the tables
abbrev pub IsEntry : Problem → List Table → Entry → Type 0
IsEntry problem tables (Op inst) = IsWellSortedInstance problem inst
IsEntry problem tables (Macro number prefix sigma) = (table : Table) × (slice_get tables number ≡ Some table)
    × IsMacro problem table prefix sigma
