-- The texts of the rows of a table.
use Rattle.std.specs.Prelude.{◌+◌, ◌==◌, ℕ, List, [], ◌∷◌, ◌++◌, All, codes, filter, length, map}
use Rattle.std.specs.Fmt.{decimal}
use Rattle.std.specs.List.{flat_map}
use Rattle.px_names.specs.Lists.{NameLists}
use Rattle.px_table.specs.declared.mark.Mark.{Mark}
use Rattle.px_table.specs.declared.table.Table.{Table}
use Rattle.px_terms.specs.declared.atom.Atom.{Atom}
use Rattle.px_terms.specs.declared.instance.OpInst.{OpInst}
use Rattle.px_printer.specs.declared.spelling.Spelling.TheVariants.{InRows}
use Rattle.px_printer.specs.Texts.{IsNamedAtom, IsNamedInstance, after_spaces, atom_text, indented_line, instance_text, text_line}

-- each number that the table's rows print as a name has one
pub record IsNamedTable (names : NameLists) (table : Table) : Type 0 where
  pub steps : All (IsNamedInstance names) table.steps
  pub goal : All (IsNamedAtom names) table.goal
  pub marks : All (λ (mark : Mark). IsNamedAtom names mark.atom) table.marks

-- a mark is its column and its atom
abbrev pub mark_line : NameLists → ℕ → Mark → List ℕ
mark_line names params mark = indented_line (decimal mark.column ∷ atom_text names (InRows params) mark.atom ∷ [])

-- the marks of the row of that number, in order
abbrev pub mark_lines : NameLists → ℕ → List Mark → ℕ → List ℕ
mark_lines names params marks row = flat_map (mark_line names params) (filter (λ (mark : Mark). mark.row == row) marks)

-- the rows of steps, where the first has that number: each its step, then its marks
abbrev pub step_rows : NameLists → ℕ → List Mark → ℕ → List OpInst → List ℕ
step_rows names params marks row [] = []
step_rows names params marks row (step ∷ steps) =
    text_line (codes "row" ∷ decimal row ∷ instance_text names (InRows params) step ∷ [])
    ++ (mark_lines names params marks row ++ step_rows names params marks (row + 1) steps)

-- the line of the last row: the goal's atoms, each after a space
abbrev pub goal_line : NameLists → ℕ → ℕ → List Atom → List ℕ
goal_line names params row goal =
    codes "row " ++ (decimal row ++ (codes " goal" ++ (after_spaces (map (atom_text names (InRows params)) goal) ++ codes "\n")))

-- the last row: the goal, then its marks
abbrev pub goal_row : NameLists → Table → List ℕ
goal_row names table = goal_line names table.params (length table.steps + 1) table.goal
    ++ mark_lines names table.params table.marks (length table.steps + 1)

abbrev pub row_lines : NameLists → Table → List ℕ
row_lines names table = step_rows names table.params table.marks 1 table.steps ++ goal_row names table
