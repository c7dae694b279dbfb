-- What the definitions see of rows and lines.
use Rattle.std.specs.Prelude.{◌≡◌, Bool, List, IfSome, codes, length, map, not}
use Rattle.std.specs.List.{filter}
use Rattle.std.specs.Str.{bytes_eq}
use Rattle.px_script.specs.Declarations.{Declared}
use Rattle.px_script.specs.Forms.{Forms}
use Rattle.px_script.specs.Lexemes.{Lexeme}
use Rattle.px_script.specs.Statements as lines
use Rattle.px_script.specs.Rows as rows
use Rattle.px_lines.specs.ItemViews.{said_items}
use Rattle.px_lines.specs.declared.rows.Row.{Row}
use Rattle.px_lines.specs.declared.reading.Line.{Line}

abbrev pub row_view : Row → rows.Row
row_view r = record (rows.row r.word.now r.place r.manner r.ones.now r.last) { since = r.since }

-- the rows of all words but that of a disturbance, whose row isn't the same in all scripts
abbrev pub other_rows : Bool → List rows.Row
other_rows with_building = filter (λ r. not (bytes_eq r.word (codes "disturb"))) (map (λ e. e.row) (rows.entries with_building))

abbrev pub line_view : Line → lines.Line
line_view l = rows.filled (row_view l.row) (said_items l.ones.items l.last)

-- the line has as many things of one token each as the row of its word
abbrev pub IsShaped : Bool → Line → Type 0
IsShaped with_building l = IfSome (rows.row_of with_building l.row.word.now) (λ r. length l.ones.items ≡ length r.ones)

-- the line is that of a statement that the lexemes are, after the lines so far
abbrev pub IsStatementLine : Declared → List Lexeme → Line → Type 0
IsStatementLine d lexemes l = (s : lines.Statement) × Forms d lexemes s × (line_view l ≡ lines.line_of s)
