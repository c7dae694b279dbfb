-- The text of how a pursuit ends.
use Rattle.std.specs.Prelude.{ℕ, List, [], ◌∷◌, codes, length}
use Rattle.std.specs.Fmt.{decimal}
use Rattle.px_printer.specs.Texts.{indented_line}
use Rattle.px_printer.specs.declared.pursue_end.PursueEnd.{PursueEnd}
use Rattle.px_printer.specs.declared.pursue_end.PursueEnd.TheVariants.{Goal, Exhausted, NodeLimit, ShapeLimit}

-- the last turn tells of the goal; for any other end there is a line on the last search
abbrev pub pursue_end_text : PursueEnd → List ℕ
pursue_end_text Goal = []
pursue_end_text Exhausted = indented_line (codes "exhausted" ∷ [])
pursue_end_text (NodeLimit nodes moves) =
    indented_line (codes "nodelimit" ∷ decimal (length nodes) ∷ codes "nodes" ∷ decimal moves ∷ codes "moves" ∷ [])
pursue_end_text (ShapeLimit node limit) = indented_line (codes "shapelimit" ∷ decimal (length limit.shapes) ∷ codes "shapes" ∷ [])
