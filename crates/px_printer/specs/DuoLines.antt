-- The texts of what happens to two executors.
use Rattle.std.specs.Prelude.{ℕ, List, [], ◌∷◌, Option, codes}
use Rattle.std.specs.Fmt.{decimal}
use Rattle.px_names.specs.Lists.{NameLists}
use Rattle.px_terms.specs.declared.instance.OpInst.{OpInst}
use Rattle.px_printer.specs.Texts.{indented_line}
use Rattle.px_printer.specs.Turns.{IsNamedStep, step_words}
use Rattle.px_printer.specs.declared.duo_line.DuoEnd.{DuoEnd}
use Rattle.px_printer.specs.declared.duo_line.DuoEnd.TheVariants.{Sensed, Acted, Slipped, Goal, NoKernel}
use Rattle.px_printer.specs.declared.duo_line.DuoLine.{DuoLine}

abbrev pub IsNamedDuoLine : NameLists → DuoLine → Type 0
IsNamedDuoLine names line = IsNamedStep names line.op

abbrev pub duo_words : NameLists → Option OpInst → DuoEnd → List (List ℕ)
duo_words names op (Sensed kernel) = codes "kernel" ∷ decimal kernel ∷ step_words names op
duo_words names op Acted = codes "acted" ∷ []
duo_words names op Slipped = codes "slipped" ∷ []
duo_words names op Goal = codes "goal" ∷ []
duo_words names op NoKernel = codes "nokernel" ∷ []

-- the number of the executor, and what came of what it did
abbrev pub duo_line : NameLists → DuoLine → List ℕ
duo_line names line = indented_line (decimal line.who ∷ duo_words names line.op line.end)
