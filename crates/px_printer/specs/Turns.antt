-- The texts of the turns of a run.
use Rattle.std.specs.Prelude.{◌+◌, ℕ, List, [], ◌∷◌, ◌++◌, Option, Some, None, codes}
use Rattle.std.specs.Fmt.{decimal}
use Rattle.px_names.specs.Lists.{NameLists}
use Rattle.px_terms.specs.declared.instance.OpInst.{OpInst}
use Rattle.px_printer.specs.Texts.{IsNamedInstance, indented_line, instance_text}
use Rattle.px_printer.specs.declared.spelling.Spelling.TheVariants.{InRows}
use Rattle.px_printer.specs.declared.turn.Turn.{Turn}
use Rattle.px_printer.specs.declared.turn.TurnEnd.{TurnEnd}
use Rattle.px_printer.specs.declared.turn.TurnEnd.TheVariants.{Acted, Slipped, Goal, NoKernel}

-- the numbers of the step, if there is one, have their names
abbrev pub IsNamedStep : NameLists → Option OpInst → Type 0
IsNamedStep names None = Unit {0}
IsNamedStep names (Some inst) = IsNamedInstance names inst

abbrev pub IsNamedTurn : NameLists → Turn → Type 0
IsNamedTurn names turn = IsNamedStep names turn.op

-- the step, if there is one
abbrev pub step_words : NameLists → Option OpInst → List (List ℕ)
step_words names None = []
step_words names (Some inst) = instance_text names (InRows 0) inst ∷ []

abbrev pub end_words : NameLists → ℕ → Option OpInst → TurnEnd → List (List ℕ)
end_words names kernel op Acted = codes "kernel" ∷ decimal kernel ∷ (step_words names op ++ codes "acted" ∷ [])
end_words names kernel op Slipped = codes "kernel" ∷ decimal kernel ∷ (step_words names op ++ codes "slipped" ∷ [])
end_words names kernel op Goal = codes "kernel" ∷ decimal kernel ∷ codes "goal" ∷ []
end_words names kernel op NoKernel = codes "nokernel" ∷ []

-- the turn of that number
abbrev pub turn_line : NameLists → ℕ → Turn → List ℕ
turn_line names number turn = indented_line (codes "turn" ∷ decimal number ∷ end_words names turn.kernel turn.op turn.end)

-- the turns, where the first has that number
abbrev pub turn_lines : NameLists → ℕ → List Turn → List ℕ
turn_lines names number [] = []
turn_lines names number (turn ∷ turns) = turn_line names number turn ++ turn_lines names (number + 1) turns
