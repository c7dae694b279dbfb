-- The texts of the program that answer no command: how it is called, where a script is refused, and whether a certificate is right.
use Rattle.std.specs.Prelude.{ℕ, List, [], ◌∷◌, codes}
use Rattle.std.specs.Fmt.{decimal}
use Rattle.px_printer.specs.Texts.{text_line}

-- how the program is called
abbrev pub usage_text : List ℕ
usage_text = text_line (codes "usage: planex run | planex demo ROOMS SEED | planex check" ∷ [])

-- a script is refused at this line, for the fault of this code; where it passes a limit, with the limit's number, and else
-- with 0
abbrev pub refused_text : (place code limit : ℕ) → List ℕ
refused_text place code limit =
    text_line (codes "refused" ∷ codes "line" ∷ decimal place ∷ codes "code" ∷ decimal code ∷ codes "limit" ∷ decimal limit ∷ [])

-- a certificate's table, of these numbers of parameters and steps, is one
abbrev pub yes_text : (params steps : ℕ) → List ℕ
yes_text params steps = text_line (codes "yes" ∷ decimal params ∷ codes "parameters" ∷ decimal steps ∷ codes "steps" ∷ [])

-- it is none
abbrev pub no_text : List ℕ
no_text = text_line (codes "no" ∷ [])
