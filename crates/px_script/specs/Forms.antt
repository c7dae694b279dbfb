-- Which statement the lexemes of a line are.
use Rattle.std.specs.Prelude.{◌≡◌, Bool, true, false, List, ◌∷◌, not, ◌&&◌}
use Rattle.std.specs.List.{flat_map, list_all}
use Rattle.px_script.specs.Lexemes.{Lexeme, name}
use Rattle.px_script.specs.Items.{Argument, SignedAtom, Sign, bare, negated, added, removed, is_filled, atoms_in, arguments_in}
use Rattle.px_script.specs.Statements.{Statement, Line, Manner, literals, atom_changes, room_changes, line_of, spelling}
use Rattle.px_script.specs.Limits.{is_word}
use Rattle.px_script.specs.Declarations.{Declared, has_building}

abbrev pub line_atoms : Line → List SignedAtom
line_atoms l = flat_map atoms_in l.items

abbrev pub arguments_of : Line → List Argument
arguments_of l = flat_map arguments_in l.items

-- which signs may stand before an atom
abbrev pub is_signed : Manner → Sign → Bool
is_signed atom_changes added = true
is_signed atom_changes removed = true
is_signed atom_changes _ = false
is_signed _ bare = true
is_signed literals negated = true
is_signed _ _ = false

-- edits are of the script's kind, by the lines so far
abbrev pub is_of_script : Declared → Manner → Bool
is_of_script d atom_changes = not (has_building d)
is_of_script d room_changes = has_building d
is_of_script d _ = true

-- The word is one of the version's; where an item is one or more things, there is one; signs and edits are those of the line.
abbrev pub is_formed : Declared → Line → Bool
is_formed d l = is_word d.version l.word
    && list_all is_filled l.items
    && list_all (λ x. is_signed l.manner x.sign) (line_atoms l)
    && is_of_script d l.manner

-- the lexemes are this statement, after these lines
abbrev pub Forms : Declared → List Lexeme → Statement → Type 0
Forms d lexemes s = (lexemes ≡ spelling s) × (is_formed d (line_of s) ≡ true)

-- the first lexeme is a word that may begin a line
abbrev pub begins_with_word : Declared → List Lexeme → Bool
begins_with_word d (name n ∷ rest) = is_word d.version n
begins_with_word d _ = false
