-- The first lexeme of a line, found from left to right.
use Rattle.std.specs.Prelude.{ℕ, Bool, true, not, List, [], ◌∷◌, ◌==◌, if◌then◌else◌, encode_utf8_all}
use Rattle.std.specs.Char.{is_ascii_digit}
use Rattle.unicode_ident.specs.Ident.{is_xid_continue}
use Rattle.px_names.specs.Name.{starts_name}
use Rattle.px_script.specs.Lexemes.{Lexeme, name, variable, number, sign, is_blank, is_sign, number_value, goes_on}

pub data First : Type 0 where
  found : Lexeme → List ℕ → First
  ignored : First
  bad : First

-- the characters in front that pass a test, and what follows them
abbrev pub prefix_while : (ℕ → Bool) → List ℕ → List ℕ
prefix_while p [] = []
prefix_while p (c ∷ cs) = if p c then c ∷ prefix_while p cs else []

abbrev pub after_while : (ℕ → Bool) → List ℕ → List ℕ
after_while p [] = []
after_while p (c ∷ cs) = if p c then after_while p cs else c ∷ cs

-- the list doesn't begin with an item that passes
abbrev pub stops : (ℕ → Bool) → List ℕ → Bool
stops p [] = true
stops p (c ∷ cs) = not (p c)

abbrev pub first_number : List ℕ → First
first_number cs = if goes_on (after_while is_ascii_digit cs) then bad
    else found (number (number_value (prefix_while is_ascii_digit cs))) (after_while is_ascii_digit cs)

abbrev pub first_variable : List ℕ → First
first_variable [] = bad
first_variable (c ∷ cs) =
    if starts_name c then found (variable (encode_utf8_all (c ∷ prefix_while is_xid_continue cs))) (after_while is_xid_continue cs) else bad

abbrev pub first_sign : ℕ → List ℕ → First
first_sign c cs = if is_sign c then found (sign c) cs else bad

-- the first lexeme of characters that don't begin with a blank
abbrev pub first_at : List ℕ → First
first_at [] = ignored
first_at (c ∷ cs) =
    if starts_name c then found (name (encode_utf8_all (c ∷ prefix_while is_xid_continue cs))) (after_while is_xid_continue cs)
    else (if c == 35 then ignored
    else (if c == 63 then first_variable cs
    else (if is_ascii_digit c then first_number (c ∷ cs)
    else first_sign c cs)))

abbrev pub first : List ℕ → First
first line = first_at (after_while is_blank line)
