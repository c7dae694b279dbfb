-- Numbers among the words of the command line.
use Rattle.std.specs.Prelude.{◌&&◌, ℕ, Bool, List, length, nat_le, if◌then◌else◌, Option, None, Some}
use Rattle.std.specs.Char.{is_ascii_digit}
use Rattle.std.specs.List.{list_all}
use Rattle.std.specs.Str.Parse.{digits_value}

-- the text has one to ten digits, and nothing else
abbrev pub is_number : List ℕ → Bool
is_number text = nat_le 1 (length text) && (nat_le (length text) 10 && list_all is_ascii_digit text)

-- the number, if it is in the range
abbrev pub in_range : (least most number : ℕ) → Option ℕ
in_range least most number = if nat_le least number && nat_le number most then Some number else None

-- the number that one to ten digits write, if it is in the range
abbrev pub number_within : (least most : ℕ) → List ℕ → Option ℕ
number_within least most text = if is_number text then in_range least most (digits_value 10 text) else None
