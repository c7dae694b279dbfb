-- What the definitions see of tokens, and what is known of a text whose prefix was read.
use Rattle.px_names.specs.Name.{starts_name}
use Rattle.std.specs.Char.{is_ascii_digit}
use Rattle.std.specs.List.{list_all}
use Rattle.unicode_ident.specs.Ident.{is_xid_continue}
use Rattle.std.specs.Prelude.{◌≡◌, ◌++◌, ◌&&◌, ℕ, zero, suc, Bool, List, [], ◌∷◌, true, false, drop, length, encode_utf8_all, if◌then◌else◌, Result, Option, Some, None, Ok, Err}
use Rattle.std.specs.Option.{option_map}
use Rattle.px_script.specs.Parsing.{after_name, after_number, after_sign}
use Rattle.px_script.specs.Rows.{ones_at}
use Rattle.px_script.specs.Items.{Item}
use Rattle.px_script.specs.declared.kinds.One.{One}
use Rattle.std.specs.Str.{IsUtf8, chars}
use Rattle.px_script.specs.Lexemes.{Lexeme, Lexes, name, variable, number, sign, is_blank}
use Rattle.px_script.specs.Scanning.{First, first, found, ignored, bad, prefix_while, after_while, stops}
use Rattle.px_lines.specs.declared.token.BadToken.{BadToken}
use Rattle.px_lines.specs.declared.token.Class.{Class}
use Rattle.px_lines.specs.declared.token.Class.TheVariants.{Blank, Continues, Digit}
use Rattle.px_lines.specs.declared.token.Token.{Token}
use Rattle.px_lines.specs.declared.token.Token.TheVariants as token
use denote.Ref.{Bor}

abbrev pub lexeme_of : Token → Lexeme
lexeme_of (token.Name text) = name text.now
lexeme_of (token.Variable text) = variable text.now
lexeme_of (token.Number value) = number value
lexeme_of (token.Sign s) = sign s

-- what a scan answers
abbrev pub Scans : Result (Option (Token × Bor (List ℕ))) BadToken → First → Type 0
Scans (Ok (Some answer)) first = (first ≡ found (lexeme_of answer.0) (chars answer.1.now)) × IsUtf8 answer.1.now
Scans (Ok None) first = first ≡ ignored
Scans (Err e) first = first ≡ bad

-- a name stands at the front, and what follows it, or no name does
abbrev pub NameAt : List ℕ → Option (Bor (List ℕ) × Bor (List ℕ)) → Type 0
NameAt [] None = Unit {0}
NameAt [] (Some split) = ⊥
NameAt (c ∷ cs) None = starts_name c ≡ false
NameAt (c ∷ cs) (Some split) = (starts_name c ≡ true) × (split.0.now ≡ encode_utf8_all (c ∷ prefix_while is_xid_continue cs))
    × (chars split.1.now ≡ after_while is_xid_continue cs) × IsUtf8 split.1.now

-- whether a character is of the class
abbrev pub is_of : Class → ℕ → Bool
is_of Blank c = is_blank c
is_of Continues c = is_xid_continue c
is_of Digit c = is_ascii_digit c

-- the text is characters that pass, and then the rest, which doesn't begin with one
pub record Skips (p : ℕ → Bool) (text rest : List ℕ) : Type 0 where
  pub prefix : List ℕ
  pub whole : text ≡ prefix ++ rest
  pub all : list_all p (chars prefix) ≡ true
  pub stop : stops p (chars rest) ≡ true

-- the characters are lexemes
abbrev pub IsLexed : List ℕ → Type 0
IsLexed cs = (lexemes : List Lexeme) × Lexes cs lexemes

-- ---- the lexemes of a text, before the first character that begins none, and whether there is no such character

abbrev pub with_first : (List ℕ → List Lexeme × Bool) → First → List Lexeme × Bool
with_first others (found lexeme after) = (lexeme ∷ (others after).0, (others after).1)
with_first others ignored = ([], true)
with_first others bad = ([], false)

-- as many as there are at most
unfoldable pub scan_within : ℕ → List ℕ → List Lexeme × Bool
scan_within zero cs = ([], false)
scan_within (suc n) cs = with_first (scan_within n) (first cs)

unfoldable pub scan : List ℕ → List Lexeme × Bool
scan text = scan_within (suc (length (chars text))) (chars text)

abbrev pub lexemes_in : List ℕ → List Lexeme
lexemes_in text = (scan text).0

abbrev pub is_whole : List ℕ → Bool
is_whole text = (scan text).1

-- what is made of a text that is all lexemes
abbrev pub if_whole : {A : Type 0} → List ℕ → Option A → Option A
if_whole text read = if is_whole text then read else None

abbrev pub is_none : List Lexeme → Bool
is_none [] = true
is_none (x ∷ xs) = false

abbrev pub is_end : List ℕ → Bool
is_end text = is_none (lexemes_in text) && is_whole text

-- ---- what is read of a text, and what follows it

-- a text follows in a text: both end alike
abbrev pub Follows : List ℕ → List ℕ → Type 0
Follows text rest = IsUtf8 rest × (is_whole rest ≡ is_whole text)

-- the first token of a text, if it has one
abbrev pub IsNext : List ℕ → Option (Token × Bor (List ℕ)) → Type 0
IsNext text None = lexemes_in text ≡ []
IsNext text (Some p) = (lexemes_in text ≡ lexeme_of p.0 ∷ lexemes_in p.1.now) × Follows text p.1.now

-- this is read of a text, and that follows
abbrev pub ReadsFirst : {X Y : Type 0} → (X → Y) → List ℕ → Option (Y × List Lexeme) → Option (X × Bor (List ℕ)) → Type 0
ReadsFirst view text wanted None = None ≡ wanted
ReadsFirst view text wanted (Some p) = (Some (view p.0, lexemes_in p.1.now) ≡ wanted) × Follows text p.1.now

-- the same of an item and the sign after it
abbrev pub ReadsItemFirst : {X Y : Type 0} → (X → Y) → List ℕ → Option (Y × ℕ × List Lexeme) → Option (X × ℕ × Bor (List ℕ)) → Type 0
ReadsItemFirst view text wanted None = None ≡ wanted
ReadsItemFirst view text wanted (Some p) = (Some (view p.0, p.1, lexemes_in p.2.now) ≡ wanted) × Follows text p.2.now

-- the same of nothing but what follows
abbrev pub Follow : List ℕ → Option (List Lexeme) → Option (Bor (List ℕ)) → Type 0
Follow text wanted None = None ≡ wanted
Follow text wanted (Some rest) = (Some (lexemes_in rest.now) ≡ wanted) × Follows text rest.now

abbrev pub name_in : List Lexeme → Option (List ℕ × List Lexeme)
name_in = after_name (λ n rest. Some (n, rest))

abbrev pub number_in : List Lexeme → Option (ℕ × List Lexeme)
number_in = after_number (λ n rest. Some (n, rest))

abbrev pub sign_in : List Lexeme → Option (ℕ × List Lexeme)
sign_in (sign s ∷ rest) = Some (s, rest)
sign_in _ = None

abbrev pub rest_after : ℕ → List Lexeme → Option (List Lexeme)
rest_after wanted = after_sign wanted (λ rest. Some rest)

-- what the first lexemes are, one each, and what follows them
abbrev pub ones_front : List One → List Lexeme → Option (List Item × List Lexeme)
ones_front ones lexemes = option_map (λ items. (items, drop (length ones) lexemes)) (ones_at ones lexemes)
