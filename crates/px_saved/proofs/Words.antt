-- What is written of words is read as their lexemes: bytes that are words one after the other, with single spaces between.
use Rattle.std.proofs.lemmas.Fmt.{IsAscii-decimal, decimal_nonempty, digits_decimal, digits_value-decimal}
use Rattle.std.proofs.lemmas.Str.{IsUtf8-append, IsUtf8-from_ascii, IsUtf8-from_is_utf8, IsUtf8-nil, chars-IsAscii, chars-append, chars-nil, encodes-IsAscii, encodes-chars}
use Rattle.std.proofs.lemmas.Str.Ascii.{IsAscii-cons, IsAscii-nil}
use Rattle.std.proofs.lemmas.Str.Parse.{numerals_by_value, tells_all_ascii_digits}
use Rattle.std.proofs.lemmas.List.Folds.{list_all-append}
use Rattle.std.specs.Str.{IsAscii, chars, is_utf8}
use Rattle.std.specs.Prelude.{◌^◌, ◌/◌, ◌%◌}
use lib.Utf8.{encode}
use Rattle.unicode_ident.proofs.Computing.{unicode_ident}
use Rattle.px_names.specs.Name.{is_name, is_name_text}
use Rattle.px_script.proofs.Common.{◌≡◌, ℕ, ◌+◌, ◌<◌, ◌≤◌, ◌==◌, Bool, true, false, not, ◌&&◌, List, [], ◌∷◌, ◌++◌, refl, sym, ap, ◌∙◌, subst, arith, list_all, IsUtf8, all_ascii_digits, is_ascii_digit, encode_utf8_all, and_parts, decimal, is_xid_continue, is_xid_continue-ascii, starts_name, Lexeme, name, number, sign, variable, Lexes, goes_on, is_sign, IsLexeme, ends_before, nat_lt, both_answers, eqb-true}
use Rattle.px_script.proofs.Lexing.{digit-range, starts-continues}
use Rattle.px_script.proofs.Lists.{by_test}

-- ---- bytes that end no line

-- no byte is a line feed or a carriage return
abbrev pub is_inside : ℕ → Bool
is_inside c = not (c == 10) && not (c == 13)

abbrev pub is_in_line : List ℕ → Bool
is_in_line bytes = list_all is_inside bytes

-- a word: a text without line ends that is the lexeme
pub record IsWord (bytes : List ℕ) (lexeme : Lexeme) : Type 0 where
  pub text : IsUtf8 bytes
  pub inside : is_in_line bytes ≡ true
  pub is : IsLexeme lexeme (chars bytes)

-- a text without line ends that reads as these lexemes
pub record Reads (bytes : List ℕ) (lexemes : List Lexeme) : Type 0 where
  pub text : IsUtf8 bytes
  pub inside : is_in_line bytes ≡ true
  pub lexes : Lexes (chars bytes) lexemes

-- no name or number goes on with the bytes
abbrev pub Ends : List ℕ → Type 0
Ends bytes = goes_on (chars bytes) ≡ false

both-inside : (one other : List ℕ) → is_in_line one ≡ true → is_in_line other ≡ true → is_in_line (one ++ other) ≡ true
both-inside one other a b = list_all-append is_inside one other ∙ rw (a, b) refl

-- an ASCII byte is its character
pub ascii-prefix : (c : ℕ) (bytes : List ℕ) → c < 128 → chars (c ∷ bytes) ≡ c ∷ chars bytes
ascii-prefix c bytes below =
    let is : IsAscii (c ∷ []) = IsAscii-cons c [] below IsAscii-nil in
    chars-append (c ∷ []) bytes (IsUtf8-from_ascii (c ∷ []) is) ∙ ap (λ cs. cs ++ chars bytes) (chars-IsAscii (c ∷ []) is)

ends-any : (l : Lexeme) (cs : List ℕ) → goes_on cs ≡ false → ends_before l cs
ends-any (name n) cs e = e
ends-any (variable n) cs e = e
ends-any (number n) cs e = e
ends-any (sign s) cs e = tt

-- ---- one word after the other

pub nothing-reads : Reads [] []
nothing-reads = record {
  text = IsUtf8-nil;
  inside = refl;
  lexes = record { blanks = []; rest = []; whole = chars-nil; blank = refl; comment = refl };
}

pub word-reads : (word rest : List ℕ) (lexeme : Lexeme) (lexemes : List Lexeme) → IsWord word lexeme → ends_before lexeme (chars rest)
    → Reads rest lexemes → Reads (word ++ rest) (lexeme ∷ lexemes)
word-reads word rest lexeme lexemes is ends more = record {
  text = IsUtf8-append word rest is.text more.text;
  inside = both-inside word rest is.inside more.inside;
  lexes = (
    chars rest,
    record {
      blanks = [];
      text = chars word;
      whole = chars-append word rest is.text;
      blank = refl;
      is_lexeme = is.is;
      ends = ends;
    },
    more.lexes,
  );
}

-- a word before what ends each
pub word-before : (word rest : List ℕ) (lexeme : Lexeme) (lexemes : List Lexeme) → IsWord word lexeme → Ends rest
    → Reads rest lexemes → Reads (word ++ rest) (lexeme ∷ lexemes)
word-before word rest lexeme lexemes is ends more = word-reads word rest lexeme lexemes is (ends-any lexeme (chars rest) ends) more

-- a space in front of a word changes nothing
pub space-reads : (bytes : List ℕ) (lexeme : Lexeme) (lexemes : List Lexeme) → Reads bytes (lexeme ∷ lexemes)
    → Reads (32 ∷ bytes) (lexeme ∷ lexemes)
space-reads bytes lexeme lexemes reads =
    let is : IsAscii (32 ∷ []) = IsAscii-cons 32 [] (omega arith) IsAscii-nil in
    let old = reads.lexes.1 in record {
      text = IsUtf8-append (32 ∷ []) bytes (IsUtf8-from_ascii (32 ∷ []) is) reads.text;
      inside = reads.inside;
      lexes = (
        reads.lexes.0,
        record {
          blanks = 32 ∷ old.blanks;
          text = old.text;
          whole = ascii-prefix 32 bytes (omega arith) ∙ ap (λ cs. 32 ∷ cs) old.whole;
          blank = old.blank;
          is_lexeme = old.is_lexeme;
          ends = old.ends;
        },
        reads.lexes.2,
      );
    }

-- ---- what ends a name

pub nothing-ends : Ends []
nothing-ends = rw chars-nil refl

pub space-ends : (bytes : List ℕ) → Ends (32 ∷ bytes)
unfolding unicode_ident
space-ends bytes = rw (ascii-prefix 32 bytes (omega arith)) refl

pub comma-ends : (bytes : List ℕ) → Ends (44 ∷ bytes)
unfolding unicode_ident
comma-ends bytes = rw (ascii-prefix 44 bytes (omega arith)) refl

pub opening-ends : (bytes : List ℕ) → Ends (40 ∷ bytes)
unfolding unicode_ident
opening-ends bytes = rw (ascii-prefix 40 bytes (omega arith)) refl

pub closing-ends : (bytes : List ℕ) → Ends (41 ∷ bytes)
unfolding unicode_ident
closing-ends bytes = rw (ascii-prefix 41 bytes (omega arith)) refl

-- ---- numbers

own-digits : (n : ℕ) → n < 2 ^ 64 → all_ascii_digits (decimal n) ≡ true
own-digits n small = digits_decimal (numerals_by_value (λ ds. all_ascii_digits ds ≡ true) tells_all_ascii_digits) n small

digit-inside : (c : ℕ) → is_ascii_digit c ≡ true → is_inside c ≡ true
digit-inside c digit = let range = digit-range c digit in grind (arith, range.0, range.1)

each-digit : (p : ℕ → Bool) → ((c : ℕ) → is_ascii_digit c ≡ true → p c ≡ true) → (ds : List ℕ) → all_ascii_digits ds ≡ true
    → list_all p ds ≡ true
each-digit p passes [] all = refl
each-digit p passes (d ∷ ds) all =
    let both = and_parts (is_ascii_digit d) (all_ascii_digits ds) all in rw (passes d both.0, each-digit p passes ds both.1) refl

digits-inside : (n : ℕ) → n < 2 ^ 64 → is_in_line (decimal n) ≡ true
digits-inside n small = each-digit is_inside digit-inside (decimal n) (own-digits n small)

pub number-word : (n : ℕ) → n < 2 ^ 31 → IsWord (decimal n) (number n)
number-word n below =
    let own = numerals_by_value (λ ds. all_ascii_digits ds ≡ true) tells_all_ascii_digits in
    let small : n < 2 ^ 64 = omega (arith, below) in
    let value = digits_value-decimal own n small in let ascii = IsAscii-decimal n small in record {
      text = IsUtf8-from_ascii (decimal n) ascii;
      inside = digits-inside n small;
      is = subst (IsLexeme (number n)) (sym (chars-IsAscii (decimal n) ascii))
          (decimal_nonempty n small, own-digits n small, omega (arith, below, value));
    }

-- ---- names

-- the bytes of a character that ends no line end none
high-inside : (b : ℕ) → 128 ≤ b → is_inside b ≡ true
high-inside b high = grind (arith, high)

encoded-inside : (c : ℕ) → is_inside c ≡ true → is_in_line (encode c) ≡ true
unfolding encode
encoded-inside c inside = by_test (nat_lt c 128) (λ one. rw (one, inside) refl)
    (λ a. by_test (nat_lt c 2048) (λ two. rw (a, two, high-inside (192 + c / 64) (omega arith), next-inside c) refl)
    (λ b. by_test (nat_lt c 65536)
    (λ three. rw (a, b, three, high-inside (224 + c / 4096) (omega arith), next-inside (c / 64), next-inside c) refl)
    (λ d. rw (a, b, d, high-inside (240 + c / 262144) (omega arith), next-inside (c / 4096), next-inside (c / 64), next-inside c) refl)))
  where
    next-inside : (n : ℕ) → is_inside (128 + n % 64) ≡ true
    next-inside n = high-inside (128 + n % 64) (omega arith)

encodes-inside : (cs : List ℕ) → list_all is_inside cs ≡ true → is_in_line (encode_utf8_all cs) ≡ true
encodes-inside [] inside = refl
encodes-inside (c ∷ cs) inside = let both = and_parts (is_inside c) (list_all is_inside cs) inside in
    both-inside (encode c) (encode_utf8_all cs) (encoded-inside c both.0) (encodes-inside cs both.1)

continues-inside : (c : ℕ) → is_xid_continue c ≡ true → is_inside c ≡ true
unfolding unicode_ident
continues-inside c continues = by_test (c == 10) (λ e. both_answers (is_xid_continue c) (no 10 e refl) continues)
    (λ a. by_test (c == 13) (λ e. both_answers (is_xid_continue c) (no 13 e refl) continues) (λ b. rw (a, b) refl))
  where
    no : (k : ℕ) → (c == k) ≡ true → is_xid_continue k ≡ false → is_xid_continue c ≡ false
    no k same stops = subst (λ x. is_xid_continue x ≡ false) (sym (eqb-true c k same)) stops

name-inside : (cs : List ℕ) → is_name cs ≡ true → list_all is_inside cs ≡ true
name-inside [] is = refl
name-inside (c ∷ cs) is = let both = and_parts (starts_name c) (list_all is_xid_continue cs) is in
    rw (continues-inside c (starts-continues c both.0), all cs both.1) refl
  where
    all : (cs : List ℕ) → list_all is_xid_continue cs ≡ true → list_all is_inside cs ≡ true
    all [] h = refl
    all (c ∷ cs) h = let both = and_parts (is_xid_continue c) (list_all is_xid_continue cs) h in
        rw (continues-inside c both.0, all cs both.1) refl

pub name-word : (text : List ℕ) → IsUtf8 text → is_name_text text ≡ true → IsWord text (name text)
name-word text utf8 is = record {
  text = utf8;
  inside = subst (λ bytes. is_in_line bytes ≡ true) (encodes-chars text utf8) (encodes-inside (chars text) (name-inside (chars text) is));
  is = (is, sym (encodes-chars text utf8));
}

-- a word of the language
pub keyword : (text : List ℕ) → is_utf8 text ≡ true → is_name_text text ≡ true → IsWord text (name text)
keyword text utf8 is = name-word text (IsUtf8-from_is_utf8 text utf8) is

-- ---- variables that are a letter and a number

digit-continues : (c : ℕ) → is_ascii_digit c ≡ true → is_xid_continue c ≡ true
digit-continues c digit = let range = digit-range c digit in is_xid_continue-ascii c (omega (arith, range.1)) ∙ rw digit refl

-- ?pK or ?gK
pub variable-word : (letter k : ℕ) → letter < 128 → starts_name letter ≡ true → is_inside letter ≡ true → k < 2 ^ 31
    → IsWord (63 ∷ letter ∷ decimal k) (variable (letter ∷ decimal k))
variable-word letter k low starts inside below =
    let small : k < 2 ^ 64 = omega (arith, below) in
    let after : IsAscii (letter ∷ decimal k) = IsAscii-cons letter (decimal k) low (IsAscii-decimal k small) in
    let whole : IsAscii (63 ∷ letter ∷ decimal k) = IsAscii-cons 63 (letter ∷ decimal k) (omega arith) after in
    let digits = each-digit is_xid_continue digit-continues (decimal k) (own-digits k small) in record {
      text = IsUtf8-from_ascii (63 ∷ letter ∷ decimal k) whole;
      inside = rw (inside, digits-inside k small) refl;
      is = subst (IsLexeme (variable (letter ∷ decimal k))) (sym (chars-IsAscii (63 ∷ letter ∷ decimal k) whole))
          (refl, rw (starts, digits) refl, sym (encodes-IsAscii (letter ∷ decimal k) after));
    }

-- ---- signs

pub sign-word : (s : ℕ) → is_sign s ≡ true → s < 128 → is_inside s ≡ true → IsWord (s ∷ []) (sign s)
sign-word s is low inside = let ascii : IsAscii (s ∷ []) = IsAscii-cons s [] low IsAscii-nil in record {
  text = IsUtf8-from_ascii (s ∷ []) ascii;
  inside = rw inside refl;
  is = (is, chars-IsAscii (s ∷ []) ascii);
}
