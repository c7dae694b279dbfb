-- Digits are read as the number that they write.
use Rattle.std.proofs.Common.{◌≡◌, ◌^◌, ◌-◌, ◌<◌, ◌≤◌, ◌&&◌, ℕ, Bool, cond, eqb, ltb, true, false, List, [], ◌∷◌, length, drop, refl, sym, ap, ◌∙◌, arith, lt-ltb, le-ltb, leb-true, true≢false}
use Rattle.std.specs.Prelude.{nat_le, None, Some}
use Rattle.std.specs.Char.{digit_value, is_ascii_digit}
use Rattle.std.specs.List.{list_all}
use Rattle.std.specs.Str.Parse.{AllDigits, IsNumeral, digits_value, without_leading_plus}
use Rattle.std.proofs.lemmas.Bool.{and_parts, and_right, cond-true, cond-false, false_from_ne_true, ne_eqb}
use Rattle.px_words.specs.Numbers.{in_range, is_number, number_within}

-- ---- one byte

digit-from : (d : ℕ) → is_ascii_digit d ≡ true → (48 ≤ d) × (d ≤ 57)
digit-from d is =
    let both = and_parts (nat_le 48 d) (nat_le d 57) is in
    (leb-true 48 d both.0, leb-true d 57 both.1)

digit-value : (d : ℕ) → 48 ≤ d → d ≤ 57 → digit_value d ≡ d - 48
digit-value d low high =
    let above : ltb d 48 ≡ false = le-ltb d 48 low in
    let below : ltb d 58 ≡ true = lt-ltb d 58 (omega (arith, high)) in
    cond-false (ltb d 48) 36 (cond (ltb d 58) (d - 48)
    (cond (ltb d 65) 36 (cond (ltb d 91) (d - 55) (cond (ltb d 97) 36 (cond (ltb d 123) (d - 87) 36))))) above
    ∙ cond-true (ltb d 58) (d - 48)
    (cond (ltb d 65) 36 (cond (ltb d 91) (d - 55) (cond (ltb d 97) 36 (cond (ltb d 123) (d - 87) 36)))) below

digit-below : (d : ℕ) → is_ascii_digit d ≡ true → digit_value d < 10
digit-below d is =
    let range = digit-from d is in
    let low = range.0 in
    let high = range.1 in
    rw (digit-value d low high) (omega (arith, low, high))

-- a digit isn't this sign
pub other-than : (d sign : ℕ) → is_ascii_digit d ≡ true → sign < 48 → eqb d sign ≡ false
other-than d sign is low = ne_eqb d sign (λ same. let range = digit-from d is in let first = range.0 in omega (arith, first, same, low))

-- ---- a text

all-digits : (text : List ℕ) → list_all is_ascii_digit text ≡ true → AllDigits 10 text
all-digits [] is = tt
all-digits (d ∷ ds) is =
    let both = and_parts (is_ascii_digit d) (list_all is_ascii_digit ds) is in
    (digit-below d both.0, all-digits ds both.1)

-- what a number among the words is: it has a first digit, and is read as it stands
pub record IsPlain (text : List ℕ) : Type 0 where
  pub first : ℕ
  pub rest : List ℕ
  pub whole : text ≡ first ∷ rest
  pub digit : is_ascii_digit first ≡ true
  pub numeral : IsNumeral 10 (without_leading_plus text)
  pub unsigned : without_leading_plus text ≡ text

pub plain-number : (text : List ℕ) → is_number text ≡ true → IsPlain text
plain-number [] is = absurd (true≢false (sym is))
plain-number (d ∷ ds) is =
    let short = and_parts (nat_le 1 (length (d ∷ ds))) (nat_le (length (d ∷ ds)) 10 && list_all is_ascii_digit (d ∷ ds)) is in
    let digits = and_parts (nat_le (length (d ∷ ds)) 10) (list_all is_ascii_digit (d ∷ ds)) short.1 in
    let first = and_parts (is_ascii_digit d) (list_all is_ascii_digit ds) digits.1 in
    let same : without_leading_plus (d ∷ ds) ≡ d ∷ ds = ap (λ (b : Bool). drop (cond b 1 0) (d ∷ ds))
    (other-than d 43 first.0 (omega arith)) in
    record {
      first = d;
      rest = ds;
      whole = refl;
      digit = first.0;
      numeral = rw same (omega arith, all-digits (d ∷ ds) digits.1);
      unsigned = same;
    }

-- ---- what is read

pub read_right : (least most number : ℕ) (text : List ℕ) → is_number text ≡ true → number ≡ digits_value 10 (without_leading_plus text)
    → in_range least most number ≡ number_within least most text
read_right least most number text is read =
    let plain = plain-number text is in
    ap (in_range least most) (read ∙ ap (digits_value 10) plain.unsigned)
    ∙ sym (cond-true (is_number text) (in_range least most (digits_value 10 text)) None is)

-- a number that is too large for the type is out of the range
pub unread_right : (least most : ℕ) (text : List ℕ) → most < 2 ^ 32 → is_number text ≡ true
    → ¬ (IsNumeral 10 (without_leading_plus text) × (digits_value 10 (without_leading_plus text) < 2 ^ 32))
    → None ≡ number_within least most text
unread_right least most text small is unread =
    let plain = plain-number text is in
    let value = digits_value 10 text in
    let wide : ¬ (value < 2 ^ 32) = λ below. unread (plain.numeral, rw plain.unsigned below) in
    let past : nat_le value most ≡ false = le-leb-false value most (λ fits. wide (omega (arith, fits, small))) in
    sym (cond-true (is_number text) (in_range least most value) None is
    ∙ cond-false (nat_le least value && nat_le value most) (Some value) None (and_right (nat_le least value) (nat_le value most) past))
  where
    le-leb-false : (a b : ℕ) → ¬ (a ≤ b) → nat_le a b ≡ false
    le-leb-false a b not_below = false_from_ne_true (nat_le a b) (λ is. not_below (leb-true a b is))

-- a text that is no number of one to ten digits is none in the range
pub none_right : (least most : ℕ) (text : List ℕ) → is_number text ≡ false → None ≡ number_within least most text
none_right least most text is = sym (cond-false (is_number text) (in_range least most (digits_value 10 text)) None is)
