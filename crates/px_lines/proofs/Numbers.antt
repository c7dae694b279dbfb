-- The number of decimal digits, up to 32 bits.
use Rattle.px_base.specs.Bounds.{u32_max}
use Rattle.px_lines.proofs.Common.{◌≡◌, ℕ, ◌<◌, ◌^◌, ◌-◌, true, List, [], ◌∷◌, length, min, refl, sym, ◌∙◌, subst, inl, inr, arith, cases_lt, encode_ascii, encodes-chars, is_ascii_digit, Result, Ok, Err, encode_utf8_all, OkIff, result_unwrap_or, IsUtf8, chars, all_ascii_digits, ParsesUnsigned, digits_value, IsNumeralModel, parse_digits, numerals_by_value, tells_all_ascii_digits, number_value, and_parts, digit-range, digits-all, prefix-all}

pub own : IsNumeralModel (λ ds. all_ascii_digits ds ≡ true) (digits_value 10)
own = numerals_by_value (λ ds. all_ascii_digits ds ≡ true) tells_all_ascii_digits

capped : {E : Type 0} (r : Result ℕ E) (value : ℕ) (P : Type 0) → P → OkIff r (P × (value < 2 ^ 32)) value
    → result_unwrap_or r u32_max ≡ min value u32_max
capped (Ok n) value P p is = omega (arith, is.0.1, is.1)
capped (Err e) value P p is = elim (cases_lt value (2 ^ 32)) [ inl small ↦ absurd (is (p, small)) | inr large ↦ omega (arith, large) ]

-- digits are their own bytes
pub encodes-digits : (cs : List ℕ) → all_ascii_digits cs ≡ true → encode_utf8_all cs ≡ cs
encodes-digits [] all = refl
encodes-digits (c ∷ cs) all = let both = and_parts (is_ascii_digit c) (all_ascii_digits cs) all in let range = digit-range c both.0 in
    rw (encode_ascii c (omega (arith, range.1)), encodes-digits cs both.1) refl

-- what `parse` answers for the text of digits, with the greatest number in place of an error
pub parsed-digits : {E : Type 0} (text : List ℕ) (r : Result ℕ E) → IsUtf8 text → 0 < length (chars text)
    → all_ascii_digits (chars text) ≡ true → ParsesUnsigned 32 10 text r → result_unwrap_or r u32_max ≡ number_value (chars text)
parsed-digits text r u some all parses = let same : chars text ≡ text = sym (encodes-digits (chars text) all) ∙ encodes-chars text u in
    let P : List ℕ → Type 0 = λ t. ParsesUnsigned 32 10 t r in
    capped r (digits_value 10 (chars text)) _ some (parse_digits own 32 (chars text) r (subst P (sym same) parses) all)

pub ruleset digits = (parsed-digits, prefix-all, digits-all)
