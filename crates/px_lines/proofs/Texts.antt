-- A text that is gone through character by character.
use Rattle.px_lines.proofs.Common.{◌≡◌, ℕ, Bool, true, List, [], ◌∷◌, ◌++◌, length, take, refl, sym, ap, ◌∙◌, ◌-◌, subst, append_assoc, length-append, arith, list_all, IsUtf8, IsCharBoundary, chars, all_scalars, IsUtf8-take, IsUtf8-encode, IsCharBoundary-at_seam, chars-append, chars_past_char, chars-nil, cons_from_encodes, take-append_seam, append-nil, list_all-append, prefix_while, after_while, stops, prefix-is, after-is, and_parts, encodes-chars, encode_utf8_all}
use Rattle.std.specs.Prelude.{encode_utf8}
use Rattle.px_lines.specs.Tokens.{Skips}

-- what stands before a text in a text is text
pub IsUtf8-prefix : (text prefix rest : List ℕ) → IsUtf8 text → text ≡ prefix ++ rest → IsUtf8 rest → IsUtf8 prefix
IsUtf8-prefix text prefix rest u whole v = let P : List ℕ → Type 0 = IsUtf8 in
    let taken : take (length prefix) text ≡ prefix = rw whole (take-append_seam prefix rest) in
    subst P taken (IsUtf8-take text (length prefix) u (IsCharBoundary-at_seam text prefix rest whole v))

-- the first character of a text is a text
IsUtf8-first : (text rest : List ℕ) (c : ℕ) → IsUtf8 text → text ≡ encode_utf8 c ++ rest → IsUtf8 (encode_utf8 c)
IsUtf8-first text rest c u whole = let parts = cons_from_encodes u.0 rest c (u.1.1 ∙ whole) in
    let scalars : all_scalars (c ∷ parts.0) ≡ true = sym (ap all_scalars parts.1) ∙ u.1.0 in IsUtf8-encode c (and_parts _ _ scalars).0

-- a prefix that passes grows by a character that passes
pub prefix-grows : (p : ℕ → Bool) (text prefix rest after : List ℕ) (c : ℕ) → IsUtf8 text → text ≡ prefix ++ rest → IsUtf8 rest
    → rest ≡ encode_utf8 c ++ after → list_all p (chars prefix) ≡ true → p c ≡ true
    → (text ≡ (prefix ++ encode_utf8 c) ++ after) × (list_all p (chars (prefix ++ encode_utf8 c)) ≡ true)
prefix-grows p text prefix rest after c u whole v next all passes = let one = IsUtf8-first rest after c v next in
    let single : chars (encode_utf8 c) ≡ c ∷ [] = chars_past_char (encode_utf8 c) [] c one (sym (append-nil (encode_utf8 c)))
    ∙ ap (λ t. c ∷ t) chars-nil in (
      whole ∙ ap (λ t. prefix ++ t) next ∙ sym (append_assoc prefix (encode_utf8 c) after),
      rw (
        chars-append prefix (encode_utf8 c) (IsUtf8-prefix text prefix rest u whole v),
        single,
        list_all-append p (chars prefix) (c ∷ []),
        all,
        passes,
      ) refl,
    )

-- the characters of a text that ends with a text
pub chars-parts : (text prefix rest : List ℕ) → IsUtf8 text → text ≡ prefix ++ rest → IsUtf8 rest → chars text ≡ chars prefix ++ chars rest
chars-parts text prefix rest u whole v = rw whole (chars-append prefix rest (IsUtf8-prefix text prefix rest u whole v))

-- the front at which the text stops
pub prefix-ends : (p : ℕ → Bool) (text prefix rest : List ℕ) → IsUtf8 text → text ≡ prefix ++ rest → IsUtf8 rest
    → list_all p (chars prefix) ≡ true → stops p (chars rest) ≡ true
    → (chars prefix ≡ prefix_while p (chars text)) × (chars rest ≡ after_while p (chars text))
prefix-ends p text prefix rest u whole v all stop =
    let characters = chars-parts text prefix rest u whole v in (
      sym (ap (prefix_while p) characters ∙ prefix-is p (chars prefix) (chars rest) all stop),
      sym
          (ap (after_while p) characters ∙ after-is p (chars prefix) (chars rest) all stop),
    )

-- the length of the prefix is what is left of the length
pub cut-place : (text prefix rest : List ℕ) → text ≡ prefix ++ rest → length text - length rest ≡ length prefix
cut-place text prefix rest whole = rw (whole, length-append) (omega arith)

pub cut-boundary : (text prefix rest : List ℕ) → text ≡ prefix ++ rest → IsUtf8 rest → IsCharBoundary text (length text - length rest)
cut-boundary text prefix rest whole v = let P : ℕ → Type 0 = λ n. IsCharBoundary text n in
    subst P (sym (cut-place text prefix rest whole)) (IsCharBoundary-at_seam text prefix rest whole v)

pub cut-prefix : (text prefix rest : List ℕ) → text ≡ prefix ++ rest → take (length text - length rest) text ≡ prefix
cut-prefix text prefix rest whole = rw (cut-place text prefix rest whole, whole) (take-append_seam prefix rest)

-- what follows the characters that are passed
pub skipped : (p : ℕ → Bool) (text rest : List ℕ) → IsUtf8 text → IsUtf8 rest → Skips p text rest → chars rest ≡ after_while p (chars text)
skipped p text rest u v skip = (prefix-ends p text skip.prefix rest u skip.whole v skip.all skip.stop).1

-- a character, those after it that pass, and the rest
module _ (p : ℕ → Bool) (text others rest : List ℕ) (c : ℕ) (first : text ≡ encode_utf8 c ++ others) (skip : Skips p others rest) where
  pub first-whole : text ≡ (encode_utf8 c ++ skip.prefix) ++ rest
  first-whole = first ∙ ap (λ t. encode_utf8 c ++ t) skip.whole ∙ sym (append_assoc (encode_utf8 c) skip.prefix rest)

  pub first-cut : IsUtf8 others → IsUtf8 rest → take (length text - length rest) text ≡ encode_utf8_all (c ∷ prefix_while p (chars others))
  first-cut u v = let ends = prefix-ends p others skip.prefix rest u skip.whole v skip.all skip.stop in
      let same = encodes-chars skip.prefix (IsUtf8-prefix others skip.prefix rest u skip.whole v) in
      cut-prefix text (encode_utf8 c ++ skip.prefix) rest first-whole
      ∙ ap (λ t. encode_utf8 c ++ t) (sym same ∙ ap encode_utf8_all ends.0)
