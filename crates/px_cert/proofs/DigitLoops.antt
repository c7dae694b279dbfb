-- Texts and digits at the front of bytes, as the loops over bytes read them.
use Rattle.std.proofs.Common.{◌≡◌, ◌≢◌, ◌≤◌, ◌<◌, ◌+◌, ◌*◌, ◌-◌, ◌&&◌, ℕ, zero, suc, Bool, true, false, cond, eqb, List, [], ◌∷◌, ◌++◌, length, get_or, take, drop, Option, Some, None, Bor, refl, sym, ap, ◌∙◌, arith, lt-ltb}
use Rattle.std.specs.Prelude.{MatchOption, nat_lt}
use Rattle.std.specs.Char.{is_ascii_digit}
use Rattle.std.specs.List.{list_all}
use Rattle.std.proofs.lemmas.Bool.{and_parts, cond-false, cond-true, eqb-true, le-ltb}
use Rattle.std.proofs.Math.Bool.{and-false}
use Rattle.px_cert.specs.Reading.{after_text, digit_count, digits_at, is_plain, read_on}
use Rattle.px_cert.proofs.Exact.{after_again}

-- ---- a text at the front

after_none : (text bytes : List ℕ) → ((rest : List ℕ) → bytes ≢ text ++ rest) → after_text text bytes ≡ None
after_none [] bytes never = absurd (never bytes refl)
after_none (c ∷ text) [] never = refl
after_none (c ∷ text) (b ∷ bytes) never =
    elim (eqb c b) as (λ t. eqb c b ≡ t → cond t (after_text text bytes) None ≡ None) [
      | true ↦ λ same. after_none text bytes (λ rest e. never rest (λ i. sym (eqb-true c b same) i ∷ e i))
      | false ↦ λ other. refl
    ] refl

pub after_is : (text bytes : List ℕ) (r : Option (Bor (List ℕ)))
    → MatchOption r ((rest : List ℕ) → bytes ≢ text ++ rest) (λ x. bytes ≡ text ++ x.now)
    → MatchOption r (after_text text bytes ≡ None) (λ rest. after_text text bytes ≡ Some rest.now)
after_is text bytes None m = after_none text bytes m
after_is text bytes (Some x) m = ap (after_text text) m ∙ after_again text x.now

-- ---- how many digits

counts : (bytes : List ℕ) (i : ℕ) → i < length bytes → is_ascii_digit (get_or bytes i 0) ≡ true
    → digit_count (drop i bytes) ≡ suc (digit_count (drop (suc i) bytes))
counts [] i below is = absurd (omega (arith, below))
counts (b ∷ bytes) zero below is = cond-true (is_ascii_digit b) (suc (digit_count bytes)) 0 is
counts (b ∷ bytes) (suc i) below is = counts bytes i (omega (arith, below)) is

passes : (test : ℕ → Bool) (xs : List ℕ) (i : ℕ) → i < length xs → list_all test (take i xs) ≡ true → test (get_or xs i 0) ≡ true
    → list_all test (take (suc i) xs) ≡ true
passes test [] i below all is = absurd (omega (arith, below))
passes test (x ∷ xs) zero below all is = ap (λ t. t && true) is
passes test (x ∷ xs) (suc i) below all is =
    let both = and_parts (test x) (list_all test (take i xs)) all in
    ap (λ t. t && list_all test (take (suc i) xs)) both.0 ∙ passes test xs i (omega (arith, below)) both.1 is

-- ---- the number of the digits

reads : (value : ℕ) (digits : List ℕ) (i : ℕ) → i < length digits
    → read_on value (drop i digits) ≡ read_on (10 * value + (get_or digits i 0 - 48)) (drop (suc i) digits)
reads value [] i below = absurd (omega (arith, below))
reads value (d ∷ digits) zero below = refl
reads value (d ∷ digits) (suc i) below = reads value digits i (omega (arith, below))

pub read_is_more : (value : ℕ) (digits : List ℕ) → value ≤ read_on value digits
read_is_more value [] = omega arith
read_is_more value (d ∷ digits) = let more = read_is_more (10 * value + (d - 48)) digits in omega (arith, more)

-- ---- a number at the front

module _ (limit : ℕ) (bytes text : List ℕ) (count : ℕ) (count_is : count ≡ digit_count bytes) (text_is : text ≡ take count bytes) where
  prefix_is : take (digit_count bytes) bytes ≡ text
  prefix_is = sym (text_is ∙ ap (λ (k : ℕ). take k bytes) count_is)

  pub digits_other : is_plain text ≡ false → digits_at limit bytes ≡ None
  unfolding digits_at
  digits_other other =
      ap (λ (ds : List ℕ). cond (is_plain ds && nat_lt (read_on 0 ds) limit) (Some (read_on 0 ds, drop (digit_count bytes) bytes)) None) prefix_is
      ∙ ap (λ (t : Bool). cond (t && nat_lt (read_on 0 text) limit) (Some (read_on 0 text, drop (digit_count bytes) bytes)) None) other

  pub digits_high : limit ≤ read_on 0 text → digits_at limit bytes ≡ None
  unfolding digits_at
  digits_high high =
      let test : (is_plain text && nat_lt (read_on 0 text) limit) ≡ false =
      ap (λ (t : Bool). is_plain text && t) (le-ltb (read_on 0 text) limit high) ∙ and-false (is_plain text) in
      ap (λ (ds : List ℕ). cond (is_plain ds && nat_lt (read_on 0 ds) limit) (Some (read_on 0 ds, drop (digit_count bytes) bytes)) None) prefix_is
      ∙ cond-false (is_plain text && nat_lt (read_on 0 text) limit) (Some (read_on 0 text, drop (digit_count bytes) bytes)) None test

  pub digits_read : (value : ℕ) (rest : List ℕ) → is_plain text ≡ true → value ≡ read_on 0 text → value < limit → rest ≡ drop count bytes
      → digits_at limit bytes ≡ Some (value, rest)
  unfolding digits_at
  digits_read value rest plain value_is below rest_is =
      let low : nat_lt (read_on 0 text) limit ≡ true = lt-ltb _ _ (omega (arith, value_is, below)) in
      let test : (is_plain text && nat_lt (read_on 0 text) limit) ≡ true =
      ap (λ (t : Bool). t && nat_lt (read_on 0 text) limit) plain ∙ low in
      let left : drop (digit_count bytes) bytes ≡ rest = sym (rest_is ∙ ap (λ (k : ℕ). drop k bytes) count_is) in
      ap (λ (ds : List ℕ). cond (is_plain ds && nat_lt (read_on 0 ds) limit) (Some (read_on 0 ds, drop (digit_count bytes) bytes)) None) prefix_is
      ∙ cond-true (is_plain text && nat_lt (read_on 0 text) limit) (Some (read_on 0 text, drop (digit_count bytes) bytes)) None test
      ∙ (λ i. Some (sym value_is i, left i))
