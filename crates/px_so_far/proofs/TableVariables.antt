-- Variables of a table's block by their names, and what its lines change.
use Rattle.px_so_far.proofs.Common.{◌≡◌, ◌≢◌, ℕ, suc, ◌<◌, ◌≤◌, ◌+◌, ◌-◌, true, false, List, [], ◌∷◌, ◌++◌, map, length, get_or, drop, refl, sym, ap, ◌∙◌, subst, arith, inl, inr, cases_lt, Option, None, Some, Result, Ok, codes, get_or_append_left, has_name, number_in, bytes_eq, bytes_eq-Decides, by_test, list_any, list_any-map, length-map, length-append}
use Rattle.px_script.proofs.Common.{or_parts, all_ascii_digits, digits_value}
use Rattle.std.specs.Prelude.{is_some, position, ◌^◌, ◌/◌, ◌%◌}
use Rattle.std.proofs.Common.{zero, OkIff}
use Rattle.std.proofs.lemmas.Fmt.{decimal_by_steps, decimal-digits_value, decimal_digit, decimal_is_IsNumeral, parse-decimal}
use Rattle.std.proofs.lemmas.List.FromFn.{length-range_with_len}
use Rattle.std.proofs.lemmas.Str.Parse.{parse_plain}
use Rattle.std.specs.Fmt.{decimal, digits}
use Rattle.std.specs.List.{position_or_len, range_with_len}
use Rattle.std.specs.Str.Parse.{ParsesUnsigned}
use Rattle.px_lines.proofs.Numbers.{own}
use Rattle.px_script.proofs.Lists.{within, number-kept, number-unknown, number-after, number-below}
use Rattle.px_script.specs.Causes.{is_numbered_by}
use Rattle.px_script.specs.Declarations.{letter_numbers}
use Rattle.px_so_far.specs.LineVariables.{IsPlaceAmong, goal_names, table_names}

-- ---- numbers after a letter

module _ (letter : ℕ) where
  abbrev numbered : ℕ → List ℕ
  numbered k = letter ∷ decimal k

  -- equal names have equal numbers
  same-number : (j k : ℕ) → j < 2 ^ 64 → k < 2 ^ 64 → numbered j ≡ numbered k → j ≡ k
  same-number j k small below same =
      let text : decimal j ≡ decimal k = ap (drop 1) same in
      sym (decimal_is_IsNumeral j small).1 ∙ ap (digits_value 10) text ∙ (decimal_is_IsNumeral k below).1

  unlike : (v w : List ℕ) → v ≢ w → bytes_eq v w ≡ false
  unlike v w other = by_test (bytes_eq v w) (λ e. absurd (other ((bytes_eq-Decides v w).0 e))) (λ e. e)

  none-from : (v : List ℕ) (first n : ℕ) → ((k : ℕ) → first ≤ k → k < first + n → v ≢ numbered k)
      → list_any (bytes_eq v) (map numbered (range_with_len first n)) ≡ false
  none-from v first zero none = refl
  none-from v first (suc n) none =
      let head = unlike v (numbered first) (none first (omega arith) (omega arith)) in
      let tail = none-from v (first + 1) n (λ k above below. none k (omega (arith, above)) (omega (arith, below))) in
      rw (head, tail) refl

  one-from : (v : List ℕ) (first n k : ℕ) → v ≡ numbered k → k < 2 ^ 64 → first ≤ k → k < first + n
      → (list_any (bytes_eq v) (map numbered (range_with_len first n)) ≡ true)
      × (position_or_len (bytes_eq v) (map numbered (range_with_len first n)) ≡ k - first)
  one-from v first zero k is small above below = absurd (omega (arith, above, below))
  one-from v first (suc n) k is small above below = elim (cases_lt first k) [
    | inl later ↦
        (let other : v ≢ numbered first = λ e. omega (arith, later, same-number first k (omega (arith, later, small)) small (sym e ∙ is)) in
        let head = unlike v (numbered first) other in
        let more = one-from v (first + 1) n k is small (omega (arith, later)) (omega (arith, below)) in
        let count : 1 + (k - (first + 1)) ≡ k - first = omega (arith, later) in
        (rw (head, more.0) refl, rw head (ap (λ m. 1 + m) more.1 ∙ count)))
    | inr here ↦
        (let same : first ≡ k = omega (arith, here, above) in
        let head : bytes_eq v (numbered first) ≡ true = (bytes_eq-Decides v (numbered first)).1 (is ∙ ap numbered (sym same)) in
        let count : 0 ≡ k - first = omega (arith, here) in
        (rw head refl, rw head count))
  ]

numbers-count : (letter most : ℕ) → length (letter_numbers letter most) ≡ most
numbers-count letter most = length-map (range_with_len 1 most) (λ k. letter ∷ decimal k) ∙ length-range_with_len 1 most

-- the text of a number above 0 doesn't begin with a zero or a sign
abbrev BeginsAbove : ℕ → List ℕ → Type 0
BeginsAbove n ds = (0 < length ds) × (0 < n → 48 < get_or ds 0 0)

decimal-begins : (n : ℕ) → n < 2 ^ 64 → BeginsAbove n (decimal n)
decimal-begins = decimal_by_steps BeginsAbove (λ n small. (omega arith, λ some. omega (arith, some))) (λ n ds large is. (
  omega (arith, length-append ds ((48 + n % 10) ∷ []), is.0),
  λ some. let tenth : 0 < n / 10
      = omega (arith, large) in rw (get_or_append_left ds ((48 + n % 10) ∷ []) 0 0 is.0) (is.1 tenth),
))

-- ---- the names of parameters

module _ (v : List ℕ) (parameters : ℕ) where
  abbrev IsPlace : Option ℕ → Type 0
  IsPlace = IsPlaceAmong (letter_numbers 112 parameters) v

  no-parameter : ((k : ℕ) → 0 < k → k ≤ parameters → v ≢ 112 ∷ decimal k) → IsPlace None
  no-parameter none = none-from 112 v 1 parameters (λ k above below. none k (omega (arith, above)) (omega (arith, below)))

  -- without the letter in front
  pub no-letter : ((rest : List ℕ) → v ≢ 112 ∷ rest) → IsPlace None
  no-letter none = no-parameter (λ k above below. none (decimal k))

  -- with a zero or a sign after it
  pub no-digit : (ds : List ℕ) → parameters < 2 ^ 32 → v ≡ 112 ∷ ds → get_or ds 0 0 ≤ 48 → IsPlace None
  no-digit ds few is low = no-parameter (λ k above below e. let same : ds ≡ decimal k = ap (drop 1) (sym is ∙ e) in
      let high : 48 < get_or ds 0 0 = subst (λ t. 48 < get_or t 0 0) (sym same) ((decimal-begins k (omega (arith, below, few))).1 above) in
      omega (arith, high, low))

  -- where no number of a parameter is read
  pub no-number : {E : Type 0} (ds : List ℕ) (r : Result ℕ E) → parameters < 2 ^ 32 → v ≡ 112 ∷ ds → ParsesUnsigned 32 10 ds r
      → ((n : ℕ) → r ≡ Ok n → ¬ (n ≤ parameters)) → IsPlace None
  no-number ds r few is parses none = no-parameter (λ k above below e. let same : ds ≡ decimal k = ap (drop 1) (sym is ∙ e) in
      none k (parse-decimal 32 k ds r (omega (arith, below, few)) (omega (arith, below, few)) same parses) below)

  -- the number of one is read
  pub a-number : {E : Type 0} (ds : List ℕ) (r : Result ℕ E) (n : ℕ) → parameters < 2 ^ 32 → v ≡ 112 ∷ ds → ParsesUnsigned 32 10 ds r
      → r ≡ Ok n → n ≤ parameters → get_or ds 0 0 ≢ 48 → get_or ds 0 0 ≢ 43 → (0 < n) × IsPlace (Some (n - 1))
  a-number ds r n few is parses ok small no_zero no_sign =
      let P : Result ℕ _ → Type 0 = λ t. OkIff t ((all_ascii_digits ds ≡ true) × (0 < length ds) × (digits_value 10 ds < 2 ^ 32))
      (digits_value 10 ds) in let read = subst P ok (parse_plain own 32 ds r parses no_sign) in
      let value : n ≡ digits_value 10 ds = read.1 in
      let text : decimal (digits_value 10 ds) ≡ ds
      = decimal-digits_value own ds read.0.0 read.0.1 (λ e. absurd (no_zero e)) (omega (arith, read.0.2)) in
      let above : 0 < n = elim (cases_lt 0 n) [
        | inl some ↦ some
        | inr none ↦ (let zero : digits_value 10 ds ≡ 0
            = omega (arith, none, value) in
            absurd (no_zero (ap (λ t. get_or t 0 0) (sym text ∙ ap decimal zero ∙ decimal_digit 0 (omega arith)))))
      ] in
      let named : v ≡ 112 ∷ decimal n = is ∙ ap (λ t. 112 ∷ t) (sym text) ∙ ap (λ m. 112 ∷ decimal m) (sym value) in
      let found = one-from 112 v 1 parameters n named (omega (arith, small, few)) (omega (arith, above)) (omega (arith, small)) in
      (above, (found.0, sym (number-known-at n found.0 found.1)))
    where
      number-known-at : (n : ℕ) → list_any (bytes_eq v) (letter_numbers 112 parameters) ≡ true
          → position_or_len (bytes_eq v) (letter_numbers 112 parameters) ≡ n - 1 → number_in v (letter_numbers 112 parameters) ≡ n - 1
      number-known-at n there place = rw (within (bytes_eq v) (letter_numbers 112 parameters), there) place

-- a test of a letter's numbers asks for one of its names
pub numbered-is : (letter most : ℕ) (v : List ℕ) → has_name v (letter_numbers letter most) ≡ is_numbered_by letter most v
numbered-is letter most v = list_any-map (bytes_eq v) (λ k. letter ∷ decimal k) (range_with_len 1 most)

pub place-numbered : (letter most : ℕ) (v : List ℕ) (r : Option ℕ) → IsPlaceAmong (letter_numbers letter most) v r
    → is_some r ≡ is_numbered_by letter most v
place-numbered letter most v None none = sym none ∙ numbered-is letter most v
place-numbered letter most v (Some place) is = sym is.0 ∙ numbered-is letter most v

-- ---- the variables of a goal, one by one

pub goal-names-are : (codes "g1" ∷ codes "g2" ∷ codes "g3" ∷ codes "g4" ∷ codes "g5" ∷ codes "g6" ∷ codes "g7" ∷ codes "g8" ∷ codes "g9"
    ∷ codes "g10" ∷ codes "g11" ∷ codes "g12" ∷ []) ≡ goal_names
unfolding digits
goal-names-are = refl

pub goal-place : (v : List ℕ) (r : Option ℕ) → r ≡ position (bytes_eq v) goal_names → IsPlaceAmong goal_names v r
goal-place v None is = by_test (has_name v goal_names) (λ e. absurd (cc (rw (within (bytes_eq v) goal_names, e) at is))) (λ e. e)
goal-place v (Some place) is = by_test (has_name v goal_names)
    (λ e. (e, let one = rw (within (bytes_eq v) goal_names, e) at is in rw (within (bytes_eq v) goal_names, e) cc))
    (λ e. absurd (cc (rw (within (bytes_eq v) goal_names, e) at is)))

-- ---- numbers of both

module _ (v : List ℕ) (parameters : ℕ) where
  pub a-parameter : (place : ℕ) → IsPlaceAmong (letter_numbers 112 parameters) v (Some place) → place ≡ number_in v (table_names parameters)
  a-parameter place is = is.1 ∙ sym (number-kept v (letter_numbers 112 parameters) goal_names is.0)

  pub of-goal : (place : ℕ) → IsPlaceAmong (letter_numbers 112 parameters) v None → IsPlaceAmong goal_names v (Some place)
      → parameters + place ≡ number_in v (table_names parameters)
  of-goal place none is = ap (λ n. n + place) (sym (numbers-count 112 parameters))
      ∙ ap (λ n. length (letter_numbers 112 parameters) + n) is.1
      ∙ sym (number-after v (letter_numbers 112 parameters) goal_names none is.0)

  pub of-none : IsPlaceAmong (letter_numbers 112 parameters) v None → IsPlaceAmong goal_names v None
      → 0 ≡ number_in v (table_names parameters)
  of-none none other = sym (number-unknown v (table_names parameters) (list_any-both none other))
    where
      list_any-both : has_name v (letter_numbers 112 parameters) ≡ false → has_name v goal_names ≡ false
          → has_name v (table_names parameters) ≡ false
      list_any-both none other = any-both (letter_numbers 112 parameters) none
        where
          any-both : (xs : List (List ℕ)) → has_name v xs ≡ false → has_name v (xs ++ goal_names) ≡ false
          any-both [] none = other
          any-both (x ∷ xs) none = let both = or_parts (bytes_eq v x) (has_name v xs) none in rw (both.0, any-both xs both.1) refl

  pub place-below : (place : ℕ) → IsPlaceAmong (letter_numbers 112 parameters) v (Some place) → place < parameters
  place-below place is = let below = number-below v (letter_numbers 112 parameters) is.0 in
      omega (arith, is.1, below, numbers-count 112 parameters)
