-- Names of parameters and their numbers.
use Rattle.px_lines.proofs.Common.{◌≡◌, ◌≢◌, ℕ, ◌+◌, ◌<◌, ◌≤◌, ◌/◌, ◌%◌, ◌^◌, true, List, [], ◌∷◌, length, get_or, drop, refl, sym, ap, ◌∙◌, subst, inl, inr, arith, length-append, None, Some, Result, Ok, nat_lt, bytes_eq, all_ascii_digits, digits_value, ParsesUnsigned, ltb-true, cases_lt, nat_tests, OkIff, bytes_eq-Decides, parse_plain, is_parameter_number, parameter_name, parameter_if, parameter_of, by_test, and_parts, get_or_append_left}
use Rattle.std.specs.Fmt.{decimal}
use Rattle.std.proofs.lemmas.Fmt.{decimal_by_steps, decimal-digits_value, decimal_digit, parse-decimal}
use Rattle.px_script.specs.declared.limits.TheConstants.{LAST_PARAMETER as last_parameter}
use Rattle.px_lines.proofs.Numbers.{own}

-- the text of a number above 0 doesn't begin with a zero or a sign
abbrev BeginsAbove : ℕ → List ℕ → Type 0
BeginsAbove n ds = (0 < length ds) × (0 < n → 48 < get_or ds 0 0)

decimal-begins : (n : ℕ) → n < 2 ^ 64 → BeginsAbove n (decimal n)
decimal-begins = decimal_by_steps BeginsAbove (λ n small. (omega arith, λ some. omega (arith, some))) (λ n ds large is. (
  omega (arith, length-append ds ((48 + n % 10) ∷ []), is.0),
  λ some. let tenth : 0 < n / 10
      = omega (arith, large) in rw (get_or_append_left ds ((48 + n % 10) ∷ []) 0 0 is.0) (is.1 tenth),
))

pub no-parameter : (w : List ℕ) (k : ℕ) → (0 < k → k < 10000 → w ≢ parameter_name k) → parameter_if w k ≡ None
no-parameter w k not = by_test (bytes_eq w (parameter_name k)) (λ e. by_test (is_parameter_number k)
    (λ f. let both = and_parts (nat_lt 0 k) (nat_lt k 10000) f in elim
    (not (ltb-true 0 k both.0) (ltb-true k 10000 both.1) ((bytes_eq-Decides w (parameter_name k)).0 e)) [ ]) (λ f. rw (e, f) refl))
    (λ e. rw e refl)

-- without the letter in front
pub no-letter : (w : List ℕ) → ((rest : List ℕ) → w ≢ 112 ∷ rest) → None ≡ parameter_of w
no-letter w none = sym (no-parameter w _ (λ above below e. none (decimal _) e))

-- with a zero or a sign after it
pub no-digit : (w ds : List ℕ) → w ≡ 112 ∷ ds → get_or ds 0 0 ≤ 48 → None ≡ parameter_of w
no-digit w ds is low = sym (no-parameter w _ (λ above below e. let same : ds ≡ decimal _ = ap (drop 1) (sym is ∙ e) in
    let P : List ℕ → Type 0 = λ t. 48 < get_or t 0 0 in let high = subst P (sym same) ((decimal-begins _ (omega (arith, below))).1 above) in
    omega (arith, high, low)))

-- where no number of a parameter is read
pub no-number : {E : Type 0} (w ds : List ℕ) (r : Result ℕ E) → w ≡ 112 ∷ ds → ParsesUnsigned 32 10 ds r
    → ((n : ℕ) → r ≡ Ok n → ¬ (n ≤ last_parameter)) → None ≡ parameter_of w
no-number w ds r is parses none = sym (no-parameter w _ (λ above below e. let same : ds ≡ decimal _ = ap (drop 1) (sym is ∙ e) in
    none _ (parse-decimal 32 _ ds r (omega (arith, below)) (omega (arith, below)) same parses) (omega (arith, below))))

parameter-is : (w : List ℕ) (k : ℕ) → w ≡ parameter_name k → 0 < k → k < 10000 → Some k ≡ parameter_if w k
parameter-is w k is above below = let same : bytes_eq w (parameter_name k) ≡ true = (bytes_eq-Decides w (parameter_name k)).1 is in
    let good : is_parameter_number k ≡ true = grind (arith, nat_tests) in rw (same, good) refl

-- with the letter and a number
pub a-number : {E : Type 0} (w ds : List ℕ) (r : Result ℕ E) (n : ℕ) → w ≡ 112 ∷ ds → ParsesUnsigned 32 10 ds r → r ≡ Ok n
    → n ≤ last_parameter → get_or ds 0 0 ≢ 48 → get_or ds 0 0 ≢ 43 → Some n ≡ parameter_of w
a-number w ds r n is parses ok small no_zero no_sign =
    let P : Result ℕ _ → Type 0 = λ t. OkIff t ((all_ascii_digits ds ≡ true) × (0 < length ds) × (digits_value 10 ds < 2 ^ 32))
    (digits_value 10 ds) in let read = subst P ok (parse_plain own 32 ds r parses no_sign) in let value : n ≡ digits_value 10 ds = read.1 in
    let text : decimal (digits_value 10 ds) ≡ ds
    = decimal-digits_value own ds read.0.0 read.0.1 (λ e. absurd (no_zero e)) (omega (arith, read.0.2)) in
    let above : 0 < digits_value 10 ds = elim (cases_lt 0 (digits_value 10 ds)) [
      | inl some ↦ some
      | inr none ↦ (let zero : digits_value 10 ds ≡ 0
          = omega (arith, none) in absurd (no_zero (ap (λ t. get_or t 0 0) (sym text ∙ ap decimal zero ∙ decimal_digit 0 (omega arith)))))
    ] in let named : w ≡ parameter_name (digits_value 10 ds) = is ∙ ap (λ t. 112 ∷ t) (sym text) in
    ap Some value ∙ parameter-is w (digits_value 10 ds) named above (omega (arith, value, small))
    ∙ ap (λ t. parameter_if w (digits_value 10 (drop 1 t))) (sym is)
