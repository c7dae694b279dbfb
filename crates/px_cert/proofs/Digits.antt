-- Numbers are read as they are written.
use Rattle.std.proofs.Common.{rules, ◌≡◌, ◌≤◌, ◌<◌, ◌+◌, ◌^◌, ◌&&◌, ℕ, zero, suc, true, false, cond, eqb, ltb, List, [], ◌∷◌, ◌++◌, length, get_or, take, drop, Some, None, refl, sym, ap, subst, ◌∙◌, arith, eq-eqb, lt-ltb, leb-true, le-leb}
use Rattle.std.specs.Prelude.{◌||◌, codes, nat_le, not}
use Rattle.std.specs.Char.{is_ascii_digit}
use Rattle.std.specs.Fmt.{decimal}
use Rattle.std.specs.Str.{all_ascii_digits}
use Rattle.std.proofs.lemmas.Bool.{and_parts, cond-true, eqb-true, ltb-true, ne_eqb}
use Rattle.std.proofs.lemmas.Fmt.{decimal-digits_value, decimal_digit, decimal_nonempty, digits_decimal, digits_value-decimal, first_decimal}
use Rattle.std.proofs.lemmas.List.{drop_at, take-append-drop, take_at}
use Rattle.std.proofs.lemmas.Option.{cond_some}
use Rattle.std.proofs.lemmas.Str.Parse.{IsNumeralModel, numerals_by_fold}
use Rattle.px_cert.specs.Lines.{number_item}
use Rattle.px_cert.specs.Reading.{digit_count, digits_at, is_plain, number_at, read_on}
use Rattle.px_cert.proofs.Exact.{IsExact, StartsWell, behind_exact, exact_as, stops}

own : IsNumeralModel (λ ds. all_ascii_digits ds ≡ true) (read_on 0)
own = numerals_by_fold _ (search rules) read_on (search rules)

-- the first digits are digits
pub digit_prefix : (bytes : List ℕ) → all_ascii_digits (take (digit_count bytes) bytes) ≡ true
digit_prefix [] = refl
digit_prefix (b ∷ bytes) =
    elim (is_ascii_digit b) as (λ t. is_ascii_digit b ≡ t → all_ascii_digits (take (cond t (suc (digit_count bytes)) 0) (b ∷ bytes)) ≡ true) [
      | true ↦ λ is. ap (λ t. t && all_ascii_digits (take (digit_count bytes) bytes)) is ∙ digit_prefix bytes
      | false ↦ λ is. refl
    ] refl

stopped : (c : ℕ) (more : ℕ) → not (is_ascii_digit c) ≡ true → cond (is_ascii_digit c) more 0 ≡ 0
stopped c more stop = elim (is_ascii_digit c) as (λ t. not t ≡ true → cond t more 0 ≡ 0) [ true ↦ λ e. absurd (cc) | false ↦ λ e. refl ] stop

-- and where no digit follows there are no more
pub count_again : (ds rest : List ℕ) → all_ascii_digits ds ≡ true → stops rest ≡ true → digit_count (ds ++ rest) ≡ length ds
count_again [] [] is stop = refl
count_again [] (c ∷ rest) is stop = stopped c _ stop
count_again (d ∷ ds) rest is stop =
    let both = and_parts (is_ascii_digit d) (all_ascii_digits ds) is in
    cond-true (is_ascii_digit d) (suc (digit_count (ds ++ rest))) 0 both.0 ∙ ap suc (count_again ds rest both.1 stop)

plain_first : (a b : ℕ) → (not (eqb a 48) || eqb b 1) ≡ true → a ≡ 48 → b ≡ 1
plain_first a b test same = eqb-true b 1 (subst (λ t. (not t || eqb b 1) ≡ true) (eq-eqb a 48 same) test)

pub decimal_plain : (n : ℕ) → n < 2 ^ 64 → is_plain (decimal n) ≡ true
decimal_plain zero small = ap is_plain (decimal_digit 0 (omega arith))
decimal_plain (suc n) small =
    let first = first_decimal (suc n) (omega arith) small in
    let some = decimal_nonempty (suc n) small in
    let other : eqb (get_or (decimal (suc n)) 0 0) 48 ≡ false = ne_eqb _ 48 (λ same. omega (arith, same, first)) in
    let long : nat_le 1 (length (decimal (suc n))) ≡ true = le-leb 1 _ (omega (arith, some)) in
    ap (λ t. nat_le 1 (length (decimal (suc n))) && (not t || eqb (length (decimal (suc n))) 1)) other ∙ ap (λ t. t && true) long

pub digits_exact : (limit : ℕ) → limit ≤ 2 ^ 64 → IsExact (digits_at limit) decimal (λ n. n < limit)
unfolding digits_at
digits_exact limit small = record {
  takes = λ bytes x rest e.
      let ds = take (digit_count bytes) bytes in
      let g = cond_some (is_plain ds && ltb (read_on 0 ds) limit) (read_on 0 ds, drop (digit_count bytes) bytes) (x, rest) e in
      let both = and_parts (is_plain ds) (ltb (read_on 0 ds) limit) g.0 in
      let below : read_on 0 ds < limit = ltb-true _ _ both.1 in
      let plain = and_parts (nat_le 1 (length ds)) (not (eqb (get_or ds 0 0) 48) || eqb (length ds) 1) both.0 in
      let some : 1 ≤ length ds = leb-true 1 (length ds) plain.0 in
      let written : decimal (read_on 0 ds) ≡ ds =
      decimal-digits_value own ds (digit_prefix bytes) (omega (arith, some)) (plain_first (get_or ds 0 0) (length ds) plain.1)
      (omega (arith, below, small)) in
      subst (λ (q : ℕ × List ℕ). (bytes ≡ decimal q.0 ++ q.1) × (q.0 < limit)) g.1 (
        sym (take-append-drop (digit_count bytes) bytes) ∙ ap (λ (t : List ℕ). t ++ drop (digit_count bytes) bytes) (sym written),
        below,
      );
  again = λ n rest is stop.
      let low : n < 2 ^ 64 = omega (arith, is, small) in
      let ds = decimal n in
      let count = count_again ds rest (digits_decimal own n low) stop in
      let prefix : take (digit_count (ds ++ rest)) (ds ++ rest) ≡ ds =
      ap (λ k. take k (ds ++ rest)) count ∙ take_at ds rest (length ds) refl in
      let left : drop (digit_count (ds ++ rest)) (ds ++ rest) ≡ rest =
      ap (λ k. drop k (ds ++ rest)) count ∙ drop_at ds rest (length ds) refl in
      let value = digits_value-decimal own n low in
      let below : ltb (read_on 0 ds) limit ≡ true = lt-ltb _ _ (omega (arith, is, value)) in
      let test : (is_plain ds && ltb (read_on 0 ds) limit) ≡ true = ap (λ t. t && ltb (read_on 0 ds) limit) (decimal_plain n low) ∙ below in
      ap (λ (q : List ℕ × List ℕ). cond (is_plain q.0 && ltb (read_on 0 q.0) limit) (Some (read_on 0 q.0, q.1)) None) (λ i. (prefix i, left i))
      ∙ cond-true (is_plain ds && ltb (read_on 0 ds) limit) (Some (read_on 0 ds, rest)) None test ∙ ap (λ (v : ℕ). Some (v, rest)) value;
}

pub number_exact : (limit : ℕ) → limit ≤ 2 ^ 64 → IsExact (number_at limit) number_item (λ n. n < limit)
unfolding number_at
number_exact limit small = behind_exact (digits_at limit) decimal (λ n. n < limit) (digits_exact limit small) (codes " ")

-- the same at most a number
pub count_exact : (limit : ℕ) → limit < 2 ^ 64 → IsExact (number_at (limit + 1)) number_item (λ n. n ≤ limit)
count_exact limit small =
    exact_as _ number_item (λ n. n < limit + 1) (number_exact (limit + 1) (omega arith)) (λ n. n ≤ limit) (λ n is. omega (arith, is))
    (λ n is. omega (arith, is))

pub number_starts : StartsWell number_item
number_starts = record { starts = λ n rest stop. refl }
