-- A demo that is ordered has its numbers in their ranges.
use Rattle.std.proofs.Common.{◌≡◌, ◌≤◌, ◌&&◌, ℕ, List, [], ◌∷◌, codes, sym, subst, leb-true}
use Rattle.std.specs.Prelude.{nat_le, if◌then◌else◌, Option, None, Some, IfSome, option_and_then, option_map}
use Rattle.std.specs.Str.{bytes_eq}
use Rattle.std.specs.Str.Parse.{digits_value}
use Rattle.std.proofs.lemmas.Bool.{and_parts, cond_both}
use Rattle.px_words.specs.Numbers.{in_range, is_number, number_within}
use Rattle.px_words.specs.Orders.{HasRanges, demo_order, lone_order, order_of}
use Rattle.px_words.specs.Reading.{order_in}
use Rattle.px_words.specs.declared.orders.Order.{Order}
use Rattle.px_words.specs.declared.orders.Order.TheVariants.{Check, Demo, Run}

abbrev IsBetween : ℕ → ℕ → ℕ → Type 0
IsBetween least most n = (least ≤ n) × (n ≤ most)

within-range : (least most n : ℕ) → IfSome (in_range least most n) (IsBetween least most)
within-range least most n = cond_both (nat_le least n && nat_le n most) (Some n) None (λ (o : Option ℕ). IfSome o (IsBetween least most))
    (λ both. let parts = and_parts (nat_le least n) (nat_le n most) both in (leb-true least n parts.0, leb-true n most parts.1)) (λ out. tt)

number-ranges : (least most : ℕ) (text : List ℕ) → IfSome (number_within least most text) (IsBetween least most)
number-ranges least most text =
    cond_both (is_number text) (in_range least most (digits_value 10 text)) None (λ (o : Option ℕ). IfSome o (IsBetween least most))
    (λ is. within-range least most (digits_value 10 text)) (λ is. tt)

both-ranges : (rooms seed : Option ℕ) → IfSome rooms (IsBetween 3 12) → IfSome seed (IsBetween 0 2147483647)
    → HasRanges (option_and_then (λ (n : ℕ). option_map (Demo n) seed) rooms)
both-ranges None seed p q = tt
both-ranges (Some rooms) None p q = tt
both-ranges (Some rooms) (Some seed) p q = (p.0, p.1, q.1)

demo-ranges : (word rooms seed : List ℕ) → HasRanges (order_in word (Some rooms) (Some seed))
demo-ranges word rooms seed = cond_both (bytes_eq word (codes "demo")) (demo_order rooms seed) None HasRanges
    (λ is. both-ranges (number_within 3 12 rooms) (number_within 0 2147483647 seed) (number-ranges 3 12 rooms)
    (number-ranges 0 2147483647 seed)) (λ is. tt)

lone-ranges : (word : List ℕ) → HasRanges (lone_order word)
lone-ranges word = cond_both (bytes_eq word (codes "run")) (Some Run) (if bytes_eq word (codes "check") then Some Check else None) HasRanges
    (λ is. tt) (λ is. cond_both (bytes_eq word (codes "check")) (Some Check) None HasRanges (λ is. tt) (λ is. tt))

pub order_ranges : (words : List (List ℕ)) → HasRanges (order_of words)
order_ranges [] = tt
order_ranges (word ∷ []) = lone-ranges word
order_ranges (word ∷ rooms ∷ []) = tt
order_ranges (word ∷ rooms ∷ seed ∷ []) = demo-ranges word rooms seed
order_ranges (word ∷ rooms ∷ seed ∷ more ∷ words) = tt

pub ranges_of : (order : Option Order) (words : List (List ℕ)) → order ≡ order_of words → HasRanges order
ranges_of order words is = subst HasRanges (sym is) (order_ranges words)
