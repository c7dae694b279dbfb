-- What the words of the command line order.
use Rattle.std.specs.Prelude.{◌≤◌, ℕ, List, [], ◌∷◌, codes, if◌then◌else◌, Option, None, Some, option_and_then, option_map}
use Rattle.std.specs.Str.{bytes_eq}
use Rattle.px_demo.specs.Limits.{least_rooms, most_rooms, most_seed}
use Rattle.px_words.specs.Numbers.{number_within}
use Rattle.px_words.specs.declared.orders.Order.{Order}
use Rattle.px_words.specs.declared.orders.Order.TheVariants.{Run, Demo, Check}

-- what `demo` orders with two words: rooms from the fewest to the most, and a seed up to the greatest
abbrev pub demo_order : (rooms seed : List ℕ) → Option Order
demo_order rooms seed = option_and_then (λ rooms. option_map (Demo rooms) (number_within 0 most_seed seed)) (number_within least_rooms most_rooms rooms)

-- what a word orders that stands alone: `run` or `check`
abbrev pub lone_order : List ℕ → Option Order
lone_order word = if bytes_eq word (codes "run") then Some Run else (if bytes_eq word (codes "check") then Some Check else None)

-- what the words order, if they are taken: `run`, `check` or `demo ROOMS SEED`
abbrev pub order_of : List (List ℕ) → Option Order
order_of (word ∷ []) = lone_order word
order_of (word ∷ rooms ∷ seed ∷ []) = if bytes_eq word (codes "demo") then demo_order rooms seed else None
order_of [] = None
order_of (word ∷ rooms ∷ []) = None
order_of (word ∷ rooms ∷ seed ∷ more ∷ words) = None

-- a demo that is ordered is one of those that there are
abbrev pub HasRanges : Option Order → Type 0
HasRanges (Some (Demo rooms seed)) = (least_rooms ≤ rooms) × (rooms ≤ most_rooms) × (seed ≤ most_seed)
HasRanges (Some Run) = Unit {0}
HasRanges (Some Check) = Unit {0}
HasRanges None = Unit {0}
