-- How long lists, lines and their words are.
use Rattle.std.specs.Prelude.{All, slice_index_or, filter}
use Rattle.std.proofs.Common.{◌≡◌, ℕ, ◌+◌, ◌*◌, ◌≤◌, suc, Bool, List, [], ◌∷◌, ◌++◌, codes, cond, true, false, length, sym, subst, arith, length-append}
use Rattle.std.specs.List.{flat_map}
use Rattle.std.proofs.Math.Nat.{le_trans, mul-le-mul_right, suc-mul}
use Rattle.std.proofs.lemmas.List.Concat.{length-flat_map}
use Rattle.std.proofs.lemmas.List.Sums.{count_by-le-length, length-filter, sum_by-le}
use Rattle.px_printer.specs.Texts.{after_spaces, indented_line, text_line}

-- ---- lists

pub either-short : (b : Bool) (m : ℕ) (xs ys : List ℕ) → length xs ≤ m → length ys ≤ m → length (cond b xs ys) ≤ m
either-short true m xs ys one other = one
either-short false m xs ys one other = other

-- one more item, each of the same length
pub one-more : (count m n rest : ℕ) → n ≤ m → rest ≤ count * m → n + rest ≤ suc count * m
one-more count m n rest one more = omega (arith, one, more, suc-mul count m)

pub flat-short : {X Y : Type 0} (f : X → List Y) (m : ℕ) (xs : List X) → All (λ x. length (f x) ≤ m) xs
    → length (flat_map f xs) ≤ length xs * m
flat-short f m xs all = subst (λ (n : ℕ). n ≤ length xs * m) (sym (length-flat_map f xs)) (sum_by-le (λ x. length (f x)) m xs all)

pub flat-within : {X Y : Type 0} (f : X → List Y) (m n : ℕ) (xs : List X) → length xs ≤ n → All (λ x. length (f x) ≤ m) xs
    → length (flat_map f xs) ≤ n * m
flat-within f m n xs few all = le_trans (flat-short f m xs all) (mul-le-mul_right m few)

pub all-of : {X : Type 0} (P : X → Type 0) (xs : List X) → ((x : X) → P x) → All P xs
all-of P xs each k d below = each (slice_index_or xs k d)

pub filter-short : {X : Type 0} (p : X → Bool) (xs : List X) → length (filter p xs) ≤ length xs
filter-short p xs = subst (λ (n : ℕ). n ≤ length xs) (sym (length-filter p xs)) (count_by-le-length p xs)

-- ---- lines

-- the words, with a space before each
abbrev pub words_size : List (List ℕ) → ℕ
words_size [] = 0
words_size (word ∷ words) = length word + (1 + words_size words)

pub size-append : (words others : List (List ℕ)) → words_size (words ++ others) ≡ words_size words + words_size others
size-append [] others = omega arith
size-append (word ∷ words) others = omega (arith, size-append words others)

pub spaced-short : (words : List (List ℕ)) → length (after_spaces words) ≤ words_size words
spaced-short [] = omega arith
spaced-short (word ∷ words) = omega (arith, length-append (codes " " ++ word) (after_spaces words), spaced-short words)

pub line-short : (words : List (List ℕ)) → length (text_line words) ≤ words_size words + 1
line-short [] = omega arith
line-short (word ∷ []) = omega (arith, length-append word (codes "\n"))
line-short (word ∷ next ∷ words) =
    omega (arith, length-append word (codes " " ++ text_line (next ∷ words)), line-short (next ∷ words))

pub indented-short : (words : List (List ℕ)) → length (indented_line words) ≤ words_size words + 3
indented-short words = omega (arith, line-short words)
