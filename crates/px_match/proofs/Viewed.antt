-- What holds of the fields of a matcher holds of what contracts see.
use Rattle.std.specs.Prelude.{◌≡◌, ℕ, ◌<◌, ◌≤◌, ◌+◌, ◌&&◌, Bool, true, false, not, nat_le, Some, None, List, [], ◌∷◌, ◌++◌, length, take, drop, find, cond}
use Rattle.std.proofs.Common.{zero, suc, refl, sym, ap, ◌∙◌, subst, get_or, append-nil, arith}
use Rattle.std.proofs.lemmas.Bool.Decides.{nat_tests}
use Rattle.std.proofs.lemmas.List.{drop_all, take_all}
use Rattle.px_terms.specs.declared.atom.Atom.{Atom}
use Rattle.px_terms.specs.declared.problem.Problem.{Problem}
use Rattle.px_table.specs.declared.table.Table.{Table}
use Rattle.px_match.specs.Matching.{IsHighest, NoKernelFits}
use Rattle.px_match.specs.MatcherValue.{MatcherValue, kernel_with}

pub none_viewed : (value : MatcherValue) (problem : Problem) (table : Table) (bound : List (ℕ × ℕ)) (room : ℕ) (instance : List ℕ)
    (pairs : List (ℕ × ℕ)) (atoms : List Atom)
    → value ≡ record { problem = problem; table = table; bound = bound; room = room; instance = instance } → pairs ≡ bound
    → NoKernelFits problem table pairs atoms → NoKernelFits value.problem value.table value.bound atoms
none_viewed value problem table bound room instance pairs atoms view same none =
    subst (λ (v : MatcherValue). NoKernelFits v.problem v.table v.bound atoms) (sym view)
    (subst (λ b. NoKernelFits problem table b atoms) same none)

pub highest_viewed : (value : MatcherValue) (problem : Problem) (table : Table) (bound : List (ℕ × ℕ)) (room : ℕ) (instance : List ℕ)
    (pairs : List (ℕ × ℕ)) (atoms : List Atom) (work objects : List ℕ) (number : ℕ)
    → value ≡ record { problem = problem; table = table; bound = bound; room = room; instance = instance } → pairs ≡ bound → objects ≡ work
    → IsHighest problem table pairs atoms (kernel_with work number)
    → IsHighest value.problem value.table value.bound atoms (kernel_with objects number)
highest_viewed value problem table bound room instance pairs atoms work objects number view same copied highest =
    subst (λ (v : MatcherValue). IsHighest v.problem v.table v.bound atoms (kernel_with objects number)) (sym view)
    (subst (λ b. IsHighest problem table b atoms (kernel_with objects number)) same
    (subst (λ w. IsHighest problem table pairs atoms (kernel_with w number)) (sym copied) highest))

-- ---- the first item that passes

pub find_next : {X : Type 0} (p : X → Bool) (xs : List X) (i : ℕ) (d : X) → i < length xs → p (get_or xs i d) ≡ false
    → find p (drop i xs) ≡ find p (drop (i + 1) xs)
find_next p [] i d below fails = absurd (omega (arith, below))
find_next p (x ∷ xs) zero d below fails = ap (λ b. cond b (Some x) (find p xs)) fails
find_next p (x ∷ xs) (suc i) d below fails =
    let up : suc i + 1 ≡ suc (i + 1) = omega arith in
    subst (λ n. find p (drop i xs) ≡ find p (drop n (x ∷ xs))) (sym up) (find_next p xs i d (omega (arith, below)) fails)

pub find_here : {X : Type 0} (p : X → Bool) (xs : List X) (i : ℕ) (d : X) → i < length xs → p (get_or xs i d) ≡ true
    → find p (drop i xs) ≡ Some (get_or xs i d)
find_here p [] i d below passes = absurd (omega (arith, below))
find_here p (x ∷ xs) zero d below passes = ap (λ b. cond b (Some x) (find p xs)) passes
find_here p (x ∷ xs) (suc i) d below passes = find_here p xs i d (omega (arith, below)) passes

pub find_end : {X : Type 0} (p : X → Bool) (xs : List X) (i : ℕ) → length xs ≤ i → find p (drop i xs) ≡ None
find_end p [] zero end = refl
find_end p [] (suc i) end = refl
find_end p (x ∷ xs) zero end = absurd (omega (arith, end))
find_end p (x ∷ xs) (suc i) end = find_end p xs i (omega (arith, end))

-- ---- parameters that aren't the table's

pub is_low : (a params : ℕ) → a < 1 → not (nat_le 1 a && nat_le a params) ≡ true
is_low a params low = grind (arith, nat_tests)

pub is_high : (a params : ℕ) → params < a → not (nat_le 1 a && nat_le a params) ≡ true
is_high a params high = grind (arith, nat_tests)

pub is_among : (a params : ℕ) → 1 ≤ a → a ≤ params → not (nat_le 1 a && nat_le a params) ≡ false
is_among a params low high = grind (arith, nat_tests)

-- ---- a list that was written whole

pub written_whole : {X : Type 0} (n : ℕ) (written old : List X) → length written ≡ length old → n ≡ length written
    → take n (written ++ drop (length written) old) ≡ written
written_whole n written old lengths all =
    ap (λ l. take n (written ++ l)) (drop_all (length written) old (omega (arith, lengths))) ∙ ap (take n) (append-nil written)
    ∙ take_all n written (omega (arith, all))
