-- The numbers of names and of variables are read back, and so are terms and atoms.
use Rattle.std.specs.Prelude.{◌-◌, ◌^◌}
use Rattle.px_script.specs.Causes.{is_numbered_by}
use Rattle.std.proofs.lemmas.Fmt.{decimal_injective}
use Rattle.std.proofs.lemmas.List.FromFn.{length-map-range_with_len}
use Rattle.std.proofs.lemmas.Option.{slice_get-get_or}
use Rattle.px_names.specs.NameLaws.{number_of_name, bytes_eq-other}
use Rattle.px_script.specs.Declarations.{letter_numbers}
use Rattle.px_script.proofs.Common.{◌≡◌, ◌≢◌, ℕ, zero, suc, ◌+◌, ◌<◌, ◌≤◌, true, false, List, [], ◌∷◌, ◌++◌, map, length, get_or, refl, sym, ap, ◌∙◌, subst, arith, append_assoc, nat_lt, Option, None, Some, AllByRecursion, slice_get, position, unwrap_or, is_some, list_any, range_with_len, bytes_eq, bytes_eq-itself, list_any-append, list_any_at, decimal, NameLists, has_name, AreDistinct, number_in, length-append, cases_lt, inl, inr, both_answers, term_of, Term, Obj, Var, Any, nat_tests}
use Rattle.px_script.proofs.Lists.{by_test, number-new, known-last, some-position}
use Rattle.px_saved.proofs.Written.{written_variable, written_term}

-- ---- names

pub number-back : (names : List (List ℕ)) (n : ℕ) → AreDistinct names → n < length names
    → number_in (unwrap_or (slice_get names n) []) names ≡ n
number-back names n distinct below = let at = slice_get-get_or names n [] below in
    rw at (ap (λ found. unwrap_or found 0) (number_of_name names n (get_or names n []) distinct at))

pub name-known : (names : List (List ℕ)) (n : ℕ) → n < length names → has_name (unwrap_or (slice_get names n) []) names ≡ true
name-known names n below = rw (slice_get-get_or names n [] below)
    (list_any_at (bytes_eq (get_or names n [])) names n [] below (bytes_eq-itself (get_or names n [])))

-- ---- variables by letter and number

-- a greater number isn't among them, nor is another letter
later-new : (letter k : ℕ) (most : ℕ) → most < k → k < 2 ^ 31 → has_name (letter ∷ decimal k) (letter_numbers letter most) ≡ false
later-new letter k most above below = from 1 most (omega (arith, above))
  where
    from : (first n : ℕ) → first + n ≤ k → has_name (letter ∷ decimal k) (map (λ j. letter ∷ decimal j) (range_with_len first n)) ≡ false
    from first zero few = refl
    from first (suc n) few =
        rw (bytes_eq-other (letter ∷ decimal k) (letter ∷ decimal first)
        (λ same. let d = decimal_injective k first (omega (arith, below)) (omega (arith, below, few)) (cc) in omega (arith, few, d)))
        (from (first + 1) n (omega (arith, few)))

other-new : (letter other k most : ℕ) → letter ≢ other → has_name (letter ∷ decimal k) (letter_numbers other most) ≡ false
other-new letter other k most apart = from 1 most
  where
    from : (first n : ℕ) → has_name (letter ∷ decimal k) (map (λ j. other ∷ decimal j) (range_with_len first n)) ≡ false
    from first zero = refl
    from first (suc n) = rw (bytes_eq-other (letter ∷ decimal k) (other ∷ decimal first) (λ same. absurd (apart (cc)))) (from (first + 1) n)

-- the list goes on after its first variables
goes-on : (letter n most : ℕ) → n < most
    → (more : List (List ℕ)) × (letter_numbers letter most ≡ letter_numbers letter n ++ (letter ∷ decimal (n + 1)) ∷ more)
goes-on letter n most below = let r = from 1 n most below in
    (r.0, r.1 ∙ ap (λ k. letter_numbers letter n ++ (letter ∷ decimal k) ∷ r.0) (omega arith))
  where
    from : (first n most : ℕ) → n < most → (more : List (List ℕ))
        × (map (λ j. letter ∷ decimal j) (range_with_len first most)
        ≡ map (λ j. letter ∷ decimal j) (range_with_len first n) ++ (letter ∷ decimal (first + n)) ∷ more)
    from first n zero few = absurd (omega (arith, few))
    from first zero (suc most) few = (
      map (λ j. letter ∷ decimal j) (range_with_len (first + 1) most),
      ap (λ k. (letter ∷ decimal k) ∷ map (λ j. letter ∷ decimal j) (range_with_len (first + 1) most)) (omega arith),
    )
    from first (suc n) (suc most) few = let r = from (first + 1) n most (omega (arith, few)) in (
      r.0,
      ap (λ l. (letter ∷ decimal first) ∷ l) (r.1
          ∙ ap (λ k. map (λ j. letter ∷ decimal j) (range_with_len (first + 1) n) ++ (letter ∷ decimal k) ∷ r.0) (omega arith)),
    )

count-of : (letter n : ℕ) → length (letter_numbers letter n) ≡ n
count-of letter n = length-map-range_with_len (λ k. letter ∷ decimal k) 1 n

-- the numbers of a parameter and of a goal's variable, where there are so many parameters
pub parameter-number : (params own v : ℕ) → v < params → params < 2 ^ 30
    → number_in (112 ∷ decimal (v + 1)) (letter_numbers 112 params ++ letter_numbers 103 own) ≡ v
parameter-number params own v below few = let parts = goes-on 112 v params below in
    let n = 112 ∷ decimal (v + 1) in let new = later-new 112 (v + 1) v (omega arith) (omega (arith, below, few)) in
    ap (λ names. number_in n (names ++ letter_numbers 103 own)) parts.1
    ∙ ap (number_in n) (append_assoc (letter_numbers 112 v) (n ∷ parts.0) (letter_numbers 103 own))
    ∙ number-new n (letter_numbers 112 v) (parts.0 ++ letter_numbers 103 own) new ∙ count-of 112 v

pub goal-number : (params own w : ℕ) → w < own → own < 2 ^ 30
    → number_in (103 ∷ decimal (w + 1)) (letter_numbers 112 params ++ letter_numbers 103 own) ≡ params + w
goal-number params own w below few = let parts = goes-on 103 w own below in
    let n = 103 ∷ decimal (w + 1) in let new = later-new 103 (w + 1) w (omega arith) (omega (arith, below, few)) in
    let other = other-new 103 112 (w + 1) params (λ e. omega (arith, e)) in
    let none : has_name n (letter_numbers 112 params ++ letter_numbers 103 w) ≡ false =
    list_any-append (bytes_eq n) (letter_numbers 112 params) (letter_numbers 103 w) ∙ rw (other, new) refl in
    let at = number-new n (letter_numbers 112 params ++ letter_numbers 103 w) parts.0 none in
    let long = length-append (letter_numbers 112 params) (letter_numbers 103 w) in
    ap (λ names. number_in n (letter_numbers 112 params ++ names)) parts.1
    ∙ ap (number_in n) (sym (append_assoc (letter_numbers 112 params) (letter_numbers 103 w) (n ∷ parts.0)))
    ∙ at ∙ long ∙ omega (arith, count-of 112 params, count-of 103 w)

-- the place of a variable among those of its letter, and of another letter
found-there : (o : Option ℕ) → is_some o ≡ true → o ≡ Some (unwrap_or o 0)
found-there None e = cc
found-there (Some k) e = refl

found-nowhere : (o : Option ℕ) → is_some o ≡ false → o ≡ None
found-nowhere None e = refl
found-nowhere (Some k) e = cc

pub own-position : (letter most w : ℕ) → w < most → most < 2 ^ 30
    → position (bytes_eq (letter ∷ decimal (w + 1))) (letter_numbers letter most) ≡ Some w
own-position letter most w below few = let parts = goes-on letter w most below in
    let n = letter ∷ decimal (w + 1) in let new = later-new letter (w + 1) w (omega arith) (omega (arith, below, few)) in
    let known : has_name n (letter_numbers letter most) ≡ true =
    ap (has_name n) parts.1 ∙ known-last n (letter_numbers letter w) parts.0 in
    let at : number_in n (letter_numbers letter most) ≡ w =
    ap (number_in n) parts.1 ∙ number-new n (letter_numbers letter w) parts.0 new ∙ count-of letter w in
    found-there (position (bytes_eq n) (letter_numbers letter most)) (some-position (bytes_eq n) (letter_numbers letter most) ∙ known)
    ∙ ap Some at

pub other-position : (letter other k most : ℕ) → letter ≢ other
    → position (bytes_eq (letter ∷ decimal k)) (letter_numbers other most) ≡ None
other-position letter other k most apart = let n = letter ∷ decimal k in
    found-nowhere (position (bytes_eq n) (letter_numbers other most))
    (some-position (bytes_eq n) (letter_numbers other most) ∙ other-new letter other k most apart)

-- each of them is known by its letter and number
pub is-numbered : (letter most k : ℕ) → 1 ≤ k → k ≤ most → is_numbered_by letter most (letter ∷ decimal k) ≡ true
is-numbered letter most k least below = from 1 most least (omega (arith, below))
  where
    from : (first n : ℕ) → first ≤ k → k < first + n
        → list_any (λ j. bytes_eq (letter ∷ decimal k) (letter ∷ decimal j)) (range_with_len first n) ≡ true
    from first zero least below = absurd (omega (arith, least, below))
    from first (suc n) least below = by_test (bytes_eq (letter ∷ decimal k) (letter ∷ decimal first)) (λ e. rw e refl)
        (λ e. rw e (from (first + 1) n (more e) (omega (arith, below))))
      where
        more : bytes_eq (letter ∷ decimal k) (letter ∷ decimal first) ≡ false → first + 1 ≤ k
        more e = elim (cases_lt first k) [
          | inl less ↦ omega (arith, less)
          | inr same ↦ (let is : k ≡ first = omega (arith, same, least) in
              both_answers (bytes_eq (letter ∷ decimal k) (letter ∷ decimal first)) e
              (subst (λ j. bytes_eq (letter ∷ decimal k) (letter ∷ decimal j) ≡ true) is (bytes_eq-itself (letter ∷ decimal k))))
        ]

-- ---- terms and atoms

module _ (names : NameLists) (params own : ℕ) where
  abbrev the_variables : List (List ℕ)
  the_variables = letter_numbers 112 params ++ letter_numbers 103 own

  -- an object with a name, a parameter, or one of the goal's variables
  abbrev pub IsSpelled : Term → Type 0
  IsSpelled (Obj n) = n < length names.objects
  IsSpelled (Var v) = v < params + own
  IsSpelled Any = ⊥

  variable-back : (v : ℕ) → v < params + own → params < 2 ^ 30 → own < 2 ^ 30
      → number_in (written_variable names params v) the_variables ≡ v
  variable-back v below few fewer = by_test (nat_lt v params)
      (λ e. let first : v < params = grind (arith, nat_tests, e) in rw e (parameter-number params own v first few))
      (λ e. let later : params ≤ v = grind (arith, nat_tests, e) in rw e
      (goal-number params own (v - params) (omega (arith, below, later)) fewer ∙ omega (arith, later)))

  pub term-back : (t : Term) → IsSpelled t → AreDistinct names.objects → params < 2 ^ 30 → own < 2 ^ 30
      → term_of [] the_variables names.objects (written_term names params t) ≡ t
  term-back (Obj n) is distinct few fewer = ap Obj (number-back names.objects n distinct is)
  term-back (Var v) is distinct few fewer = ap Var (variable-back v is few fewer)
  term-back Any is distinct few fewer = absurd is

  pub terms-back : (ts : List Term) → AllByRecursion IsSpelled ts → AreDistinct names.objects → params < 2 ^ 30 → own < 2 ^ 30
      → map (term_of [] the_variables names.objects) (map (written_term names params) ts) ≡ ts
  terms-back [] all distinct few fewer = refl
  terms-back (t ∷ ts) all distinct few fewer =
      λ i. term-back t all.0 distinct few fewer i ∷ terms-back ts all.1 distinct few fewer i
