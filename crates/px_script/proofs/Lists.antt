-- Lists of names: tests of them, the numbers of names, names that stand twice, and names that stay distinct where a line adds new ones.
use Rattle.px_script.proofs.Common.{prefix_len, position_or_len, All-head, All-tail, passes_at_first, take-append-le, AreDistinct, has_name-decides, ◌≡◌, ◌≢◌, ℕ, suc, ◌+◌, ◌<◌, ◌≤◌, Bool, true, false, cond, not, ◌||◌, List, [], ◌∷◌, ◌++◌, length, get_or, refl, sym, ap, ◌∙◌, subst, inl, inr, arith, append_assoc, append-nil, nat_lt, Option, None, Some, is_some, All, AllByRecursion, Contains, slice_index_or, position, list_any, flat_map, filter, bytes_eq, if◌then◌else◌, nat_tests, or_parts, or_right, list_any-append, list_any_at, bytes_eq-Decides, both_answers, All-each, has_name, bytes_eq-itself, EachIndex, cases_lt, take, get_or-append, take-append_seam, length-append, get_or-append_seam, stands_twice, repeats, number_in, All-from_recursion}
use Rattle.std.proofs.lemmas.List.Quantifiers.{all_pairs_push}

-- one case for each answer of a test
pub by_test : {A : Type 0} (b : Bool) → (b ≡ true → A) → (b ≡ false → A) → A
by_test true on_true on_false = on_true refl
by_test false on_true on_false = on_false refl

-- a test that would have been answered
pub passes-test : {A : Type 0} (b : Bool) (x : A) (more : Option A) → cond b (Some x) more ≡ None → (b ≡ false) × (more ≡ None)
passes-test true x more e = cc
passes-test false x more e = (refl, e)

pub at-most : (greatest n : ℕ) → nat_lt greatest n ≡ false → n ≤ greatest
at-most greatest n e = grind (arith, nat_tests)

pub not-below : (n least : ℕ) → nat_lt n least ≡ false → least ≤ n
not-below n least e = grind (arith, nat_tests)

-- what items have that don't pass a test, where none passes it
pub none-passes : {A : Type 0} (p : A → Bool) (P : A → Type 0) → ((x : A) → p x ≡ false → P x) → (xs : List A) → list_any p xs ≡ false
    → AllByRecursion P xs
none-passes p P f [] none = tt
none-passes p P f (x ∷ xs) none = let both = or_parts (p x) (list_any p xs) none in (f x both.0, none-passes p P f xs both.1)

pub each-fails : {A : Type 0} (p : A → Bool) (P : A → Type 0) → ((x : A) → p x ≡ false → P x) → (xs : List A) → list_any p xs ≡ false
    → All P xs
each-fails p P f xs none = All-from_recursion P xs (none-passes p P f xs none)

-- what all of two lists have
pub all-parts : {A : Type 0} (P : A → Type 0) (xs ys : List A) → AllByRecursion P (xs ++ ys) → AllByRecursion P xs × AllByRecursion P ys
all-parts P [] ys all = (tt, all)
all-parts P (x ∷ xs) ys all = let more = all-parts P xs ys all.1 in ((all.0, more.0), more.1)

-- a test of all that stands in the lists of items
pub list_any_flat : {A B : Type 0} (p : B → Bool) (f : A → List B) (xs : List A)
    → list_any p (flat_map f xs) ≡ list_any (λ x. list_any p (f x)) xs
list_any_flat p f [] = refl
list_any_flat p f (x ∷ xs) = list_any-append p (f x) (flat_map f xs) ∙ ap (λ b. list_any p (f x) || b) (list_any_flat p f xs)

-- ---- one item more

-- what each item has at its place, one item more too
pub each-pushed : {A : Type 0} (P : ℕ → A → Type 0) (xs : List A) (x d : A) → EachIndex xs (λ k. P k (slice_index_or xs k d))
    → P (length xs) x → EachIndex (xs ++ x ∷ []) (λ k. P k (slice_index_or (xs ++ x ∷ []) k d))
each-pushed P xs x d each last = λ k below. elim (cases_lt k (length xs)) [
  | inl earlier ↦ subst (P k) (sym (get_or-append xs (x ∷ []) d k earlier)) (each k earlier)
  | inr later ↦ subst (λ j. P j (slice_index_or (xs ++ x ∷ []) j d)) (omega (arith, below, later, length-append xs (x ∷ [])))
      (subst (P (length xs)) (sym (get_or-append_seam xs x [] d)) last)
]

-- the same of what each item has after those before it
pub each-more : {A : Type 0} (P : List A → A → Type 0) (xs : List A) (x d : A) → EachIndex xs (λ k. P (take k xs) (slice_index_or xs k d))
    → P xs x → EachIndex (xs ++ x ∷ []) (λ k. P (take k (xs ++ x ∷ [])) (slice_index_or (xs ++ x ∷ []) k d))
each-more P xs x d each last = each-pushed (λ k y. P (take k (xs ++ x ∷ [])) y) xs x d
    (λ k below. subst (λ t. P t (slice_index_or xs k d)) (sym (take-append-le k xs (x ∷ []) (omega (arith, below)))) (each k below))
    (subst (λ t. P t x) (sym (take-append_seam xs (x ∷ []))) last)

-- ---- places

pub within : {A : Type 0} (p : A → Bool) (xs : List A) → nat_lt (prefix_len (λ x. not (p x)) xs) (length xs) ≡ list_any p xs
within p [] = refl
within p (x ∷ xs) = by_test (p x) (λ e. rw e (grind (arith, nat_tests)))
    (λ e. rw e (later (prefix_len (λ y. not (p y)) xs) (length xs) ∙ within p xs))
  where
    later : (m n : ℕ) → nat_lt (1 + m) (suc n) ≡ nat_lt m n
    later m n = grind (arith, nat_tests)

pub some-position : {A : Type 0} (p : A → Bool) (xs : List A) → is_some (position p xs) ≡ list_any p xs
some-position p xs = by_test (list_any p xs) (λ e. rw (within p xs, e) refl) (λ e. rw (within p xs, e) refl)

module _ {A : Type 0} (p : A → Bool) where
  place-below : (xs : List A) → list_any p xs ≡ true → position_or_len p xs < length xs
  place-below xs some = let there : nat_lt (position_or_len p xs) (length xs) ≡ true = within p xs ∙ some in grind (arith, nat_tests, there)

  place-prefix : (xs ys : List A) → list_any p xs ≡ true → position_or_len p (xs ++ ys) ≡ position_or_len p xs
  place-prefix [] ys some = cc
  place-prefix (x ∷ xs) ys some = by_test (p x) (λ e. rw e refl)
      (λ e. let more : list_any p xs ≡ true = rw e at some in rw e (ap (λ k. 1 + k) (place-prefix xs ys more)))

  place-after : (xs ys : List A) → list_any p xs ≡ false → position_or_len p (xs ++ ys) ≡ length xs + position_or_len p ys
  place-after [] ys none = omega arith
  place-after (x ∷ xs) ys none =
      let both = or_parts (p x) (list_any p xs) none in let rest = place-after xs ys both.1 in rw both.0 (omega (arith, rest))

-- a name that is there has its place as its number, and one that isn't has 0
pub number-known : (n : List ℕ) (names : List (List ℕ)) → has_name n names ≡ true → number_in n names ≡ position_or_len (bytes_eq n) names
number-known n names known = rw (within (bytes_eq n) names, known) refl

pub number-unknown : (n : List ℕ) (names : List (List ℕ)) → has_name n names ≡ false → number_in n names ≡ 0
number-unknown n names unknown = rw (within (bytes_eq n) names, unknown) refl

pub number-below : (n : List ℕ) (names : List (List ℕ)) → has_name n names ≡ true → number_in n names < length names
number-below n names known = rw (number-known n names known) (place-below (bytes_eq n) names known)

pub name-at : (n : List ℕ) (names : List (List ℕ)) (d : List ℕ) → has_name n names ≡ true → slice_index_or names (number_in n names) d ≡ n
name-at n names d known = rw (number-known n names known)
    (sym ((bytes_eq-Decides n (slice_index_or names (position_or_len (bytes_eq n) names) d)).0
    (passes_at_first (bytes_eq n) names d (place-below (bytes_eq n) names known))))

pub known-still : (n : List ℕ) (names more : List (List ℕ)) → has_name n names ≡ true → has_name n (names ++ more) ≡ true
known-still n names more known = list_any-append (bytes_eq n) names more ∙ ap (λ b. b || has_name n more) known

-- more names leave the number of a name
pub number-kept : (n : List ℕ) (names more : List (List ℕ)) → has_name n names ≡ true → number_in n (names ++ more) ≡ number_in n names
number-kept n names more known = number-known n (names ++ more) (known-still n names more known) ∙ place-prefix (bytes_eq n) names more known
    ∙ sym (number-known n names known)

pub known-last : (n : List ℕ) (names more : List (List ℕ)) → has_name n (names ++ n ∷ more) ≡ true
known-last n names more = list_any-append (bytes_eq n) names (n ∷ more)
    ∙ ap (λ b. has_name n names || (b || has_name n more)) (bytes_eq-itself n) ∙ or_right (has_name n names) true refl

-- a new name has the number of names before it
pub number-new : (n : List ℕ) (names more : List (List ℕ)) → has_name n names ≡ false → number_in n (names ++ n ∷ more) ≡ length names
number-new n names more unknown = let first : position_or_len (bytes_eq n) (n ∷ more) ≡ 0 = rw (bytes_eq-itself n) refl in
    let all = number-known n (names ++ n ∷ more) (known-last n names more) ∙ place-after (bytes_eq n) names (n ∷ more) unknown in
    omega (arith, all, first)

-- a name that only the later names have
pub number-after : (n : List ℕ) (names more : List (List ℕ)) → has_name n names ≡ false → has_name n more ≡ true
    → number_in n (names ++ more) ≡ length names + number_in n more
number-after n names more unknown known = let all : has_name n (names ++ more) ≡ true = list_any-append (bytes_eq n) names more
    ∙ ap (λ b. b || has_name n more) unknown ∙ known in
    let there = number-known n (names ++ more) all ∙ place-after (bytes_eq n) names more unknown in
    let here = number-known n more known in omega (arith, there, here)

-- names with one number are one name
pub same-number : (m n : List ℕ) (names : List (List ℕ)) → has_name m names ≡ true → has_name n names ≡ true
    → number_in m names ≡ number_in n names → m ≡ n
same-number m n names known also same = sym (name-at m names [] known) ∙ ap (λ k. slice_index_or names k []) same ∙ name-at n names [] also

-- a name of the list has what all have
pub at-name : (P : List ℕ → Type 0) (names : List (List ℕ)) (n : List ℕ) → All P names → has_name n names ≡ true → P n
at-name P names n all known = subst P (name-at n names [] known) (all (number_in n names) [] (number-below n names known))

-- ---- names that stand twice

same_any : {A : Type 0} (p q : A → Bool) (xs : List A) → All (λ x. p x ≡ q x) xs → list_any p xs ≡ list_any q xs
same_any p q [] same = refl
same_any p q (x ∷ xs) same = rw (All-head (λ y. p y ≡ q y) x xs same, same_any p q xs (All-tail (λ y. p y ≡ q y) x xs same)) refl

more_any : {A : Type 0} (p q : A → Bool) (xs : List A) → ((x : A) → p x ≡ true → q x ≡ true) → list_any p xs ≡ true → list_any q xs ≡ true
more_any p q [] implied some = some
more_any p q (x ∷ xs) implied some = by_test (p x) (λ e. rw (implied x e) refl)
    (λ e. rw (more_any p q xs implied (rw e at some)) (or_right (q x) true refl))

some_filtered : {A : Type 0} (p : A → Bool) (xs : List A) → nat_lt 0 (length (filter p xs)) ≡ list_any p xs
some_filtered p [] = refl
some_filtered p (x ∷ xs) = by_test (p x) (λ e. rw e (grind (arith, nat_tests))) (λ e. rw e (some_filtered p xs))

pub none-filtered : {A : Type 0} (p : A → Bool) (xs : List A) → length (filter p xs) ≤ 0 → list_any p xs ≡ false
none-filtered p xs few = sym (some_filtered p xs) ∙ grind (arith, nat_tests, few)

one-longer : (n : ℕ) → nat_lt 1 (suc n) ≡ nat_lt 0 n
one-longer n = grind (arith, nat_tests)

module _ (others : List (List ℕ)) (n : List ℕ) (ns : List (List ℕ)) where
  -- what is asked of a name of the whole list, and of one of the rest
  abbrev of_whole : List ℕ → Bool
  of_whole m = has_name m others || stands_twice (n ∷ ns) m

  abbrev of_rest : List ℕ → Bool
  of_rest m = has_name m (others ++ n ∷ []) || stands_twice ns m

  by-name : (m : List ℕ) (is_n is_other : Bool) → list_any (bytes_eq m) ns ≡ true
      → (is_other || nat_lt 1 (length (if is_n then n ∷ filter (bytes_eq m) ns else filter (bytes_eq m) ns)))
      ≡ ((is_other || (is_n || false)) || stands_twice ns m)
  by-name m is_n true among = refl
  by-name m true false among = one-longer (length (filter (bytes_eq m) ns)) ∙ some_filtered (bytes_eq m) ns ∙ among
  by-name m false false among = refl

  same-of : All (λ m. of_whole m ≡ of_rest m) ns
  same-of k d below = let m = get_or ns k d in
      by-name m (bytes_eq m n) (has_name m others) (list_any_at (bytes_eq m) ns k d below (bytes_eq-itself m))
      ∙ ap (λ b. b || stands_twice ns m) (sym (list_any-append (bytes_eq m) others (n ∷ [])))

  -- a name of the rest that is the first one
  is-first : (m : List ℕ) → bytes_eq n m ≡ true → of_rest m ≡ true
  is-first m e = subst (λ t. of_rest t ≡ true) ((bytes_eq-Decides n m).0 e) (ap (λ b. b || stands_twice ns n) (known-last n others []))

  joined : (a b r : Bool) → (b ≡ true → r ≡ true) → ((a || b) || r) ≡ (a || r)
  joined true b r later = refl
  joined false true r later = sym (later refl)
  joined false false r later = refl

  first-twice : stands_twice (n ∷ ns) n ≡ list_any (bytes_eq n) ns
  first-twice = ap (λ b. nat_lt 1 (length (if b then n ∷ filter (bytes_eq n) ns else filter (bytes_eq n) ns))) (bytes_eq-itself n)
      ∙ one-longer (length (filter (bytes_eq n) ns)) ∙ some_filtered (bytes_eq n) ns

  -- The first name is one of the others, or a later one is one of these or the first, or stands twice.
  pub repeats-cons : repeats others (n ∷ ns) ≡ (has_name n others || repeats (others ++ n ∷ []) ns)
  repeats-cons = ap (λ r. (has_name n others || stands_twice (n ∷ ns) n) || r) (same_any of_whole of_rest ns same-of)
      ∙ ap (λ b. (has_name n others || b) || list_any of_rest ns) first-twice
      ∙ joined (has_name n others) (list_any (bytes_eq n) ns) (list_any of_rest ns) (more_any (bytes_eq n) of_rest ns is-first)

  pub repeats-none : repeats others (n ∷ ns) ≡ false → (has_name n others ≡ false) × (repeats (others ++ n ∷ []) ns ≡ false)
  repeats-none none = or_parts (has_name n others) (repeats (others ++ n ∷ []) ns) (sym repeats-cons ∙ none)

-- a single new name is none of the others
pub is-new : (names : List (List ℕ)) (n : List ℕ) → repeats names (n ∷ []) ≡ false → has_name n names ≡ false
is-new names n none = (repeats-none names n [] none).0

-- ---- names that are distinct

-- a name that isn't in the list is none of its names
others-differ : (names : List (List ℕ)) (name : List ℕ) → has_name name names ≡ false → All (λ earlier. earlier ≢ name) names
others-differ names name new = All-each (λ earlier. earlier ≢ name) names
    (λ earlier there same. both_answers (has_name name names) new ((has_name-decides name names).1 (subst (Contains names) same there)))

pub more-distinct : (names ns : List (List ℕ)) → AreDistinct names → repeats names ns ≡ false → AreDistinct (names ++ ns)
more-distinct names [] are none = subst AreDistinct (sym (append-nil names)) are
more-distinct names (n ∷ ns) are none = let both = repeats-none names n ns none in subst AreDistinct (append_assoc names (n ∷ []) ns)
    (more-distinct (names ++ n ∷ []) ns (all_pairs_push ◌≢◌ names n are (others-differ names n both.0)) both.1)
