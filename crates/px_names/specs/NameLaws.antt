-- Number and name correspond in a list of distinct names, and the tests for callers that compute decide what they test.
use Rattle.std.specs.Prelude.{◌≡◌, ◌≢◌, ◌↔◌, ◌<◌, ◌+◌, ◌||◌, ℕ, Bool, true, false, Option, Some, None, is_some, List, [], ◌∷◌, length, Contains, position, slice_get, MatchOption, nat_lt, MatchBool, not, if◌then◌else◌}
use Rattle.std.specs.List.{position_or_len}
use Rattle.std.specs.Str.{bytes_eq}
use Rattle.std.proofs.Common.{refl, sym, ap, ◌∙◌, subst, arith, zero, suc, inl, inr}
use Rattle.std.proofs.lemmas.Slice.Eq.{bytes_eq-Decides}
use Rattle.std.proofs.lemmas.List.Quantifiers.{position-Some}
use Rattle.std.proofs.lemmas.Option.{slice_get-get_or, slice_get_within, get_or_from_slice_get}
use Rattle.px_base.specs.ListLaws.{Contains-none, Contains-first, Contains-later, Contains-cases}
use borrow.Author.Tests.{ltb-true, lt-ltb}
use Rattle.px_names.specs.declared.kind.Kind.{Kind}
use Rattle.px_names.specs.declared.kind.NameErr.TheVariants.{BadName, Duplicate, Full}
use Rattle.px_names.specs.Lists.{AreDistinct, IsWelcome, NameLists, has_name, limit_of, names_of, refusal}
use Rattle.px_names.specs.Name.{is_name_text}

pub bytes_eq-itself : (name : List ℕ) → bytes_eq name name ≡ true
bytes_eq-itself name = (bytes_eq-Decides name name).1 refl

pub bytes_eq-other : (a b : List ℕ) → a ≢ b → bytes_eq a b ≡ false
bytes_eq-other a b other =
    elim (bytes_eq a b) as (λ test. bytes_eq a b ≡ test → test ≡ false)
    [ true ↦ λ same. absurd (other ((bytes_eq-Decides a b).0 same)) | false ↦ λ _. refl ] refl

-- a list has a name exactly where the name is in it
pub has_name-decides : (name : List ℕ) (names : List (List ℕ)) → (has_name name names ≡ true) ↔ Contains names name
has_name-decides name [] = (λ h. cc, λ h. absurd (Contains-none name h))
has_name-decides name (x ∷ xs) =
    elim (bytes_eq name x) as (λ test. bytes_eq name x ≡ test → ((test || has_name name xs) ≡ true) ↔ Contains (x ∷ xs) name) [
      | true ↦ λ same. (λ _. subst (Contains (x ∷ xs)) (sym ((bytes_eq-Decides name x).0 same)) (Contains-first x xs), λ _. refl)
      | false ↦ λ other. (
        λ h. Contains-later x xs name ((has_name-decides name xs).0 h),
        λ h. elim (Contains-cases x xs name h) [
          | inl is ↦ absurd (true-or-false (bytes_eq name x) ((bytes_eq-Decides name x).1 (sym is)) other)
          | inr later ↦ (has_name-decides name xs).1 later
        ],
      )
    ] refl
  where
    true-or-false : (b : Bool) → b ≡ true → ¬ (b ≡ false)
    true-or-false b t f = cc

distinct_rest : (x : List ℕ) (xs : List (List ℕ)) → AreDistinct (x ∷ xs) → AreDistinct xs
distinct_rest x xs distinct i j d before within = distinct (suc i) (suc j) d (omega (arith, before)) (omega (arith, within))

position_of-number : (names : List (List ℕ)) (number : ℕ) (name : List ℕ) → AreDistinct names → slice_get names number ≡ Some name
    → position_or_len (bytes_eq name) names ≡ number
position_of-number [] number name distinct is = cc
position_of-number (x ∷ xs) zero name distinct is = let same : x ≡ name = cc in rw (same, bytes_eq-itself) refl
position_of-number (x ∷ xs) (suc number) name distinct is =
    let within : number < length xs = slice_get_within xs number name is in
    let other : name ≢ x = λ same. distinct 0 (suc number) x (omega arith) (omega (arith, within))
    (sym same ∙ sym (get_or_from_slice_get xs number name x is)) in
    let rest : position_or_len (bytes_eq name) xs ≡ number = position_of-number xs number name (distinct_rest x xs distinct) is in
    let more : 1 + position_or_len (bytes_eq name) xs ≡ suc number = omega (arith, rest) in
    rw (bytes_eq-other name x other) more

-- the number of a name is found by the name
pub number_of_name : (names : List (List ℕ)) (number : ℕ) (name : List ℕ) → AreDistinct names → slice_get names number ≡ Some name
    → position (bytes_eq name) names ≡ Some number
number_of_name names number name distinct is =
    let within : number < length names = slice_get_within names number name is in
    rw (position_of-number names number name distinct is) (let test : nat_lt number (length names) ≡ true = grind arith in rw test refl)

-- the name of a number that was found is the name that was looked for
pub name_of_number : (names : List (List ℕ)) (name : List ℕ) (found : Option ℕ) → found ≡ position (bytes_eq name) names
    → is_some found ≡ has_name name names → MatchOption found (¬ Contains names name) (λ number. slice_get names number ≡ Some name)
name_of_number names name None is tells = λ there. let has : has_name name names ≡ true = (has_name-decides name names).1 there in cc
name_of_number names name (Some number) is tells =
    let place = position-Some (bytes_eq name) names number name (sym is) in
    slice_get-get_or names number name place.0 ∙ ap Some (sym ((bytes_eq-Decides name _).0 place.1))

elim_false : (b : Bool) → b ≡ true → ¬ (b ≡ false)
elim_false b t f = cc

-- the test of a name says whether it is in the list
pub has_name-tells : (name : List ℕ) (names : List (List ℕ)) (answer : Bool) → answer ≡ has_name name names
    → MatchBool answer (Contains names name) (¬ Contains names name)
has_name-tells name names true same = (has_name-decides name names).0 (sym same)
has_name-tells name names false same = λ there. elim_false (has_name name names) ((has_name-decides name names).1 there) (sym same)

first_cause : (named has room : Bool) → ((if not named then Some BadName else
    (if has then Some Duplicate else (if room then None else Some Full))) ≡ None) ↔ ((named ≡ true) × (has ≡ false) × (room ≡ true))
first_cause true false true = (λ _. (refl, refl, refl), λ _. refl)
first_cause true false false = (λ e. absurd (cc), λ all. let r = all.2 in cc)
first_cause true true room = (λ e. absurd (cc), λ all. let h = all.1 in cc)
first_cause false has room = (λ e. absurd (cc), λ all. let n = all.0 in cc)

-- there is no cause to refuse a name exactly where it is welcome
pub refusal-none : (kind : Kind) (names : NameLists) (name : List ℕ) → (refusal kind names name ≡ None)
    ↔ IsWelcome kind (names_of kind names) name
refusal-none kind names name =
    let list = names_of kind names in
    let causes = first_cause (is_name_text name) (has_name name list) (nat_lt (length list) (limit_of kind)) in (
      λ free.
          let all = causes.0 free in (
            all.0,
            λ there. elim_false (has_name name list) ((has_name-decides name list).1 there) all.1,
            ltb-true (length list) (limit_of kind) all.2,
          ),
      λ welcome.
          let absent : has_name name list ≡ false = elim (has_name name list) as (λ test. has_name name list ≡ test → test ≡ false) [
            | true ↦ λ has. absurd (welcome.1 ((has_name-decides name list).0 has))
            | false ↦ λ _. refl
          ] refl in
          causes.1 (welcome.0, absent, lt-ltb (length list) (limit_of kind) welcome.2),
    )
