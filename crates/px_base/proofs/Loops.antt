-- Steps of loops that look for an element, or make a list.
use Rattle.std.proofs.Common.{◌≡◌, ◌+◌, ◌<◌, ◌≤◌, ◌⊎◌, ℕ, Bool, true, false, List, [], ◌∷◌, ◌++◌, length, take, get_or, refl, sym, ap, ◌∙◌, subst, inl, inr, arith}
use borrow.Author.Tests.{eqb-true}
use Rattle.std.specs.Prelude.{◌↔◌, ◌==◌, not, All, Any, Contains, IsTrue, Result, Ok, Err, Option, Some, None, IfOk, IfSome, OnOk}
use Rattle.px_base.specs.Answers.{both_answers}
use Rattle.std.proofs.lemmas.List.{get_or_default, take_more, take_all}
use Rattle.std.proofs.lemmas.List.Elements.{Contains-append_left, Contains-push, Contains-push_cases}

pub is_false : {P : Type 0} → (¬ P) → IsTrue false ↔ P
is_false never = (λ h. both_answers false refl h, λ p. absurd (never p))

pub is_true : {P : Type 0} → P → IsTrue true ↔ P
is_true p = (λ _. p, λ _. refl)

pub said_yes : {P : Type 0} (b : Bool) → IsTrue b ↔ P → b ≡ true → P
said_yes b decides yes' = decides.0 yes'

pub said_no : {P : Type 0} (b : Bool) → IsTrue b ↔ P → b ≡ false → ¬ P
said_no b decides no' p = both_answers b no' (decides.1 p)

-- a fact of all elements before a place
abbrev pub AllBefore : {X : Type 0} → (X → Type 0) → List X → ℕ → Type 0
AllBefore {X} P xs i = (k : ℕ) (d : X) → k < i → P (get_or xs k d)

pub level_or_below : (i j : ℕ) → i < j + 1 → (i < j) ⊎ (i ≡ j)
level_or_below i j h = grind (arith, h)

pub all_before_next : {X : Type 0} (P : X → Type 0) (xs : List X) (i : ℕ) (x : X) → AllBefore P xs i → i < length xs → x ≡ get_or xs i x
    → P x → AllBefore P xs (i + 1)
all_before_next P xs i x before below is here k d next =
    elim (level_or_below k i next) [
      | inl earlier ↦ before k d earlier
      | inr level ↦ rw (level, get_or_default xs i d x below) (subst P is here)
    ]

pub all_whole : {X : Type 0} (P : X → Type 0) (xs : List X) (i : ℕ) → AllBefore P xs i → length xs ≤ i → All P xs
all_whole P xs i before done k d below = before k d (omega (arith, below, done))

pub not_all : {X : Type 0} (P : X → Type 0) (xs : List X) (i : ℕ) (x : X) → i < length xs → x ≡ get_or xs i x → (¬ P x) → ¬ All P xs
not_all P xs i x below is fails all = fails (subst P (sym is) (all i x below))

pub any_here : {X : Type 0} (P : X → Type 0) (xs : List X) (i : ℕ) (x : X) → i < length xs → x ≡ get_or xs i x → P x → Any P xs
any_here P xs i x below is here = (i, x, below, sym is, here)

pub not_any : {X : Type 0} (P : X → Type 0) (xs : List X) (i : ℕ) → AllBefore (λ x. ¬ P x) xs i → length xs ≤ i → ¬ Any P xs
not_any P xs i before done one = before one.0 one.1 (omega (arith, one.2, done)) (subst P (sym one.3) one.4)

pub contains_here : {X : Type 0} (xs : List X) (i : ℕ) (x : X) → i < length xs → x ≡ get_or xs i x → Contains xs x
contains_here xs i x below is = (i, below, sym is)

pub ok_map : {A E : Type 0} (P Q : A → Type 0) → ((a : A) → P a → Q a) → (r : Result A E) → IfOk r P → IfOk r Q
ok_map P Q f (Ok a) h = f a h
ok_map P Q f (Err e) h = tt

-- the elements before the next place are those before this one and the one here
pub take_next : {X : Type 0} (xs : List X) (i : ℕ) (x : X) → i < length xs → x ≡ get_or xs i x → take (i + 1) xs ≡ take i xs ++ x ∷ []
take_next xs i x below is = take_more xs i x below ∙ ap (λ y. take i xs ++ y ∷ []) (sym is)

pub next_taken : {X : Type 0} (xs made after : List X) (i : ℕ) (x : X) → i < length xs → x ≡ get_or xs i x → made ≡ take i xs
    → after ≡ made ++ x ∷ [] → after ≡ take (i + 1) xs
next_taken xs made after i x below is was put = put ∙ ap (λ l. l ++ x ∷ []) was ∙ sym (take_next xs i x below is)

pub whole_taken : {X : Type 0} (xs made : List X) (i : ℕ) → made ≡ take i xs → length xs ≤ i → made ≡ xs
whole_taken xs made i was done = was ∙ take_all i xs done

-- the members of a list with one more
pub Contains-pushed : {X : Type 0} (xs : List X) (x q : X) → Contains (xs ++ x ∷ []) q ↔ (Contains xs q ⊎ (x ≡ q))
Contains-pushed xs x q = (
  λ h. Contains-push_cases xs x q h,
  λ h. elim h [ inl old ↦ Contains-append_left xs (x ∷ []) q old | inr is ↦ subst (Contains (xs ++ x ∷ [])) is (Contains-push xs x) ],
)

pub empty_list : {X : Type 0} (xs : List X) → (length xs == 0) ≡ true → xs ≡ []
empty_list [] h = refl
empty_list (x ∷ xs) h = absurd (omega (arith, eqb-true (length (x ∷ xs)) 0 h))

-- a test that is asked where something else holds already
pub also_with : {P Q : Type 0} {b : Bool} → P → IsTrue b ↔ Q → IsTrue b ↔ (P × Q)
also_with p decides = (λ h. (p, decides.0 h), λ h. decides.1 h.1)

pub empty_test : {X : Type 0} (xs : List X) (b : Bool) → b ≡ (length xs == 0) → b ≡ true → xs ≡ []
empty_test xs b is yes' = empty_list xs (sym is ∙ yes')

pub filled_test : {X : Type 0} (xs : List X) (b : Bool) → b ≡ (length xs == 0) → b ≡ false → ¬ (xs ≡ [])
filled_test xs b is no' empty = both_answers b no' (is ∙ ap (λ l. length l == 0) empty)

pub ok_map_both : {A E : Type 0} (P Q R : A → Type 0) → ((a : A) → P a → Q a → R a) → (r : Result A E) → IfOk r P → IfOk r Q → IfOk r R
ok_map_both P Q R f (Ok a) h k = f a h k
ok_map_both P Q R f (Err e) h k = tt

pub on_ok : {A E P Q : Type 0} (r : Result A E) → (P → Q) → OnOk r P → OnOk r Q
on_ok (Ok a) f h = f h
on_ok (Err e) f h = tt

pub not_false : (b : Bool) → not b ≡ false → b ≡ true
not_false true h = refl
not_false false h = sym h

pub some_map : {A : Type 0} (P Q : A → Type 0) (r : Option A) → ((a : A) → P a → Q a) → IfSome r P → IfSome r Q
some_map P Q (Some a) f h = f a h
some_map P Q None f h = tt
