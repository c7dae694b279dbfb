-- Names, and numbers, of which one stands twice: there are fewer different ones than all.
use Rattle.px_causes.proofs.Common.{◌≡◌, ℕ, suc, Bool, true, false, List, [], ◌∷◌, ◌++◌, map, length, refl, sym, ap, ◌∙◌, arith, ◌==◌, ◌||◌, nat_lt, cond, list_any, filter, nat_cmp, is_eq, ordering_then, Ordering, Less, Equal, Greater, nat_tests, list_any-append, length-map, is_eq-slice_cmp, bytes_eq, bytes_eq-Decides, has_name, repeats, repeats-cons, stands_twice, binds_twice, binding_view, by_test, WrittenBinding, Bor, text_cmp, text_of, both_answers, eq_by_cmp, Binding, list_any_none}
pub use Rattle.std.proofs.Math.Bool.{or-false as or_false}
use Rattle.std.specs.BTreeSet.{BTreeSet, IsFromIterResult, btree_set_len}
use Rattle.std.specs.Cmp.{IsTotalOrder}
use Rattle.std.specs.Set.{distinct_count, unique_keys}
use Rattle.std.proofs.lemmas.Cmp.{nat_cmp_total, nat_list_cmp_total}
use Rattle.std.proofs.lemmas.Map.Made.{distinct_count-le}
use Rattle.std.proofs.lemmas.Map.Views.{btree_set_len-from_list}

flipped : (a b : List ℕ) → bytes_eq a b ≡ bytes_eq b a
flipped a b = by_test (bytes_eq a b) (λ e. e ∙ sym ((bytes_eq-Decides b a).1 (sym ((bytes_eq-Decides a b).0 e))))
    (λ e. by_test (bytes_eq b a) (λ f. both_answers (bytes_eq a b) e ((bytes_eq-Decides a b).1 (sym ((bytes_eq-Decides b a).0 f))))
    (λ f. e ∙ sym f))

-- keys that are equal where their names are
module _ {K : Type 0} (eq : K → K → Bool) (text : K → List ℕ) (same : (a b : K) → eq a b ≡ bytes_eq (text a) (text b)) where
  -- fewer keys are different than there are
  abbrev fewer : List K → Bool
  fewer keys = nat_lt (distinct_count eq keys) (length keys)

  fewer-cons : (k : K) (keys : List K) → fewer (k ∷ keys) ≡ (list_any (eq k) keys || fewer keys)
  fewer-cons k keys = step (list_any (eq k) keys)
    where
      step : (b : Bool) → nat_lt (length (cond b (unique_keys eq keys) (k ∷ unique_keys eq keys))) (suc (length keys)) ≡ (b || fewer keys)
      step true = let few = distinct_count-le eq keys in grind (arith, nat_tests)
      step false = grind (arith, nat_tests)

  among : (others : List (List ℕ)) (k : K) (keys : List K) → list_any (λ x. has_name (text x) (others ++ text k ∷ [])) keys
      ≡ (list_any (λ x. has_name (text x) others) keys || list_any (eq k) keys)
  among others k [] = refl
  among others k (x ∷ keys) = rw (
    list_any-append (bytes_eq (text x)) others (text k ∷ []),
    flipped (text x) (text k),
    ← same k x,
    among others k keys,
  ) (grind arith)

  pub repeats-fewer : (others : List (List ℕ)) (keys : List K)
      → repeats others (map text keys) ≡ (list_any (λ x. has_name (text x) others) keys || fewer keys)
  repeats-fewer others [] = refl
  repeats-fewer others (k ∷ keys) = repeats-cons others (text k) (map text keys)
      ∙ ap (λ b. has_name (text k) others || b) (repeats-fewer (others ++ text k ∷ []) keys)
      ∙ rw (among others k keys, fewer-cons k keys) (grind arith)

-- names

texts_total : IsTotalOrder text_cmp
texts_total = record {
  antisymm = λ x y. nat_list_cmp_total.antisymm x.now y.now;
  trans = λ x y z. nat_list_cmp_total.trans x.now y.now z.now;
  congr = λ x y z. nat_list_cmp_total.congr x.now y.now z.now;
}

text-fewer : (others : List (List ℕ)) (names : List (Bor (List ℕ))) → repeats others (map text_of names)
    ≡ (list_any (λ n. has_name n.now others) names || nat_lt (distinct_count (eq_by_cmp text_cmp) names) (length names))
text-fewer = repeats-fewer (eq_by_cmp text_cmp) text_of (λ a b. is_eq-slice_cmp a.now b.now)

pub names-taken : (others : List (List ℕ)) (names : List (Bor (List ℕ))) → list_any (λ n. has_name n.now others) names ≡ true
    → true ≡ repeats others (map text_of names)
names-taken others names taken = sym (text-fewer others names ∙ rw taken refl)

pub names-repeat : (others : List (List ℕ)) (names : List (Bor (List ℕ))) (different : BTreeSet (Bor (List ℕ)))
    → IsFromIterResult text_cmp names different → list_any (λ n. has_name n.now others) names ≡ false
    → nat_lt (btree_set_len different) (length names) ≡ repeats others (map text_of names)
names-repeat others names different are new = ap (λ n. nat_lt n (length names)) (btree_set_len-from_list texts_total names different are)
    ∙ sym (text-fewer others names ∙ rw new refl)

-- names that stand twice, whatever others there are
pub only-repeat : (names : List (Bor (List ℕ))) (different : BTreeSet (Bor (List ℕ))) → IsFromIterResult text_cmp names different
    → nat_lt (btree_set_len different) (length names) ≡ repeats [] (map text_of names)
only-repeat names different are =
    names-repeat [] names different are (list_any_none (λ n. has_name n.now []) names (λ k d below. refl))

pub ruleset fewer_alone = (only-repeat)

-- one name repeats where it is one of the others
pub one-name : (others : List (List ℕ)) (n : List ℕ) → (repeats others (n ∷ []) || false) ≡ has_name n others
one-name others n = or_false (repeats others (n ∷ [])) ∙ repeats-cons others n [] ∙ or_false (has_name n others)

pub ruleset one_group = (one-name)

-- numbers, each as a name of one character

abbrev as_name : ℕ → List ℕ
as_name k = k ∷ []

same-order : (o : Ordering) → is_eq o ≡ is_eq (ordering_then o Equal)
same-order Less = refl
same-order Equal = refl
same-order Greater = refl

numbers-same : (a b : ℕ) → is_eq (nat_cmp a b) ≡ bytes_eq (as_name a) (as_name b)
numbers-same a b = same-order (nat_cmp a b) ∙ is_eq-slice_cmp (as_name a) (as_name b)

other-way : (a b : ℕ) → (a == b) ≡ bytes_eq (as_name b) (as_name a)
other-way a b = grind (arith, nat_tests)

abbrev numbers : List WrittenBinding → List ℕ
numbers bindings = map (λ b. b.parameter) bindings

counts : (k : ℕ) (bindings : List WrittenBinding) → length (filter (λ other. other.parameter == k) (map binding_view bindings))
    ≡ length (filter (bytes_eq (as_name k)) (map as_name (numbers bindings)))
counts k [] = refl
counts k (b ∷ more) = rw other-way (one (bytes_eq (as_name k) (as_name b.parameter)) _ _ _ _ (counts k more))
  where
    one : (t : Bool) (x : Binding) (y : List ℕ) (xs : List Binding) (ys : List (List ℕ)) → length xs ≡ length ys
        → length (cond t (x ∷ xs) xs) ≡ length (cond t (y ∷ ys) ys)
    one true x y xs ys e = ap suc e
    one false x y xs ys e = e

binds-repeats : (bindings : List WrittenBinding) → repeats [] (map as_name (numbers bindings)) ≡ binds_twice (map binding_view bindings)
binds-repeats all = step all
  where
    step : (bindings : List WrittenBinding) → list_any (λ n. stands_twice (map as_name (numbers all)) n) (map as_name (numbers bindings))
        ≡ list_any (λ b. nat_lt 1 (length (filter (λ other. other.parameter == b.parameter) (map binding_view all))))
        (map binding_view bindings)
    step [] = refl
    step (b ∷ more) = rw (counts b.parameter all, step more) refl

pub binds-fewer : (bindings : List WrittenBinding) (different : BTreeSet ℕ) → IsFromIterResult nat_cmp (numbers bindings) different
    → nat_lt (btree_set_len different) (length bindings) ≡ binds_twice (map binding_view bindings)
binds-fewer bindings different are =
    ap (λ n. nat_lt n (length bindings)) (btree_set_len-from_list nat_cmp_total (numbers bindings) different are)
    ∙ ap (nat_lt (distinct_count (eq_by_cmp nat_cmp) (numbers bindings))) (sym (length-map bindings (λ b. b.parameter)))
    ∙ sym (repeats-fewer (eq_by_cmp nat_cmp) as_name numbers-same [] (numbers bindings)
    ∙ ap (λ b. b || nat_lt (distinct_count (eq_by_cmp nat_cmp) (numbers bindings)) (length (numbers bindings)))
    (list_any_none (λ k. has_name (as_name k) []) (numbers bindings) (λ k d below. refl)))
    ∙ binds-repeats bindings

pub ruleset fewer_different = (binds-fewer, names-taken, names-repeat)
