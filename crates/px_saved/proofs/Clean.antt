-- A line of which no cause to refuse it is there has no fault; and what its atoms and arguments have to be so that none is there.
use Rattle.px_script.specs.Faults as faults
use Rattle.px_script.specs.Faults.{causes_with}
use Rattle.px_script.proofs.Common.{◌≡◌, ℕ, ◌==◌, Bool, true, false, not, ◌&&◌, ◌||◌, List, [], ◌∷◌, ◌++◌, map, length, refl, ap, ◌∙◌, None, AllByRecursion, slice_index, list_any, list_all, flat_map, is_empty, has_name, Argument, SignedAtom, is_variable, Statement, line_of, Declared, number_in, is_known_argument, takes, is_signed, is_out_of_order, has_unknown_name, has_duplicate, has_wrong_arity, is_unbound, is_unbuilt, is_bad_table, Stage, fault_at, first_of, passed, Refusal, coded}
use Rattle.px_script.specs.declared.kinds.Manner.{Manner}
use Rattle.px_script.proofs.Lists.{by_test}

-- no cause to refuse the line is there
pub record IsClean (stage : Stage) (d : Declared) (s : Statement) : Type 0 where
  pub order : is_out_of_order d (line_of s) ≡ false
  pub built : is_unbuilt stage s ≡ false
  pub known : has_unknown_name d (line_of s) ≡ false
  pub single : has_duplicate d s ≡ false
  pub arity : has_wrong_arity d (line_of s) ≡ false
  pub bound : is_unbound d (line_of s) ≡ false
  pub limits : AllByRecursion (λ (test : Bool × ℕ). test.0 ≡ false) (faults.limits d s)
  pub whole : is_bad_table d s ≡ false

past-limits : (tests : List (Bool × ℕ)) (more : List (Bool × Refusal)) → AllByRecursion (λ (test : Bool × ℕ). test.0 ≡ false) tests
    → first_of (map passed tests ++ more) ≡ first_of more
past-limits [] more all = refl
past-limits (test ∷ tests) more all = rw all.0 (past-limits tests more all.1)

pub clean-line : (stage : Stage) (d : Declared) (s : Statement) → IsClean stage d s → fault_at stage d s ≡ None
clean-line stage d s c = rw (c.order, c.built, c.known, c.single, c.arity, c.bound)
    (past-limits (faults.limits d s) ((is_bad_table d s, coded 12) ∷ []) c.limits ∙ ap (λ b. first_of ((b, coded 12) ∷ [])) c.whole)

-- ---- atoms and arguments

pub none-any : {A : Type 0} (p : A → Bool) (xs : List A) → AllByRecursion (λ x. p x ≡ false) xs → list_any p xs ≡ false
none-any p [] all = refl
none-any p (x ∷ xs) all = rw all.0 (none-any p xs all.1)

pub and-false : (a b : Bool) → b ≡ false → (a && b) ≡ false
and-false true b e = e
and-false false b e = refl

pub all-both : {A : Type 0} (P : A → Type 0) (xs ys : List A) → AllByRecursion P xs → AllByRecursion P ys → AllByRecursion P (xs ++ ys)
all-both P [] ys a b = b
all-both P (x ∷ xs) ys a b = (a.0, all-both P xs ys a.1 b)

pub all-implied : {A : Type 0} (P Q : A → Type 0) → ((x : A) → P x → Q x) → (xs : List A) → AllByRecursion P xs → AllByRecursion Q xs
all-implied P Q f [] all = tt
all-implied P Q f (x ∷ xs) all = (f x all.0, all-implied P Q f xs all.1)

-- the argument is known, and may stand in such a line after these lines
pub record IsGood (d : Declared) (manner : Manner) (a : Argument) : Type 0 where
  pub known : is_known_argument d a ≡ true
  pub taken : takes d manner a ≡ true
  pub early : is_empty d.names.objects ≡ true → is_variable a ≡ false

-- so is an atom, and it has its predicate's arity
pub record IsGoodAtom (d : Declared) (manner : Manner) (x : SignedAtom) : Type 0 where
  pub sign : is_signed manner x.sign ≡ true
  pub known : has_name x.atom.predicate d.names.predicates ≡ true
  pub arity : (length x.atom.arguments == slice_index d.arities (number_in x.atom.predicate d.names.predicates)) ≡ true
  pub arguments : AllByRecursion (IsGood d manner) x.atom.arguments

module _ (d : Declared) (manner : Manner) where
  abbrev AllGood : List Argument → Type 0
  AllGood arguments = AllByRecursion (IsGood d manner) arguments

  abbrev AllGoodAtoms : List SignedAtom → Type 0
  AllGoodAtoms atoms = AllByRecursion (IsGoodAtom d manner) atoms

  pub arguments-of-atoms : (atoms : List SignedAtom) → AllGoodAtoms atoms → AllGood (flat_map (λ x. x.atom.arguments) atoms)
  arguments-of-atoms [] all = tt
  arguments-of-atoms (x ∷ xs) all =
      all-both (IsGood d manner) x.atom.arguments (flat_map (λ y. y.atom.arguments) xs) all.0.arguments (arguments-of-atoms xs all.1)

  pub arguments-known : (arguments : List Argument) → AllGood arguments → list_any (λ a. not (is_known_argument d a)) arguments ≡ false
  arguments-known args all = none-any (λ a. not (is_known_argument d a)) args
      (all-implied (IsGood d manner) (λ a. not (is_known_argument d a) ≡ false) (λ a good. ap not good.known) args all)

  pub arguments-taken : (arguments : List Argument) → AllGood arguments → list_any (λ a. not (takes d manner a)) arguments ≡ false
  arguments-taken args all = none-any (λ a. not (takes d manner a)) args
      (all-implied (IsGood d manner) (λ a. not (takes d manner a) ≡ false) (λ a good. ap not good.taken) args all)

  pub arguments-early : (arguments : List Argument) → AllGood arguments
      → ((list_any is_variable arguments || false) && is_empty d.names.objects) ≡ false
  arguments-early args all = by_test (is_empty d.names.objects)
      (λ empty. rw (none-any is_variable args
      (all-implied (IsGood d manner) (λ a. is_variable a ≡ false) (λ a good. good.early empty) args all)) refl)
      (λ some. and-false (list_any is_variable args || false) (is_empty d.names.objects) some)

  pub atoms-known : (atoms : List SignedAtom) → AllGoodAtoms atoms
      → list_any (λ x. not (has_name x.atom.predicate d.names.predicates)) atoms ≡ false
  atoms-known xs all = none-any (λ x. not (has_name x.atom.predicate d.names.predicates)) xs
      (all-implied (IsGoodAtom d manner) (λ x. not (has_name x.atom.predicate d.names.predicates) ≡ false)
      (λ x good. ap not good.known) xs all)

  pub atoms-arity : (atoms : List SignedAtom) → AllGoodAtoms atoms
      → list_any (λ x. not (length x.atom.arguments == slice_index d.arities (number_in x.atom.predicate d.names.predicates))) atoms ≡ false
  atoms-arity xs all = none-any
      (λ x. not (length x.atom.arguments == slice_index d.arities (number_in x.atom.predicate d.names.predicates))) xs
      (all-implied (IsGoodAtom d manner)
      (λ x. not (length x.atom.arguments == slice_index d.arities (number_in x.atom.predicate d.names.predicates)) ≡ false)
      (λ x good. ap not good.arity) xs all)

  pub atoms-signed : (atoms : List SignedAtom) → AllGoodAtoms atoms → list_all (λ x. is_signed manner x.sign) atoms ≡ true
  atoms-signed [] all = refl
  atoms-signed (x ∷ xs) all = rw all.0.sign (atoms-signed xs all.1)
