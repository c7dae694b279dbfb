-- Terms, atoms and literals are read as they are written.
use Rattle.std.proofs.Common.{◌≡◌, ◌≤◌, ◌<◌, ◌+◌, ◌^◌, ◌⊎◌, ℕ, zero, suc, Bool, true, false, cond, eqb, List, [], ◌∷◌, ◌++◌, length, Option, Some, None, refl, ap, subst, ◌∙◌, arith, inl, inr}
use Rattle.std.specs.Prelude.{codes, slice_index}
use Rattle.std.specs.List.{flat_map, AllByRecursion}
use Rattle.std.proofs.lemmas.Bool.{cond-true}
use Rattle.std.proofs.lemmas.Fmt.{decimal_digit}
use Rattle.std.proofs.lemmas.List.Elements.{All-from_recursion, recursion_from_All}
use Rattle.std.proofs.lemmas.Option.{cond_some, same_Some}
use Rattle.px_terms.specs.declared.atom.Atom.{Atom}
use Rattle.px_terms.specs.declared.clause.Lit.{Lit}
use Rattle.px_terms.specs.declared.term.Term.{Term}
use Rattle.px_terms.specs.declared.term.Term.TheVariants.{Obj, Var, Any}
use Rattle.px_terms.specs.Validity.{IsAtomOf, IsPatternOf, IsPatternTermOf, IsTermOf}
use Rattle.px_cert.specs.declared.draft.Draft.{Draft}
use Rattle.px_table.specs.Deciding.{clause_at}
use Rattle.px_cert.specs.ClaimRanges.{AreAtMost}
use Rattle.px_cert.specs.Drafts.{language}
use Rattle.px_cert.specs.Lines.{atom_item, list_item, literal_item, number_item, sign_item, term_item}
use Rattle.px_cert.specs.Reading.{◌>>=◌, Parsed, Reader, after_text, atom_at, atom_of_parts, chosen, list_at, literal_at, literal_of_parts, many_at, number_at, object_at, sign_at, term_at, variable_at, wild_card_at}
use Rattle.px_cert.specs.Reading.{digits_at}
use Rattle.px_cert.proofs.Digits.{digits_exact, number_exact}
use Rattle.px_cert.proofs.Exact.{IsExact, StartsWell, after_takes, as_exact, bind_some, exact_as, exact_text, many_exact, many_start, pair_exact, stops}

-- the first was read, or the others were
pub chosen_is : {A B : Type 0} (o : Option A) (f : A → Option B) (other : Option B) (y : B) → chosen o f other ≡ Some y
    → ((x : A) × (o ≡ Some x) × (f x ≡ Some y)) ⊎ ((o ≡ None) × (other ≡ Some y))
chosen_is (Some x) f other y e = inl (x, refl, e)
chosen_is None f other y e = inr (refl, e)

-- ---- terms

-- an object below the first number, a variable below the second, or the wild card where it may stand
abbrev pub IsTermFor : ℕ → ℕ → Bool → Term → Type 0
IsTermFor limit variable_count wild (Obj n) = n < limit
IsTermFor limit variable_count wild (Var v) = v < variable_count
IsTermFor limit variable_count wild Any = wild ≡ true

pub term_starts : StartsWell term_item
term_starts = record { starts = each }
  where
    each : (t : Term) (rest : List ℕ) → stops rest ≡ true → stops (term_item t ++ rest) ≡ true
    each (Obj n) rest stop = refl
    each (Var v) rest stop = refl
    each Any rest stop = refl

module _ (limit variable_count : ℕ) (wild : Bool) (low : limit ≤ 2 ^ 64) (few : variable_count ≤ 2 ^ 64) where
  abbrev IsRead : List ℕ → Term × List ℕ → Type 0
  IsRead bytes q = (bytes ≡ term_item q.0 ++ q.1) × IsTermFor limit variable_count wild q.0

  object_taken : (bytes left : List ℕ) (t : Term) (rest : List ℕ) → after_text (codes " o") bytes ≡ Some left
      → object_at limit left ≡ Some (t, rest) → IsRead bytes (t, rest)
  object_taken bytes left t rest at e =
      let n = bind_some (digits_at limit left) (λ x. Some (Obj x.0, x.1)) (t, rest) e in
      let d = (digits_exact limit low).takes left n.0.0 n.0.1 n.1 in
      subst (IsRead bytes) (same_Some (Obj n.0.0, n.0.1) (t, rest) n.2)
      (after_takes (codes " o") bytes left at ∙ ap (λ (r : List ℕ). codes " o" ++ r) d.0, d.1)

  variable_taken : (bytes left : List ℕ) (t : Term) (rest : List ℕ) → after_text (codes " v") bytes ≡ Some left
      → variable_at variable_count left ≡ Some (t, rest) → IsRead bytes (t, rest)
  variable_taken bytes left t rest at e =
      let n = bind_some (digits_at variable_count left) (λ x. Some (Var x.0, x.1)) (t, rest) e in
      let d = (digits_exact variable_count few).takes left n.0.0 n.0.1 n.1 in
      subst (IsRead bytes) (same_Some (Var n.0.0, n.0.1) (t, rest) n.2)
      (after_takes (codes " v") bytes left at ∙ ap (λ (r : List ℕ). codes " v" ++ r) d.0, d.1)

  wild_card_taken : (bytes : List ℕ) (t : Term) (rest : List ℕ) → wild_card_at wild bytes ≡ Some (t, rest) → IsRead bytes (t, rest)
  wild_card_taken bytes t rest e =
      let a = bind_some (after_text (codes " $") bytes) (λ r. cond wild (Some (Any, r)) None) (t, rest) e in
      let g = cond_some wild (Any, a.0) (t, rest) a.2 in
      subst (IsRead bytes) g.1 (after_takes (codes " $") bytes a.0 a.1, g.0)

  pub term_exact : IsExact (term_at limit variable_count wild) term_item (IsTermFor limit variable_count wild)
  unfolding term_at
  term_exact = record { takes = taken; again = read_again }
    where
      taken : (bytes : List ℕ) (t : Term) (rest : List ℕ) → term_at limit variable_count wild bytes ≡ Some (t, rest) → IsRead bytes (t, rest)
      taken bytes t rest e = elim (chosen_is (after_text (codes " o") bytes) (object_at limit) _ (t, rest) e) [
        | inl o ↦ object_taken bytes o.0 t rest o.1 o.2
        | inr others ↦ elim (chosen_is (after_text (codes " v") bytes) (variable_at variable_count) _ (t, rest) others.1) [
          | inl v ↦ variable_taken bytes v.0 t rest v.1 v.2
          | inr last ↦ wild_card_taken bytes t rest last.1
        ]
      ]

      read_again : (t : Term) (rest : List ℕ) → IsTermFor limit variable_count wild t → stops rest ≡ true
          → term_at limit variable_count wild (term_item t ++ rest) ≡ Some (t, rest)
      read_again (Obj n) rest is stop = ap (λ (o : Parsed ℕ). o >>= λ x. Some (Obj x.0, x.1)) ((digits_exact limit low).again n rest is stop)
      read_again (Var v) rest is stop = ap (λ (o : Parsed ℕ). o >>= λ x. Some (Var x.0, x.1)) ((digits_exact variable_count few).again v rest is stop)
      read_again Any rest is stop = cond-true wild (Some (Any, rest)) None is

-- ---- lists

module _ {A : Type 0} (item : Reader A) (text : A → List ℕ) (Is : A → Type 0) (exact : IsExact item text Is) (starts : StartsWell text) where
  pub list_exact : (most : ℕ) → most < 2 ^ 64 → IsExact (list_at item most) (list_item text) (AreAtMost most Is)
  unfolding list_at
  list_exact most small =
      exact_as _ (list_item text) _
      (as_exact _ _ _
      (pair_exact (number_at (most + 1)) number_item (λ n. n < most + 1) (number_exact (most + 1) (omega arith)) (many_at item)
      (λ n. flat_map text) (λ n xs. (length xs ≡ n) × AllByRecursion Is xs) (λ n below. many_exact item text Is exact starts n)
      (λ n. many_start item text Is exact starts)) (λ read. read.1) (λ xs. (length xs, xs)) (λ x is. λ i. (is.1.0 i, x.1)) (λ xs. refl))
      (AreAtMost most Is) (λ xs is. (let below = is.0 in omega (arith, below), All-from_recursion Is xs is.1.1))
      (λ xs is. (let below = is.0 in omega (arith, below), (refl, recursion_from_All Is xs is.1)))

-- ---- signs

-- the number that stands for a sign
abbrev number_of : Bool → ℕ
number_of true = 1
number_of false = 0

sign_back : (n : ℕ) → n < 2 → number_of (eqb n 1) ≡ n
sign_back zero below = refl
sign_back (suc zero) below = refl
sign_back (suc (suc n)) below = absurd (omega (arith, below))

sign_here : (sign : Bool) → eqb (number_of sign) 1 ≡ sign
sign_here true = refl
sign_here false = refl

sign_text : (sign : Bool) → number_item (number_of sign) ≡ sign_item sign
sign_text true = ap (λ (r : List ℕ). codes " " ++ r) (decimal_digit 1 (omega arith))
sign_text false = ap (λ (r : List ℕ). codes " " ++ r) (decimal_digit 0 (omega arith))

sign_below : (sign : Bool) → number_of sign < 2
sign_below true = omega arith
sign_below false = omega arith

abbrev sign_item_by : Bool → List ℕ
sign_item_by sign = number_item (number_of sign)

pub sign_exact : IsExact sign_at sign_item (λ sign. Unit {0})
unfolding sign_at
sign_exact =
    exact_text sign_at sign_item_by _
    (exact_as sign_at sign_item_by _ (as_exact _ _ _ (number_exact 2 (omega arith)) (λ n. eqb n 1) number_of sign_back sign_here)
    (λ sign. Unit {0}) (λ sign is. tt) (λ sign is. sign_below sign)) sign_item sign_text

-- ---- atoms

-- an atom over the draft's predicates and such terms
pub record IsAtomFor (d : Draft) (variable_count : ℕ) (wild : Bool) (atom : Atom) : Type 0 where
  pub pred : atom.pred < length d.arities
  pub count : length atom.args ≡ slice_index d.arities atom.pred
  pub terms : AllByRecursion (IsTermFor (length d.objects) variable_count wild) atom.args

pub atom_starts : StartsWell atom_item
atom_starts = record { starts = λ atom rest stop. refl }

-- the draft has few enough objects, predicates, axioms and operators to be numbered, and its axioms have literals
pub record IsSmall (d : Draft) : Type 0 where
  pub objects : length d.objects ≤ 2 ^ 64
  pub arities : length d.arities ≤ 2 ^ 64
  pub axioms : length d.axioms ≤ 2 ^ 64
  pub schemas : length d.schemas ≤ 2 ^ 64
  pub literals : (number : ℕ) → number < length d.axioms → 1 ≤ length (clause_at d.axioms number).lits

module _ (d : Draft) (small : IsSmall d) (variable_count : ℕ) (few : variable_count ≤ 2 ^ 64) where
  module _ (wild : Bool) where
    pub atom_exact : IsExact (atom_at d variable_count wild) atom_item (IsAtomFor d variable_count wild)
    unfolding atom_at
    atom_exact =
        let term = term_exact (length d.objects) variable_count wild small.objects few in
        exact_as _ atom_item _
        (as_exact _ _ _
        (pair_exact (number_at (length d.arities)) number_item (λ n. n < length d.arities) (number_exact (length d.arities) small.arities)
        (λ pred. many_at (term_at (length d.objects) variable_count wild) (slice_index d.arities pred)) (λ pred. flat_map term_item)
        (λ pred args. (length args ≡ slice_index d.arities pred) × AllByRecursion (IsTermFor (length d.objects) variable_count wild) args)
        (λ pred below. many_exact _ term_item _ term term_starts (slice_index d.arities pred))
        (λ pred. many_start _ term_item _ term term_starts)) atom_of_parts (λ atom. (atom.pred, atom.args)) (λ parts is. refl) (λ atom. refl))
        (IsAtomFor d variable_count wild) (λ atom is. record { pred = is.0; count = is.1.0; terms = is.1.1 }) (λ atom is. (is.pred, (is.count, is.terms)))

  -- ---- literals

  pub literal_exact : IsExact (literal_at d variable_count) literal_item (λ lit. IsAtomFor d variable_count false lit.atom)
  unfolding literal_at
  literal_exact =
      exact_as _ literal_item _
      (as_exact _ _ _
      (pair_exact sign_at sign_item (λ sign. Unit {0}) sign_exact (λ sign. atom_at d variable_count false) (λ sign. atom_item)
      (λ sign. IsAtomFor d variable_count false) (λ sign is. atom_exact false) (λ sign. atom_starts)) literal_of_parts (λ lit. (lit.positive, lit.atom))
      (λ parts is. refl) (λ lit. refl)) (λ lit. IsAtomFor d variable_count false lit.atom) (λ lit is. is.1) (λ lit is. (tt, is))

pub literal_starts : StartsWell literal_item
literal_starts = record { starts = each }
  where
    signed : (sign : Bool) (text rest : List ℕ) → stops ((sign_item sign ++ text) ++ rest) ≡ true
    signed true text rest = refl
    signed false text rest = refl

    each : (lit : Lit) (rest : List ℕ) → stops rest ≡ true → stops (literal_item lit ++ rest) ≡ true
    each lit rest stop = signed lit.positive (atom_item lit.atom) rest

-- ---- atoms of the language

module _ (d : Draft) (variable_count : ℕ) where
  pub term_there : (t : Term) → IsTermFor (length d.objects) variable_count false t → IsTermOf (language d) variable_count t
  term_there (Obj n) is = is
  term_there (Var v) is = is
  term_there Any is = absurd (cc)

  pub term_back : (t : Term) → IsTermOf (language d) variable_count t → IsTermFor (length d.objects) variable_count false t
  term_back (Obj n) is = is
  term_back (Var v) is = is
  term_back Any is = absurd is

  pub pattern_there : (t : Term) → IsTermFor (length d.objects) variable_count true t → IsPatternTermOf (language d) variable_count t
  pattern_there (Obj n) is = is
  pattern_there (Var v) is = is
  pattern_there Any is = tt

  pub pattern_back : (t : Term) → IsPatternTermOf (language d) variable_count t → IsTermFor (length d.objects) variable_count true t
  pattern_back (Obj n) is = is
  pattern_back (Var v) is = is
  pattern_back Any is = refl

  pub each_there : (P Q : Term → Type 0) → ((t : Term) → P t → Q t) → (ts : List Term) → AllByRecursion P ts → AllByRecursion Q ts
  each_there P Q f [] all = tt
  each_there P Q f (t ∷ ts) all = (f t all.0, each_there P Q f ts all.1)

  pub atom_there : (atom : Atom) → IsAtomFor d variable_count false atom → IsAtomOf (language d) variable_count atom
  atom_there atom is = ((is.pred, is.count), All-from_recursion _ atom.args (each_there _ (IsTermOf (language d) variable_count) term_there atom.args is.terms))

  pub atom_back : (atom : Atom) → IsAtomOf (language d) variable_count atom → IsAtomFor d variable_count false atom
  atom_back atom is = record {
    pred = is.0.0;
    count = is.0.1;
    terms = each_there (IsTermOf (language d) variable_count) _ term_back atom.args (recursion_from_All _ atom.args is.1);
  }

  pub pattern_atom_there : (atom : Atom) → IsAtomFor d variable_count true atom → IsPatternOf (language d) variable_count atom
  pattern_atom_there atom is = (
    (is.pred, is.count),
    All-from_recursion _ atom.args (each_there _ (IsPatternTermOf (language d) variable_count) pattern_there atom.args is.terms),
  )

  pub pattern_atom_back : (atom : Atom) → IsPatternOf (language d) variable_count atom → IsAtomFor d variable_count true atom
  pattern_atom_back atom is = record {
    pred = is.0.0;
    count = is.0.1;
    terms = each_there (IsPatternTermOf (language d) variable_count) _ pattern_back atom.args (recursion_from_All _ atom.args is.1);
  }
