-- Each state of a building has an interpretation: each object is its own element, and nothing but the facts is true.
use Rattle.std.specs.Prelude.{◌≡◌, ◌⊎◌, ◌<◌, ◌≤◌, ◌+◌, ◌==◌, ℕ, Bool, true, false, List, [], ◌∷◌, length, map, slice_index, slice_index_or, All, Any, Contains}
use Rattle.std.proofs.Common.{zero, suc, refl, sym, ap, ◌∙◌, subst, inl, inr, arith}
use Rattle.std.specs.List.{list_any}
use Rattle.std.proofs.lemmas.Bool.{eqb-true}
use Rattle.std.proofs.lemmas.List.Elements.{All-cons, All-head, All-nil, All-tail}
use Rattle.std.proofs.lemmas.Map.Views.{list_any-from_Contains, Contains-from_any}
use Rattle.px_base.specs.Answers.{both_answers}
use Rattle.px_base.specs.ListLaws.{All-at, All-each, Contains-cases, Contains-first, Contains-later, Contains-none}
use Rattle.px_terms.specs.declared.atom.Atom.{Atom}
use Rattle.px_terms.specs.declared.clause.Clause.{Clause}
use Rattle.px_terms.specs.declared.clause.Lit.{Lit}
use Rattle.px_terms.specs.declared.term.Term.{Term}
use Rattle.px_terms.specs.declared.term.Term.TheVariants.{Obj, Var, Any as WildCard}
use Rattle.px_terms.specs.Instances.{IsGround}
use Rattle.px_terms.specs.Language.{IsObject}
use Rattle.px_terms.specs.MergedNamesLaws.{one}
use Rattle.px_terms.specs.Order.{atom_eq}
use Rattle.px_terms.specs.OrderLaws.{atom_eq-decides, atom_eq-equivalence}
use Rattle.px_terms.specs.States.{AreValues, AxiomsHold, Holds, IsState, LiteralHoldsUnder, State, element_of}
use Rattle.px_terms.specs.Validity.{IsAtomOf, IsTermOf}
use Rattle.px_rooms.specs.Domain.{both_ways, connects}
use Rattle.px_rooms.specs.Following.{IsInterpretationOf}
use Rattle.px_rooms.specs.States.{IsRoomState, RoomState, building_rules, rendering}
use Rattle.px_rooms.proofs.Belonging.{facts-are-atoms}
use Rattle.px_rooms.proofs.Effects.{same-number}
use Rattle.px_rooms.proofs.Telling.{connects-back}
use Rattle.px_rooms.proofs.Worlds.{rendering-ground}
use Rattle.px_rooms.proofs.Numbers.{number_of}

-- ---- the elements

numbers : ℕ → ℕ → List ℕ
numbers zero first = []
numbers (suc n) first = first ∷ numbers n (suc first)

number-at : (n first k : ℕ) → k < n → slice_index (numbers n first) k ≡ first + k
unfolding numbers
number-at zero first k below = absurd (omega (arith, below))
number-at (suc n) first zero below = omega arith
number-at (suc n) first (suc k) below = number-at n (suc first) k (omega (arith, below)) ∙ omega arith

numbers-below : (n first q : ℕ) → Contains (numbers n first) q → q < first + n
unfolding numbers
numbers-below zero first q has = absurd (Contains-none q has)
numbers-below (suc n) first q has = elim (Contains-cases first (numbers n (suc first)) q has) [
  | inl is ↦ omega (arith, is)
  | inr later ↦ let rest = numbers-below n (suc first) q later in omega (arith, rest)
]

-- ---- the tuples of a predicate

put_tuple : Bool → List ℕ → List (List ℕ) → List (List ℕ)
put_tuple true tuple tuples = tuple ∷ tuples
put_tuple false tuple tuples = tuples

tuples_of : ℕ → List Atom → List (List ℕ)
tuples_of pred [] = []
tuples_of pred (atom ∷ atoms) = put_tuple (atom.pred == pred) (map number_of atom.args) (tuples_of pred atoms)

put-there : (b : Bool) (pred : ℕ) (x atom : Atom) (tuples : List (List ℕ)) → (x.pred == pred) ≡ b → atom.pred ≡ pred
    → (x ≡ atom) ⊎ Contains tuples (map number_of atom.args)
    → Contains (put_tuple b (map number_of x.args) tuples) (map number_of atom.args)
unfolding put_tuple
put-there true pred x atom tuples equal is (inl same) =
    subst (λ (a : Atom). Contains (map number_of x.args ∷ tuples) (map number_of a.args)) same
    (Contains-first (map number_of x.args) tuples)
put-there true pred x atom tuples equal is (inr later) = Contains-later (map number_of x.args) tuples (map number_of atom.args) later
put-there false pred x atom tuples other is (inl same) =
    both_answers (x.pred == pred) other (subst (λ n. (n == pred) ≡ true) (sym is ∙ ap (λ (a : Atom). a.pred) (sym same)) (same-number pred))
put-there false pred x atom tuples other is (inr later) = later

tuple-there : (pred : ℕ) (atoms : List Atom) (atom : Atom) → Contains atoms atom → atom.pred ≡ pred
    → Contains (tuples_of pred atoms) (map number_of atom.args)
unfolding tuples_of
tuple-there pred [] atom has is = absurd (Contains-none atom has)
tuple-there pred (x ∷ xs) atom has is =
    put-there (x.pred == pred) pred x atom (tuples_of pred xs) refl is
    (elim (Contains-cases x xs atom has) [ inl same ↦ inl same | inr later ↦ inr (tuple-there pred xs atom later is) ])

there-put : (b : Bool) (pred : ℕ) (x : Atom) (tuples : List (List ℕ)) (tuple : List ℕ) → (x.pred == pred) ≡ b
    → Contains (put_tuple b (map number_of x.args) tuples) tuple
    → ((x.pred ≡ pred) × (map number_of x.args ≡ tuple)) ⊎ Contains tuples tuple
unfolding put_tuple
there-put true pred x tuples tuple equal has =
    elim (Contains-cases (map number_of x.args) tuples tuple has) [ inl is ↦ inl (eqb-true x.pred pred equal, is) | inr later ↦ inr later ]
there-put false pred x tuples tuple other has = inr has

there-tuple : (pred : ℕ) (atoms : List Atom) (tuple : List ℕ) → Contains (tuples_of pred atoms) tuple
    → (atom : Atom) × Contains atoms atom × (atom.pred ≡ pred) × (map number_of atom.args ≡ tuple)
unfolding tuples_of
there-tuple pred [] tuple has = absurd (Contains-none tuple has)
there-tuple pred (x ∷ xs) tuple has = elim (there-put (x.pred == pred) pred x (tuples_of pred xs) tuple refl has) [
  | inl here ↦ (x, Contains-first x xs, here.0, here.1)
  | inr later ↦ let found = there-tuple pred xs tuple later in (found.0, Contains-later x xs found.0 found.1, found.2, found.3)
]

-- those of `count` predicates from a number on
tables : ℕ → ℕ → List Atom → List (List (List ℕ))
tables zero first atoms = []
tables (suc n) first atoms = tuples_of first atoms ∷ tables n (suc first) atoms

table-at : (n first k : ℕ) (atoms : List Atom) → k < n → slice_index_or (tables n first atoms) k [] ≡ tuples_of (first + k) atoms
unfolding tables
table-at zero first k atoms below = absurd (omega (arith, below))
table-at (suc n) first zero atoms below = ap (λ p. tuples_of p atoms) (omega arith)
table-at (suc n) first (suc k) atoms below =
    table-at n (suc first) k atoms (omega (arith, below)) ∙ ap (λ p. tuples_of p atoms) (omega arith)

table-past : (n first k : ℕ) (atoms : List Atom) → n ≤ k → slice_index_or (tables n first atoms) k [] ≡ []
unfolding tables
table-past zero first k atoms past = refl
table-past (suc n) first zero atoms past = absurd (omega (arith, past))
table-past (suc n) first (suc k) atoms past = table-past n (suc first) k atoms (omega (arith, past))

tables-each : (P : List (List ℕ) → Type 0) (n first : ℕ) (atoms : List Atom) → ((pred : ℕ) → P (tuples_of pred atoms))
    → All P (tables n first atoms)
unfolding tables
tables-each P zero first atoms each = All-nil P
tables-each P (suc n) first atoms each =
    All-cons P (tuples_of first atoms) (tables n (suc first) atoms) (each first) (tables-each P n (suc first) atoms each)

-- ---- ground atoms are determined by their numbers

objects-by-numbers : (xs ys : List Term) → All IsObject xs → All IsObject ys → map number_of xs ≡ map number_of ys → xs ≡ ys
objects-by-numbers [] [] _ _ is = refl
objects-by-numbers [] (y ∷ ys) _ _ is = absurd (cc)
objects-by-numbers (x ∷ xs) [] _ _ is = absurd (cc)
objects-by-numbers (Obj m ∷ xs) (Obj n ∷ ys) all_x all_y is =
    let first : m ≡ n = ap head is in
    let rest = objects-by-numbers xs ys (All-tail IsObject (Obj m) xs all_x) (All-tail IsObject (Obj n) ys all_y) (ap tail is) in
    λ i. Obj (first i) ∷ rest i
  where
    head : List ℕ → ℕ
    head [] = 0
    head (z ∷ zs) = z

    tail : List ℕ → List ℕ
    tail [] = []
    tail (z ∷ zs) = zs
objects-by-numbers (Var v ∷ xs) (y ∷ ys) all_x all_y is = absurd (All-head IsObject (Var v) xs all_x)
objects-by-numbers (WildCard ∷ xs) (y ∷ ys) all_x all_y is = absurd (All-head IsObject WildCard xs all_x)
objects-by-numbers (Obj m ∷ xs) (Var v ∷ ys) all_x all_y is = absurd (All-head IsObject (Var v) ys all_y)
objects-by-numbers (Obj m ∷ xs) (WildCard ∷ ys) all_x all_y is = absurd (All-head IsObject WildCard ys all_y)

-- ---- the state

no_literal : Lit
no_literal = record { positive = true; atom = record { pred = 0; args = [] } }

module _ (state : RoomState) where
  abbrev size : ℕ
  size = length state.things + 1

  abbrev facts_state : State
  facts_state = record { size = size; elements = numbers size 0; tuples = tables 8 0 (rendering state) }

  -- the atom's predicate is one of the domain, and its objects are below the size
  abbrev IsNamed : Term → Type 0
  IsNamed term = IsObject term × (number_of term < size)

  element-is : (terms : List Term) → All IsNamed terms → map (element_of facts_state []) terms ≡ map number_of terms
  element-is [] all = refl
  element-is (Obj n ∷ terms) all =
      let first : slice_index (numbers size 0) n ≡ n = number-at size 0 n (All-head IsNamed (Obj n) terms all).1 ∙ omega arith in
      let rest = element-is terms (All-tail IsNamed (Obj n) terms all) in
      λ i. (first i) ∷ rest i
  element-is (Var v ∷ terms) all = absurd (All-head IsNamed (Var v) terms all).0
  element-is (WildCard ∷ terms) all = absurd (All-head IsNamed WildCard terms all).0

  fact-holds : (atom : Atom) → atom.pred < 8 → All IsNamed atom.args → Contains (rendering state) atom → Holds facts_state atom
  fact-holds atom pred named has =
      subst (λ tuples. Contains tuples (map (element_of facts_state []) atom.args)) (sym (table-at 8 0 atom.pred (rendering state) pred))
      (subst (Contains (tuples_of (0 + atom.pred) (rendering state))) (sym (element-is atom.args named))
      (tuple-there (0 + atom.pred) (rendering state) atom has (omega arith)))

  tuple-is-fact : (atom : Atom) → IsGround atom → Contains (slice_index_or facts_state.tuples atom.pred []) (map number_of atom.args)
      → Contains (rendering state) atom
  tuple-is-fact atom is_ground has = by_pred (or_past atom.pred) where
    or_past : (k : ℕ) → (k < 8) ⊎ (8 ≤ k)
    or_past k = grind arith

    by_pred : (atom.pred < 8) ⊎ (8 ≤ atom.pred) → Contains (rendering state) atom
    by_pred (inl below) =
        let found =
        there-tuple (0 + atom.pred) (rendering state) (map number_of atom.args)
        (subst (λ tuples. Contains tuples (map number_of atom.args)) (table-at 8 0 atom.pred (rendering state) below) has) in
        let args =
        objects-by-numbers found.0.args atom.args
        (All-at IsGround (rendering state) found.0 (rendering-ground state) found.1) is_ground found.3 in
        let pred : found.0.pred ≡ atom.pred = found.2 ∙ omega arith in
        subst (Contains (rendering state)) (λ i. record { pred = pred i; args = args i }) found.1
    by_pred (inr past) =
        absurd (Contains-none _ (subst (λ tuples. Contains tuples (map number_of atom.args))
        (table-past 8 0 atom.pred (rendering state) past) has))

  holds-fact : (atom : Atom) → All IsNamed atom.args → Holds facts_state atom → Contains (rendering state) atom
  holds-fact atom named holds =
      tuple-is-fact atom (All-each IsObject atom.args (λ term has. (All-at IsNamed atom.args term named has).0))
      (subst (Contains (slice_index_or facts_state.tuples atom.pred [])) (element-is atom.args named) holds)

  -- ---- atoms of the building

  term-named : (term : Term) → IsTermOf (building_rules state) 0 term → IsNamed term
  term-named (Obj n) below = (tt, below)
  term-named (Var v) below = absurd (omega (arith, below))
  term-named WildCard below = absurd below

  args-named : (atom : Atom) → IsAtomOf (building_rules state) 0 atom → All IsNamed atom.args
  args-named atom of_rules = All-each IsNamed atom.args
      (λ term has. term-named term (All-at (IsTermOf (building_rules state) 0) atom.args term of_rules.1 has))

  module _ (is : IsRoomState state) where
    fact-belongs : (atom : Atom) → Contains (rendering state) atom → IsAtomOf (building_rules state) 0 atom
    fact-belongs atom has = All-at (IsAtomOf (building_rules state) 0) (rendering state) atom (facts-are-atoms state is).1 has

    -- ---- it is a state in which the axiom and all facts hold

    numbers-named : (terms : List Term) → All IsNamed terms → All (λ n. n < size) (map number_of terms)
    numbers-named [] all = All-nil (λ n. n < size)
    numbers-named (term ∷ terms) all =
        All-cons (λ n. n < size) (number_of term) (map number_of terms) (All-head IsNamed term terms all).1
        (numbers-named terms (All-tail IsNamed term terms all))

    tuples-named : (pred : ℕ) → All (All (λ n. n < size)) (tuples_of pred (rendering state))
    tuples-named pred = All-each (All (λ n. n < size)) (tuples_of pred (rendering state)) (λ tuple has.
        let found = there-tuple pred (rendering state) tuple has in
        subst (All (λ n. n < size)) found.3 (numbers-named found.0.args (args-named found.0 (fact-belongs found.0 found.1))))

    is-state : IsState facts_state
    is-state = record {
      not_empty = omega arith;
      elements = All-each (λ n. n < size) (numbers size 0) (λ n has. let below = numbers-below size 0 n has in omega (arith, below));
      tuples = tables-each (All (All (λ n. n < size))) 8 0 (rendering state) tuples-named;
    }

    -- the door connects in no way, or in both
    either-way : (d x y : ℕ) → (¬ Contains (rendering state) (connects (Obj d) (Obj x) (Obj y)))
        ⊎ Contains (rendering state) (connects (Obj d) (Obj y) (Obj x))
    either-way d x y = by_test (list_any (atom_eq (connects (Obj d) (Obj x) (Obj y))) (rendering state)) refl where
      by_test : (b : Bool) → list_any (atom_eq (connects (Obj d) (Obj x) (Obj y))) (rendering state) ≡ b
          → (¬ Contains (rendering state) (connects (Obj d) (Obj x) (Obj y)))
          ⊎ Contains (rendering state) (connects (Obj d) (Obj y) (Obj x))
      by_test true found =
          inr (connects-back state d x y (Contains-from_any (λ p q. (atom_eq-decides p q).0) (connects (Obj d) (Obj x) (Obj y))
          (rendering state) found))
      by_test false none =
          inl (λ has. both_answers _ none (list_any-from_Contains atom_eq-equivalence (connects (Obj d) (Obj x) (Obj y))
          (rendering state) has))

    connects-ground : (d x y : ℕ) → IsGround (connects (Obj d) (Obj x) (Obj y))
    connects-ground d x y =
        All-cons IsObject (Obj d) (Obj x ∷ Obj y ∷ []) tt
        (All-cons IsObject (Obj x) (Obj y ∷ []) tt (All-cons IsObject (Obj y) [] tt (All-nil IsObject)))

    axiom-true : (values : List ℕ) → Any (LiteralHoldsUnder facts_state values) both_ways.lits
    axiom-true values =
        let d = slice_index values 0 in
        let x = slice_index values 1 in
        let y = slice_index values 2 in
        elim (either-way d x y) [
          | inl neither ↦ (
            0,
            slice_index_or both_ways.lits 0 no_literal,
            omega arith,
            refl,
            λ holds. neither (tuple-is-fact (connects (Obj d) (Obj x) (Obj y)) (connects-ground d x y) holds),
          )
          | inr back ↦ (
            1,
            slice_index_or both_ways.lits 1 no_literal,
            omega arith,
            refl,
            subst (λ tuples. Contains tuples (d ∷ y ∷ x ∷ [])) (sym (table-at 8 0 2 (rendering state) (omega arith)))
                (tuple-there 2 (rendering state) (connects (Obj d) (Obj y) (Obj x)) back refl),
          )
        ]

    axioms-hold : AxiomsHold (building_rules state) facts_state
    axioms-hold =
        one (λ (clause : Clause). (values : List ℕ) → AreValues facts_state clause.variable_count values
        → Any (LiteralHoldsUnder facts_state values) clause.lits) both_ways (λ values are. axiom-true values)

    -- exactly the facts hold, of the atoms of the building
    pub interpreted : (interpretation : State) × IsInterpretationOf state interpretation
    interpreted = (
      facts_state,
      record {
        is_state = is-state;
        axioms = axioms-hold;
        facts = λ atom of_rules. let named = args-named atom of_rules in
            (λ holds. holds-fact atom named holds, λ has. fact-holds atom of_rules.0.0 named has);
      },
    )
