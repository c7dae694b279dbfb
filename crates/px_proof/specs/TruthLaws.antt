-- Truth in a state: it is decided, it goes over to complements, and it is kept where variables are replaced.
use Rattle.std.specs.Prelude.{◌≡◌, ◌↔◌, ◌⊎◌, ℕ, ◌<◌, ◌≤◌, Bool, true, false, nat_eq, List, [], ◌∷◌, map, slice_index, slice_index_or, All, Contains}
use Rattle.std.proofs.Common.{refl, sym, subst, inl, inr, zero, suc, arith, eq-eqb}
use Rattle.std.proofs.lemmas.List.Elements.{All-tail}
use Rattle.std.specs.Bool.{Decides}
use Rattle.std.specs.Cmp.Lexicographic.{pointwise, pointwise_decides}
use borrow.Author.Tests.{eqb-true}
use Rattle.px_base.specs.ListLaws.{Contains-none, Contains-first, Contains-later, Contains-cases}
use Rattle.px_base.specs.Answers.{both_answers}
use Rattle.px_terms.specs.declared.atom.Atom.{Atom}
use Rattle.px_terms.specs.declared.clause.Lit.{Lit}
use Rattle.px_terms.specs.declared.problem.Problem.{Problem}
use Rattle.px_terms.specs.declared.term.Term.{Term}
use Rattle.px_terms.specs.declared.term.Term.TheVariants.{Obj, Var, Any}
use Rattle.px_terms.specs.Language.{IsObject, substitute}
use Rattle.px_terms.specs.States.{State, IsState, HoldsUnder, AreValues, LiteralHoldsUnder, AxiomsHold, element_of}
use Rattle.px_proof.specs.Literals.{substitute_literal, complement_of}
use Rattle.px_proof.specs.Proves.{IsObjectOrParameter}
use Rattle.px_proof.specs.Truth.{ClausesHold}

-- the axioms of a problem hold where its clauses do
pub axioms_hold-clauses : (problem : Problem) (state : State) → AxiomsHold problem state ↔ ClausesHold problem.axioms state
axioms_hold-clauses problem state = (λ h. h, λ h. h)

-- ---- truth is decided

numbers_decide : (xs ys : List ℕ) → Decides (pointwise nat_eq xs ys) (xs ≡ ys)
numbers_decide = pointwise_decides (λ m n. (eqb-true m n, eq-eqb m n))

tuple_decided : (tuples : List (List ℕ)) (tuple : List ℕ) → Contains tuples tuple ⊎ (¬ Contains tuples tuple)
tuple_decided [] tuple = inr (Contains-none tuple)
tuple_decided (first ∷ tuples) tuple =
    elim (pointwise nat_eq first tuple) as (λ b. pointwise nat_eq first tuple ≡ b → Contains (first ∷ tuples) tuple
    ⊎ (¬ Contains (first ∷ tuples) tuple)) [
      | true ↦ λ same. inl (subst (Contains (first ∷ tuples)) ((numbers_decide first tuple).0 same) (Contains-first first tuples))
      | false ↦ λ differ. elim (tuple_decided tuples tuple) [
        | inl later ↦ inl (Contains-later first tuples tuple later)
        | inr nowhere ↦ inr (λ h. elim (Contains-cases first tuples tuple h) [
          | inl is ↦ both_answers (pointwise nat_eq first tuple) differ ((numbers_decide first tuple).1 is)
          | inr later ↦ nowhere later
        ])
      ]
    ] refl

pub holds-decided : (state : State) (values : List ℕ) (atom : Atom) → HoldsUnder state values atom ⊎ (¬ HoldsUnder state values atom)
holds-decided state values atom = tuple_decided (slice_index_or state.tuples atom.pred []) (map (element_of state values) atom.args)

signed_decided : (state : State) (values : List ℕ) (positive : Bool) (atom : Atom)
    → LiteralHoldsUnder state values (record { positive = positive; atom = atom })
    ⊎ (¬ LiteralHoldsUnder state values (record { positive = positive; atom = atom }))
signed_decided state values true atom = holds-decided state values atom
signed_decided state values false atom = elim (holds-decided state values atom)
    [ inl holds ↦ inr (λ fails. fails holds) | inr fails ↦ inl fails ]

pub literal-decided : (state : State) (values : List ℕ) (lit : Lit) → LiteralHoldsUnder state values lit
    ⊎ (¬ LiteralHoldsUnder state values lit)
literal-decided state values lit = signed_decided state values lit.positive lit.atom

-- ---- complements

signed_fails : (state : State) (values : List ℕ) (positive : Bool) (atom : Atom)
    → LiteralHoldsUnder state values (complement_of (record { positive = positive; atom = atom }))
    → ¬ LiteralHoldsUnder state values (record { positive = positive; atom = atom })
signed_fails state values true atom complement = complement
signed_fails state values false atom complement = λ fails. fails complement

signed_holds : (state : State) (values : List ℕ) (positive : Bool) (atom : Atom)
    → (¬ LiteralHoldsUnder state values (complement_of (record { positive = positive; atom = atom })))
    → LiteralHoldsUnder state values (record { positive = positive; atom = atom })
signed_holds state values true atom fails = elim (holds-decided state values atom)
    [ inl holds ↦ holds | inr not_so ↦ absurd (fails not_so) ]
signed_holds state values false atom fails = fails

-- a literal is false where its complement is true
pub complement-fails : (state : State) (values : List ℕ) (lit : Lit) → LiteralHoldsUnder state values (complement_of lit)
    → ¬ LiteralHoldsUnder state values lit
complement-fails state values lit = signed_fails state values lit.positive lit.atom

-- and true where its complement is false
pub complement-holds : (state : State) (values : List ℕ) (lit : Lit) → (¬ LiteralHoldsUnder state values (complement_of lit))
    → LiteralHoldsUnder state values lit
complement-holds state values lit = signed_holds state values lit.positive lit.atom

-- ---- variables replaced

-- the elements of the terms
abbrev pub elements_of : State → List ℕ → List Term → List ℕ
elements_of state values theta = map (element_of state values) theta

element_at : (state : State) (values : List ℕ) (theta : List Term) (v : ℕ)
    → element_of state values (slice_index_or theta v Any) ≡ slice_index (elements_of state values theta) v
element_at state values [] v = refl
element_at state values (x ∷ theta) zero = refl
element_at state values (x ∷ theta) (suc v) = element_at state values theta v

element_under : (state : State) (values : List ℕ) (theta : List Term) (t : Term)
    → element_of state values (substitute theta t) ≡ element_of state (elements_of state values theta) t
element_under state values theta (Obj n) = refl
element_under state values theta (Var v) = element_at state values theta v
element_under state values theta Any = refl

tuple_under : (state : State) (values : List ℕ) (theta args : List Term)
    → map (element_of state values) (map (substitute theta) args) ≡ map (element_of state (elements_of state values theta)) args
tuple_under state values theta [] = refl
tuple_under state values theta (t ∷ args) = rw (element_under state values theta t, tuple_under state values theta args) refl

signed_under : (state : State) (values : List ℕ) (theta : List Term) (positive : Bool) (atom : Atom)
    → LiteralHoldsUnder state values (substitute_literal theta (record { positive = positive; atom = atom }))
    ↔ LiteralHoldsUnder state (elements_of state values theta) (record { positive = positive; atom = atom })
signed_under state values theta true atom = (
  λ h. subst (Contains (slice_index_or state.tuples atom.pred [])) (tuple_under state values theta atom.args) h,
  λ h. subst (Contains (slice_index_or state.tuples atom.pred [])) (sym (tuple_under state values theta atom.args)) h,
)
signed_under state values theta false atom = (
  λ n h. n (subst (Contains (slice_index_or state.tuples atom.pred [])) (sym (tuple_under state values theta atom.args)) h),
  λ n h. n (subst (Contains (slice_index_or state.tuples atom.pred [])) (tuple_under state values theta atom.args) h),
)

-- a literal with its variables replaced says what it says where the variables have the elements of the terms
pub literal-under : (state : State) (values : List ℕ) (theta : List Term) (lit : Lit)
    → LiteralHoldsUnder state values (substitute_literal theta lit) ↔ LiteralHoldsUnder state (elements_of state values theta) lit
literal-under state values theta lit = signed_under state values theta lit.positive lit.atom

-- ---- the elements of objects and parameters

pub element_within : (size : ℕ) → 1 ≤ size → (elements : List ℕ) (n : ℕ) → All (λ e. e < size) elements → slice_index elements n < size
element_within size some [] n within = some
element_within size some (e ∷ elements) zero within = within 0 0 (omega arith)
element_within size some (e ∷ elements) (suc n) within = element_within size some elements n (All-tail (λ m. m < size) e elements within)

pub object-within : (state : State) → IsState state → (values : List ℕ) (t : Term) → IsObject t → element_of state values t < state.size
object-within state is values (Obj n) h = element_within state.size is.not_empty state.elements n is.elements
object-within state is values (Var v) h = absurd h
object-within state is values Any h = absurd h

pub name-within : (state : State) → IsState state → (objects params : ℕ) (values : List ℕ) → AreValues state params values → (t : Term)
    → IsObjectOrParameter objects params t → element_of state values t < state.size
name-within state is objects params values are (Obj n) h = element_within state.size is.not_empty state.elements n is.elements
name-within state is objects params values are (Var v) h = element_within state.size is.not_empty values v are.1
name-within state is objects params values are Any h = absurd h
