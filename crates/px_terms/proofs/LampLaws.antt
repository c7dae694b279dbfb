-- What the worked example of the lamp says is so.
use Rattle.std.specs.Prelude.{◌≡◌, ◌⊎◌, ◌<◌, true, ℕ, List, [], ◌∷◌, length, All, Any, Contains, slice_index, slice_index_or}
use Rattle.std.proofs.Common.{refl, subst, sym, arith, zero, suc, inl, inr}
use Rattle.std.proofs.lemmas.List.Elements.{All-cons, All-head}
use Rattle.px_base.specs.ListLaws.{Contains-none}
use Rattle.px_terms.specs.declared.atom.Atom.{Atom}
use Rattle.px_terms.specs.declared.clause.Clause.{Clause}
use Rattle.px_terms.specs.declared.clause.Lit.{Lit}
use Rattle.px_terms.specs.declared.term.Term.{Term}
use Rattle.px_terms.specs.declared.term.Term.TheVariants.{Obj, Var, Any as WildCard}
use Rattle.px_terms.specs.Clauses.{IsArena, IsClause}
use Rattle.px_terms.specs.Lamps.{on, off, shines, on_or_off, on_shines, switch_schema, lamp_with, lamp, switch_on, lamp_state, it, dark, shining, broken, missing, LampFact}
use Rattle.px_terms.specs.Language.{IsPlainBelow}
use Rattle.px_terms.specs.MergedNamesLaws.{All-nothing, one}
use Rattle.px_terms.specs.Operators.{IsDeleted, deletes, no_schema}
use Rattle.px_terms.specs.Plans.{IsRun, MeetsEach, Carries, GoalHolds, last_of}
use Rattle.px_terms.specs.SortLaws.{no_object_sorts-are, no_sorts-are}
use Rattle.px_terms.specs.States.{State, IsState, Holds, HoldsUnder, AreValues, AxiomsHold, Described, LiteralHoldsUnder}
use Rattle.px_terms.specs.Validity.{IsAtomOf, IsAxiomOf, IsInstanceOf, IsPatternOf, IsPatternTermOf, IsSchemaOf, IsTermOf, IsValid}
use Rattle.px_terms.specs.ValidityLaws.{atom_of-is_ground, deletes-true, instance-is_ground}

pub two : {X : Type 0} (P : X → Type 0) (x y : X) → P x → P y → All P (x ∷ y ∷ [])
two P x y here there = All-cons P x (y ∷ []) here (one P y there)

first : {X : Type 0} (P : X → Type 0) (x y : X) → P x → Any P (x ∷ y ∷ [])
first P x y here = (0, x, omega arith, refl, here)

second : {X : Type 0} (P : X → Type 0) (x y : X) → P y → Any P (x ∷ y ∷ [])
second P x y here = (1, y, omega arith, refl, here)

either : {X : Type 0} (P : X → Type 0) (x y : X) → Any P (x ∷ y ∷ []) → P x ⊎ P y
either P x y (zero, z, below, is, here) = inl (subst P (sym is) here)
either P x y (suc zero, z, below, is, here) = inr (subst P (sym is) here)
either P x y (suc (suc k), z, below, is, here) = absurd (omega (arith, below))

-- ---- the problem, with any axioms

module _ (axioms : List Clause) where
  on_parameter : IsAtomOf (lamp_with axioms) 1 (on (Var 0))
  on_parameter = ((omega arith, refl), one (IsTermOf (lamp_with axioms) 1) (Var 0) (omega arith))

  off_parameter : IsAtomOf (lamp_with axioms) 1 (off (Var 0))
  off_parameter = ((omega arith, refl), one (IsTermOf (lamp_with axioms) 1) (Var 0) (omega arith))

  shines_parameter : IsAtomOf (lamp_with axioms) 1 (shines (Var 0))
  shines_parameter = ((omega arith, refl), one (IsTermOf (lamp_with axioms) 1) (Var 0) (omega arith))

  off_pattern : IsPatternOf (lamp_with axioms) 1 (off (Var 0))
  off_pattern = ((omega arith, refl), one (IsPatternTermOf (lamp_with axioms) 1) (Var 0) (omega arith))

  switch_is_schema : IsSchemaOf (lamp_with axioms) 0 switch_schema
  switch_is_schema = record {
    number = refl;
    params = omega arith;
    pre = one (IsAtomOf (lamp_with axioms) 1) (off (Var 0)) off_parameter;
    del = one (IsPatternOf (lamp_with axioms) 1) (off (Var 0)) off_pattern;
    add = one (IsAtomOf (lamp_with axioms) 1) (on (Var 0)) on_parameter;
    short = (omega arith, omega arith, omega arith);
    sorts = no_sorts-are (lamp_with axioms) 1;
  }

  each_schema : (k : ℕ) → k < 1 → IsSchemaOf (lamp_with axioms) k (slice_index_or (switch_schema ∷ []) k no_schema)
  each_schema zero below = switch_is_schema
  each_schema (suc k) below = absurd (omega (arith, below))

  valid_with : All (IsAxiomOf (lamp_with axioms)) axioms → IsArena axioms → IsValid (lamp_with axioms)
  valid_with are arena = record {
    schemas = each_schema;
    axioms = are;
    arena = arena;
    short = (omega arith, omega arith);
    height = (omega arith, omega arith);
    nodes = (omega arith, omega arith);
    shapes = (omega arith, omega arith);
    weight = omega arith;
    sorts = no_object_sorts-are (lamp_with axioms) 1 (omega arith);
    no_objects = λ none_there. absurd (omega (arith, none_there));
  }

  instance_with : IsInstanceOf (lamp_with axioms) switch_on
  instance_with = record { op = omega arith; count = refl; objects = one (IsTermOf (lamp_with axioms) 0) (Obj 0) (omega arith) }

valid : IsValid lamp
valid =
    let both : List Clause = on_or_off ∷ on_shines ∷ [] in
    let is_of : Lit → Type 0 = λ lit. IsAtomOf lamp 1 lit.atom in
    let plain : Lit → Type 0 = λ lit. All (IsPlainBelow 1) lit.atom.args in
    let variable : All (IsPlainBelow 1) (Var 0 ∷ []) = one (IsPlainBelow 1) (Var 0) (omega arith) in
    valid_with both
    (two (IsAxiomOf lamp) on_or_off on_shines
    (record { variable_count = omega arith; lits = two is_of _ _ (on_parameter both) (off_parameter both) })
    (record { variable_count = omega arith; lits = two is_of _ _ (on_parameter both) (shines_parameter both) }))
    (record {
      each = two IsClause on_or_off on_shines
          (record { size = (omega arith, omega arith); plain = two plain _ _ variable variable })
          (record { size = (omega arith, omega arith); plain = two plain _ _ variable variable });
      most = omega arith;
    })

-- ---- the states

it_below : All (All (λ e. e < 1)) it
it_below = one (All (λ e. e < 1)) (0 ∷ []) (one (λ e. e < 1) 0 (omega arith))

none_below : All (All (λ e. e < 1)) []
none_below = All-nothing (All (λ e. e < 1))

state_with : (is_on is_off is_shining : List (List ℕ)) → All (All (λ e. e < 1)) is_on → All (All (λ e. e < 1)) is_off
    → All (All (λ e. e < 1)) is_shining
    → IsState (lamp_state is_on is_off is_shining)
state_with is_on is_off is_shining h k l = record {
  not_empty = omega arith;
  elements = one (λ e. e < 1) 0 (omega arith);
  tuples = All-cons (All (All (λ e. e < 1))) is_on (is_off ∷ is_shining ∷ []) h (two (All (All (λ e. e < 1))) is_off is_shining k l);
}

dark_state : IsState dark
dark_state = state_with [] it [] none_below it_below none_below

-- one variable has one value where there is one element
one_value : (values : List ℕ) → length values ≡ 1 → All (λ e. e < 1) values → values ≡ 0 ∷ []
one_value [] count below = absurd (omega (arith, count))
one_value (zero ∷ []) count below = refl
one_value (suc n ∷ []) count below = absurd (omega (arith, All-head (λ e. e < 1) (suc n) [] below))
one_value (m ∷ n ∷ ns) count below = absurd (omega (arith, count))

-- ---- the axioms

-- the axiom is true in the state
abbrev AxiomHolds : State → Clause → Type 0
AxiomHolds state clause = (values : List ℕ) → AreValues state clause.variable_count values → Any (LiteralHoldsUnder state values) clause.lits

-- what holds of the lamp's element holds of all values
of_all : (state : State) (clause : Clause) → state.size ≡ 1 → clause.variable_count ≡ 1 → Any (LiteralHoldsUnder state (0 ∷ [])) clause.lits
    → (values : List ℕ) → AreValues state clause.variable_count values → Any (LiteralHoldsUnder state values) clause.lits
of_all state clause size variable_count holds values are =
    let is = one_value values (rw variable_count at are.0) (subst (λ (size : ℕ). All (λ e. e < size) values) size are.1) in
    subst (λ (v : List ℕ). Any (LiteralHoldsUnder state v) clause.lits) (sym is) holds

dark_holds : AxiomsHold lamp dark
dark_holds = two (AxiomHolds dark) on_or_off on_shines
    (of_all dark on_or_off refl refl (second (LiteralHoldsUnder dark (0 ∷ [])) _ _ (0, omega arith, refl)))
    (of_all dark on_shines refl refl (first (LiteralHoldsUnder dark (0 ∷ [])) _ _ (Contains-none (0 ∷ []))))

shining_holds : AxiomsHold lamp shining
shining_holds = two (AxiomHolds shining) on_or_off on_shines
    (of_all shining on_or_off refl refl (first (LiteralHoldsUnder shining (0 ∷ [])) _ _ (0, omega arith, refl)))
    (of_all shining on_shines refl refl (second (LiteralHoldsUnder shining (0 ∷ [])) _ _ (0, omega arith, refl)))

values_of_one : (state : State) → state.size ≡ 1 → AreValues state 1 (0 ∷ [])
values_of_one state size = (refl, one (λ e. e < state.size) 0 (omega (arith, size)))

broken_fails : ¬ AxiomsHold lamp broken
broken_fails holds =
    elim (either (LiteralHoldsUnder broken (0 ∷ [])) _ _ (holds 1 on_shines (omega arith) (0 ∷ []) (values_of_one broken refl))) [
      | inl denied ↦ denied (0, omega arith, refl)
      | inr is_shining ↦ Contains-none (0 ∷ []) is_shining
    ]

missing_fails : ¬ AxiomsHold lamp missing
missing_fails holds =
    elim (either (LiteralHoldsUnder missing (0 ∷ [])) _ _ (holds 0 on_or_off (omega arith) (0 ∷ []) (values_of_one missing refl))) [
      | inl is_on ↦ Contains-none (0 ∷ []) is_on
      | inr is_off ↦ Contains-none (0 ∷ []) is_off
    ]

-- ---- what is carried

element_below : (state : State) → IsState state → slice_index state.elements 0 < state.size
element_below state is = first_below state.elements is.elements
  where
    first_below : (elements : List ℕ) → All (λ e. e < state.size) elements → slice_index elements 0 < state.size
    first_below [] all = is.not_empty
    first_below (e ∷ es) all = All-head (λ e. e < state.size) e es all

-- where the lamp is on, something shines
on_then_shines : (state : State) → IsState state → AxiomsHold lamp state → Holds state (on (Obj 0))
    → GoalHolds state 1 (shines (Var 0) ∷ [])
on_then_shines state is axioms_hold is_on =
    let e = slice_index state.elements 0 in
    let values : AreValues state 1 (e ∷ []) = (refl, one (λ n. n < state.size) e (element_below state is)) in
    elim (either (LiteralHoldsUnder state (e ∷ [])) _ _ (axioms_hold 1 on_shines (omega arith) (e ∷ []) values)) [
      | inl denied ↦ absurd (denied is_on)
      | inr is_shining ↦ (e ∷ [], values, one (HoldsUnder state (e ∷ [])) (shines (Var 0)) is_shining)
    ]

meets : (state : State) (later : List State) → IsRun lamp (state ∷ later) (switch_on ∷ []) → All (Holds state) (off (Obj 0) ∷ [])
    → MeetsEach lamp (state ∷ later) (switch_on ∷ [])
meets state [] run is_off = (is_off, tt)
meets state (next ∷ later) run is_off = (is_off, tt)

ends : (state : State) (later : List State) → IsRun lamp (state ∷ later) (switch_on ∷ []) → All (Holds state) (off (Obj 0) ∷ [])
    → length later ≡ 1
    → GoalHolds (last_of state later) 1 (shines (Var 0) ∷ [])
ends state [] run is_off count = absurd (omega (arith, count))
ends state (next ∷ []) run is_off count = on_then_shines next run.2.0 run.2.1 (All-head (Holds next) (on (Obj 0)) [] (run.1.added is_off))
ends state (next ∷ other ∷ later) run is_off count = absurd (omega (arith, count))

-- ---- and what isn't

is_dark : All (Holds dark) (off (Obj 0) ∷ [])
is_dark = one (Holds dark) (off (Obj 0)) (0, omega arith, refl)

-- an atom of the problem that is true in the dark is OFF(lamp)
is_off_alone : (pred : ℕ) (args : List Term) → IsAtomOf (lamp_with []) 0 (record { pred = pred; args = args })
    → Holds dark (record { pred = pred; args = args })
    → deletes (lamp_with []) switch_on (record { pred = pred; args = args }) ≡ true
is_off_alone zero args of holds = absurd (Contains-none _ holds)
is_off_alone (suc zero) [] of holds = absurd (omega (arith, of.0.1))
is_off_alone (suc zero) (Var v ∷ rest) of holds = absurd (omega (arith, All-head (IsTermOf (lamp_with []) 0) (Var v) rest of.1))
is_off_alone (suc zero) (WildCard ∷ rest) of holds = absurd (All-head (IsTermOf (lamp_with []) 0) WildCard rest of.1)
is_off_alone (suc zero) (Obj zero ∷ []) of holds = refl
is_off_alone (suc zero) (Obj zero ∷ t ∷ rest) of holds = absurd (omega (arith, of.0.1))
is_off_alone (suc zero) (Obj (suc n) ∷ rest) of holds = absurd (omega (arith, All-head (IsTermOf (lamp_with []) 0) (Obj (suc n)) rest of.1))
is_off_alone (suc (suc zero)) args of holds = absurd (Contains-none _ holds)
is_off_alone (suc (suc (suc k))) args of holds = absurd (omega (arith, of.0.0))

bare_valid : IsValid (lamp_with [])
bare_valid = valid_with [] (All-nothing _) (record { each = All-nothing IsClause; most = omega arith })

deleted : (atom : Atom) → IsAtomOf (lamp_with []) 0 atom → Holds dark atom → IsDeleted switch_schema switch_on atom
deleted atom of holds =
    deletes-true (lamp_with []) switch_on atom bare_valid (instance-is_ground (lamp_with []) switch_on (instance_with []))
    (atom_of-is_ground (lamp_with []) atom of)
    (is_off_alone atom.pred atom.args of holds)

breaks : Described (lamp_with []) switch_on dark broken
breaks =
    record {
      kept = λ _ atom of holds stays. absurd (stays (deleted atom of holds));
      added = λ _. one (Holds broken) (on (Obj 0)) (0, omega arith, refl);
    }

nothing_shines : (state : State) → slice_index_or state.tuples 2 [] ≡ [] → ¬ GoalHolds state 1 (shines (Var 0) ∷ [])
nothing_shines state is_empty goal =
    Contains-none _ (subst (λ (tuples : List (List ℕ)). Contains tuples (slice_index goal.0 0 ∷ [])) is_empty
    (All-head (HoldsUnder state goal.0) (shines (Var 0)) [] goal.2))

no_axioms : ¬ Carries (lamp_with []) (off (Obj 0) ∷ []) (switch_on ∷ []) 1 (shines (Var 0) ∷ [])
no_axioms carries =
    let run : IsRun (lamp_with []) (dark ∷ broken ∷ []) (switch_on ∷ []) =
    ((dark_state, All-nothing _), breaks, (state_with it [] [] it_below none_below none_below, All-nothing _)) in
    nothing_shines broken refl (carries.ends dark (broken ∷ []) run is_dark refl)

no_steps : ¬ Carries lamp (off (Obj 0) ∷ []) [] 1 (shines (Var 0) ∷ [])
no_steps carries = nothing_shines dark refl (carries.ends dark [] (dark_state, dark_holds) is_dark refl)

pub lamp_shines : LampFact
lamp_shines = record {
  valid = valid;
  instance = instance_with (on_or_off ∷ on_shines ∷ []);
  states = (
    dark_state,
    state_with it [] it it_below none_below it_below,
    state_with it [] [] it_below none_below none_below,
    state_with [] [] [] none_below none_below none_below,
  );
  holding = (dark_holds, shining_holds);
  failing = (broken_fails, missing_fails);
  carried = record { meets = meets; ends = ends };
  no_axioms = no_axioms;
  no_steps = no_steps;
}
