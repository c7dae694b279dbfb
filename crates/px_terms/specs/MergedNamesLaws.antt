-- What the worked example of two names says is proved.
use Rattle.std.specs.Prelude.{◌≡◌, ◌<◌, true, ℕ, List, [], ◌∷◌, All, Contains, slice_index_or}
use Rattle.std.proofs.Common.{refl, subst, arith, zero, suc, inl, inr, ap}
use Rattle.std.proofs.lemmas.List.Elements.{All-cons, All-head}
use Rattle.px_base.specs.ListLaws.{Contains-none, Contains-cases}
use Rattle.px_terms.specs.declared.atom.Atom.{Atom}
use Rattle.px_terms.specs.declared.term.Term.{Term}
use Rattle.px_terms.specs.declared.term.Term.TheVariants.{Obj, Var, Any as WildCard}
use Rattle.px_terms.specs.Clauses.{IsClause}
use Rattle.px_terms.specs.Operators.{IsDeleted, deletes, no_schema}
use Rattle.px_terms.specs.MergedNames.{at, drop_schema, two_names, drop_first, merged, apart, apart_after, MergedNamesFact}
use Rattle.px_terms.specs.SortLaws.{no_object_sorts-are, no_sorts-are}
use Rattle.px_terms.specs.States.{State, IsState, Holds, Described, element_of}
use Rattle.px_terms.specs.Validity.{IsAtomOf, IsInstanceOf, IsPatternOf, IsPatternTermOf, IsSchemaOf, IsTermOf, IsValid}
use Rattle.px_terms.specs.ValidityLaws.{atom_of-is_ground, deletes-false, deletes-true, instance-is_ground}

pub All-nothing : {X : Type 0} (P : X → Type 0) → All P []
All-nothing P k d below = absurd (omega (arith, below))

pub one : {X : Type 0} (P : X → Type 0) (x : X) → P x → All P (x ∷ [])
one P x is = All-cons P x [] is (All-nothing P)

-- ---- the problem is valid, and the step is its instance

at_parameter : IsAtomOf two_names 1 (at (Var 0))
at_parameter = ((omega arith, refl), one (IsTermOf two_names 1) (Var 0) (omega arith))

at_pattern : IsPatternOf two_names 1 (at (Var 0))
at_pattern = ((omega arith, refl), one (IsPatternTermOf two_names 1) (Var 0) (omega arith))

drop_is_schema : IsSchemaOf two_names 0 drop_schema
drop_is_schema = record {
  number = refl;
  params = omega arith;
  pre = one (IsAtomOf two_names 1) (at (Var 0)) at_parameter;
  del = one (IsPatternOf two_names 1) (at (Var 0)) at_pattern;
  add = All-nothing (IsAtomOf two_names 1);
  short = (omega arith, omega arith, omega arith);
  sorts = no_sorts-are two_names 1;
}

each_schema : (k : ℕ) → k < 1 → IsSchemaOf two_names k (slice_index_or (drop_schema ∷ []) k no_schema)
each_schema zero below = drop_is_schema
each_schema (suc k) below = absurd (omega (arith, below))

pub valid : IsValid two_names
valid = record {
  schemas = each_schema;
  axioms = All-nothing _;
  arena = record { each = All-nothing IsClause; most = omega arith };
  short = (omega arith, omega arith);
  height = (omega arith, omega arith);
  nodes = (omega arith, omega arith);
  shapes = (omega arith, omega arith);
  weight = omega arith;
  sorts = no_object_sorts-are two_names 2 (omega arith);
  no_objects = λ none_there. absurd (omega (arith, none_there));
}

pub instance : IsInstanceOf two_names drop_first
instance = record { op = omega arith; count = refl; objects = one (IsTermOf two_names 0) (Obj 0) (omega arith) }

-- ---- the states

below_size : (size e : ℕ) → e < size → All (λ n. n < size) (e ∷ [])
below_size size e below = one (λ n. n < size) e below

merged_state : IsState merged
merged_state = record {
  not_empty = omega arith;
  elements = All-cons (λ e. e < 1) 0 (0 ∷ []) (omega arith) (below_size 1 0 (omega arith));
  tuples = one (All (All (λ e. e < 1))) ((0 ∷ []) ∷ []) (one (All (λ e. e < 1)) (0 ∷ []) (below_size 1 0 (omega arith)));
}

pub apart_state : IsState apart
apart_state = record {
  not_empty = omega arith;
  elements = All-cons (λ e. e < 2) 0 (1 ∷ []) (omega arith) (below_size 2 1 (omega arith));
  tuples = one (All (All (λ e. e < 2))) ((0 ∷ []) ∷ []) (one (All (λ e. e < 2)) (0 ∷ []) (below_size 2 0 (omega arith)));
}

pub apart_after_state : IsState apart_after
apart_after_state = record {
  not_empty = omega arith;
  elements = All-cons (λ e. e < 2) 0 (1 ∷ []) (omega arith) (below_size 2 1 (omega arith));
  tuples = one (All (All (λ e. e < 2))) [] (All-nothing (All (λ e. e < 2)));
}

met_merged : All (Holds merged) (at (Obj 0) ∷ [])
met_merged = one (Holds merged) (at (Obj 0)) (0, omega arith, refl)

pub met_apart : All (Holds apart) (at (Obj 0) ∷ [])
met_apart = one (Holds apart) (at (Obj 0)) (0, omega arith, refl)

-- ---- what is described

pub second : IsAtomOf two_names 0 (at (Obj 1))
second = ((omega arith, refl), one (IsTermOf two_names 0) (Obj 1) (omega arith))

second_stays : ¬ IsDeleted drop_schema drop_first (at (Obj 1))
second_stays = deletes-false two_names drop_first (at (Obj 1)) valid (instance-is_ground two_names drop_first instance)
    (atom_of-is_ground two_names (at (Obj 1)) second) refl

kept : (after : State) → Described two_names drop_first merged after → Holds after (at (Obj 1))
kept after described = described.kept met_merged (at (Obj 1)) second (0, omega arith, refl) second_stays

emptied : (after : State) → slice_index_or after.tuples 0 [] ≡ [] → ¬ Described two_names drop_first merged after
emptied after is_empty described =
    let holds = kept after described in
    let tuple : List ℕ = element_of after [] (Obj 1) ∷ [] in
    Contains-none tuple (subst (λ tuples. Contains tuples tuple) is_empty holds)

stays : Described two_names drop_first merged merged
stays = record { kept = λ _ atom _ holds _. holds; added = λ _ k d below. absurd (omega (arith, below)) }

first_of_tuple : List ℕ → ℕ
first_of_tuple [] = 7
first_of_tuple (n ∷ ns) = n

-- an atom of the problem that is true in the state of two elements is the first object's
is_first : (pred : ℕ) (args : List Term) → IsAtomOf two_names 0 (record { pred = pred; args = args })
    → Holds apart (record { pred = pred; args = args })
    → deletes two_names drop_first (record { pred = pred; args = args }) ≡ true
unfolding first_of_tuple
is_first (suc k) args of holds = absurd (omega (arith, of.0.0))
is_first zero [] of holds = absurd (omega (arith, of.0.1))
is_first zero (Var v ∷ rest) of holds = absurd (omega (arith, All-head (IsTermOf two_names 0) (Var v) rest of.1))
is_first zero (WildCard ∷ rest) of holds = absurd (All-head (IsTermOf two_names 0) WildCard rest of.1)
is_first zero (Obj zero ∷ []) of holds = refl
is_first zero (Obj (suc zero) ∷ []) of holds = elim (Contains-cases (0 ∷ []) [] (1 ∷ []) holds) [
  | inl e ↦ absurd (omega (arith, ap first_of_tuple e))
  | inr h ↦ absurd (Contains-none (1 ∷ []) h)
]
is_first zero (Obj (suc (suc n)) ∷ rest) of holds = absurd (omega (arith, All-head (IsTermOf two_names 0) (Obj (suc (suc n))) rest of.1))
is_first zero (Obj zero ∷ t ∷ rest) of holds = absurd (omega (arith, of.0.1))
is_first zero (Obj (suc zero) ∷ t ∷ rest) of holds = absurd (omega (arith, of.0.1))

deleted : (atom : Atom) → IsAtomOf two_names 0 atom → Holds apart atom → IsDeleted drop_schema drop_first atom
deleted atom of holds =
    deletes-true two_names drop_first atom valid (instance-is_ground two_names drop_first instance) (atom_of-is_ground two_names atom of)
    (is_first atom.pred atom.args of holds)

pub natural : Described two_names drop_first apart apart_after
natural = record {
  kept = λ _ atom of holds stays. absurd (stays (deleted atom of holds));
  added = λ _ k d below. absurd (omega (arith, below));
}

pub merged_names : MergedNamesFact
merged_names = record {
  valid = valid;
  instance = instance;
  states = (merged_state, apart_state, apart_after_state);
  met = (met_merged, met_apart);
  stays = stays;
  kept = kept;
  emptied = emptied;
  natural = natural;
}
