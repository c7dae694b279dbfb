-- What the worked example of a refusal says is so.
use Rattle.std.specs.Prelude.{◌≡◌, ◌<◌, ◌⊎◌, ℕ, List, [], ◌∷◌, All, Any, Contains, slice_index_or}
use Rattle.std.proofs.Common.{refl, subst, sym, arith, zero, suc, inl, inr}
use Rattle.std.proofs.lemmas.List.Elements.{All-cons, All-head}
use Rattle.px_base.specs.ListLaws.{Contains-none, Contains-cases, Contains-first}
use Rattle.px_terms.specs.declared.atom.Atom.{Atom}
use Rattle.px_terms.specs.declared.clause.Clause.{Clause}
use Rattle.px_terms.specs.declared.clause.Lit.{Lit}
use Rattle.px_terms.specs.declared.problem.Schema.{Schema}
use Rattle.px_terms.specs.Clauses.{IsClause}
use Rattle.px_terms.specs.Language.{IsPlainBelow}
use Rattle.px_terms.specs.MergedNamesLaws.{All-nothing, one}
use Rattle.px_terms.specs.Operators.{no_schema}
use Rattle.px_terms.specs.SortLaws.{no_object_sorts-are, no_sorts-are}
use Rattle.px_terms.specs.States.{AreValues, State, Holds, LiteralHoldsUnder}
use Rattle.px_terms.specs.Validity.{IsAtomOf, IsAxiomOf, IsInstanceOf, IsPatternOf, IsSchemaOf, IsTermOf, IsValid}
use Rattle.px_world.specs.WorkedGuard.{GuardFact, go, guarded, needs_p, p, p_is_true, p_or_not_q, q, q_is_false}
use Rattle.px_world.specs.Worlds.{IsActionRefused}

-- ---- the problem is valid, and the step is its instance

p_is_atom : IsAtomOf guarded 0 p
p_is_atom = ((omega arith, refl), All-nothing (IsTermOf guarded 0))

q_is_atom : IsAtomOf guarded 0 q
q_is_atom = ((omega arith, refl), All-nothing (IsTermOf guarded 0))

is_schema : IsSchemaOf guarded 0 needs_p
is_schema = record {
  number = refl;
  params = omega arith;
  pre = one (IsAtomOf guarded 0) p p_is_atom;
  del = All-nothing (IsPatternOf guarded 0);
  add = one (IsAtomOf guarded 0) q q_is_atom;
  short = (omega arith, omega arith, omega arith);
  sorts = no_sorts-are guarded 0;
}

each_schema : (k : ℕ) → k < 1 → IsSchemaOf guarded k (slice_index_or (needs_p ∷ []) k no_schema)
each_schema zero below = is_schema
each_schema (suc k) below = absurd (omega (arith, below))

-- what both literals of the axiom have
both : (P : Lit → Type 0) → P p_is_true → P q_is_false → All P (p_is_true ∷ q_is_false ∷ [])
both P first second = All-cons P p_is_true (q_is_false ∷ []) first (one P q_is_false second)

is_axiom : IsAxiomOf guarded p_or_not_q
is_axiom = record { variable_count = omega arith; lits = both (λ lit. IsAtomOf guarded 0 lit.atom) p_is_atom q_is_atom }

is_clause : IsClause p_or_not_q
is_clause =
    record {
      size = (omega arith, omega arith);
      plain = both (λ lit. All (IsPlainBelow 0) lit.atom.args) (All-nothing (IsPlainBelow 0)) (All-nothing (IsPlainBelow 0));
    }

valid : IsValid guarded
valid = record {
  schemas = each_schema;
  axioms = one (IsAxiomOf guarded) p_or_not_q is_axiom;
  arena = record { each = one IsClause p_or_not_q is_clause; most = omega arith };
  short = (omega arith, omega arith);
  height = (omega arith, omega arith);
  nodes = (omega arith, omega arith);
  shapes = (omega arith, omega arith);
  weight = omega arith;
  sorts = no_object_sorts-are guarded 0 (omega arith);
  no_objects = λ _. (one (λ (schema : Schema). schema.params ≡ 0) needs_p refl, one (λ (clause : Clause). clause.variable_count ≡ 0) p_or_not_q refl);
}

instance : IsInstanceOf guarded go
instance = record { op = omega arith; count = refl; objects = All-nothing (IsTermOf guarded 0) }

-- some literal of the clause is true, whatever elements its variables have
abbrev HasTrueLiteral : State → Clause → Type 0
HasTrueLiteral state clause = (values : List ℕ) → AreValues state clause.variable_count values → Any (LiteralHoldsUnder state values) clause.lits

-- ---- in a state in which nothing is true the axiom holds

abbrev empty : State
empty = record { size = 1; elements = []; tuples = [] }

unknown : IsActionRefused guarded [] go
unknown = record {
  state = empty;
  is_state = record { not_empty = omega arith; elements = All-nothing _; tuples = All-nothing _ };
  axioms = one (HasTrueLiteral empty) p_or_not_q (λ values are. (1, q_is_false, omega arith, refl, λ holds. Contains-none [] holds));
  hold = All-nothing (Holds empty);
  atom = p;
  needed = Contains-first p [];
  false_there = λ holds. Contains-none [] holds;
}

-- ---- what is needed is P

is_p : (atom : Atom) → Contains (p ∷ []) atom → p ≡ atom
is_p atom has = elim (Contains-cases p [] atom has) [
  | inl is ↦ is
  | inr later ↦ absurd (Contains-none atom later)
]

module _ (atoms : List Atom) (refused : IsActionRefused guarded atoms go) where
  p_is_false : ¬ Holds refused.state p
  p_is_false holds = refused.false_there (subst (Holds refused.state) (is_p refused.atom refused.needed) holds)

known : ¬ IsActionRefused guarded (p ∷ []) go
known refused = p_is_false (p ∷ []) refused (All-head (Holds refused.state) p [] refused.hold)

-- a literal of the axiom is true, and makes P true or Q false
either : (state : State) → Any (LiteralHoldsUnder state []) p_or_not_q.lits → Holds state p ⊎ (¬ Holds state q)
either state (zero, lit, below, is, holds) = inl (subst (LiteralHoldsUnder state []) (sym is) holds)
either state (suc zero, lit, below, is, holds) = inr (subst (LiteralHoldsUnder state []) (sym is) holds)
either state (suc (suc k), lit, below, is, holds) = absurd (omega (arith, below))

implied : ¬ IsActionRefused guarded (q ∷ []) go
implied refused =
    elim (either refused.state (All-head (HasTrueLiteral refused.state) p_or_not_q [] refused.axioms []
    (refl, All-nothing (λ e. e < refused.state.size)))) [
      | inl p_holds ↦ p_is_false (q ∷ []) refused p_holds
      | inr q_fails ↦ q_fails (All-head (Holds refused.state) q [] refused.hold)
    ]

pub worked_guard : GuardFact
worked_guard = record { valid = valid; instance = instance; unknown = unknown; known = known; implied = implied }
