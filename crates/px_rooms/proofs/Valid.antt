-- The problems of buildings are valid: the numbers of the domain are in range.
use Rattle.std.specs.Prelude.{◌≡◌, ◌<◌, ◌≤◌, ◌==◌, ◌&&◌, ℕ, Bool, true, false, nat_lt, List, [], ◌∷◌, length, map, slice_index, slice_index_or, All}
use Rattle.std.proofs.Common.{zero, suc, refl, arith}
use Rattle.std.proofs.lemmas.Bool.Decides.{nat_tests}
use Rattle.std.proofs.lemmas.List.Elements.{All-nil, All-cons}
use Rattle.std.specs.Cmp.{first_so, second_so}
use Rattle.std.specs.List.{list_all}
use borrow.Author.Tests.{eqb-true}
use Rattle.px_terms.specs.declared.atom.Atom.{Atom}
use Rattle.px_terms.specs.declared.clause.Clause.{Clause}
use Rattle.px_terms.specs.declared.clause.Lit.{Lit}
use Rattle.px_terms.specs.declared.problem.Problem.{Problem}
use Rattle.px_terms.specs.declared.problem.Schema.{Schema}
use Rattle.px_terms.specs.declared.term.Term.{Term}
use Rattle.px_terms.specs.declared.term.Term.TheVariants.{Obj, Var, Any as WildCard}
use Rattle.px_terms.specs.Clauses.{IsClause}
use Rattle.px_terms.specs.Language.{IsPlainBelow}
use Rattle.px_terms.specs.Operators.{no_schema}
use Rattle.px_terms.specs.SortLaws.{no_object_sorts-are, no_sorts-are}
use Rattle.px_terms.specs.Validity.{AreSortsOf, IsAtomOf, IsAxiomOf, IsPatternOf, IsPatternTermOf, IsSchemaOf, IsShort, IsTermOf}
use Rattle.px_rooms.specs.Domain.{BuildingsAreValid, RoomPredicate, both_ways, building_problem, room_predicates, room_schemas}

-- ---- tests, which compute on the domain

abbrev term_fits : ℕ → Term → Bool
term_fits params (Obj n) = n == 0
term_fits params (Var v) = nat_lt v params
term_fits params WildCard = false

abbrev pattern_term_fits : ℕ → Term → Bool
pattern_term_fits params (Obj n) = n == 0
pattern_term_fits params (Var v) = nat_lt v params
pattern_term_fits params WildCard = true

abbrev arities : List ℕ
arities = map (λ (p : RoomPredicate). p.arity) room_predicates

abbrev has_arity : Atom → Bool
has_arity atom = nat_lt atom.pred 8 && length atom.args == slice_index arities atom.pred

abbrev atom_fits : ℕ → Atom → Bool
atom_fits params atom = has_arity atom && list_all (term_fits params) atom.args

abbrev pattern_fits : ℕ → Atom → Bool
pattern_fits params atom = has_arity atom && list_all (pattern_term_fits params) atom.args

abbrev literal_fits : ℕ → Lit → Bool
literal_fits params lit = atom_fits params lit.atom

-- what follows from a test of each item
each : {X : Type 0} (test : X → Bool) (P : X → Type 0) → ((x : X) → test x ≡ true → P x) → (xs : List X) → list_all test xs ≡ true
    → All P xs
each test P goes [] all = All-nil P
each test P goes (x ∷ xs) all = All-cons P x xs (goes x (first_so _ _ all)) (each test P goes xs (second_so _ _ all))

below : (a b : ℕ) → nat_lt a b ≡ true → a < b
below a b e = grind (arith, nat_tests)

plain : (params : ℕ) (t : Term) → term_fits params t ≡ true → IsPlainBelow params t
plain params (Obj n) e = tt
plain params (Var v) e = below v params e
plain params WildCard e = absurd (cc)

-- ---- what the tests show

module _ (objects height nodes shapes : ℕ) (some : 1 ≤ objects) where
  abbrev problem : Problem
  problem = building_problem objects height nodes shapes

  term-fits : (params : ℕ) (t : Term) → term_fits params t ≡ true → IsTermOf problem params t
  term-fits params (Obj n) e = let number = eqb-true n 0 e in omega (arith, number, some)
  term-fits params (Var v) e = below v params e
  term-fits params WildCard e = absurd (cc)

  pattern-term-fits : (params : ℕ) (t : Term) → pattern_term_fits params t ≡ true → IsPatternTermOf problem params t
  pattern-term-fits params (Obj n) e = let number = eqb-true n 0 e in omega (arith, number, some)
  pattern-term-fits params (Var v) e = below v params e
  pattern-term-fits params WildCard e = tt

  atom-fits : (params : ℕ) (atom : Atom) → atom_fits params atom ≡ true → IsAtomOf problem params atom
  atom-fits params atom e =
      let arity = first_so _ _ e in (
        (below atom.pred 8 (first_so _ _ arity), eqb-true (length atom.args) (slice_index arities atom.pred) (second_so _ _ arity)),
        each (term_fits params) (IsTermOf problem params) (term-fits params) atom.args (second_so _ _ e),
      )

  pattern-fits : (params : ℕ) (atom : Atom) → pattern_fits params atom ≡ true → IsPatternOf problem params atom
  pattern-fits params atom e =
      let arity = first_so _ _ e in (
        (below atom.pred 8 (first_so _ _ arity), eqb-true (length atom.args) (slice_index arities atom.pred) (second_so _ _ arity)),
        each (pattern_term_fits params) (IsPatternTermOf problem params) (pattern-term-fits params) atom.args (second_so _ _ e),
      )

  schema-fits : (k : ℕ) (schema : Schema) → schema.op ≡ k → schema.params ≤ 8 → list_all (atom_fits schema.params) schema.pre ≡ true
      → list_all (pattern_fits schema.params) schema.del ≡ true
      → list_all (atom_fits schema.params) schema.add ≡ true → IsShort schema.pre → IsShort schema.del → IsShort schema.add
      → (length schema.param_sorts ≡ schema.params) × AreSortsOf problem schema.param_sorts → IsSchemaOf problem k schema
  schema-fits k schema number params pre del add few_pre few_del few_add sorts = record {
    number = number;
    params = params;
    pre = each (atom_fits schema.params) (IsAtomOf problem schema.params) (atom-fits schema.params) schema.pre pre;
    del = each (pattern_fits schema.params) (IsPatternOf problem schema.params) (pattern-fits schema.params) schema.del del;
    add = each (atom_fits schema.params) (IsAtomOf problem schema.params) (atom-fits schema.params) schema.add add;
    short = (few_pre, few_del, few_add);
    sorts = sorts;
  }

  pub each-schema : (k : ℕ) → k < 7 → IsSchemaOf problem k (slice_index_or room_schemas k no_schema)
  each-schema zero inside =
      schema-fits 0 (slice_index_or room_schemas 0 no_schema) refl (omega arith) refl refl refl (omega arith) (omega arith) (omega arith)
      (no_sorts-are problem 2)
  each-schema (suc zero) inside =
      schema-fits 1 (slice_index_or room_schemas 1 no_schema) refl (omega arith) refl refl refl (omega arith) (omega arith) (omega arith)
      (no_sorts-are problem 3)
  each-schema (suc (suc zero)) inside =
      schema-fits 2 (slice_index_or room_schemas 2 no_schema) refl (omega arith) refl refl refl (omega arith) (omega arith) (omega arith)
      (no_sorts-are problem 1)
  each-schema (suc (suc (suc zero))) inside =
      schema-fits 3 (slice_index_or room_schemas 3 no_schema) refl (omega arith) refl refl refl (omega arith) (omega arith) (omega arith)
      (no_sorts-are problem 1)
  each-schema (suc (suc (suc (suc zero)))) inside =
      schema-fits 4 (slice_index_or room_schemas 4 no_schema) refl (omega arith) refl refl refl (omega arith) (omega arith) (omega arith)
      (no_sorts-are problem 3)
  each-schema (suc (suc (suc (suc (suc zero))))) inside =
      schema-fits 5 (slice_index_or room_schemas 5 no_schema) refl (omega arith) refl refl refl (omega arith) (omega arith) (omega arith)
      (no_sorts-are problem 4)
  each-schema (suc (suc (suc (suc (suc (suc zero)))))) inside =
      schema-fits 6 (slice_index_or room_schemas 6 no_schema) refl (omega arith) refl refl refl (omega arith) (omega arith) (omega arith)
      (no_sorts-are problem 4)
  each-schema (suc (suc (suc (suc (suc (suc (suc k))))))) inside = absurd (omega (arith, inside))

  axiom-fits : (clause : Clause) → clause.variable_count ≤ 12 → list_all (literal_fits clause.variable_count) clause.lits ≡ true → IsAxiomOf problem clause
  axiom-fits clause few lits =
      record {
        variable_count = few;
        lits = each (literal_fits clause.variable_count) (λ (lit : Lit). IsAtomOf problem clause.variable_count lit.atom)
            (λ lit e. atom-fits clause.variable_count lit.atom e) clause.lits lits;
      }

  clause-plain : (clause : Clause) → 1 ≤ length clause.lits → length clause.lits ≤ 6
      → list_all (literal_fits clause.variable_count) clause.lits ≡ true → IsClause clause
  clause-plain clause some_lits few_lits lits = record {
    size = (some_lits, few_lits);
    plain = each (literal_fits clause.variable_count) (λ (lit : Lit). All (IsPlainBelow clause.variable_count) lit.atom.args)
        (λ lit e. each (term_fits clause.variable_count) (IsPlainBelow clause.variable_count) (plain clause.variable_count) lit.atom.args (second_so _ _ e)) clause.lits
        lits;
  }

pub buildings_are_valid : BuildingsAreValid
buildings_are_valid objects height nodes shapes (some, few) of_height of_nodes of_shapes =
    let rules = building_problem objects height nodes shapes in
    record {
      schemas = each-schema objects height nodes shapes some;
      axioms = All-cons (IsAxiomOf rules) both_ways [] (axiom-fits objects height nodes shapes some both_ways (omega arith) refl)
          (All-nil (IsAxiomOf rules));
      arena = record {
        each = All-cons IsClause both_ways []
            (clause-plain objects height nodes shapes some both_ways (omega arith) (omega arith) refl) (All-nil IsClause);
        most = omega arith;
      };
      short = (omega arith, omega arith);
      height = of_height;
      nodes = of_nodes;
      shapes = of_shapes;
      weight = omega arith;
      sorts = no_object_sorts-are rules objects few;
      no_objects = λ none. absurd (omega (arith, some, none));
    }
