-- Names and a problem stay in range where there are more of them, and what is of a problem is of one with more objects and predicates.
use Rattle.px_script.proofs.Common.{All-head, All-tail, slice_index_or, replicate-append-replicate, replicate, ◌+◌, ◌-◌, append-nil, length-append, get_or-append, subst, ap, [], ◌∷◌, map, range_with_len, is_some, Option, None, Some, Thing, Table, IsSavedTable, problem_of, OpInst, no_schema, IsClause, HasClauseLength, ◌≡◌, ℕ, ◌<◌, ◌≤◌, false, List, ◌++◌, length, refl, sym, ◌∙◌, arith, list_any, All, slice_index, All-append, Atom, Clause, Problem, Schema, Term, Obj, HasArity, IsTermOf, IsPatternTermOf, IsAtomOf, IsPatternOf, IsSchemaOf, IsAxiomOf, greatest, repeats, is_long, AreNamesOf}
use Rattle.px_terms.specs.Language.{IsPlainBelow}
use Rattle.px_terms.specs.Limits.{most_weight}
use Rattle.px_terms.specs.Validity.{AreSortsOf, IsValid}
use Rattle.px_terms.specs.Operators.{schema_of}
use Rattle.px_table.specs.GrowthLaws as growth
use Rattle.px_table.specs.WellSorted.{paired, sort_places, sorts_by_places, first_sort}
use Rattle.px_table.proofs.DecidingLaws.{tables_are_decided}
use Rattle.px_script.specs.Limits as limit
use Rattle.px_script.proofs.Lists.{at-most, each-fails, more-distinct}

-- ---- names

-- names of a kind with more of them
pub names-more : (version : ℕ) (old ns : List (List ℕ)) → AreNamesOf version old → repeats old ns ≡ false
    → list_any (is_long version) ns ≡ false → AreNamesOf version (old ++ ns)
names-more version old ns r new short = record {
  distinct = more-distinct old ns r.distinct new;
  short = All-append (λ n. length n ≤ greatest version limit.name_bytes) old ns r.short
      (each-fails (is_long version) _ (λ n long. at-most _ _ long) ns short);
}

-- ---- what is of a problem

pub record Grows (p q : Problem) : Type 0 where
  pub objects : p.objects ≤ q.objects
  pub arities : (k : ℕ) → k < length p.arities → (k < length q.arities) × (slice_index q.arities k ≡ slice_index p.arities k)

-- another problem with the same objects and predicates
pub alike : (p q : Problem) → p.objects ≡ q.objects → p.arities ≡ q.arities → Grows p q
alike p q objects arities = record {
  objects = omega (arith, objects);
  arities = λ k below. rw (sym arities) (below, refl);
}

module _ (p q : Problem) (more : Grows p q) where
  term-kept : (variable_count : ℕ) (t : Term) → IsTermOf p variable_count t → IsTermOf q variable_count t
  term-kept variable_count (Obj n) h = omega (arith, h, more.objects)
  term-kept variable_count _ h = h

  pattern_term-kept : (variable_count : ℕ) (t : Term) → IsPatternTermOf p variable_count t → IsPatternTermOf q variable_count t
  pattern_term-kept variable_count (Obj n) h = omega (arith, h, more.objects)
  pattern_term-kept variable_count _ h = h

  arity-kept : (atom : Atom) → HasArity p atom → HasArity q atom
  arity-kept atom h = let there = more.arities atom.pred h.0 in (there.0, h.1 ∙ sym there.1)

  pub atoms-kept : (variable_count : ℕ) (atoms : List Atom) → All (IsAtomOf p variable_count) atoms → All (IsAtomOf q variable_count) atoms
  atoms-kept variable_count atoms h = λ k d below. (arity-kept _ (h k d below).0, λ j t inner. term-kept variable_count _ ((h k d below).1 j t inner))

  patterns-kept : (variable_count : ℕ) (atoms : List Atom) → All (IsPatternOf p variable_count) atoms → All (IsPatternOf q variable_count) atoms
  patterns-kept variable_count atoms h =
      λ k d below. (arity-kept _ (h k d below).0, λ j t inner. pattern_term-kept variable_count _ ((h k d below).1 j t inner))

  pub schema-kept : p.sorts ≤ q.sorts → (place : ℕ) (schema : Schema) → IsSchemaOf p place schema → IsSchemaOf q place schema
  schema-kept more_sorts place schema h = let deletes = patterns-kept schema.params schema.del h.del in
      let sorts : AreSortsOf q schema.param_sorts = λ k d below. let one = h.sorts.1 k d below in omega (arith, one, more_sorts) in
      assumption (atoms-kept schema.params schema.pre h.pre, deletes, atoms-kept schema.params schema.add h.add, sorts)

  pub of-axiom-kept : (clause : Clause) → IsAxiomOf p clause → IsAxiomOf q clause
  of-axiom-kept clause is = record {
    variable_count = is.variable_count;
    lits = λ j lit inner. let of = is.lits j lit inner in (arity-kept _ of.0, λ i t within. term-kept _ _ (of.1 i t within));
  }

-- a valid problem with another weight
pub heavier : (p : Problem) (weight : ℕ) → weight ≤ most_weight → IsValid p → IsValid (record p { weight = weight })
heavier p weight few is = let q : Problem = record p { weight = weight } in let more = alike p q refl refl in record {
  schemas = λ k below. schema-kept p q more (omega arith) k _ (is.schemas k below);
  axioms = λ k c below. of-axiom-kept p q more _ (is.axioms k c below);
  arena = is.arena;
  short = is.short;
  height = is.height;
  nodes = is.nodes;
  shapes = is.shapes;
  weight = few;
  sorts = is.sorts;
  no_objects = is.no_objects;
}

-- ---- axioms

plain-term : (p : Problem) (variable_count : ℕ) (t : Term) → IsTermOf p variable_count t → IsPlainBelow variable_count t
plain-term p variable_count (Obj n) h = tt
plain-term p variable_count _ h = h

-- an axiom of the problem is a clause, if its length is right
pub axiom-clause : (p : Problem) (c : Clause) → HasClauseLength c.lits → IsAxiomOf p c → IsClause c
axiom-clause p c size is =
    record { size = size; plain = λ k lit below. λ j t inner. plain-term p c.variable_count _ ((is.lits k lit below).1 j t inner) }

-- ---- a problem that begins with another

module _ (p q : Problem) (more : growth.Grows p q) where
  -- with the objects and predicates of the other, and more
  pub less : Grows p q
  less = record {
    objects = more.objects;
    arities = λ k below. subst (λ (l : List ℕ). (k < length l) × (slice_index l k ≡ slice_index p.arities k)) (sym more.arities.1)
        (omega (arith, below, length-append p.arities more.arities.0), get_or-append p.arities more.arities.0 0 k below);
  }

  schema-same : (inst : OpInst) → inst.op < length p.schemas → schema_of q inst ≡ schema_of p inst
  schema-same inst below = ap (λ (l : List Schema). slice_index_or l inst.op no_schema) more.schemas.1
      ∙ get_or-append p.schemas more.schemas.0 no_schema inst.op below

  places-same : (steps : List OpInst) → All (λ inst. inst.op < length p.schemas) steps → sort_places q steps ≡ sort_places p steps
  places-same [] of = refl
  places-same (inst ∷ steps) of = ap (λ (s : Schema). paired s.param_sorts inst.args ++ sort_places q steps)
      (schema-same inst (All-head (λ (i : OpInst). i.op < length p.schemas) inst steps of))
      ∙ ap (λ t. paired (schema_of p inst).param_sorts inst.args ++ t)
      (places-same steps (All-tail (λ (i : OpInst). i.op < length p.schemas) inst steps of))

  -- a table of the script is one of the problem that has grown
  pub saved-grows : (version : ℕ) (t : Table) → length p.object_sorts ≡ p.objects → IsSavedTable version p t → IsSavedTable version q t
  saved-grows version t count is = let of = (tables_are_decided p t).0 is.is_one in
      let same : sorts_by_places q t.steps t.params ≡ sorts_by_places p t.steps t.params =
      ap (λ places. map (first_sort places) (range_with_len 0 t.params))
      (places-same t.steps (λ k inst below. (of.in_range.steps k inst below).op)) in record {
        is_one = (tables_are_decided q t).1 (growth.table-grows p q more count t of);
        short = is.short;
        low = is.low;
        few_parameters = is.few_parameters;
        some = is.some;
        few_atoms = is.few_atoms;
        few_variables = is.few_variables;
        last_occurs = is.last_occurs;
        sorts = is.sorts ∙ sym same;
        no_objects = λ none. is.no_objects (omega (arith, none, more.objects));
      }

-- the problem that lines give grows where their own does, if both have a building or none has
pub here-grows : (p q : Problem) (old new : Option (List Thing)) → is_some old ≡ is_some new → growth.Grows p q
    → growth.Grows (problem_of p old) (problem_of q new)
here-grows p q None None same more = more
here-grows p q (Some old) (Some new) same more = let objects = more.objects in
    let split : p.objects + (q.objects - p.objects) ≡ q.objects = omega (arith, objects) in record {
      objects = objects;
      arities = ([], sym (append-nil _));
      axioms = ([], sym (append-nil _));
      schemas = ([], sym (append-nil _));
      sorts = omega arith;
      object_sorts = (
        replicate (q.objects - p.objects) 0,
        ap (λ n. replicate n 0) (sym split) ∙ sym (replicate-append-replicate p.objects (q.objects - p.objects) 0),
      );
    }
here-grows p q None (Some new) same more = cc
here-grows p q (Some old) None same more = cc

-- another problem with the same lists, whatever its limits
pub same-lists : (p q : Problem) → p.objects ≡ q.objects → q.arities ≡ p.arities → q.axioms ≡ p.axioms → q.schemas ≡ p.schemas
    → p.sorts ≤ q.sorts → q.object_sorts ≡ p.object_sorts → growth.Grows p q
same-lists p q objects arities axioms schemas sorts object_sorts = record {
  objects = omega (arith, objects);
  arities = ([], arities ∙ sym (append-nil _));
  axioms = ([], axioms ∙ sym (append-nil _));
  schemas = ([], schemas ∙ sym (append-nil _));
  sorts = sorts;
  object_sorts = ([], object_sorts ∙ sym (append-nil _));
}
