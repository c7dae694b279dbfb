-- A table of a problem is one of each problem that begins with it, whatever the limits of the two.
use Rattle.std.specs.Prelude.{◌≡◌, ℕ, ◌<◌, ◌≤◌, Some, List, [], ◌∷◌, ◌++◌, length, slice_get, slice_index, slice_index_or, All, Contains}
use Rattle.std.proofs.Common.{zero, suc, sym, ap, ◌∙◌, subst, arith}
use Rattle.std.proofs.lemmas.List.{get_or_append_left}
use Rattle.px_base.specs.ListLaws.{All-at}
use Rattle.px_terms.specs.declared.atom.Atom.{Atom}
use Rattle.px_terms.specs.declared.clause.Clause.{Clause}
use Rattle.px_terms.specs.declared.clause.Lit.{Lit}
use Rattle.px_terms.specs.declared.instance.OpInst.{OpInst}
use Rattle.px_terms.specs.declared.problem.Problem.{Problem}
use Rattle.px_terms.specs.declared.problem.Schema.{Schema}
use Rattle.px_terms.specs.declared.term.Term.{Term}
use Rattle.px_terms.specs.declared.term.Term.TheVariants.{Obj, Var, Any}
use Rattle.px_terms.specs.Operators.{precondition, schema_of, no_schema, atoms_of}
use Rattle.px_terms.specs.Sorts.{IsOfSort, MayStand}
use Rattle.px_terms.specs.Validity.{HasArity, IsAtomOf, IsTermOf}
use Rattle.px_proof.specs.Derivation.{Derivation, Derivations, fact, ancestor, step, gap, open_place, none, also, leaves_of, leaf_atoms}
use Rattle.px_proof.specs.Literals.{positive_of}
use Rattle.px_proof.specs.Proves.{Proves, ProvesEach, parts_of, from_atoms, IsObjectOrParameter}
use Rattle.px_table.specs.declared.mark.Mark.{Mark}
use Rattle.px_table.specs.declared.table.Table.{Table}
use Rattle.px_table.specs.Marks.{IsNamed, step_at}
use Rattle.px_table.specs.Supports.{IsProofOf, ProvesEachOf, RowsProve}
use Rattle.px_table.specs.Tables.{IsStepOf, IsTable}
use Rattle.px_table.specs.WellSorted.{IsWellSortedStep}

-- the second problem begins with the objects, arities, axioms, operators and sorts of the first; its limits and its weight are its own
pub record Grows (p q : Problem) : Type 0 where
  pub objects : p.objects ≤ q.objects
  pub arities : (more : List ℕ) × (q.arities ≡ p.arities ++ more)
  pub axioms : (more : List Clause) × (q.axioms ≡ p.axioms ++ more)
  pub schemas : (more : List Schema) × (q.schemas ≡ p.schemas ++ more)
  pub sorts : p.sorts ≤ q.sorts
  pub object_sorts : (more : List ℕ) × (q.object_sorts ≡ p.object_sorts ++ more)

prefix-get : {X : Type 0} (xs ys : List X) (k : ℕ) (x : X) → slice_get xs k ≡ Some x → slice_get (xs ++ ys) k ≡ Some x
prefix-get [] ys k x at = absurd (cc)
prefix-get (y ∷ xs) ys zero x at = at
prefix-get (y ∷ xs) ys (suc k) x at = prefix-get xs ys k x at

prefix-length : {X : Type 0} (xs ys : List X) (k : ℕ) → k < length xs → k < length (xs ++ ys)
prefix-length [] ys k below = absurd (omega (arith, below))
prefix-length (x ∷ xs) ys zero below = omega arith
prefix-length (x ∷ xs) ys (suc k) below = let r = prefix-length xs ys k (omega (arith, below)) in omega (arith, r)

at-place : {A : Type 0} (xs : List A) (k : ℕ) (x : A) → slice_get xs k ≡ Some x → Contains xs x
at-place [] k x e = absurd (cc)
at-place (y ∷ xs) zero x e = (0, omega arith, cc)
at-place (y ∷ xs) (suc k) x e = let r = at-place xs k x e in (suc r.0, omega (arith, r.1), r.2)

module _ (p q : Problem) (grows : Grows p q) where
  term-grows : (variable_count : ℕ) (t : Term) → IsTermOf p variable_count t → IsTermOf q variable_count t
  term-grows variable_count (Obj n) is = omega (arith, is, grows.objects)
  term-grows variable_count (Var v) is = is
  term-grows variable_count Any is = is

  name-grows : (params : ℕ) (t : Term) → IsObjectOrParameter p.objects params t → IsObjectOrParameter q.objects params t
  name-grows params (Obj n) is = omega (arith, is, grows.objects)
  name-grows params (Var v) is = is
  name-grows params Any is = is

  arity-grows : (a : Atom) → HasArity p a → HasArity q a
  arity-grows a is = (
    subst (λ (l : List ℕ). a.pred < length l) (sym grows.arities.1) (prefix-length p.arities grows.arities.0 a.pred is.0),
    is.1 ∙ sym (ap (λ (l : List ℕ). slice_index l a.pred) grows.arities.1 ∙ get_or_append_left p.arities grows.arities.0 0 a.pred is.0),
  )

  atom-grows : (variable_count : ℕ) (a : Atom) → IsAtomOf p variable_count a → IsAtomOf q variable_count a
  atom-grows variable_count a is = (arity-grows a is.0, λ k d below. term-grows variable_count _ (is.1 k d below))

  schema-same : (inst : OpInst) → inst.op < length p.schemas → schema_of q inst ≡ schema_of p inst
  schema-same inst below = ap (λ (l : List Schema). slice_index_or l inst.op no_schema) grows.schemas.1
      ∙ get_or_append_left p.schemas grows.schemas.0 no_schema inst.op below

  step-grows : (params : ℕ) (inst : OpInst) → IsStepOf p params inst → IsStepOf q params inst
  step-grows params inst is = record {
    op = subst (λ (l : List Schema). inst.op < length l) (sym grows.schemas.1) (prefix-length p.schemas grows.schemas.0 inst.op is.op);
    count = is.count ∙ sym (ap (λ (s : Schema). s.params) (schema-same inst is.op));
    terms = λ k d below. term-grows params _ (is.terms k d below);
  }

  module _ (params : ℕ) (atoms : List Atom) where
    mutual
      proof-grows : (path : List Lit) (lit : Lit) (d : Derivation)
          → Proves (from_atoms (IsObjectOrParameter p.objects params) atoms) p.axioms path lit d
          → Proves (from_atoms (IsObjectOrParameter q.objects params) atoms) q.axioms path lit d
      proof-grows path lit (fact leaf) is = (is.0, (is.1.0, λ k d below. name-grows params _ (is.1.1 k d below)))
      proof-grows path lit (ancestor i) is = is
      proof-grows path lit (step number theta place parts) is = (
        is.0,
        record {
          axiom_at = subst (λ (l : List Clause). slice_get l number ≡ Some is.0) (sym grows.axioms.1)
              (prefix-get p.axioms grows.axioms.0 number is.0 is.1.axiom_at);
          terms = is.1.terms;
          choices = λ k d below. name-grows params _ (is.1.choices k d below);
          literal_at = is.1.literal_at;
        },
        parts-grow (lit ∷ path) (parts_of is.0.lits theta place) parts is.2,
      )
      proof-grows path lit (gap atom) is = is
      proof-grows path lit open_place is = is

      parts-grow : (path lits : List Lit) (ds : Derivations)
          → ProvesEach (from_atoms (IsObjectOrParameter p.objects params) atoms) p.axioms path lits ds
          → ProvesEach (from_atoms (IsObjectOrParameter q.objects params) atoms) q.axioms path lits ds
      parts-grow path [] none is = tt
      parts-grow path (lit ∷ lits) (also d ds) is = (proof-grows path lit d is.0, parts-grow path lits ds is.1)
      parts-grow path [] (also d ds) is = absurd is
      parts-grow path (lit ∷ lits) none is = absurd is

  module _ (params : ℕ) where
    one-grows : (atom : Atom) (d : Derivation) → IsProofOf (IsObjectOrParameter p.objects params) p.axioms atom d
        → IsProofOf (IsObjectOrParameter q.objects params) q.axioms atom d
    one-grows atom d is = record {
      proves = proof-grows params (leaf_atoms (leaves_of d)) [] (positive_of atom) d is.proves;
      terms = λ k e below. name-grows params _ (is.terms k e below);
    }

    each-grows : (atoms : List Atom) (row : List Derivation) → ProvesEachOf (IsObjectOrParameter p.objects params) p.axioms atoms row
        → ProvesEachOf (IsObjectOrParameter q.objects params) q.axioms atoms row
    each-grows [] [] is = is
    each-grows [] (d ∷ row) is = absurd is
    each-grows (a ∷ atoms) [] is = absurd is
    each-grows (a ∷ atoms) (d ∷ row) is = (one-grows a d is.0, each-grows atoms row is.1)

    row-grows : (inst : OpInst) (row : List Derivation) → inst.op < length p.schemas
        → ProvesEachOf (IsObjectOrParameter p.objects params) p.axioms (precondition p inst) row
        → ProvesEachOf (IsObjectOrParameter q.objects params) q.axioms (precondition q inst) row
    row-grows inst row below is =
        subst (λ (s : Schema). ProvesEachOf (IsObjectOrParameter q.objects params) q.axioms (atoms_of s.pre inst) row)
        (sym (schema-same inst below)) (each-grows (precondition p inst) row is)

    rows-grow : (steps : List OpInst) (goal : List Atom) (goal_variable_count : ℕ) (rows : List (List Derivation)) → All (IsStepOf p params) steps
        → RowsProve (IsObjectOrParameter p.objects params) p params steps goal goal_variable_count rows
        → RowsProve (IsObjectOrParameter q.objects params) q params steps goal goal_variable_count rows
    rows-grow [] goal goal_variable_count [] of is = absurd is
    rows-grow [] goal goal_variable_count (row ∷ []) of is = (is.0, is.1, each-grows _ row is.2)
    rows-grow [] goal goal_variable_count (row ∷ second ∷ rows) of is = absurd is
    rows-grow (inst ∷ steps) goal goal_variable_count [] of is = absurd is
    rows-grow (inst ∷ steps) goal goal_variable_count (row ∷ rows) of is = (
      row-grows inst row (of 0 inst (omega arith)).op is.0,
      rows-grow steps goal goal_variable_count rows (λ k d below. of (suc k) d (omega (arith, below))) is.1,
    )

  named-grows : (params : ℕ) (steps : List OpInst) → All (IsStepOf p params) steps → (mark : Mark) → IsNamed p steps mark
      → IsNamed q steps mark
  named-grows params steps of mark is = record {
    earlier = is.earlier;
    initial = is.initial;
    added = λ later. let add = is.added later in (
      add.0,
      add.1,
      subst (λ (s : Schema). slice_get (atoms_of s.add add.0) mark.index ≡ Some mark.atom)
          (sym (schema-same add.0 (step-there mark.column add.0 add.1).op)) add.2,
    );
  }
    where
      step-there : (column : ℕ) (inst : OpInst) → step_at steps column ≡ Some inst → IsStepOf p params inst
      step-there zero inst at = absurd (cc)
      step-there (suc k) inst at = All-at (IsStepOf p params) steps inst of (at-place steps k inst at)

  -- where the first problem has a sort for each object
  module _ (count : length p.object_sorts ≡ p.objects) where
    stand-grows : (params : List ℕ) (variable_count wanted : ℕ) (t : Term) → IsTermOf p variable_count t → IsOfSort p.object_sorts params wanted t
        → IsOfSort q.object_sorts params wanted t
    stand-grows params variable_count wanted (Obj n) is stands = λ sorted.
        ap (λ (l : List ℕ). slice_index l n) grows.object_sorts.1
        ∙ get_or_append_left p.object_sorts grows.object_sorts.0 0 n (omega (arith, is, count)) ∙ stands sorted
    stand-grows params variable_count wanted (Var v) is stands = stands
    stand-grows params variable_count wanted Any is stands = tt

    sorted-grows : (params : List ℕ) (variable_count : ℕ) (inst : OpInst) → IsStepOf p variable_count inst → IsWellSortedStep p params inst
        → IsWellSortedStep q params inst
    sorted-grows params variable_count inst is stands =
        subst (λ (s : Schema). MayStand q.object_sorts params s.param_sorts inst.args) (sym (schema-same inst is.op))
        (λ k below. stand-grows params variable_count _ (slice_index_or inst.args k Any) (is.terms k Any below) (stands k below))

    pub table-grows : (t : Table) → IsTable p t → IsTable q t
    table-grows t is = record {
      in_range = record {
        short = is.in_range.short;
        steps = λ k d below. step-grows t.params _ (is.in_range.steps k d below);
        goal = λ k d below. atom-grows _ _ (is.in_range.goal k d below);
      };
      prove = rows-grow t.params t.steps t.goal t.goal_variable_count _ is.in_range.steps is.prove;
      marks = is.marks;
      atoms = λ k d below. atom-grows t.params _ (is.atoms k d below);
      named = λ k d below. named-grows t.params t.steps is.in_range.steps _ (is.named k d below);
      sorted = record {
        count = is.sorted.count;
        sorts = λ k d below. let s = is.sorted.sorts k d below in omega (arith, s, grows.sorts);
        steps = λ k d below. sorted-grows t.param_sorts t.params _ (is.in_range.steps k d below) (is.sorted.steps k d below);
      };
    }
