-- Problems whose numbers are in range, and the atoms and operator instances that belong to them.
use Rattle.std.specs.Prelude.{◌≡◌, ℕ, ◌<◌, ◌≤◌, List, length, All, slice_index, slice_index_or, EachIndex}
use Rattle.px_base.specs.Bounds.{u32_max}
use Rattle.px_terms.specs.declared.atom.Atom.{Atom}
use Rattle.px_terms.specs.declared.clause.Clause.{Clause}
use Rattle.px_terms.specs.declared.instance.OpInst.{OpInst}
use Rattle.px_terms.specs.declared.problem.Problem.{Problem}
use Rattle.px_terms.specs.declared.problem.Schema.{Schema}
use Rattle.px_terms.specs.declared.term.Term.{Term}
use Rattle.px_terms.specs.declared.term.Term.TheVariants.{Obj, Var, Any}
use Rattle.px_terms.specs.Clauses.{IsArena}
use Rattle.px_terms.specs.Language.{IsObject, IsPlainBelow, IsVariableBelow}
use Rattle.px_terms.specs.Limits.{most_formula_variables, most_height, most_nodes, most_parameters, most_shapes, most_weight}
use Rattle.px_terms.specs.Operators.{no_schema, schema_of}

-- the term is one of the problem's objects or one of `variable_count` variables
abbrev pub IsTermOf : Problem → ℕ → Term → Type 0
IsTermOf problem variable_count (Obj n) = n < problem.objects
IsTermOf problem variable_count (Var v) = v < variable_count
IsTermOf problem variable_count Any = ⊥

-- the term is one of the problem's objects, one of `variable_count` variables, or the wild card
abbrev pub IsPatternTermOf : Problem → ℕ → Term → Type 0
IsPatternTermOf problem variable_count (Obj n) = n < problem.objects
IsPatternTermOf problem variable_count (Var v) = v < variable_count
IsPatternTermOf problem variable_count Any = Unit {0}

-- the predicate is the problem's, and has this number of arguments
abbrev pub HasArity : Problem → Atom → Type 0
HasArity problem atom = (atom.pred < length problem.arities) × (length atom.args ≡ slice_index problem.arities atom.pred)

-- the atom is one of the problem over its objects and `variable_count` variables
abbrev pub IsAtomOf : Problem → ℕ → Atom → Type 0
IsAtomOf problem variable_count atom = HasArity problem atom × All (IsTermOf problem variable_count) atom.args

-- the pattern is such an atom, in which the wild card may stand, too
abbrev pub IsPatternOf : Problem → ℕ → Atom → Type 0
IsPatternOf problem variable_count atom = HasArity problem atom × All (IsPatternTermOf problem variable_count) atom.args

-- the schema's variables are its parameters, and `Any` stands in its delete list alone
pub record IsSchemaWellFormed (schema : Schema) : Type 0 where
  pub pre : All (λ atom. All (IsPlainBelow schema.params) atom.args) schema.pre
  pub add : All (λ atom. All (IsPlainBelow schema.params) atom.args) schema.add
  pub del : All (λ atom. All (IsVariableBelow schema.params) atom.args) schema.del

-- the list has fewer entries than the greatest number of 32 bits
abbrev pub IsShort : {X : Type 0} → List X → Type 0
IsShort xs = length xs < u32_max

-- the numbers are sorts of the problem; 0 is no sort
abbrev pub AreSortsOf : Problem → List ℕ → Type 0
AreSortsOf problem sorts = All (λ sort. sort ≤ problem.sorts) sorts

-- The operator at a place of the problem: its number is the place, it has no more parameters than an operator may have, its atoms are the problem's, and
-- so are its sorts, one for each parameter.
pub record IsSchemaOf (problem : Problem) (place : ℕ) (schema : Schema) : Type 0 where
  pub number : schema.op ≡ place
  pub params : schema.params ≤ most_parameters
  pub pre : All (IsAtomOf problem schema.params) schema.pre
  pub del : All (IsPatternOf problem schema.params) schema.del
  pub add : All (IsAtomOf problem schema.params) schema.add
  pub short : IsShort schema.pre × IsShort schema.del × IsShort schema.add
  pub sorts : (length schema.param_sorts ≡ schema.params) × AreSortsOf problem schema.param_sorts

-- an axiom of the problem has no more variables than one may have, and its atoms are the problem's
pub record IsAxiomOf (problem : Problem) (clause : Clause) : Type 0 where
  pub variable_count : clause.variable_count ≤ most_formula_variables
  pub lits : All (λ lit. IsAtomOf problem clause.variable_count lit.atom) clause.lits

-- All numbers of the problem are in range, its limits too, there is a sort for each object, and there is an object where a variable or
-- parameter is declared. Each of its lists is short; the axioms are such clauses as an arena has, and no more.
pub record IsValid (problem : Problem) : Type 0 where
  pub schemas : EachIndex problem.schemas (λ k. IsSchemaOf problem k (slice_index_or problem.schemas k no_schema))
  pub axioms : All (IsAxiomOf problem) problem.axioms
  pub arena : IsArena problem.axioms
  pub short : IsShort problem.arities × IsShort problem.schemas
  pub height : (1 ≤ problem.height) × (problem.height ≤ most_height)
  pub nodes : (1 ≤ problem.nodes) × (problem.nodes ≤ most_nodes)
  pub shapes : (2 ≤ problem.shapes) × (problem.shapes ≤ most_shapes)
  pub weight : problem.weight ≤ most_weight
  pub sorts : (length problem.object_sorts ≡ problem.objects) × AreSortsOf problem problem.object_sorts × IsShort problem.object_sorts
  pub no_objects : problem.objects ≡ 0 → All (λ schema. schema.params ≡ 0) problem.schemas × All (λ clause. clause.variable_count ≡ 0) problem.axioms

-- a ground instance of one of the problem's operators, over any objects
pub record IsGroundInstanceOf (problem : Problem) (inst : OpInst) : Type 0 where
  pub op : inst.op < length problem.schemas
  pub count : length inst.args ≡ (schema_of problem inst).params
  pub all_objects : All IsObject inst.args

-- a ground instance of one of the problem's operators, over its objects
pub record IsInstanceOf (problem : Problem) (inst : OpInst) : Type 0 where
  pub op : inst.op < length problem.schemas
  pub count : length inst.args ≡ (schema_of problem inst).params
  pub objects : All (IsTermOf problem 0) inst.args
