-- Operator instances with variables, and the instances that they stand for, whatever the sorts.
use Rattle.std.specs.Prelude.{◌≡◌, ◌⊎◌, ◌<◌, ◌≤◌, ◌-◌, ℕ, length, List, All}
use Rattle.px_terms.specs.Limits.{most_parameters}
use Rattle.px_terms.specs.declared.instance.OpInst.{OpInst}
use Rattle.px_terms.specs.declared.problem.Problem.{Problem}
use Rattle.px_terms.specs.declared.term.Term.{Term}
use Rattle.px_terms.specs.declared.term.Term.TheVariants.{Obj, Var}
use Rattle.px_terms.specs.Operators.{schema_of}
use Rattle.px_terms.specs.Substitution.{substitute_instance}
use Rattle.px_terms.specs.Validity.{IsTermOf, IsInstanceOf}
use Rattle.px_question.specs.Answers.{object_terms}
use Rattle.px_gaps.specs.Closings.{OneOf}
use Rattle.px_entries.specs.declared.partial.PartialInstance.{PartialInstance}

-- an instance of an operator of the problem, over its objects and the variables, whatever the sorts
pub record IsPartialInstance (problem : Problem) (partial : PartialInstance) : Type 0 where
  pub op : partial.inst.op < length problem.schemas
  pub count : length partial.inst.args ≡ (schema_of problem partial.inst).params
  pub terms : All (IsTermOf problem partial.variable_count) partial.inst.args
  pub few : partial.variable_count ≤ most_parameters
  pub objects : 0 < partial.variable_count → 0 < problem.objects

-- the objects are the problem's, one for each variable, and with them the partial instance is the other one
pub record Fills (problem : Problem) (partial : PartialInstance) (full : OpInst) (objects : List ℕ) : Type 0 where
  pub count : length objects ≡ partial.variable_count
  pub below : All (λ n. n < problem.objects) objects
  pub same : substitute_instance (object_terms objects) partial.inst ≡ full

-- the instance is the partial one with some objects
abbrev pub StandsFor : Problem → PartialInstance → OpInst → Type 0
StandsFor problem partial full = (objects : List ℕ) × Fills problem partial full objects

-- one of the partial instances stands for it
abbrev pub IsCovered : Problem → List PartialInstance → OpInst → Type 0
IsCovered problem partials full = OneOf partials (λ partial. StandsFor problem partial full)

-- The new list has only partial instances of the problem, if the old one had. It covers what that covered, and all that is
-- wanted, and nothing else.
pub record Covers (problem : Problem) (IsWanted : OpInst → Type 0) (old new : List PartialInstance) : Type 0 where
  pub form : All (IsPartialInstance problem) old → All (IsPartialInstance problem) new
  pub kept : (full : OpInst) → IsCovered problem old full → IsCovered problem new full
  pub only : (full : OpInst) → IsCovered problem new full → IsCovered problem old full ⊎ IsWanted full
  pub all : (full : OpInst) → IsInstanceOf problem full → IsWanted full → IsCovered problem new full

-- The term stands for variable k where the object is put for the variable: the variables after it are numbered one less.
pub record IsRenamed (variable object k : ℕ) (term : Term) : Type 0 where
  pub below : k < variable → term ≡ Var k
  pub here : k ≡ variable → term ≡ Obj object
  pub above : variable < k → term ≡ Var (k - 1)
