-- The open places of an unfinished list, and what each tick makes of the first of them.
use Rattle.std.specs.Prelude.{◌≡◌, ℕ, ◌+◌, ◌-◌, ◌<◌, ◌≤◌, Bool, ◌&&◌, ◌||◌, nat_le, nat_eq, cond, Option, Some, None, IsSomeAnd, List, [], ◌∷◌, ◌++◌, map, length, slice_get, All}
use Rattle.std.specs.List.{list_any}
use Rattle.px_terms.specs.declared.term.Term.{Term}
use Rattle.px_terms.specs.declared.atom.Atom.{Atom}
use Rattle.px_terms.specs.declared.clause.Lit.{Lit}
use Rattle.px_terms.specs.declared.clause.Clause.{Clause}
use Rattle.px_terms.specs.Substitution.{variables_from}
use Rattle.px_proof.specs.declared.shape.Tick.{Tick}
use Rattle.px_proof.specs.declared.shape.Tick.TheVariants.{Fact, Anc, Step, Gap, Open}
use Rattle.px_proof.specs.Literals.{substitute_literal, complement_of, positive_of}
use Rattle.px_proof.specs.Proves.{instance_of, parts_of}
use Rattle.px_question.specs.Answers.{object_terms}
use Rattle.px_question.specs.Settings.{Setting}

-- a literal to be proved, the literals above it, and the greatest height that its proof may have
pub record Goal : Type 0 where
  pub lit : Lit
  pub path : List Lit
  pub budget : ℕ

-- what closes a goal: the literal that it has to equal, and what is then to be proved
pub record Closing : Type 0 where
  pub equal_to : Lit
  pub parts : List Goal

-- the variables of the clause, where there is one
abbrev pub variable_count_of : Option Clause → ℕ
variable_count_of None = 0
variable_count_of (Some clause) = clause.variable_count

-- the new variables that the tick brings: those of the clause that it uses
abbrev pub fresh_of : Setting → Tick → ℕ
fresh_of s (Fact i) = 0
fresh_of s (Anc i) = 0
fresh_of s (Step number place) = variable_count_of (slice_get s.axioms number)
fresh_of s Gap = 0
fresh_of s Open = 0

abbrev pub by_fact : Option Atom → Option Closing
by_fact None = None
by_fact (Some atom) = Some (record { equal_to = positive_of atom; parts = [] })

abbrev pub by_ancestor : Option Lit → Option Closing
by_ancestor None = None
by_ancestor (Some above) = Some (record { equal_to = complement_of above; parts = [] })

-- the literals as goals under the goal
abbrev pub goals_below : Goal → List Lit → List Goal
goals_below above lits = map (λ lit. record { lit = lit; path = above.lit ∷ above.path; budget = above.budget - 1 }) lits

-- a step has room for its parts within the height
abbrev pub has_room : Goal → Clause → Bool
has_room goal clause = nat_le (length clause.lits) 1 || nat_le 2 goal.budget

abbrev pub by_literal : Goal → List Lit → Option Lit → Option Closing
by_literal goal parts None = None
by_literal goal parts (Some lit) = Some (record { equal_to = lit; parts = goals_below goal parts })

abbrev pub by_step : Goal → List Term → ℕ → Option Clause → Option Closing
by_step goal theta place None = None
by_step goal theta place (Some clause) =
    cond (has_room goal clause) (by_literal goal (parts_of clause.lits theta place) (slice_get (instance_of clause.lits theta) place)) None

-- how the tick closes the goal, with the terms of theta for the variables of its clause; `loose` where gaps are allowed
abbrev pub closing_of : Bool → Setting → List Term → Goal → Tick → Option Closing
closing_of loose s theta goal (Fact i) = by_fact (slice_get s.facts i)
closing_of loose s theta goal (Anc i) = by_ancestor (slice_get goal.path i)
closing_of loose s theta goal (Step number place) = by_step goal theta place (slice_get s.axioms number)
closing_of loose s theta goal Gap =
    cond (loose && goal.lit.positive && list_any (nat_eq goal.lit.atom.pred) s.added) (Some (record { equal_to = goal.lit; parts = [] }))
    None
closing_of loose s theta goal Open = Some (record { equal_to = goal.lit; parts = [] })

-- how the tick closes the goal, with new variables for those of the clause
abbrev pub closing_at : Bool → Setting → ℕ → Goal → Tick → Option Closing
closing_at loose s variables goal tick = closing_of loose s (variables_from variables (fresh_of s tick)) goal tick

-- under tau the ticks close the goals rightly, one after the other
abbrev pub Solves : Bool → Setting → List Term → ℕ → List Goal → List Tick → Type 0
Solves loose s tau variables goals [] = Unit {0}
Solves loose s tau variables [] (tick ∷ ticks) = ⊥
Solves loose s tau variables (goal ∷ goals) (tick ∷ ticks) =
    IsSomeAnd (closing_at loose s variables goal tick) (λ closing.
    (substitute_literal tau goal.lit ≡ substitute_literal tau closing.equal_to)
    × Solves loose s tau (variables + fresh_of s tick) (closing.parts ++ goals) ticks)

-- what is open after the ticks, and the number of variables
pub record Pending : Type 0 where
  pub variables : ℕ
  pub goals : List Goal

abbrev pub open_after : Bool → Setting → ℕ → List Goal → List Tick → Option Pending
open_after loose s variables goals [] = Some (record { variables = variables; goals = goals })
open_after loose s variables [] (tick ∷ ticks) = None
open_after loose s variables (goal ∷ goals) (tick ∷ ticks) = go (closing_at loose s variables goal tick)
    (λ parts. open_after loose s (variables + fresh_of s tick) (parts ++ goals) ticks)
  where
    go : Option Closing → (List Goal → Option Pending) → Option Pending
    go None later = None
    go (Some closing) later = later closing.parts

-- the goals of a formula: its variables come first
abbrev pub goals_of : Setting → List Atom → List Goal
goals_of s formula = map (λ atom. record { lit = positive_of atom; path = []; budget = s.height }) formula

-- some objects make the closings right
abbrev pub IsFeasible : Bool → Setting → List Atom → ℕ → List Tick → Type 0
IsFeasible loose s formula variable_count ticks =
    (p : Pending) × (open_after loose s variable_count (goals_of s formula) ticks ≡ Some p) ×
    ((objects : List ℕ) × (p.variables ≤ length objects) × All (λ n. n < s.objects) objects
    × Solves loose s (object_terms objects) variable_count (goals_of s formula) ticks)

-- under these objects the ticks close the goals rightly, without variables: the objects of each step are chosen at the step
abbrev pub Runs : Bool → Setting → List Goal → List Tick → List ℕ → Type 0
Runs loose s [] [] chosen = chosen ≡ []
Runs loose s (goal ∷ goals) [] chosen = ⊥
Runs loose s [] (tick ∷ ticks) chosen = ⊥
Runs loose s (goal ∷ goals) (tick ∷ ticks) chosen =
    (theta : List ℕ) × (rest : List ℕ) × (chosen ≡ theta ++ rest) × (length theta ≡ fresh_of s tick) × All (λ n. n < s.objects) theta ×
    IsSomeAnd (closing_of loose s (object_terms theta) goal tick)
    (λ closing. (goal.lit ≡ closing.equal_to) × Runs loose s (closing.parts ++ goals) ticks rest)
