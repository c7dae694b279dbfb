-- A worked example: a plan in which one object for two would spoil the plan. A(x) needs P(x), deletes Q(x) and adds R(x); B(x,y) needs
-- R(x) and Q(y) and adds G(x). The table has the steps A(p1) and B(p1,p2) and the goal G(p1).
use Rattle.std.specs.Prelude.{◌≡◌, ◌≢◌, ◌↔◌, ◌<◌, ◌≤◌, ℕ, Some, None, List, [], ◌∷◌, length, Contains}
use Rattle.px_terms.specs.declared.atom.Atom.{Atom}
use Rattle.px_terms.specs.declared.instance.OpInst.{OpInst}
use Rattle.px_terms.specs.declared.problem.Problem.{Problem}
use Rattle.px_terms.specs.declared.problem.Schema.{Schema}
use Rattle.px_terms.specs.declared.term.Term.{Term}
use Rattle.px_terms.specs.declared.term.Term.TheVariants.{Obj, Var}
use Rattle.px_terms.specs.Problems.{problem_without_sorts, schema_without_sorts}
use Rattle.px_terms.specs.Validity.{IsValid}
use Rattle.px_proof.specs.declared.proof.Leaf.{Leaf}
use Rattle.px_proof.specs.declared.proof.Proof.TheVariants.{Fact}
use Rattle.px_table.specs.declared.mark.Mark.{Mark}
use Rattle.px_table.specs.declared.table.Table.{Table}
use Rattle.px_table.specs.Tables.{IsTable, table_without_sorts}
use Rattle.px_match.specs.Matching.{Extends, IsSensed, KernelFits, KernelInstance, first_bad}

-- P(x), Q(x), R(x), G(x)
-- Alike: `Domain` of px_rooms and `Lamps` of px_terms, each of which names the atoms of its own predicates.
abbrev pub p : Term → Atom
p x = record { pred = 0; args = x ∷ [] }

abbrev pub q : Term → Atom
q x = record { pred = 1; args = x ∷ [] }

abbrev pub r : Term → Atom
r x = record { pred = 2; args = x ∷ [] }

abbrev pub g : Term → Atom
g x = record { pred = 3; args = x ∷ [] }

abbrev pub a_schema : Schema
a_schema = schema_without_sorts 0 1 (p (Var 0) ∷ []) (q (Var 0) ∷ []) (r (Var 0) ∷ [])

abbrev pub b_schema : Schema
b_schema = schema_without_sorts 1 2 (r (Var 0) ∷ q (Var 1) ∷ []) [] (g (Var 0) ∷ [])

-- two objects
abbrev pub danger : Problem
danger = problem_without_sorts 2 (1 ∷ 1 ∷ 1 ∷ 1 ∷ []) [] (a_schema ∷ b_schema ∷ []) 4 10000 10000

abbrev pub a_step : Term → OpInst
a_step x = record { op = 0; args = x ∷ [] }

abbrev pub b_step : Term → Term → OpInst
b_step x y = record { op = 1; args = x ∷ y ∷ [] }

abbrev pub leaf_at : ℕ → Atom → Leaf
leaf_at column atom = record { column = column; index = 0; atom = atom }

abbrev pub mark_at : ℕ → ℕ → Atom → Mark
mark_at row column atom = record { atom = atom; row = row; column = column; index = 0 }

abbrev pub p_mark : Mark
p_mark = mark_at 1 0 (p (Var 0))

abbrev pub r_mark : Mark
r_mark = mark_at 2 1 (r (Var 0))

abbrev pub q_mark : Mark
q_mark = mark_at 2 0 (q (Var 1))

abbrev pub g_mark : Mark
g_mark = mark_at 3 2 (g (Var 0))

abbrev pub danger_table : Table
danger_table =
    table_without_sorts 2 (a_step (Var 0) ∷ b_step (Var 0) (Var 1) ∷ []) (g (Var 0) ∷ []) 0 (p_mark ∷ r_mark ∷ q_mark ∷ g_mark ∷ [])
    ((Fact (leaf_at 0 (p (Var 0))) ∷ [])
    ∷ (Fact (leaf_at 1 (r (Var 0))) ∷ Fact (leaf_at 0 (q (Var 1))) ∷ [])
    ∷ (Fact (leaf_at 2 (g (Var 0))) ∷ [])
    ∷ [])

-- two objects of the problem, as they are bound
abbrev pub AreBothChosen : List (ℕ × ℕ) → ℕ → ℕ → Type 0
AreBothChosen bound x y = (x < 2) × (y < 2) × Extends bound (x ∷ y ∷ [])

-- The plan is a table of a valid problem. Kernel 1 fits where P(p1) and Q(p2) are true and the objects differ: else the first step would
-- delete what the second one needs. Kernel 2 fits where R(p1) and Q(p2) are true, and kernel 3 where G(p1) is. There is no other kernel.
pub record DangerKernels : Type 0 where
  pub valid : IsValid danger
  pub table : IsTable danger danger_table
  pub first : (bound : List (ℕ × ℕ)) (atoms : List Atom) (x y : ℕ)
      → KernelFits danger danger_table bound atoms 1 (x ∷ y ∷ [])
      ↔ (AreBothChosen bound x y × (Contains atoms (p (Obj x)) × Contains atoms (q (Obj y))) × (x ≢ y))
  pub second : (bound : List (ℕ × ℕ)) (atoms : List Atom) (x y : ℕ)
      → KernelFits danger danger_table bound atoms 2 (x ∷ y ∷ [])
      ↔ (AreBothChosen bound x y × (Contains atoms (r (Obj x)) × Contains atoms (q (Obj y))))
  pub third : (bound : List (ℕ × ℕ)) (atoms : List Atom) (x y : ℕ)
      → KernelFits danger danger_table bound atoms 3 (x ∷ y ∷ []) ↔ (AreBothChosen bound x y × Contains atoms (g (Obj x)))
  pub no_other : (bound : List (ℕ × ℕ)) (atoms : List Atom) (i : ℕ) (objects : List ℕ)
      → KernelFits danger danger_table bound atoms i objects → (1 ≤ i) × (i ≤ 3) × (length objects ≡ 2)

abbrev pub kernel : ℕ → ℕ → ℕ → KernelInstance
kernel i x y = record { number = i; objects = x ∷ y ∷ [] }

-- the objects
abbrev pub a : ℕ
a = 0

abbrev pub b : ℕ
b = 1

-- P(a), Q(a), Q(b)
abbrev pub danger_facts : List Atom
danger_facts = p (Obj a) ∷ q (Obj a) ∷ q (Obj b) ∷ []

-- what is sensed, under bindings
pub record DangerSensed : Type 0 where
  -- with one object for both parameters nothing fits
  pub one_object : IsSensed danger danger_table ((1, a) ∷ (2, a) ∷ []) danger_facts None
  -- with the first bound, the first object for the second isn't proper, and the next one is
  pub next_object : IsSensed danger danger_table ((1, a) ∷ []) danger_facts (Some (kernel 1 a b))
  -- the higher kernel comes first, and there one object for both is proper
  pub higher : IsSensed danger danger_table [] (p (Obj a) ∷ q (Obj a) ∷ q (Obj b) ∷ r (Obj a) ∷ []) (Some (kernel 2 a a))
  -- a parameter in no mark of the kernel gets the least object
  pub unused : IsSensed danger danger_table [] (g (Obj b) ∷ []) (Some (kernel 3 b a))
  -- the first bound parameter that isn't the table's
  pub above : first_bad danger_table ((2, b) ∷ (3, a) ∷ (0, a) ∷ []) ≡ Some 3
  pub zero : first_bad danger_table ((0, a) ∷ []) ≡ Some 0
  pub within : first_bad danger_table ((2, b) ∷ (1, a) ∷ []) ≡ None
