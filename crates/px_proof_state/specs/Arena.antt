-- Open goals kept in an arena: each names the goal above it and the goal that is open after it, both older.
use Rattle.std.specs.Prelude.{◌≡◌, ℕ, ◌≤◌, Some, List, [], ◌∷◌, ◌++◌, get_or, slice_get}
use Rattle.px_terms.specs.declared.clause.Lit.{Lit}
use Rattle.px_proof_walk.specs.Pending.{Goal}
use Rattle.px_proof_state.specs.declared.open.OpenGoal.{OpenGoal}

-- what hangs at a place of the arena: the goals from it on, and the literals from it up
pub record Hanging : Type 0 where
  pub goals : List Goal
  pub path : List Lit

abbrev pub nothing_hanging : Hanging
nothing_hanging = record { goals = []; path = [] }

-- a goal hangs before what hangs at the place that it names as the next, and under what hangs at the place above
abbrev pub hang : List Hanging → OpenGoal → Hanging
hang table g = record {
  goals =
      record { lit = g.lit; path = (get_or table g.above nothing_hanging).path; budget = g.budget }
      ∷ (get_or table g.next nothing_hanging).goals;
  path = g.lit ∷ (get_or table g.above nothing_hanging).path;
}

abbrev pub table_after : List Hanging → List OpenGoal → List Hanging
table_after table [] = table
table_after table (g ∷ arena) = table_after (table ++ hang table g ∷ []) arena

-- what hangs at each place: nothing at place 0; the goal at index i of the arena has place i + 1
abbrev pub hanging : List OpenGoal → List Hanging
hanging arena = table_after (nothing_hanging ∷ []) arena

-- the goals that are open from a place on
abbrev pub goals_at : List OpenGoal → ℕ → List Goal
goals_at arena place = (get_or (hanging arena) place nothing_hanging).goals

-- the literals from a place up
abbrev pub path_at : List OpenGoal → ℕ → List Lit
path_at arena place = (get_or (hanging arena) place nothing_hanging).path

-- each goal names older places
abbrev pub AreOlder : List OpenGoal → Type 0
AreOlder arena = (i : ℕ) (g : OpenGoal) → slice_get arena i ≡ Some g → (g.above ≤ i) × (g.next ≤ i)
