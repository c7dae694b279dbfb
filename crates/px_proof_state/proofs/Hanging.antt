-- Older places keep what hangs there, so cutting the arena gives back what was open.
use Rattle.std.proofs.Common.{◌≡◌, ℕ, zero, suc, ◌+◌, ◌<◌, ◌≤◌, List, [], ◌∷◌, ◌++◌, length, get_or, slice_get, Some, refl, ap, sym, ◌∙◌, arith, length-append}
use Rattle.std.proofs.lemmas.List.{get_or_append_left, get_or_at}
use Rattle.px_proof_state.specs.declared.open.OpenGoal.{OpenGoal}
use Rattle.px_proof_state.specs.Arena.{Hanging, nothing_hanging, hang, hanging, table_after, goals_at, path_at}

table-append : (prefix rest : List OpenGoal) (table : List Hanging)
    → table_after table (prefix ++ rest) ≡ table_after (table_after table prefix) rest
table-append [] rest table = refl
table-append (g ∷ prefix) rest table = table-append prefix rest (table ++ hang table g ∷ [])

length-table : (arena : List OpenGoal) (table : List Hanging) → length (table_after table arena) ≡ length table + length arena
length-table [] table = omega arith
length-table (g ∷ arena) table = omega (arith, length-table arena (table ++ hang table g ∷ []), length-append table (hang table g ∷ []))

table-prefix : (arena : List OpenGoal) (table : List Hanging) (place : ℕ) → place < length table
    → get_or (table_after table arena) place nothing_hanging ≡ get_or table place nothing_hanging
table-prefix [] table place within = refl
table-prefix (g ∷ arena) table place within =
    table-prefix arena (table ++ hang table g ∷ []) place (omega (arith, within, length-append table (hang table g ∷ [])))
    ∙ get_or_append_left table (hang table g ∷ []) nothing_hanging place within

length-hanging : (arena : List OpenGoal) → length (hanging arena) ≡ suc (length arena)
length-hanging arena = length-table arena (nothing_hanging ∷ []) ∙ omega arith

-- what hangs at an older place is the same in the longer arena
hangs-longer : (arena more : List OpenGoal) (place : ℕ) → place ≤ length arena
    → get_or (hanging (arena ++ more)) place nothing_hanging ≡ get_or (hanging arena) place nothing_hanging
hangs-longer arena more place within =
    ap (λ t. get_or t place nothing_hanging) (table-append arena more (nothing_hanging ∷ []))
    ∙ table-prefix more (hanging arena) place (omega (arith, within, length-hanging arena))

pub goals_at-longer : (arena more : List OpenGoal) (place : ℕ) → place ≤ length arena
    → goals_at (arena ++ more) place ≡ goals_at arena place
goals_at-longer arena more place within = ap (λ (h : Hanging). h.goals) (hangs-longer arena more place within)

pub path_at-longer : (arena more : List OpenGoal) (place : ℕ) → place ≤ length arena → path_at (arena ++ more) place ≡ path_at arena place
path_at-longer arena more place within = ap (λ (h : Hanging). h.path) (hangs-longer arena more place within)

-- at the place of a goal hangs what the goal and the older places that it names give
hangs-goal : (prefix : List OpenGoal) (g : OpenGoal) (more : List OpenGoal)
    → get_or (hanging (prefix ++ g ∷ more)) (suc (length prefix)) nothing_hanging ≡ hang (hanging prefix) g
hangs-goal prefix g more =
    ap (λ t. get_or t (suc (length prefix)) nothing_hanging) (table-append prefix (g ∷ more) (nothing_hanging ∷ []))
    ∙ table-prefix more (hanging prefix ++ hang (hanging prefix) g ∷ []) (suc (length prefix))
    (omega (arith, length-hanging prefix, length-append (hanging prefix) (hang (hanging prefix) g ∷ [])))
    ∙ get_or_at (hanging prefix) (hang (hanging prefix) g) [] nothing_hanging (suc (length prefix)) (length-hanging prefix)

pub goals_at-goal : (prefix : List OpenGoal) (g : OpenGoal) (more : List OpenGoal) → g.next ≤ length prefix → g.above ≤ length prefix
    → goals_at (prefix ++ g ∷ more) (suc (length prefix))
    ≡ record { lit = g.lit; path = path_at (prefix ++ g ∷ more) g.above; budget = g.budget } ∷ goals_at (prefix ++ g ∷ more) g.next
goals_at-goal prefix g more next_older above_older =
    ap (λ (h : Hanging). h.goals) (hangs-goal prefix g more)
    ∙ ap (λ path. record { lit = g.lit; path = path; budget = g.budget } ∷ goals_at prefix g.next)
    (sym (path_at-longer prefix (g ∷ more) g.above above_older))
    ∙ ap (λ goals. record { lit = g.lit; path = path_at (prefix ++ g ∷ more) g.above; budget = g.budget } ∷ goals)
    (sym (goals_at-longer prefix (g ∷ more) g.next next_older))

-- the literals from a goal up are its own and those from the place above
pub path_at-goal : (prefix : List OpenGoal) (g : OpenGoal) (more : List OpenGoal) → g.above ≤ length prefix
    → path_at (prefix ++ g ∷ more) (suc (length prefix)) ≡ g.lit ∷ path_at (prefix ++ g ∷ more) g.above
path_at-goal prefix g more above_older =
    ap (λ (h : Hanging). h.path) (hangs-goal prefix g more)
    ∙ ap (λ path. g.lit ∷ path) (sym (path_at-longer prefix (g ∷ more) g.above above_older))

-- a list is what stands before an index, the element there, and what comes after it
abbrev SplitsAt : List OpenGoal → ℕ → OpenGoal → Type 0
SplitsAt arena i g = (prefix : List OpenGoal) × (more : List OpenGoal) × (arena ≡ prefix ++ g ∷ more) × (length prefix ≡ i)

splits : (arena : List OpenGoal) (i : ℕ) (g : OpenGoal) → slice_get arena i ≡ Some g → SplitsAt arena i g
splits [] i g at = absurd (cc)
splits (x ∷ xs) zero g at = let same : x ≡ g = cc in ([], xs, ap (λ y. y ∷ xs) same, refl)
splits (x ∷ xs) (suc i) g at = let rest = splits xs i g at in (x ∷ rest.0, rest.1, ap (λ ys. x ∷ ys) rest.2, ap suc rest.3)

-- the same at any index
pub path_at-index : (arena : List OpenGoal) (i : ℕ) (g : OpenGoal) → slice_get arena i ≡ Some g → g.above ≤ i
    → path_at arena (suc i) ≡ g.lit ∷ path_at arena g.above
path_at-index arena i g is older = go (splits arena i g is)
  where
    go : SplitsAt arena i g → path_at arena (suc i) ≡ g.lit ∷ path_at arena g.above
    go (prefix, more, whole, long) = rw (whole, ← long) (path_at-goal prefix g more (rw long older))

pub goals_at-index : (arena : List OpenGoal) (i : ℕ) (g : OpenGoal) → slice_get arena i ≡ Some g → g.next ≤ i → g.above ≤ i
    → goals_at arena (suc i) ≡ record { lit = g.lit; path = path_at arena g.above; budget = g.budget } ∷ goals_at arena g.next
goals_at-index arena i g is next_older above_older = go (splits arena i g is)
  where
    go : SplitsAt arena i g → goals_at arena (suc i)
        ≡ record { lit = g.lit; path = path_at arena g.above; budget = g.budget } ∷ goals_at arena g.next
    go (prefix, more, whole, long) = rw (whole, ← long) (goals_at-goal prefix g more (rw long next_older) (rw long above_older))

-- nothing hangs at place 0
pub path_at-nothing : (arena : List OpenGoal) → path_at arena 0 ≡ []
path_at-nothing arena = ap (λ (h : Hanging). h.path) (table-prefix arena (nothing_hanging ∷ []) 0 (omega arith))

pub goals_at-nothing : (arena : List OpenGoal) → goals_at arena 0 ≡ []
goals_at-nothing arena = ap (λ (h : Hanging). h.goals) (table-prefix arena (nothing_hanging ∷ []) 0 (omega arith))
