-- All lists of a given number of objects.
use Rattle.std.specs.Prelude.{ℕ, zero, suc, List, [], ◌∷◌, ◌++◌}

-- the list followed by each of the first objects, as many as the number
unfoldable pub longer_by : List ℕ → ℕ → List (List ℕ)
longer_by tuple zero = []
longer_by tuple (suc n) = longer_by tuple n ++ (tuple ++ n ∷ []) ∷ []

-- each of the lists, followed by each of the first objects
abbrev pub all_longer_by : ℕ → List (List ℕ) → List (List ℕ)
all_longer_by objects [] = []
all_longer_by objects (tuple ∷ tuples) = longer_by tuple objects ++ all_longer_by objects tuples

-- all lists of that many of the first objects
unfoldable pub tuples_of : ℕ → ℕ → List (List ℕ)
tuples_of objects zero = [] ∷ []
tuples_of objects (suc n) = all_longer_by objects (tuples_of objects n)
