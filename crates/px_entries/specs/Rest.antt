-- The part of a formula that decides whether it is open. An atom whose predicate some operator adds, and no axiom concludes, never does:
-- it is a fact, or a gap closes it.
use Rattle.std.specs.Prelude.{◌≡◌, ◌⊎◌, List, [], ◌∷◌}
use Rattle.px_terms.specs.Operators.{IsAddable}
use Rattle.px_terms.specs.declared.atom.Atom.{Atom}
use Rattle.px_terms.specs.declared.problem.Problem.{Problem}
use Rattle.px_gaps.specs.Concluding.{IsConcluded}

-- some operator adds the atom's predicate, and no axiom concludes it
abbrev pub IsOnlyAdded : Problem → Atom → Type 0
IsOnlyAdded problem atom = IsAddable problem atom × ¬ IsConcluded problem.axioms atom.pred

-- the second list is the first without such atoms
abbrev pub IsRest : Problem → List Atom → List Atom → Type 0
IsRest problem [] rest = rest ≡ []
IsRest problem (atom ∷ atoms) rest =
    (IsOnlyAdded problem atom × IsRest problem atoms rest)
    ⊎ ((¬ IsOnlyAdded problem atom) × ((others : List Atom) × (rest ≡ atom ∷ others) × IsRest problem atoms others))
