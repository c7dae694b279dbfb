-- The parts of a clause that a step uses.
use Rattle.std.specs.Prelude.{ℕ, List, map, All}
use Rattle.px_terms.specs.declared.clause.Lit.{Lit}
use Rattle.px_terms.specs.Language.{IsPlainBelow}
use Rattle.px_proof_walk.specs.Pending.{Goal}

-- the literal has no wild card, and is over the first variables
abbrev pub IsLitBelow : ℕ → Lit → Type 0
IsLitBelow n lit = All (IsPlainBelow n) lit.atom.args

-- goals with one path and one greatest height
abbrev pub goals_under : List Lit → ℕ → List Lit → List Goal
goals_under path budget lits = map (λ lit. record { lit = lit; path = path; budget = budget }) lits
