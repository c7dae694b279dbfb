-- Clauses, and the arenas that keep them.
use Rattle.std.specs.Prelude.{ℕ, ◌≤◌, List, length, All}
use Rattle.px_terms.specs.declared.clause.Clause.{Clause}
use Rattle.px_terms.specs.declared.clause.Lit.{Lit}
use Rattle.px_terms.specs.Language.{IsPlainBelow}
use Rattle.px_terms.specs.Limits.{most_clauses, most_literals}

-- the literals have no wild card, and their variables are below the limit
abbrev pub ArePlainBelow : ℕ → List Lit → Type 0
ArePlainBelow variable_count lits = All (λ lit. All (IsPlainBelow variable_count) lit.atom.args) lits

-- a clause has a literal, and no more than one may have
abbrev pub HasClauseLength : List Lit → Type 0
HasClauseLength lits = (1 ≤ length lits) × (length lits ≤ most_literals)

-- a clause has a right length, no wild card, and its own variables alone
pub record IsClause (clause : Clause) : Type 0 where
  pub size : HasClauseLength clause.lits
  pub plain : ArePlainBelow clause.variable_count clause.lits

-- an arena has no more clauses than one may have
pub record IsArena (clauses : List Clause) : Type 0 where
  pub each : All IsClause clauses
  pub most : length clauses ≤ most_clauses
