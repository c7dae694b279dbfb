-- A worked example of what a world may refuse. The axiom says that P is true wherever Q is, and the operator needs P.
use Rattle.std.specs.Prelude.{[], ◌∷◌, true, false}
use Rattle.px_terms.specs.declared.atom.Atom.{Atom}
use Rattle.px_terms.specs.declared.clause.Clause.{Clause}
use Rattle.px_terms.specs.declared.clause.Lit.{Lit}
use Rattle.px_terms.specs.declared.instance.OpInst.{OpInst}
use Rattle.px_terms.specs.declared.problem.Problem.{Problem}
use Rattle.px_terms.specs.declared.problem.Schema.{Schema}
use Rattle.px_terms.specs.Problems.{problem_without_sorts, schema_without_sorts}
use Rattle.px_terms.specs.Validity.{IsInstanceOf, IsValid}
use Rattle.px_world.specs.Worlds.{IsActionRefused}

abbrev pub p : Atom
p = record { pred = 0; args = [] }

abbrev pub q : Atom
q = record { pred = 1; args = [] }

abbrev pub p_is_true : Lit
p_is_true = record { positive = true; atom = p }

abbrev pub q_is_false : Lit
q_is_false = record { positive = false; atom = q }

abbrev pub p_or_not_q : Clause
p_or_not_q = record { variable_count = 0; lits = p_is_true ∷ q_is_false ∷ [] }

abbrev pub needs_p : Schema
needs_p = schema_without_sorts 0 0 (p ∷ []) [] (q ∷ [])

abbrev pub guarded : Problem
guarded = problem_without_sorts 0 (0 ∷ 0 ∷ []) (p_or_not_q ∷ []) (needs_p ∷ []) 1 1 2

abbrev pub go : OpInst
go = record { op = 0; args = [] }

-- Where nothing is known, the step may be refused. Where P is known, it can't be; nor can it where Q is known, though P
-- isn't among the atoms.
pub record GuardFact : Type 0 where
  pub valid : IsValid guarded
  pub instance : IsInstanceOf guarded go
  pub unknown : IsActionRefused guarded [] go
  pub known : ¬ IsActionRefused guarded (p ∷ []) go
  pub implied : ¬ IsActionRefused guarded (q ∷ []) go
