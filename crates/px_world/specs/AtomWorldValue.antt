-- What contracts see of a world that is a set of atoms.
use Rattle.std.specs.Prelude.{ℕ, List}
use Rattle.px_terms.specs.declared.atom.Atom.{Atom}
use Rattle.px_terms.specs.declared.problem.Problem.{Problem}

-- the problem whose objects, axioms and operators the world has, its atoms, ascending, and the number of places that are there for
-- further ones
pub record AtomWorldValue : Type 0 where
  pub rules : Problem
  pub atoms : List Atom
  pub spare : ℕ
