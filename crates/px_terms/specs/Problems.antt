-- Operators and problems without sorts.
use Rattle.std.specs.Prelude.{ℕ, List, replicate}
use Rattle.px_terms.specs.declared.atom.Atom.{Atom}
use Rattle.px_terms.specs.declared.clause.Clause.{Clause}
use Rattle.px_terms.specs.declared.problem.Problem.{Problem}
use Rattle.px_terms.specs.declared.problem.Schema.{Schema}

-- the operator none of whose parameters has a sort
abbrev pub schema_without_sorts : ℕ → ℕ → List Atom → List Atom → List Atom → Schema
schema_without_sorts op params pre del add =
    record { op = op; params = params; pre = pre; del = del; add = add; param_sorts = replicate params 0 }

-- the problem none of whose objects has a sort, whose search goes by the number of moves alone
abbrev pub problem_without_sorts : ℕ → List ℕ → List Clause → List Schema → ℕ → ℕ → ℕ → Problem
problem_without_sorts objects arities axioms schemas height nodes shapes = record {
  objects = objects;
  arities = arities;
  axioms = axioms;
  schemas = schemas;
  height = height;
  nodes = nodes;
  shapes = shapes;
  sorts = 0;
  object_sorts = replicate objects 0;
  weight = 0;
}
