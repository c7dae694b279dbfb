use Rattle.std.proofs.Common.{◌-◌, drop, length, map}
use Rattle.px_terms.specs.declared.atom.Atom.{Atom}
use Rattle.px_gaps.specs.Bounds.{IsBoundBy}
use Rattle.px_gaps.proofs.bounds.bound_of_formula.Given as goal

abbrev pub invariant-loop-passed : goal.invariant-loop-passed
invariant-loop-passed l = IsBoundBy l.table (map (λ (a : Atom). a.pred) (drop (length l.formula - l.passed) l.formula)) l.bound
