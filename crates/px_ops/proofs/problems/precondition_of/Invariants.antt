use Rattle.std.proofs.Common.{◌≡◌, take}
use Rattle.px_terms.specs.Operators.{atoms_of}
use Rattle.px_ops.proofs.problems.precondition_of.Given as goal

abbrev pub invariant-loop-k : goal.invariant-loop-k
invariant-loop-k l = l.atoms.items ≡ take l.k (atoms_of l.schema.pre l.inst)
