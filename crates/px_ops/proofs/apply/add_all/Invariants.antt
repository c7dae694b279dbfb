use Rattle.std.proofs.Common.{◌≡◌, ◌+◌, ◌≤◌, ◌++◌, take}
use Rattle.px_terms.specs.Operators.{atoms_of}
use Rattle.px_terms.specs.AtomSets.{atom_set}
use Rattle.px_ops.proofs.apply.add_all.Given as goal

abbrev pub invariant-loop-k : goal.invariant-loop-k
invariant-loop-k l = record {
  atoms : l.model.atoms ≡ atom_set (l.initial.model.atoms ++ take l.k (atoms_of l.schema.add l.inst));
  spare : l.initial.model.spare ≤ l.model.spare + l.k;
}
