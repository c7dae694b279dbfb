use Rattle.std.proofs.Common.{◌≡◌, map, take}
use Rattle.px_terms.specs.declared.problem.Problem.{Problem}
use Rattle.px_proof.specs.ProofTerm.{derivation_of}
use Rattle.px_table.specs.declared.table.Table.{Table}
use Rattle.px_edit.specs.Editing.{wanted_atoms, wanted_fact}
use Rattle.px_edit.proofs.parts.goal_row.Given as goal

abbrev pub invariant-loop-place : goal.invariant-loop-place
invariant-loop-place l = (problem : Problem) (table : Table) → l.goal ≡ wanted_atoms problem table l.wanted
    → map derivation_of l.made.items ≡ map (wanted_fact problem table l.kept) (take l.place l.wanted)
