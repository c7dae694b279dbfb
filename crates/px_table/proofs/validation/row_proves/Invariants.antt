use Rattle.std.proofs.Common.{◌↔◌, map, drop}
use Rattle.px_terms.specs.Operators.{precondition}
use Rattle.px_proof.specs.ProofTerm.{derivation_of}
use Rattle.px_proof.specs.Proves.{IsObjectOrParameter}
use Rattle.px_table.specs.Supports.{ProvesEachOf}
use Rattle.px_table.proofs.validation.row_proves.Given as goal

-- what is left to be proved, where the proofs up to here prove what they have to
abbrev pub invariant-loop-k : goal.invariant-loop-k
invariant-loop-k l =
    ProvesEachOf (IsObjectOrParameter l.problem.objects l.params) l.problem.axioms (drop l.k (precondition l.problem l.inst))
    (drop l.k (map derivation_of l.row))
    ↔ ProvesEachOf (IsObjectOrParameter l.problem.objects l.params) l.problem.axioms (precondition l.problem l.inst)
    (map derivation_of l.row)
