use Rattle.std.proofs.Common.{ℕ, ◌<◌, get_or}
use Rattle.px_proof.specs.declared.proof.Proof.{Proof}
use Rattle.px_table.specs.Conclusions.{ProvesSome}
use Rattle.px_table.proofs.conclusions.each_proves_some.Given as goal

abbrev pub invariant-loop-proof : goal.invariant-loop-proof
invariant-loop-proof l = (k : ℕ) (d : Proof) → k < l.proof-index → ProvesSome l.axioms l.objects l.params (get_or l.row k d)
