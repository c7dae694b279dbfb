use Rattle.std.proofs.Common.{◌≡◌, ◌+◌, ◌-◌, length, map, drop, reverse}
use Rattle.px_proof.specs.ProofTerm.{derivation_of}
use Rattle.px_question.specs.Settings.{setting_of}
use Rattle.px_proof_state.specs.declared.open.Choice.{Choice}
use Rattle.px_prover.specs.Building.{built, fresh_sum}
use Rattle.px_prover.proofs.building.build.Given as goal

abbrev pub invariant-loop-done : goal.invariant-loop-done
invariant-loop-done l = record {
  end : l.end + fresh_sum (setting_of l.problem l.facts) (map (λ (c : Choice). c.tick) (drop (length l.choices - l.done) l.choices))
      ≡ length l.objects;
  made : map derivation_of (reverse l.made.items)
      ≡ built (setting_of l.problem l.facts) (map (λ (c : Choice). c.tick) (drop (length l.choices - l.done) l.choices))
      (drop l.end l.objects);
}
