use Rattle.std.proofs.Common.{arith, refl, ◌∙◌}
use Rattle.std.proofs.lemmas.List.{length-set}
use Rattle.px_proof_state.proofs.NewVariables.{variables-next}
use Rattle.px_proof_state.proofs.parts.variables_after.Goals as goal

pub loop-k-preserved : goal.loop-k-preserved
loop-k-preserved c = record {
  within = omega (arith, c.loop-k-test.true);
  long = length-set c.loop-k.terms c.loop-k.k _ ∙ c.loop-k.invariant.long;
  made =
      variables-next c.args.first c.loop-k.k c.loop-k.terms
      (omega (arith, c.loop-k-test.true, c.requires.few, c.loop-k.invariant.long)) c.loop-k.invariant.made _ (omega arith) _ refl;
}
