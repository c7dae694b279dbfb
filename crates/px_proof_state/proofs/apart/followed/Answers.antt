use Rattle.std.proofs.Common.{arith, length, ap, ◌∙◌}
use Rattle.std.proofs.lemmas.List.{length-set}
use Rattle.px_proof_state.proofs.ApartLemmas.{followed-next, followed-atom}
use Rattle.px_proof_state.proofs.apart.followed.Goals as goal

pub loop-place-preserved : goal.loop-place-preserved
loop-place-preserved c = record {
  within = omega (arith, c.loop-place-test.true);
  long = length-set c.loop-place.terms c.loop-place.place _ ∙ c.loop-place.invariant.long;
  same =
      λ sigma fits. followed-next sigma c.args-args.result.now c.loop-place.terms c.loop-place.place _ _ c.resolve.result
      (omega arith) c.loop-place-test.true (omega (
        arith,
        c.loop-place-test.true,
        c.loop-place.invariant.long,
        c.args-args.ensures.at_most,
        ap length c.args-args.ensures.value,
      )) (c.resolve.ensures.value sigma fits) (c.loop-place.invariant.same sigma fits);
}

pub returns : goal.returns
returns c = λ sigma fits.
    followed-atom sigma c.args.atom.now c.of.result c.args-args.result.now c.loop-place.terms c.loop-place.place c.pred.result
    c.args-args.ensures.value c.pred.ensures (omega (arith, c.loop-place-test.false, c.loop-place.invariant.within))
    c.of.ensures (c.loop-place.invariant.same sigma fits)
