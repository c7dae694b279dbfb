use Rattle.std.proofs.Common.{ℕ, ◌≡◌, ◌∙◌, ◌+◌, ◌++◌, ◌∷◌, [], ap, sym, take, length, arith}
use Rattle.std.proofs.lemmas.List.Sums.{sum_by_more}
use Rattle.px_terms.specs.declared.instance.OpInst.{OpInst}
use Rattle.px_terms.specs.Substitution.{variables_from}
use Rattle.px_replay.specs.Opened.{opened_steps, step_variables}
use Rattle.px_replay.proofs.OpenSteps.{opened_steps-more}
use Rattle.px_replay.proofs.opening.open_steps.Goals as goal

zero_and : (n m : ℕ) → n ≡ m → n ≡ 0 + m
zero_and n m e = omega (arith, e)

pub loop-inst-preserved : goal.loop-inst-preserved
loop-inst-preserved c =
    let before = opened_steps 0 (take c.loop-inst.inst-index c.args.steps.now) in
    let sum : ℕ = step_variables (take c.loop-inst.inst-index c.args.steps.now) in
    let next : c.loop-inst.next ≡ 0 + sum = zero_and c.loop-inst.next sum c.loop-inst.invariant.next in
    record {
      made =
          c.in_ok-push.ensures.ok ∙ ap (λ l. l ++ c.in_ok-one.one ∷ []) c.loop-inst.invariant.made
          ∙ ap (λ (o : OpInst). before ++ o ∷ []) (c.in_ok-one.ensures
          ∙ ap (λ (n : ℕ). record { op = c.inst-item.result.op; args = variables_from n (length c.inst-item.result.args) }) next
          ∙ ap (λ (o : OpInst). record { op = o.op; args = variables_from (0 + sum) (length o.args) }) c.inst-item.is)
          ∙ sym (opened_steps-more 0 c.loop-inst.inst-index c.args.steps.now c.inst-item.result c.loop-inst-test.true);
      next = omega (
        arith,
        c.loop-inst.invariant.next,
        sum_by_more (λ (inst : OpInst). length inst.args) c.args.steps.now c.loop-inst.inst-index c.inst-item.result c.loop-inst-test.true,
        ap (λ (o : OpInst). length o.args) c.inst-item.is,
        ap length c.args-in-loop-inst.ensures.value,
      );
    }
