use Rattle.std.proofs.Common.{◌≡◌, ◌∙◌, ℕ, map, take, ap, sym, arith}
use Rattle.std.proofs.lemmas.List.{take-map}
use Rattle.px_table.specs.Kernels.{instance_under}
use Rattle.px_entries.proofs.macro_steps.steps_with.Goals as goal

pub returns : goal.returns
returns c =
    let done : c.loop-place.place ≡ c.args.prefix = omega (arith, c.loop-place-test.false, c.loop-place.auto.place-end) in
    c.loop-place.invariant ∙ ap (λ (n : ℕ). map (instance_under c.args.sigma.now) (take n c.args.table.now.steps)) done
    ∙ sym (take-map (instance_under c.args.sigma.now) c.args.prefix c.args.table.now.steps)
