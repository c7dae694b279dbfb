use Rattle.std.specs.Prelude.{◌≡◌, None, length}
use Rattle.std.proofs.Common.{refl, ap, ◌∙◌, arith}
use Rattle.px_match.specs.Matching.{IsHighest, NoKernelFits}
use Rattle.px_match.specs.MatcherValue.{kernel_with}
use Rattle.px_planex.specs.Executors.{PlanexValue}
use Rattle.px_planex.proofs.Happening.{carried}
use Rattle.px_planex.proofs.planex.Planex.sense.Goals as goal

pub returns-in-None-clause-happens : goal.returns-in-None-clause-happens
returns-in-None-clause-happens g c =
    let kept = c.in-None.ensures.kept refl ∙ ap (λ (p : PlanexValue). p.memory.instance) c.self.view_is in (
      carried NoKernelFits _ _ _ _ _ _ _ _ (c.self.invariant.same_problem ∙ ap (λ (p : PlanexValue). p.problem) c.self.view_is)
          (c.self.invariant.same_table ∙ ap (λ (p : PlanexValue). p.table) c.self.view_is)
          (ap (λ (p : PlanexValue). p.bound) c.self.view_is) c.sense.ensures.atoms (c.in-None.ensures.none.0 refl),
      λ i. record { atoms = g.W.World.atoms c.args.world.now; memory = record { remembered = None; instance = kept i } },
    )

pub returns-then-number-len-clause-happens : goal.returns-then-number-len-clause-happens
returns-then-number-len-clause-happens g c =
    let kernel = kernel_with c.best-found.new.self.instance c.in-Some.number in
    let here =
    carried (λ problem table bound atoms. IsHighest problem table bound atoms kernel) _ _ _ _ _ _ _ _
    (c.self.invariant.same_problem ∙ ap (λ (p : PlanexValue). p.problem) c.self.view_is)
    (c.self.invariant.same_table ∙ ap (λ (p : PlanexValue). p.table) c.self.view_is)
    (ap (λ (p : PlanexValue). p.bound) c.self.view_is) c.sense.ensures.atoms c.in-Some.ensures.some in
    let steps = ap (λ (p : PlanexValue). length p.table.steps) c.self.view_is in
    (kernel, here, omega (arith, here.fits.to_goal, c.if-number-len.true, c.len.ensures, steps), refl)

pub returns-else-number-len-clause-happens : goal.returns-else-number-len-clause-happens
returns-else-number-len-clause-happens g c =
    let kernel = kernel_with c.best-found.new.self.instance c.in-Some.number in
    let here =
    carried (λ problem table bound atoms. IsHighest problem table bound atoms kernel) _ _ _ _ _ _ _ _
    (c.self.invariant.same_problem ∙ ap (λ (p : PlanexValue). p.problem) c.self.view_is)
    (c.self.invariant.same_table ∙ ap (λ (p : PlanexValue). p.table) c.self.view_is)
    (ap (λ (p : PlanexValue). p.bound) c.self.view_is) c.sense.ensures.atoms c.in-Some.ensures.some in
    let steps = ap (λ (p : PlanexValue). length p.table.steps) c.self.view_is in
    (kernel, here, refl, omega (arith, c.if-number-len.false, c.len.ensures, steps), refl)
