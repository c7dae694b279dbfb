use Rattle.std.specs.Prelude.{◌≡◌, MatchBool, Some, option_map}
use Rattle.std.proofs.Common.{sym, ap, ◌∙◌, subst, inl, inr}
use Rattle.px_match.specs.MatcherValue.{kernel_with}
use Rattle.px_planex.specs.Execution.{RowFails}
use Rattle.px_planex.specs.Executors.{IsKernelStepTaken, PlanexValue}
use Rattle.px_planex.proofs.Happening.{IsTold, act_happens}
use Rattle.px_planex.proofs.planex.Planex.act.Goals.{then-is_taken, else-is_taken}
use Rattle.px_planex.proofs.planex.Planex.act.Goals as goal

pub returns-clause-happens : goal.returns-clause-happens
returns-clause-happens g c =
    let kernel = kernel_with c.instance.result.now c.in-Some.number in
    let remembered : c.args.self.now.memory.remembered ≡ Some kernel =
    ap (λ (p : PlanexValue). p.memory.remembered) (sym c.self.view_is)
    ∙ ap (option_map (kernel_with c.self.inside.matcher.instance)) c.in-Some.is
    ∙ ap (λ objects. Some (kernel_with objects c.in-Some.number)) (sym c.instance.ensures) in
    let told : IsTold c.act_by-is_taken.result c.if-is_taken.result = elim c.if-is_taken.branch [
      | then-is_taken w ↦ inl (w.if-is_taken.true, w.result-is)
      | else-is_taken w ↦ inr (w.if-is_taken.false, w.result-is)
    ] in
    act_happens g.W.World.leaves c.args.self.now.problem c.args.self.now.table c.args.self.now.bound g.W.World.atoms c.args.world.now
    c.act_by-is_taken.new.world
    c.args.self.now.memory c.self.inside.matcher.instance kernel remembered (ap (λ (p : PlanexValue). p.memory.instance) c.self.view_is)
    c.act_by-is_taken.result c.if-is_taken.result told
    (subst (λ (p : PlanexValue). MatchBool c.act_by-is_taken.result
    (IsKernelStepTaken p.problem p.table kernel (g.W.World.atoms c.args.world.now) (g.W.World.atoms c.act_by-is_taken.new.world))
    (RowFails p.table kernel (g.W.World.atoms c.args.world.now) × (c.act_by-is_taken.new.world ≡ c.args.world.now))) c.self.view_is
    c.act_by-is_taken.ensures.taken)
