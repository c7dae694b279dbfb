use Rattle.std.proofs.Common.{[], refl, subst}
use Rattle.px_diff.specs.Outcomes.{AtStop}
use Rattle.px_diff.specs.declared.move_err.MoveErr.{MoveErr}
use Rattle.px_support.specs.Asking.{task_for}
use Rattle.px_search.specs.Cache.{HaveGrown}
use Rattle.px_search.proofs.CacheLaws.{any_answer, grown-both, grown-numbers}
use Rattle.px_search.proofs.cache.Cache.pushes_to_goal.Goals as goal

pub pushes_offered-requires-clause-stack : goal.pushes_offered-requires-clause-stack
pushes_offered-requires-clause-stack c = ([], refl)

pub returns-in-Ok-clause-steps : goal.returns-in-Ok-clause-steps
returns-in-Ok-clause-steps c = c.in-Ok.ensures.successors [] refl c.requires.gaps

pub returns-in-Err-ShapeLimit-clause-cache : goal.returns-in-Err-ShapeLimit-clause-cache
returns-in-Err-ShapeLimit-clause-cache c =
    let task = task_for c.args.asked.now in
    let old = c.args.self.now in
    let mid = c.pushes_offered.new.self in
    let kept = c.all_pushes.new.numbers in
    let before : HaveGrown task old mid =
    subst (λ (e : MoveErr). AtStop e (λ limit. HaveGrown task old mid)) c.in-Err-ShapeLimit.field-0-is
    c.in-Err-ShapeLimit.ensures.cache in
    any_answer c.all_pushes.result (grown-both task old mid (record mid { numbers = kept }) before
    (grown-numbers task mid kept c.all_pushes.ensures.keeps before.right))
