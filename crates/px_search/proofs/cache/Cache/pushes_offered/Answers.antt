use Rattle.std.proofs.Common.{List, sym, subst}
use Rattle.px_numbers.specs.NumberLaws.{stack_at-grows}
use Rattle.px_support.specs.Asking.{task_for}
use Rattle.px_search.specs.Steps.{AreStepsOf}
use Rattle.px_search.specs.declared.step.Step.{Step}
use Rattle.px_search.proofs.OfferLaws.{successors-offered}
use Rattle.px_search.proofs.cache.Cache.pushes_offered.Goals as goal

pub struck-requires : goal.struck-requires
struck-requires c =
    let s = c.requires.stack in
    (s.0, stack_at-grows c.args.self.now.numbers c.offered.new.self.numbers c.args.stack s.0 c.in-Ok.ensures.cache.keeps s.1)

pub returns-clause-successors : goal.returns-clause-successors
returns-clause-successors c = λ entries stands opens.
    let old = c.args.self.now.numbers in
    let new = c.offered.new.self.numbers in
    successors-offered (task_for c.args.asked.now) new c.args.current.now.model.atoms c.args.gaps.now entries c.in-Ok.successors.steps.items
    c.in_ok-steps.steps.items c.in-Ok.successors.is_all c.relevance_over_stacks.ensures opens c.in-Ok.ensures.steps
    (λ moves are. c.in_ok-steps.ensures entries moves (stack_at-grows old new c.args.stack entries c.in-Ok.ensures.cache.keeps stands)
    (subst (λ (s : List Step). AreStepsOf new s moves) (sym c.as_slice.ensures.value) are))
