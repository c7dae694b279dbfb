use Rattle.px_support.specs.Asking.{task_for}
use Rattle.px_search.proofs.CacheLaws.{grown-numbers}
use Rattle.px_search.proofs.cache.Cache.offered_anew.Goals as goal

pub returns-clause-cache : goal.returns-clause-cache
returns-clause-cache c =
    grown-numbers (task_for c.args.asked.now) c.args.self.now c.numbered.new.numbers c.in_ok-steps.ensures.keeps c.requires.cache
