use Rattle.px_support.specs.Asking.{task_for}
use Rattle.px_search.proofs.CacheLaws.{grown-numbers}
use Rattle.px_search.proofs.cache.Cache.result_found.Goals as goal

pub returns-in_ok-number-in-None-clause-cache : goal.returns-in_ok-number-in-None-clause-cache
returns-in_ok-number-in-None-clause-cache c =
    grown-numbers (task_for c.args.asked.now) c.args.self.now c.result_anew.new.numbers c.in_ok-number-in-None.ensures.keeps
    c.requires.cache
