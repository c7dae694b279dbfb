use Rattle.px_support.specs.Asking.{task_for}
use Rattle.px_search.specs.Cache.{IsResultAt}
use Rattle.px_search.proofs.CacheLaws.{place_eq, place_eq-decides}
use Rattle.px_search.proofs.Pairs.{each-found, each-more}
use Rattle.px_search.proofs.cache.Cache.result_at.Goals as goal

pub returns-in-Some-clause-number : goal.returns-in-Some-clause-number
returns-in-Some-clause-number c =
    let cache = c.args.self.now in
    each-found place_eq place_eq-decides (IsResultAt (task_for c.args.asked.now) cache.numbers) cache.results.entries c.args.place
    c.in-Some.number.now c.requires.cache.results c.in-Some.ensures.value

pub returns-in_ok-insert-in-None-clause-cache : goal.returns-in_ok-insert-in-None-clause-cache
returns-in_ok-insert-in-None-clause-cache c =
    let task = task_for c.args.asked.now in
    let new = c.result_found.new.self in
    let grown = c.in_ok-number-in-None.ensures.cache in
    record {
      keeps = grown.keeps;
      right = record {
        tops = grown.right.tops;
        wants = grown.right.wants;
        results =
            each-more place_eq place_eq-decides (IsResultAt task new.numbers) new.results.entries c.insert.new.self.entries c.args.place
            c.in_ok-number-in-None.number grown.right.results c.in_ok-number-in-None.ensures.number
            c.in_ok-insert-in-None.ensures.entries;
        altered = grown.right.altered;
        never_limited = grown.right.never_limited;
      };
    }
