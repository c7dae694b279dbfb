use Rattle.px_support.specs.Asking.{task_for}
use Rattle.px_search.specs.Cache.{IsAlteredAt}
use Rattle.px_search.proofs.AlterationLaws.{altered-result, result-altered}
use Rattle.px_search.proofs.CacheLaws.{alteration_eq, alteration_eq-decides, right-grows}
use Rattle.px_search.proofs.Pairs.{each-found, each-more}
use Rattle.px_search.proofs.cache.Cache.result_altered.Goals as goal

pub returns-in-Some-clause-number : goal.returns-in-Some-clause-number
returns-in-Some-clause-number c =
    let cache = c.args.self.now in
    altered-result (task_for c.args.asked.now) cache.numbers c.args.place c.args.alteration c.in-Some.number.now c.requires.place
    c.requires.alteration
    (each-found alteration_eq alteration_eq-decides (IsAlteredAt cache.numbers) cache.altered.entries c.args.alteration
    c.in-Some.number.now c.requires.cache.altered c.in-Some.ensures.value)

pub returns-in_ok-insert-in-None-clause-cache : goal.returns-in_ok-insert-in-None-clause-cache
returns-in_ok-insert-in-None-clause-cache c =
    let task = task_for c.args.asked.now in
    let old = c.args.self.now in
    let kept = c.result_anew.new.numbers in
    let number = c.in_ok-number-in-None.number in
    let keeps = c.in_ok-number-in-None.ensures.keeps in
    let right = right-grows task old kept keeps c.requires.cache in
    record {
      keeps = keeps;
      right = record {
        tops = right.tops;
        wants = right.wants;
        results = right.results;
        altered =
            each-more alteration_eq alteration_eq-decides (IsAlteredAt kept) old.altered.entries c.insert.new.self.entries
            c.args.alteration number right.altered
            (result-altered task old.numbers kept c.args.place c.args.alteration number keeps c.requires.place c.requires.alteration
            c.in_ok-number-in-None.ensures.number)
            c.in_ok-insert-in-None.ensures.entries;
        never_limited = right.never_limited;
      };
    }
