use Rattle.px_support.specs.Asking.{task_for}
use Rattle.px_search.specs.Estimating.{IsCountAt}
use Rattle.px_search.proofs.CacheLaws.{place_eq, place_eq-decides}
use Rattle.px_search.proofs.Pairs.{each-found, each-more}
use Rattle.px_search.proofs.estimates.Estimates.entry.Goals as goal

pub returns-in-Some-clause-count : goal.returns-in-Some-clause-count
returns-in-Some-clause-count c =
    each-found place_eq place_eq-decides (IsCountAt (task_for c.args.asked.now) c.args.numbers.now) c.args.self.now.entries.entries
    c.args.place c.in-Some.count.now c.requires.counted.entries c.in-Some.ensures.value

pub returns-in_ok-insert-in-None-clause-counted : goal.returns-in_ok-insert-in-None-clause-counted
returns-in_ok-insert-in-None-clause-counted c = record {
  entries =
      each-more place_eq place_eq-decides (IsCountAt (task_for c.args.asked.now) c.args.numbers.now) c.args.self.now.entries.entries
      c.insert.new.self.entries c.args.place c.in_ok-count-in-None.count c.requires.counted.entries c.in_ok-count-in-None.ensures
      c.in_ok-insert-in-None.ensures.entries;
  goals = c.requires.counted.goals;
}
