use Rattle.std.proofs.Common.{ℕ, Bool}
use Rattle.std.specs.Prelude.{◌==◌}
use Rattle.std.proofs.lemmas.Bool.Decides.{Decides-eqb}
use Rattle.px_support.specs.Asking.{task_for}
use Rattle.px_search.specs.Estimating.{IsGoalCountAt}
use Rattle.px_search.proofs.Pairs.{each-found, each-more}
use Rattle.px_search.proofs.estimates.Estimates.goal.Goals as goal

abbrev number_eq : ℕ → ℕ → Bool
number_eq a b = a == b

pub returns-in-Some-clause-count : goal.returns-in-Some-clause-count
returns-in-Some-clause-count c =
    each-found number_eq Decides-eqb (IsGoalCountAt (task_for c.args.asked.now) c.args.numbers.now) c.args.self.now.goals.entries
    c.args.model c.in-Some.count.now c.requires.counted.goals c.in-Some.ensures.value

pub returns-in_ok-insert-in-None-clause-counted : goal.returns-in_ok-insert-in-None-clause-counted
returns-in_ok-insert-in-None-clause-counted c = record {
  entries = c.requires.counted.entries;
  goals =
      each-more number_eq Decides-eqb (IsGoalCountAt (task_for c.args.asked.now) c.args.numbers.now) c.args.self.now.goals.entries
      c.insert.new.self.entries c.args.model c.in_ok-count-in-None.count c.requires.counted.goals c.in_ok-count-in-None.ensures
      c.in_ok-insert-in-None.ensures.entries;
}
