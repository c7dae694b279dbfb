use Rattle.std.proofs.Common.{◌≤◌, ℕ, Bool, List, length}
use Rattle.px_support.specs.Asking.{task_for}
use Rattle.px_search.specs.Looping.{IsExploring, TriesAt}
use Rattle.px_search.proofs.best_first.Explored.make_all.Given as goal

abbrev pub invariant-loop-turn : goal.invariant-loop-turn
invariant-loop-turn l = record {
  within : l.turn ≤ length l.steps.items;
  explored : IsExploring (task_for l.asked) l.self;
  trying : (picked : List ℕ) (is_all : Bool)
      → TriesAt (task_for l.asked) l.initial.self picked l.next l.steps.items is_all l.from
      → TriesAt (task_for l.asked) l.self picked l.next l.steps.items is_all l.turn;
}
