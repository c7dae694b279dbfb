use Rattle.std.proofs.Common.{◌≡◌, ◌-◌, ℕ, List, length}
use Rattle.px_support.specs.Asking.{task_for}
use Rattle.px_search.specs.Looping.{GoesOn, IsExploring}
use Rattle.px_search.proofs.best_first.Explored.walk.Given as goal

abbrev pub invariant-loop-place : goal.invariant-loop-place
invariant-loop-place l = record {
  going : (picked : List ℕ) × (length picked ≡ l.picks) × GoesOn (task_for l.asked) l.self picked;
  explored : IsExploring (task_for l.asked) l.self;
}

abbrev pub decreases-loop-place : goal.decreases-loop-place
decreases-loop-place l = l.asked.nodes - l.picks
