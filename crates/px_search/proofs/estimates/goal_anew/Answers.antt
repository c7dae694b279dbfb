use Rattle.std.proofs.Common.{◌≡◌, ◌∙◌, ℕ}
use Rattle.px_base.proofs.Loops.{ok_map}
use Rattle.px_support.specs.Asking.{task_for}
use Rattle.px_search.specs.Estimating.{IsGoalCountAt}
use Rattle.px_search.proofs.estimates.goal_anew.Goals as goal

pub returns : goal.returns
returns c =
    ok_map (λ (n : ℕ). n ≡ c.lacks_of-count.result) (IsGoalCountAt (task_for c.args.asked.now) c.args.numbers.now c.args.model)
    (λ n e. (c.in_ok-facts.facts.atoms, c.in_ok-facts.ensures, e ∙ c.lacks_of-count.ensures)) c.narrowed.result c.narrowed.ensures
