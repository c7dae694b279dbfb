use Rattle.std.proofs.Common.{Some, arith, slice_get, subst, ◌-◌, ◌≡◌, ◌<◌, ℕ}
use Rattle.std.proofs.lemmas.Bool.{ltb-true}
use borrow.Author.Tests.{ltb-false}
use Rattle.px_prover.proofs.LastPlaces.{by-test, only-open}
use Rattle.px_prover.proofs.Moves.{open-none}
use Rattle.px_prover.proofs.OtherPlaces.{other-open}
use Rattle.px_prover.proofs.walking.are_two_open.Goals as goal

pub returns-then-place-eq0 : goal.returns-then-place-eq0
returns-then-place-eq0 c =
    let none : c.args.state.now.first ≡ 0 = omega (arith, c.if-place-eq0.true, c.first-place.ensures) in
    omega (arith, open-none c.args.state.now.goals c.args.state.now.first none)

pub returns : goal.returns
returns c =
    let some : 0 < c.args.state.now.first = omega (arith, c.if-place-eq0.false, c.first-place.ensures) in
    let at : slice_get c.args.state.now.goals (c.args.state.now.first - 1) ≡ Some c.goal_at-goal.result =
    subst (λ (n : ℕ). slice_get c.args.state.now.goals (n - 1) ≡ Some c.goal_at-goal.result) c.first-place.ensures c.goal_at-goal.ensures in
    by-test _ (λ next. other-open c.args.state.now.goals c.args.state.now.first c.goal_at-goal.result c.requires.arena some
    c.requires.within at (ltb-true 0 c.goal_at-goal.result.next next))
    (λ no_next. only-open c.args.state.now.goals c.args.state.now.first c.goal_at-goal.result c.requires.arena some at
    (omega (arith, ltb-false 0 c.goal_at-goal.result.next no_next)))
