use Rattle.std.proofs.Common.{arith}
use Rattle.px_unify.specs.Changes.{IsUnbound}
use Rattle.px_unify.proofs.Consistency.{room_left, unbound-within, consistent-bind}
use Rattle.px_unify.proofs.Solutions.{has-solutions}
use Rattle.px_unify.proofs.bind.Bind.bind_variable.Goals as goal
use Rattle.px_unify.proofs.bind.Bind.bind_variable.Goals.{After-push}

unbound : (c : After-push) → IsUnbound c.self.inside.changes.items c.args.variable
unbound c = rw (← c.self.view_is) at c.requires.unbound

pub unreachable-requires : goal.unreachable-requires
unreachable-requires c =
    let p = (goal.at.unreachable-requires c).After-push in
    omega (
      arith,
      c.in-Err.ensures.full,
      room_left c.self.inside.changes.items c.self.inside.slots.items _ c.args.variable c.self.invariant (unbound p),
      c.self.inside.changes.ok.0,
    )

pub index_mut-requires : goal.index_mut-requires
index_mut-requires c =
    let p = (goal.at.index_mut-requires c).After-push in
    omega (
      arith,
      unbound-within c.self.inside.changes.items c.self.inside.slots.items _ c.args.variable c.self.invariant (unbound p),
      c.self.inside.slots.ok.0,
    )

pub invariant_of-self : goal.invariant_of-self
invariant_of-self c =
    let p = (goal.at.invariant_of-self c).After-push in
    rw c.in-Ok.ensures.items (consistent-bind c.self.inside.changes.items c.self.inside.slots.items _ _ c.args.variable c.args.term
    c.self.invariant c.in-Ok.ensures.capacity (unbound p) c.requires.earlier)

pub returns-clause-solvable : goal.returns-clause-solvable
returns-clause-solvable c =
    let p = (goal.at.returns-clause-solvable c).After-push in
    rw c.in-Ok.ensures.items
    (has-solutions _ (consistent-bind c.self.inside.changes.items c.self.inside.slots.items _ _ c.args.variable c.args.term c.self.invariant
    c.in-Ok.ensures.capacity (unbound p) c.requires.earlier).bound)
