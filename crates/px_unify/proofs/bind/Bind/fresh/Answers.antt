use Rattle.std.proofs.Common.{◌≡◌, arith, length, ap, sym, ◌∙◌}
use Rattle.std.specs.Prelude.{vec_capacity}
use Rattle.px_unify.specs.Changes.{IsConsistent, variables_of}
use Rattle.px_unify.proofs.Consistency.{two_each, consistent-fresh}
use Rattle.px_unify.proofs.Solutions.{has-solutions}
use Rattle.px_unify.proofs.bind.Bind.fresh.Goals as goal
use Rattle.px_unify.proofs.bind.Bind.fresh.Goals.{In-Ok}

pub add_variables-requires-clause-two_each : goal.add_variables-requires-clause-two_each
add_variables-requires-clause-two_each c =
    omega (
      arith,
      two_each c.self.inside.changes.items c.self.inside.slots.items _ c.self.invariant,
      c.self.inside.changes.ok.0,
      c.self.inside.slots.ok.0,
    )

pub returns-in-Err-clause-solvable : goal.returns-in-Err-clause-solvable
returns-in-Err-clause-solvable c = rw c.in-Err.ensures.changes_stay (has-solutions c.self.inside.changes.items c.self.invariant.bound)

count : (c : In-Ok) → length c.self.inside.slots.items ≡ c.variables-first.result
count c = ap length c.self.invariant.slots_are ∙ ap variables_of c.self.view_is ∙ sym c.variables-first.ensures.count

consistent : (c : In-Ok) → IsConsistent c.add_variables.new.changes.items c.add_variables.new.slots.items
    (vec_capacity c.add_variables.new.changes)
consistent c =
    consistent-fresh c.self.inside.changes.items c.self.inside.slots.items _ _ c.args.count c.add_variables.new.changes.items
    c.add_variables.new.slots.items c.self.invariant c.in-Ok.ensures.changes c.in-Ok.ensures.slots
    (omega (arith, c.in-Ok.ensures.room, c.self.inside.slots.ok.0))
    (omega (arith, c.if-count-first.false, count c, c.variables-first.ensures.most, c.variables-first.ensures.count))

pub invariant_of-self-2 : goal.invariant_of-self-2
invariant_of-self-2 c = consistent c

pub returns-clause-solvable : goal.returns-clause-solvable
returns-clause-solvable c = has-solutions c.add_variables.new.changes.items (consistent c).bound
