use Rattle.px_unify.proofs.Consistency.{undo-fresh, undo-bound, undo-within}
use Rattle.px_unify.proofs.bind.Bind.undo_last.Goals as goal

pub invariant_of-self : goal.invariant_of-self
invariant_of-self c =
    rw (c.pop-in-Some-Fresh.ensures.rest, c.self.inside.slots.ok.0, c.pop.ensures.capacity)
    (undo-fresh c.self.inside.changes.items c.pop.new.self.items c.in-Some-Fresh.field-0 c.self.inside.slots.items _ c.self.invariant
    c.in-Some-Fresh.ensures.items c.in-Some-Fresh.field-0-is)

pub index_mut-requires : goal.index_mut-requires
index_mut-requires c =
    rw c.self.inside.slots.ok.0
    (undo-within c.self.inside.changes.items c.pop.new.self.items c.in-Some-Bound.field-0 c.self.inside.slots.items _ c.self.invariant
    c.in-Some-Bound.ensures.items _ _ c.in-Some-Bound.field-0-is)

pub invariant_of-self-in-Some-Bound : goal.invariant_of-self-in-Some-Bound
invariant_of-self-in-Some-Bound c =
    rw c.pop.ensures.capacity
    (undo-bound c.self.inside.changes.items c.pop.new.self.items c.in-Some-Bound.field-0 c.self.inside.slots.items _ c.self.invariant
    c.in-Some-Bound.ensures.items _ _ c.in-Some-Bound.field-0-is)
