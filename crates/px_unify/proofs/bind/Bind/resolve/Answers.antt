use Rattle.std.proofs.Common.{◌≡◌, ◌<◌, Some, slice_get, length, ◌∙◌}
use Rattle.px_terms.specs.Language.{IsPlainBelow}
use Rattle.px_unify.specs.Changes.{slots_of}
use Rattle.px_unify.proofs.Slots.{slot_read, rank-earlier, triangular-of, earlier-below, fits_slots}
use Rattle.px_unify.proofs.Solutions.{has-solutions}
use Rattle.px_unify.proofs.bind.Bind.resolve.Goals as goal
use Rattle.px_unify.proofs.bind.Bind.resolve.Goals.{In-Some}

within : (c : In-Some) → c.in-Var.v < length c.self.inside.slots.items
within c = rw c.in-Var.is at c.loop-at.invariant.below

at_slot : (c : In-Some) → slice_get c.self.inside.slots.items c.in-Var.v ≡ Some (Some c.in-Some.next)
at_slot c = slot_read c.self.inside.slots.items c.in-Var.v c.index.result.now c.in-Some.next (within c) c.index.ensures c.in-Some.is

at_place : (c : In-Some) → slice_get (slots_of c.self.inside.changes.items) c.in-Var.v ≡ Some (Some c.in-Some.next)
at_place c = rw c.self.invariant.slots_are at (at_slot c)

earlier : (c : In-Some) → IsPlainBelow c.in-Var.v c.in-Some.next
earlier c = triangular-of c.self.inside.changes.items c.self.invariant.bound c.in-Var.v c.in-Some.next (at_place c)

pub loop-at-smaller : goal.loop-at-smaller
loop-at-smaller c = rw c.in-Var.is (rank-earlier c.in-Var.v c.in-Some.next (earlier c))

pub loop-at-preserved : goal.loop-at-preserved
loop-at-preserved c = record {
  below = earlier-below (length c.self.inside.slots.items) c.in-Var.v c.in-Some.next (earlier c) (within c);
  same =
      λ sigma fits. c.loop-at.invariant.same sigma fits
      ∙ rw c.in-Var.is (fits_slots sigma c.self.inside.changes.items fits c.in-Var.v c.in-Some.next (at_place c));
}

pub returns-in-None-clause-solvable : goal.returns-in-None-clause-solvable
returns-in-None-clause-solvable c = rw (← c.self.view_is) (has-solutions c.self.inside.changes.items c.self.invariant.bound)

pub returns-clause-solvable : goal.returns-clause-solvable
returns-clause-solvable c = rw (← c.self.view_is) (has-solutions c.self.inside.changes.items c.self.invariant.bound)
