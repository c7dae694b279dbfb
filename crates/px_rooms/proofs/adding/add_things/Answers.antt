use Rattle.std.specs.Prelude.{◌++◌, length}
use Rattle.std.proofs.Common.{◌≤◌, ◌+◌, take, sym, ap, ◌∙◌, subst, arith}
use Rattle.std.proofs.lemmas.List.{append-nil, take_all}
use Rattle.px_terms.specs.AtomSets.{atom_set}
use Rattle.px_rooms.specs.Added.{of_pred}
use Rattle.px_rooms.specs.States.{atoms_from}
use Rattle.px_rooms.proofs.Sensing.{from-next, from-within, more-atoms, more-room, more-spare}
use Rattle.px_rooms.proofs.adding.add_things.Goals as goal

pub loop-place-init : goal.loop-place-init
loop-place-init c = record { atoms = λ before is. is ∙ ap atom_set (sym (append-nil before)); spare = omega arith }

pub add_thing-requires : goal.add_thing-requires
add_thing-requires c = record {
  room =
      more-room (of_pred c.args.pred (atoms_from 1 (take c.loop-place.place c.args.things.now))) _ _
      (of_pred c.args.pred (atoms_from 1 c.args.things.now)) c.args.into.now.spare c.loop-place.into.spare
      (from-next c.args.pred c.args.things.now c.loop-place.place _ c.loop-place-test.true)
      (from-within c.args.pred 1 c.args.things.now (c.loop-place.place + 1)) c.requires.room c.loop-place.invariant.spare;
}

pub loop-place-preserved : goal.loop-place-preserved
loop-place-preserved c =
    let done = of_pred c.args.pred (atoms_from 1 (take c.loop-place.place c.args.things.now)) in
    let next = from-next c.args.pred c.args.things.now c.loop-place.place _ c.loop-place-test.true in
    record {
      atoms =
          λ before is. more-atoms before done _ _ c.add_thing.new.into.atoms next
          (c.add_thing.ensures.atoms (before ++ done) (c.loop-place.invariant.atoms before is));
      spare =
          more-spare done _ _ c.args.into.now.spare c.loop-place.into.spare c.add_thing.new.into.spare next c.loop-place.invariant.spare
          c.add_thing.ensures.spare;
    }

pub returns-clause-atoms : goal.returns-clause-atoms
returns-clause-atoms c = λ before is.
    c.loop-place.invariant.atoms before is
    ∙ ap (λ xs. atom_set (before ++ of_pred c.args.pred (atoms_from 1 xs)))
    (take_all c.loop-place.place c.args.things.now (omega (arith, c.loop-place-test.false)))

pub returns-clause-spare : goal.returns-clause-spare
returns-clause-spare c =
    subst (λ xs. c.args.into.now.spare ≤ c.loop-place.into.spare + length (of_pred c.args.pred (atoms_from 1 xs)))
    (take_all c.loop-place.place c.args.things.now (omega (arith, c.loop-place-test.false)))
    c.loop-place.invariant.spare
