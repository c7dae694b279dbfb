use Rattle.std.proofs.Common.{sym, ap, subst, ◌+◌, arith}
use Rattle.std.specs.Prelude.{List, length}
use Rattle.px_ops.specs.ModelValue.{ModelValue}
use Rattle.px_match.proofs.Renewed.{IsComing, all_came, coming_put, coming_stays, counted, room_for_it, rooms_for_it, unmet}
use Rattle.px_match.proofs.keeping.put_new.Goals as goal
use Rattle.px_match.proofs.keeping.put_new.Goals.{then-not-meets, else-not-meets}

pub insert_spare-requires-clause-room : goal.insert_spare-requires-clause-room
insert_spare-requires-clause-room c =
    room_for_it c.args.new.now.atoms c.args.marks.now c.args.kept.now c.args.lists.now c.loop-atom.atom-index c.loop-atom.kept
    c.loop-atom.lists c.loop-atom.invariant c.atoms-atom-items.result.now c.atom-item.result c.atoms-atom-items.ensures.value
    c.loop-atom-test.true c.atom-item.is
    (unmet c.meets.result c.loop-atom.kept.atoms c.atom-item.result c.meets.ensures.1 c.if-not-meets.true) c.requires.room

pub put_into-requires-clause-room : goal.put_into-requires-clause-room
put_into-requires-clause-room c =
    rooms_for_it c.args.new.now.atoms c.args.marks.now c.args.kept.now c.args.lists.now c.loop-atom.atom-index c.loop-atom.kept
    c.loop-atom.lists c.loop-atom.invariant c.atoms-atom-items.result.now c.atom-item.result c.atoms-atom-items.ensures.value
    c.loop-atom-test.true c.atom-item.is
    (unmet c.meets.result c.loop-atom.kept.atoms c.atom-item.result c.meets.ensures.1 c.if-not-meets.true) c.requires.room

pub loop-atom-preserved : goal.loop-atom-preserved
loop-atom-preserved c =
    let After : ModelValue → List ModelValue → Type 0 =
    λ kept lists. IsComing c.args.new.now.atoms c.args.marks.now c.args.kept.now c.args.lists.now
    (c.loop-atom.atom-index + 1) kept lists in
    elim c.if-not-meets.branch [
      | then-not-meets w ↦
          let after =
          coming_put c.args.new.now.atoms c.args.marks.now c.args.kept.now c.args.lists.now c.loop-atom.atom-index c.loop-atom.kept
          c.loop-atom.lists c.loop-atom.invariant c.atoms-atom-items.result.now c.atom-item.result c.atoms-atom-items.ensures.value
          c.loop-atom-test.true c.atom-item.is
          w.insert_spare.new.self w.put_into.new.lists
          (unmet c.meets.result c.loop-atom.kept.atoms c.atom-item.result c.meets.ensures.1 w.if-not-meets.true)
          w.insert_spare.ensures.atoms w.insert_spare.ensures.model.ascending w.insert_spare.ensures.spare w.put_into.ensures in
          subst (λ kept. After kept c.if-not-meets.lists) (sym w.kept-is) (subst (After w.insert_spare.new.self) (sym w.lists-is) after)
      | else-not-meets w ↦
          let after =
          coming_stays c.args.new.now.atoms c.args.marks.now c.args.kept.now c.args.lists.now c.loop-atom.atom-index c.loop-atom.kept
          c.loop-atom.lists c.loop-atom.invariant c.atoms-atom-items.result.now c.atom-item.result c.atoms-atom-items.ensures.value
          c.loop-atom-test.true c.atom-item.is (c.meets.ensures.0 w.if-not-meets.false) in
          subst (λ kept. After kept c.if-not-meets.lists) (sym w.kept-is) (subst (After c.loop-atom.kept) (sym w.lists-is) after)
    ]

pub returns-clause-atoms : goal.returns-clause-atoms
returns-clause-atoms c =
    all_came c.args.new.now.atoms c.args.marks.now c.args.kept.now c.args.lists.now c.loop-atom.atom-index c.loop-atom.kept
    c.loop-atom.lists c.atoms-atom-items.result.now c.loop-atom.invariant
    c.atoms-atom-items.ensures.model.ascending c.atoms-atom-items.ensures.value c.loop-atom-test.false

pub returns-then-atoms-clause-atoms : goal.returns-then-atoms-clause-atoms
returns-then-atoms-clause-atoms c =
    counted c.args.new.now.atoms c.loop-atom.kept.atoms c.atoms-atom-items.ensures.model.ascending c.loop-atom.invariant.set
    c.loop-atom.invariant.within
    (omega (arith, c.if-atoms.true, ap length c.atoms.ensures.value, ap length c.atoms-in-loop-atom.ensures.value))
