use Rattle.std.proofs.Common.{List, [], ◌∷◌, ◌+◌, get_or, length, sym, ap, subst, arith}
use Rattle.std.proofs.lemmas.List.{get_or_default, length-append}
use Rattle.px_printer.specs.declared.duo_line.DuoLine.{DuoLine}
use Rattle.px_session.proofs.DuosUnderway.{AreUnderway, duos-first, duos-here, duos-last, duos-next}
use Rattle.px_session.proofs.duo_lines.take_lines.Goals as goal

pub loop-place-init : goal.loop-place-init
loop-place-init c = (
  subst (λ (ls : List DuoLine). AreUnderway c.args.duo.now c.args.numbers.now c.args.world.now 0 ls c.args.duo.now c.args.world.now)
      (sym c.requires.none) (duos-first c.args.duo.now c.args.numbers.now c.args.world.now c.requires.places),
  ap (λ (ls : List DuoLine). length ls) c.requires.none,
  c.requires.room,
)

pub take_line-who-requires : goal.take_line-who-requires
take_line-who-requires c = record {
  places = duos-here c.args.duo.now c.args.numbers.now c.args.world.now c.loop-place.place c.loop-place.taken.items c.loop-place.duo
      c.loop-place.world c.loop-place-test.true c.loop-place.invariant.0;
}

pub loop-place-preserved : goal.loop-place-preserved
loop-place-preserved c =
    let numbers = c.args.numbers.now in
    let place = c.loop-place.place in
    let number = get_or numbers place 0 in
    let old = c.loop-place in
    let new = c.take_line-who.new in
    let line = c.take_line-who.result in
    let longer = ap (λ (ls : List DuoLine). length ls) c.push_within.ensures.put in
    let one_more = length-append old.taken.items (line ∷ []) in (
      subst (λ (ls : List DuoLine). AreUnderway c.args.duo.now numbers c.args.world.now (place + 1) ls new.duo new.world)
          (sym c.push_within.ensures.put)
          (duos-next c.args.duo.now numbers c.args.world.now place old.taken.items old.duo new.duo old.world new.world number line
          c.loop-place-test.true (get_or_default numbers place 0 number c.loop-place-test.true) old.invariant.0
          c.take_line-who.ensures.line c.take_line-who.ensures.frame c.take_line-who.ensures.taken),
      omega (arith, longer, one_more, old.invariant.1),
      omega (arith, old.invariant.2, c.push_within.ensures.capacity),
    )

pub returns-clause-lines : goal.returns-clause-lines
returns-clause-lines c =
    duos-last c.args.duo.now c.args.numbers.now c.args.world.now c.loop-place.place c.loop-place.taken.items c.loop-place.duo
    c.loop-place.world (omega (arith, c.loop-place-test.false)) c.loop-place.invariant.0

pub returns-clause-room : goal.returns-clause-room
returns-clause-room c = let room = c.loop-place.invariant.0.places.room in omega (arith, room)

pub returns-clause-rules : goal.returns-clause-rules
returns-clause-rules c = c.loop-place.invariant.0.places.rules

pub returns-clause-takes : goal.returns-clause-takes
returns-clause-takes c = c.loop-place.invariant.0.takes
