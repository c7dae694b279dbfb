use Rattle.px_support.proofs.GraftSteps.{if_part, part-first, part-within}
use Rattle.px_support.proofs.grafts.part_for.Goals as goal

pub bounds-firsts-place : goal.bounds-firsts-place
bounds-firsts-place c =
    part-within c.args.graft.now c.args.firsts.now c.place_of-place.result c.args.atom.now c.requires.firsts c.place_of-place.ensures

pub sourced-requires-clause-leaves : goal.sourced-requires-clause-leaves
sourced-requires-clause-leaves c =
    part-first c.args.graft.now c.args.firsts.now c.place_of-place.result c.index-firsts-place.result c.requires.firsts
    (part-within c.args.graft.now c.args.firsts.now c.place_of-place.result c.args.atom.now c.requires.firsts c.place_of-place.ensures)
    c.index-firsts-place.is

pub returns : goal.returns
returns c =
    if_part c.args.graft.now c.args.firsts.now c.place_of-place.result c.args.atom.now c.index-firsts-place.result c.sourced.result
    (part-within c.args.graft.now c.args.firsts.now c.place_of-place.result c.args.atom.now c.requires.firsts c.place_of-place.ensures)
    c.index-firsts-place.is c.place_of-place.ensures c.sourced.ensures
