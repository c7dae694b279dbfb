use Rattle.px_ops.specs.KeepLaws.{place_within}
use Rattle.px_numbers.specs.NumberLaws.{one_at}
use Rattle.px_search.proofs.OfferLaws.{apply-pushes, push-entry}
use Rattle.px_search.proofs.merging.entry_of.Goals as goal

pub unreachable-requires : goal.unreachable-requires
unreachable-requires c = apply-pushes c.args.numbers.now c.args.step c.requires.0 c.in-Apply.is c.requires.1

pub entry-requires : goal.entry-requires
entry-requires c =
    place_within c.args.numbers.now.entries c.in-Push.number c.requires.0
    (push-entry c.args.numbers.now c.args.step c.in-Push.number c.requires.0 c.in-Push.is c.requires.1)

pub returns : goal.returns
returns c = λ entry is.
    let kept = c.args.numbers.now in
    one_at kept.entries c.in-Push.number c.entry.result.now entry c.entry.ensures
    (push-entry kept c.args.step c.in-Push.number entry c.in-Push.is is)
