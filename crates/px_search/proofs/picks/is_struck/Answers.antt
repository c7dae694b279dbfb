use Rattle.px_search.proofs.StruckLaws.{apply_says, push_says}
use Rattle.px_search.proofs.picks.is_struck.Goals as goal

pub returns-in-Apply : goal.returns-in-Apply
returns-in-Apply c = λ entries m stands is. apply_says c.args.numbers.now entries c.args.step m c.in-Apply.is is

pub returns-in-Push : goal.returns-in-Push
returns-in-Push c =
    λ entries m stands is. push_says c.args.numbers.now entries c.args.step m c.in-Push.entry c.is_stacked.result c.in-Push.is is
    (λ one at. c.is_stacked.ensures entries one stands at)
