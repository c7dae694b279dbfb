use Rattle.std.proofs.Common.{true}
use Rattle.px_support.specs.Asking.{task_for}
use Rattle.px_search.proofs.OfferLaws.{whole-first}
use Rattle.px_search.proofs.offering.all_entries_for.Goals as goal

pub returns-in-Ok-clause-first : goal.returns-in-Ok-clause-first
returns-in-Ok-clause-first c =
    whole-first (task_for c.args.asked.now) c.args.model.now.atoms c.args.wanted.now c.in-Ok.entries.items true c.in-Ok.ensures.exact
    c.in-Ok.ensures.order
