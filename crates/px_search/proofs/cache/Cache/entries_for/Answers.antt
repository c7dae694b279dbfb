use Rattle.px_support.specs.Asking.{task_for}
use Rattle.px_search.proofs.OfferLaws.{some-first}
use Rattle.px_search.proofs.cache.Cache.entries_for.Goals as goal

pub relevant_first-requires-clause-never : goal.relevant_first-requires-clause-never
relevant_first-requires-clause-never c = c.requires.cache.never_limited c.if-self.true

pub returns-then-self-clause-first : goal.returns-then-self-clause-first
returns-then-self-clause-first c =
    let had = c.in_ok-first.ensures in
    some-first (task_for c.args.asked.now) c.args.model.now.atoms c.args.wanted.now c.in_ok-first.first.entries.items
    c.in_ok-first.first.is_all had.sound had.order had.all had.others

pub returns-then-self-clause-unlimited : goal.returns-then-self-clause-unlimited
returns-then-self-clause-unlimited c =
    λ entry relevant. c.requires.cache.never_limited c.if-self.true c.args.model.now.atoms c.requires.model entry relevant.is_entry
