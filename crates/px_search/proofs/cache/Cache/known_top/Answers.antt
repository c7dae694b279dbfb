use Rattle.px_search.proofs.cache.Cache.known_top.Goals as goal

pub known_below-requires-clause-never : goal.known_below-requires-clause-never
known_below-requires-clause-never c = c.requires.cache.never_limited c.if-self.true
