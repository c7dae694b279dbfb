use Rattle.px_search.proofs.best_first.Explored.new.Goals as goal

pub returns : goal.returns
returns c =
    λ task weight_is never. record {
      cache = c.new-cache.ensures task never;
      current = c.new-current.ensures;
      nodes = c.new-nodes.ensures;
      origins = c.new-origins.ensures.items;
      picker = c.new-picker.ensures task weight_is;
    }
