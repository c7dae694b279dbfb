use Rattle.px_search.specs.Cache.{IsAlteredAt, IsResultAt, IsStepsAt}
use Rattle.px_search.specs.Offers.{IsOfferAt}
use Rattle.px_search.proofs.Pairs.{each-none}
use Rattle.px_search.proofs.cache.Cache.new.Goals as goal

pub returns : goal.returns
returns c = λ task never. record {
  tops = each-none (IsStepsAt task c.new-numbers.result) c.new-tops.result.entries c.new-tops.ensures.empty;
  wants = each-none (IsOfferAt task c.new-numbers.result) c.new-wants.result.entries c.new-wants.ensures.empty;
  results = each-none (IsResultAt task c.new-numbers.result) c.new-results.result.entries c.new-results.ensures.empty;
  altered = each-none (IsAlteredAt c.new-numbers.result) c.new-altered.result.entries c.new-altered.ensures.empty;
  never_limited = never;
}
