use Rattle.px_numbers.specs.NumberLaws.{model_at-grows}
use Rattle.px_search.proofs.cache.Cache.current_of.Goals as goal

pub returns-clause-current : goal.returns-clause-current
returns-clause-current c = record {
  model_at =
      model_at-grows c.args.self.now.numbers c.part_of.new.self.numbers c.args.number c.in_ok-model.model.atoms
      c.in_ok-part.ensures.cache.keeps c.in_ok-model.ensures;
  part_at = c.in_ok-part.ensures.part;
}
