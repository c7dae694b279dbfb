use Rattle.px_base.specs.Bounds.{u32_max}
use Rattle.px_reader.proofs.Common.{◌<◌, ◌∙◌, ap, length, declared_of, option_map, IsBuilding}
use Rattle.px_reader.proofs.Finishing.{lifted}
use Rattle.px_reader.proofs.lines.finish.Goals as goal

pub first_facts-requires-clause-building : goal.first_facts-requires-clause-building
first_facts-requires-clause-building c = lifted IsBuilding c.building-building.result (declared_of c.args.so_far.now).things
    (c.building-building.ensures ∙ ap (option_map (λ things. things.items)) c.take.ensures.value) c.requires.problem.building

pub first_facts-requires-clause-short : goal.first_facts-requires-clause-short
first_facts-requires-clause-short c =
    lifted (λ things. length things < u32_max) c.building-building.result (declared_of c.args.so_far.now).things
    (c.building-building.ensures ∙ ap (option_map (λ things. things.items)) c.take.ensures.value) c.requires.problem.short
