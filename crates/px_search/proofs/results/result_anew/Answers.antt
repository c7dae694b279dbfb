use Rattle.std.proofs.Common.{subst}
use Rattle.px_entries.specs.Entries.{IsEntry}
use Rattle.px_numbers.specs.Numbers.{IsModelAt}
use Rattle.px_numbers.specs.NumberLaws.{model_at-grows, one_at}
use Rattle.px_ops.specs.KeepLaws.{place_within}
use Rattle.px_search.proofs.results.result_anew.Goals as goal

pub model_for-requires-clause-model : goal.model_for-requires-clause-model
model_for-requires-clause-model c = (c.requires.place.0, c.requires.place.2)

pub entry-requires : goal.entry-requires
entry-requires c = place_within c.args.numbers.now.entries c.args.place.entry c.requires.place.1 c.requires.place.3

pub apply_entry-requires-clause-entry : goal.apply_entry-requires-clause-entry
apply_entry-requires-clause-entry c =
    subst (IsEntry c.args.asked.now.problem.now c.args.asked.now.tables.now)
    (one_at c.args.numbers.now.entries c.args.place.entry c.requires.place.1 c.entry.result.now c.requires.place.3 c.entry.ensures)
    c.requires.place.4

pub returns-clause-number : goal.returns-clause-number
returns-clause-number c =
    let keeps = c.in_ok-number.ensures.keeps in (
      c.in_ok-model.model.atoms,
      c.entry.result.now,
      model_at-grows c.args.numbers.now c.model_number.new.self c.args.place.model c.in_ok-model.model.atoms keeps c.in_ok-model.ensures,
      keeps.entries c.args.place.entry c.entry.result.now c.entry.ensures,
      subst (IsModelAt c.model_number.new.self c.in_ok-number.number) c.in_ok-apply_entry.ensures c.in_ok-number.ensures.model,
    )
