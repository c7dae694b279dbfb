use Rattle.std.proofs.Common.{◌≡◌, ◌∙◌, ℕ, subst}
use Rattle.px_base.proofs.Loops.{ok_map}
use Rattle.px_entries.specs.Entries.{IsEntry}
use Rattle.px_numbers.specs.NumberLaws.{one_at}
use Rattle.px_ops.specs.KeepLaws.{place_within}
use Rattle.px_support.specs.Asking.{task_for}
use Rattle.px_search.specs.Estimating.{IsCountAt}
use Rattle.px_search.proofs.estimates.entry_anew.Goals as goal

pub model-requires : goal.model-requires
model-requires c = (c.requires.place.0, c.requires.place.2)

pub entry-entry-requires : goal.entry-entry-requires
entry-entry-requires c = place_within c.args.numbers.now.entries c.args.place.entry c.requires.place.1 c.requires.place.3

pub lacks-requires-clause-entry : goal.lacks-requires-clause-entry
lacks-requires-clause-entry c =
    subst (IsEntry c.args.asked.now.problem.now c.args.asked.now.tables.now)
    (one_at c.args.numbers.now.entries c.args.place.entry c.requires.place.1 c.entry-entry.result.now c.requires.place.3
    c.entry-entry.ensures)
    c.requires.place.4

pub returns : goal.returns
returns c =
    ok_map (λ (n : ℕ). n ≡ c.in_ok-count.count) (IsCountAt (task_for c.args.asked.now) c.args.numbers.now c.args.place)
    (λ n e. (
      c.in_ok-facts.facts.atoms,
      c.entry-entry.result.now,
      c.in_ok-facts.ensures,
      c.entry-entry.ensures,
      e ∙ c.in_ok-count.ensures,
    )) c.narrowed.result c.narrowed.ensures
