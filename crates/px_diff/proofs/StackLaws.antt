-- What is relevant and may be pushed over stacks.
use Rattle.std.specs.Prelude.{◌↔◌, List, [], Contains}
use Rattle.px_base.specs.ListLaws.{Contains-none}
use Rattle.px_terms.specs.declared.atom.Atom.{Atom}
use Rattle.px_terms.specs.declared.problem.Problem.{Problem}
use Rattle.px_table.specs.declared.entry.Entry.{Entry}
use Rattle.px_table.specs.declared.table.Table.{Table}
use Rattle.px_diff.specs.Pushes.{IsRelevant, IsPushable}
use Rattle.px_diff.specs.Stacks.{RelevanceOverStacks}

module _ (problem : Problem) (tables : List Table) (wanted : List Atom) (stack : List Entry) (entry : Entry) where
  over-none : IsRelevant problem tables wanted stack entry → IsRelevant problem tables wanted [] entry
  over-none r = record { is_entry = r.is_entry; fresh = Contains-none entry; atom = r.atom; is_wanted = r.is_wanted; added = r.added }

  over-stack : (¬ Contains stack entry) → IsRelevant problem tables wanted [] entry → IsRelevant problem tables wanted stack entry
  over-stack fresh r = record { is_entry = r.is_entry; fresh = fresh; atom = r.atom; is_wanted = r.is_wanted; added = r.added }

  push-over : (model : List Atom) → IsPushable problem tables wanted stack model entry
      ↔ (IsPushable problem tables wanted [] model entry × ¬ Contains stack entry)
  push-over model = (
    λ p. (record { relevant = over-none p.relevant; open_entry = p.open_entry }, p.relevant.fresh),
    λ p. record { relevant = over-stack p.1 p.0.relevant; open_entry = p.0.open_entry },
  )

pub relevance-over_stacks : RelevanceOverStacks
relevance-over_stacks = record {
  relevant = λ problem tables wanted stack entry. (
    λ r. (over-none problem tables wanted stack entry r, r.fresh),
    λ r. over-stack problem tables wanted stack entry r.1 r.0,
  );
  pushable = λ problem tables wanted model stack entry. push-over problem tables wanted stack entry model;
  listed = λ problem tables wanted model entries are stack entry. (
    λ h. (push-over problem tables wanted stack entry model).1 ((are entry).0 h.0, h.1),
    λ p. let q = (push-over problem tables wanted stack entry model).0 p in ((are entry).1 q.0, q.1),
  );
  unlimited = λ problem tables wanted model stack free entry r. free entry (over-none problem tables wanted stack entry r);
  below = λ problem tables wanted model stack free entry r. free entry (over-none problem tables wanted stack entry r);
  limited = λ problem tables wanted model stack limit. (
    λ l. (
      l.entry,
      over-none problem tables wanted stack l.entry l.relevant,
      l.relevant.fresh,
      record { asked = l.asked; met = l.met },
    ),
    λ l. record {
      entry = l.0;
      relevant = over-stack problem tables wanted stack l.0 l.2 l.1;
      asked = l.3.asked;
      met = l.3.met;
    },
  );
}
