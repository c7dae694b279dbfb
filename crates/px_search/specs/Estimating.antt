-- What was counted of entries and of the goal in models, by number.
use Rattle.std.specs.Prelude.{◌≡◌, ℕ, List, Some, slice_get}
use Rattle.px_terms.specs.declared.atom.Atom.{Atom}
use Rattle.px_table.specs.declared.entry.Entry.{Entry}
use Rattle.px_numbers.specs.Numbers.{Kept, IsModelAt}
use Rattle.px_ends.specs.Lacks.{lacks, lacks_of}
use Rattle.px_ends.specs.Tasks.{Task, goal_from}
use Rattle.px_search.specs.Cache.{AreEach}
use Rattle.px_search.specs.declared.estimates.Estimates.{Estimates}
use Rattle.px_search.specs.declared.cache.EntryPlace.{EntryPlace}

-- this much the entry of the place lacks in the model of the place
abbrev pub IsCountAt : Task → Kept → EntryPlace → ℕ → Type 0
IsCountAt task kept place count =
    (model : List Atom) × (entry : Entry) × IsModelAt kept place.model model × (slice_get kept.entries place.entry ≡ Some entry)
    × (count ≡ lacks task model entry)

-- this much the goal lacks in the model of the number
abbrev pub IsGoalCountAt : Task → Kept → ℕ → ℕ → Type 0
IsGoalCountAt task kept number count =
    (model : List Atom) × IsModelAt kept number model × (count ≡ lacks_of (goal_from task model))

-- all that was counted is right
pub record AreCounted (task : Task) (kept : Kept) (estimates : Estimates) : Type 0 where
  pub entries : AreEach (IsCountAt task kept) estimates.entries.entries
  pub goals : AreEach (IsGoalCountAt task kept) estimates.goals.entries
