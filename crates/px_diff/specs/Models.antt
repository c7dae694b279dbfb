-- What may be pushed in a world model may be pushed in each that has the same deciding facts.
use Rattle.std.specs.Prelude.{◌↔◌, List}
use Rattle.px_terms.specs.Validity.{IsValid}
use Rattle.px_terms.specs.declared.atom.Atom.{Atom}
use Rattle.px_terms.specs.declared.problem.Problem.{Problem}
use Rattle.px_table.specs.declared.entry.Entry.{Entry}
use Rattle.px_table.specs.declared.table.Table.{Table}
use Rattle.px_entries.specs.Deciding.{DecideAlike}
use Rattle.px_entries.specs.Entries.{IsEntry, obligations_of}
use Rattle.px_gaps.specs.Needs.{IsOpen}
use Rattle.px_entries.specs.Learned.{AreLearned}
use Rattle.px_diff.specs.Pushes.{IsPushable}

-- what is compared: both sets of facts have the same deciding ones
pub record AreComparable (problem : Problem) (tables : List Table) (facts others : List Atom) : Type 0 where
  pub valid : IsValid problem
  pub learned : AreLearned problem tables
  pub alike : DecideAlike problem facts others

-- Where two models have the same deciding facts, the same entries are open in both, and the same may be pushed.
pub record RelevanceOverModels : Type 0 where
  pub opens : (problem : Problem) (tables : List Table) (facts others : List Atom) (entry : Entry)
      → AreComparable problem tables facts others → IsEntry problem tables entry
      → IsOpen problem (obligations_of problem tables facts entry) ↔ IsOpen problem (obligations_of problem tables others entry)
  pub pushable : (problem : Problem) (tables : List Table) (wanted : List Atom) (stack : List Entry) (facts others : List Atom)
      (entry : Entry) → AreComparable problem tables facts others
      → IsPushable problem tables wanted stack facts entry ↔ IsPushable problem tables wanted stack others entry
