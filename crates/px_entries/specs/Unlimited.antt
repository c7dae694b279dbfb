-- Problems and tables with which no question about an entry ever meets the limit of shapes.
use Rattle.std.specs.Prelude.{List}
use Rattle.px_terms.specs.AtomSets.{IsAtomSet}
use Rattle.px_terms.specs.declared.atom.Atom.{Atom}
use Rattle.px_terms.specs.declared.problem.Problem.{Problem}
use Rattle.px_table.specs.declared.entry.Entry.{Entry}
use Rattle.px_table.specs.declared.table.Table.{Table}
use Rattle.px_entries.specs.Entries.{IsEntry, obligations_of}
use Rattle.px_gaps.specs.Questions.{AreUnlimited}

-- whatever the facts are, no question about an entry meets the limit
abbrev pub IsNeverLimited : Problem → List Table → Type 0
IsNeverLimited problem tables = (facts : List Atom) → IsAtomSet facts → (entry : Entry) → IsEntry problem tables entry
    → AreUnlimited problem (obligations_of problem tables facts entry)
