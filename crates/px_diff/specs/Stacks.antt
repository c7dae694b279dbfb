-- What is relevant and may be pushed over the empty stack decides it for each stack.
use Rattle.std.specs.Prelude.{◌↔◌, List, [], Contains}
use Rattle.px_terms.specs.declared.atom.Atom.{Atom}
use Rattle.px_terms.specs.declared.problem.Problem.{Problem}
use Rattle.px_table.specs.declared.entry.Entry.{Entry}
use Rattle.px_table.specs.declared.table.Table.{Table}
use Rattle.px_entries.specs.Entries.{obligations_of}
use Rattle.px_gaps.specs.Known.{LimitsNeeds}
use Rattle.px_diff.specs.Pushes.{IsRelevant, IsPushable, LimitsRelevant}
use Rattle.px_gaps.specs.Questions.{AreBelow, AreUnlimited}
use Rattle.px_gaps.specs.declared.question.MetLimit.{MetLimit}

-- no question about an entry that is relevant over the stack meets the limit
abbrev pub AreUnlimitedOver : Problem → List Table → List Atom → List Atom → List Entry → Type 0
AreUnlimitedOver problem tables wanted model stack = (entry : Entry) → IsRelevant problem tables wanted stack entry
    → AreUnlimited problem (obligations_of problem tables model entry)

-- each such question stays below it
abbrev pub AreBelowOver : Problem → List Table → List Atom → List Atom → List Entry → Type 0
AreBelowOver problem tables wanted model stack = (entry : Entry) → IsRelevant problem tables wanted stack entry
    → AreBelow problem (obligations_of problem tables model entry)

-- What is relevant over a stack, and what may be pushed over it, is what is so over the empty stack and isn't on it. So a list of what
-- may be pushed over the empty stack, without the stack's entries, is that of what may be pushed over the stack. Where no question
-- meets the limit over the empty stack, none does over any stack. A question about an entry that is relevant over a stack meets the limit
-- exactly where one does about an entry that is relevant over the empty stack and isn't on it.
pub record RelevanceOverStacks : Type 0 where
  pub relevant : (problem : Problem) (tables : List Table) (wanted : List Atom) (stack : List Entry) (entry : Entry)
      → IsRelevant problem tables wanted stack entry ↔ (IsRelevant problem tables wanted [] entry × ¬ Contains stack entry)
  pub pushable : (problem : Problem) (tables : List Table) (wanted model : List Atom) (stack : List Entry) (entry : Entry)
      → IsPushable problem tables wanted stack model entry ↔ (IsPushable problem tables wanted [] model entry × ¬ Contains stack entry)
  pub listed : (problem : Problem) (tables : List Table) (wanted model : List Atom) (entries : List Entry)
      → ((entry : Entry) → Contains entries entry ↔ IsPushable problem tables wanted [] model entry)
      → (stack : List Entry) (entry : Entry) → (Contains entries entry × ¬ Contains stack entry)
      ↔ IsPushable problem tables wanted stack model entry
  pub unlimited : (problem : Problem) (tables : List Table) (wanted model : List Atom) (stack : List Entry)
      → AreUnlimitedOver problem tables wanted model [] → AreUnlimitedOver problem tables wanted model stack
  pub below : (problem : Problem) (tables : List Table) (wanted model : List Atom) (stack : List Entry)
      → AreBelowOver problem tables wanted model [] → AreBelowOver problem tables wanted model stack
  pub limited : (problem : Problem) (tables : List Table) (wanted model : List Atom) (stack : List Entry) (limit : MetLimit)
      → LimitsRelevant problem tables wanted stack model limit
      ↔ ((entry : Entry) × IsRelevant problem tables wanted [] entry × (¬ Contains stack entry)
      × LimitsNeeds problem (obligations_of problem tables model entry) limit)
