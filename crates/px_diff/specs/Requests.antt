-- What is relevant and may be pushed for a request.
use Rattle.std.specs.Prelude.{List}
use Rattle.px_terms.specs.declared.instance.OpInst.{OpInst}
use Rattle.px_table.specs.declared.entry.Entry.{Entry}
use Rattle.px_table.specs.declared.entry.Entry.TheVariants.{Op}
use Rattle.px_entries.specs.Entries.{obligations_of}
use Rattle.px_diff.specs.Gathering.{Gathers}
use Rattle.px_diff.specs.Pushes.{IsPushable, IsRelevant, LimitsRelevant}
use Rattle.px_gaps.specs.Questions.{AreBelow, AreUnlimited}
use Rattle.px_gaps.specs.declared.question.MetLimit.{MetLimit}
use Rattle.px_diff.specs.declared.request.Request.{Request}

-- the instance is relevant for it
abbrev pub IsRelevantFor : Request → OpInst → Type 0
IsRelevantFor request inst = IsRelevant request.problem.now request.tables.now request.wanted.now request.stack.now (Op inst)

-- the entry may be pushed for it
abbrev pub IsPushableFor : Request → Entry → Type 0
IsPushableFor request = IsPushable request.problem.now request.tables.now request.wanted.now request.stack.now request.model.now.atoms

-- no question about an entry that is relevant for it meets the limit
abbrev pub AreUnlimitedFor : Request → Type 0
AreUnlimitedFor request =
    (entry : Entry) → IsRelevant request.problem.now request.tables.now request.wanted.now request.stack.now entry
    → AreUnlimited request.problem.now (obligations_of request.problem.now request.tables.now request.model.now.atoms entry)

-- each question about an entry that is relevant for it stays below the limit
abbrev pub AreBelowFor : Request → Type 0
AreBelowFor request =
    (entry : Entry) → IsRelevant request.problem.now request.tables.now request.wanted.now request.stack.now entry
    → AreBelow request.problem.now (obligations_of request.problem.now request.tables.now request.model.now.atoms entry)

-- the question is one about an entry that is relevant for it, and meets the limit
abbrev pub LimitsFor : Request → MetLimit → Type 0
LimitsFor request = LimitsRelevant request.problem.now request.tables.now request.wanted.now request.stack.now request.model.now.atoms

-- gathering what of the part may be pushed for it makes the new list from the old one
abbrev pub GathersFor : Request → (OpInst → Type 0) → List OpInst → List OpInst → Type 0
GathersFor request = Gathers request.problem.now request.tables.now request.wanted.now request.stack.now request.model.now.atoms

-- the entry is relevant for it
abbrev pub IsRelevantEntryFor : Request → Entry → Type 0
IsRelevantEntryFor request = IsRelevant request.problem.now request.tables.now request.wanted.now request.stack.now
