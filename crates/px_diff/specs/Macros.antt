-- Gathering the entries that may be pushed, part by part.
use Rattle.std.specs.Prelude.{◌≡◌, ◌⊎◌, ◌<◌, ◌≤◌, ℕ, Some, true, List, [], ◌∷◌, length, slice_get, slice_index, Contains}
use Rattle.px_table.specs.declared.entry.Entry.{Entry}
use Rattle.px_table.specs.declared.entry.Entry.TheVariants.{Macro, Op}
use Rattle.px_table.specs.declared.table.Table.{Table}
use Rattle.px_table.specs.Prefixes.{IsProperPrefix}
use Rattle.px_terms.specs.Validity.{IsValid}
use Rattle.px_terms.specs.declared.atom.Atom.{Atom}
use Rattle.px_terms.specs.declared.instance.OpInst.{OpInst}
use Rattle.px_terms.specs.declared.problem.Problem.{Problem}
use Rattle.px_terms.specs.declared.term.Term.{Term}
use Rattle.px_gaps.specs.Bindings.{ExtendsTerms}
use Rattle.px_gaps.specs.Closings.{OneOf}
use Rattle.px_entries.specs.Entries.{obligations_of}
use Rattle.px_entries.specs.Learned.{AreLearned}
use Rattle.px_diff.specs.MacroOpen.{FactsSuffice}
use Rattle.px_entries.specs.Unlimited.{IsNeverLimited}
use Rattle.px_entries.specs.Parameters.{AreFirstTerms}
use Rattle.px_diff.specs.RowQuestions.{FitsEach}
use Rattle.px_diff.specs.Pushes.{IsPushable, IsRelevant}
use Rattle.px_gaps.specs.Questions.{AreUnlimited}
use Rattle.px_diff.specs.declared.prefix.Prefix.{Prefix}
use Rattle.px_diff.specs.declared.request.Request.{Request}

-- The new list has what the old one had, and besides only what may be pushed, including all such entries of the part. No question about a
-- relevant entry of the part meets the limit.
pub record GathersEntries (problem : Problem) (tables : List Table) (wanted : List Atom) (stack : List Entry) (model : List Atom)
    (IsPart : Entry → Type 0) (old new : List Entry) : Type 0 where
  pub kept : (entry : Entry) → Contains old entry → Contains new entry
  pub only : (entry : Entry) → Contains new entry → Contains old entry ⊎ IsPushable problem tables wanted stack model entry
  pub all : (entry : Entry) → IsPart entry → IsPushable problem tables wanted stack model entry → Contains new entry
  pub unlimited : (entry : Entry) → IsPart entry → IsRelevant problem tables wanted stack entry
      → AreUnlimited problem (obligations_of problem tables model entry)

abbrev pub GathersEntriesFor : Request → (Entry → Type 0) → List Entry → List Entry → Type 0
GathersEntriesFor request = GathersEntries request.problem.now request.tables.now request.wanted.now request.stack.now
    request.model.now.atoms

-- `prefix` steps of the table of that number, with objects that extend the terms
abbrev pub IsMacroBy : ℕ → ℕ → ℕ → List Term → Entry → Type 0
IsMacroBy limit number prefix terms entry = (sigma : List ℕ) × ExtendsTerms limit terms sigma × (Macro number prefix sigma ≡ entry)

-- `prefix` steps with such objects, where that of the parameter is before this one
abbrev pub IsMacroBefore : ℕ → ℕ → ℕ → List Term → ℕ → ℕ → Entry → Type 0
IsMacroBefore limit number prefix terms v object entry = (sigma : List ℕ) × ExtendsTerms limit terms sigma × (slice_index sigma v < object)
    × (Macro number prefix sigma ≡ entry)

-- `prefix` steps of the table of that number, with objects that extend the terms and fit one of the choices of each row
abbrev pub IsMacroFitting : ℕ → ℕ → ℕ → List Term → List (List (List Term)) → Entry → Type 0
IsMacroFitting limit number prefix terms rows entry = (sigma : List ℕ) × ExtendsTerms limit terms sigma × FitsEach rows sigma
    × (Macro number prefix sigma ≡ entry)

-- `prefix` steps with objects that extend the terms and fit one of the terms at which some row meets the limit
abbrev pub IsMacroLimited : ℕ → ℕ → ℕ → List Term → List (List (List Term)) → Entry → Type 0
IsMacroLimited limit number prefix terms limited entry = OneOf limited
    (λ (row : List (List Term)). IsMacroFitting limit number prefix terms (row ∷ []) entry)

-- `prefix` steps with objects that extend the terms and fit one of the choices of each row, or one of the terms at which some row meets
-- the limit
abbrev pub IsMacroTold : ℕ → ℕ → ℕ → List (List (List Term)) → List (List (List Term)) → List Term → Entry → Type 0
IsMacroTold limit number prefix rows limited terms entry = IsMacroLimited limit number prefix terms limited entry
    ⊎ IsMacroFitting limit number prefix terms rows entry

-- Two or more of the first steps of the table of that number, which is learned, with their first terms. Where it is said that they keep
-- their marks, or that the facts suffice, this is so.
pub record IsMacroPrefix (front : Prefix) : Type 0 where
  pub problem : IsValid front.request.problem.now
  pub tables : AreLearned front.request.problem.now front.request.tables.now
  pub table : slice_get front.request.tables.now front.number ≡ Some front.table.now
  pub several : 2 ≤ front.count
  pub within : front.count ≤ length front.table.now.steps
  pub first : AreFirstTerms front.table.now front.count front.start.now
  pub keeps : front.keeps_marks ≡ true → (sigma : List ℕ) → IsProperPrefix front.request.problem.now front.table.now front.count sigma
  pub suffice : front.facts_suffice ≡ true → IsNeverLimited front.request.problem.now front.request.tables.now
      × FactsSuffice front.request.problem.now front.table.now

-- the entry takes `prefix` first steps of the table of that number, with whatever objects
abbrev pub IsOfPrefix : ℕ → ℕ → Entry → Type 0
IsOfPrefix number prefix entry = (sigma : List ℕ) × (Macro number prefix sigma ≡ entry)

-- it takes first steps of the table
abbrev pub IsOfTable : ℕ → Entry → Type 0
IsOfTable number entry = (prefix : ℕ) × IsOfPrefix number prefix entry

-- it is a MACROP
abbrev pub IsMacroEntry : Entry → Type 0
IsMacroEntry entry = (number : ℕ) × IsOfTable number entry

-- it is an instance of an operator
abbrev pub IsOperatorEntry : Entry → Type 0
IsOperatorEntry entry = (inst : OpInst) × (Op inst ≡ entry)
