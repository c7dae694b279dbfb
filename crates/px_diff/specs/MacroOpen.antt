-- MACROPs for which the facts of the whole world model decide whether they are open, though each row is proved from what the steps before
-- leave of it: these delete only atoms that operators add, which are facts or gaps close them.
use Rattle.std.specs.Prelude.{◌≡◌, ◌≤◌, ℕ, List, All}
use Rattle.px_table.specs.Kernels.{atom_under}
use Rattle.px_table.specs.declared.mark.Mark.{Mark}
use Rattle.px_table.specs.declared.table.Table.{Table}
use Rattle.px_terms.specs.Operators.{IsAddable, schema_of}
use Rattle.px_terms.specs.declared.atom.Atom.{Atom}
use Rattle.px_terms.specs.declared.instance.OpInst.{OpInst}
use Rattle.px_terms.specs.declared.problem.Problem.{Problem}
use Rattle.px_entries.specs.Plain.{AxiomsMentionAddable, IsSettled}

-- the step deletes only atoms whose predicates some operator adds
abbrev pub DeletesAddable : Problem → OpInst → Type 0
DeletesAddable problem step = All (IsAddable problem) (schema_of problem step).del

-- no axiom mentions a predicate that some operator adds, and the table's steps delete only atoms of such predicates
pub record FactsSuffice (problem : Problem) (table : Table) : Type 0 where
  pub apart : ¬ AxiomsMentionAddable problem
  pub deletes : All (DeletesAddable problem) table.steps

-- the mark is one of the first rows, and comes from the initial model
pub record IsNeeded (prefix : ℕ) (mark : Mark) : Type 0 where
  pub from_first : 1 ≤ mark.row
  pub early : mark.row ≤ prefix
  pub initial : mark.column ≡ 0

-- if the mark is one of the first rows from the initial model, its atom with the objects is one that operators add, or provable
abbrev pub IsSettledMark : Problem → List Atom → ℕ → List ℕ → Mark → Type 0
IsSettledMark problem facts prefix sigma mark = IsNeeded prefix mark → IsSettled problem facts (atom_under sigma mark.atom)
