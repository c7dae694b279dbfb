-- Gathering the instances that may be pushed, part by part.
use Rattle.std.specs.Prelude.{◌≡◌, ◌⊎◌, ◌<◌, ℕ, List, length, All, Any, Contains}
use Rattle.px_terms.specs.declared.atom.Atom.{Atom}
use Rattle.px_terms.specs.declared.instance.OpInst.{OpInst}
use Rattle.px_terms.specs.declared.problem.Problem.{Problem}
use Rattle.px_question.specs.declared.gap_list.GapList.{GapList}
use Rattle.px_question.specs.Answers.{object_terms}
use Rattle.px_table.specs.declared.entry.Entry.{Entry}
use Rattle.px_table.specs.declared.table.Table.{Table}
use Rattle.px_table.specs.declared.entry.Entry.TheVariants.{Op}
use Rattle.px_terms.specs.Substitution.{substitute_instance}
use Rattle.px_gaps.specs.Closings.{OneOf}
use Rattle.px_entries.specs.Entries.{obligations_of}
use Rattle.px_diff.specs.Pushes.{IsRelevant, IsPushable}
use Rattle.px_gaps.specs.Questions.{AreUnlimited}
use Rattle.px_entries.specs.declared.partial.PartialInstance.{PartialInstance}

-- The new list has what the old one had, and besides only what may be pushed, including all such instances of the part. No question about
-- a relevant instance of the part meets the limit.
pub record Gathers (problem : Problem) (tables : List Table) (wanted : List Atom) (stack : List Entry) (model : List Atom)
    (IsPart : OpInst → Type 0) (old new : List OpInst) : Type 0 where
  pub kept : (inst : OpInst) → Contains old inst → Contains new inst
  pub only : (inst : OpInst) → Contains new inst → Contains old inst ⊎ IsPushable problem tables wanted stack model (Op inst)
  pub all : (inst : OpInst) → IsPart inst → IsPushable problem tables wanted stack model (Op inst) → Contains new inst
  pub unlimited : (inst : OpInst) → IsPart inst → IsRelevant problem tables wanted stack (Op inst)
      → AreUnlimited problem (obligations_of problem tables model (Op inst))

-- the objects are the problem's, one for each variable
pub record AreObjectsFor (problem : Problem) (partial : PartialInstance) (objects : List ℕ) : Type 0 where
  pub count : length objects ≡ partial.variable_count
  pub below : All (λ n. n < problem.objects) objects

-- the instance that the partial one is with the objects
abbrev pub instance_by : PartialInstance → List ℕ → OpInst
instance_by partial objects = substitute_instance (object_terms objects) partial.inst

-- it is the instance of a list that closes none of the provable atoms
abbrev pub IsOpenIn : PartialInstance → List GapList → List Atom → OpInst → Type 0
IsOpenIn partial lists provable inst = OneOf lists (λ list. (instance_by partial list.objects ≡ inst) × ¬ Any (Contains provable) list.gaps)
