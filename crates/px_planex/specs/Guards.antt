-- Where the marks of a kernel's row are true in a world, the world refuses no step.
use Rattle.std.specs.Prelude.{◌≡◌, Some, List}
use Rattle.px_terms.specs.declared.atom.Atom.{Atom}
use Rattle.px_terms.specs.declared.instance.OpInst.{OpInst}
use Rattle.px_terms.specs.declared.problem.Problem.{Problem}
use Rattle.px_table.specs.declared.table.Table.{Table}
use Rattle.px_table.specs.Kernels.{IsInstantiation}
use Rattle.px_table.specs.Tables.{IsTable}
use Rattle.px_match.specs.Matching.{KernelInstance}
use Rattle.px_world.specs.Worlds.{HaveSameRules, IsActionRefused}
use Rattle.px_planex.specs.Execution.{KernelRowHolds, step_of_kernel}

abbrev pub GuardNever : Type 0
GuardNever = (rules problem : Problem) (table : Table) (kernel : KernelInstance) (atoms : List Atom) (inst : OpInst)
    → IsTable problem table → IsInstantiation problem table kernel.objects → HaveSameRules rules problem
    → KernelRowHolds table kernel atoms → step_of_kernel table kernel ≡ Some inst → ¬ IsActionRefused rules atoms inst
