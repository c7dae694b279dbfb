-- From which kernel on the instances with some objects are proper.
use Rattle.std.specs.Prelude.{◌≡◌, ◌≤◌, ◌+◌, ℕ, Some, List, length}
use Rattle.std.proofs.Common.{zero, suc, subst, sym, arith}
use Rattle.std.proofs.lemmas.List.{length-map}
use Rattle.px_terms.specs.declared.instance.OpInst.{OpInst}
use Rattle.px_terms.specs.declared.problem.Problem.{Problem}
use Rattle.px_proof.specs.PlaceLaws.{slice_get-within}
use Rattle.px_table.specs.declared.table.Table.{Table}
use Rattle.px_table.specs.Kernels.{IsProper, instance_under, steps_under}
use Rattle.px_table.specs.Marks.{step_at}
use Rattle.px_match.specs.Asking.{AreProperFrom}

-- fewer steps are left of a later kernel
pub proper_later : (problem : Problem) (table : Table) (objects : List ℕ) (number : ℕ) → IsProper problem table objects number
    → AreProperFrom problem table objects number
proper_later problem table objects number proper =
    λ i above k d below step inst first. proper k d below step inst (omega (arith, first, above))

pub last_step : (steps : List OpInst) (number : ℕ) (inst : OpInst) → step_at steps number ≡ Some inst → number ≤ length steps
last_step steps zero inst is = omega arith
last_step steps (suc k) inst is = let within = slice_get-within steps k inst is in omega (arith, within)

-- and none of the goal's
pub proper_goal : (problem : Problem) (table : Table) (objects : List ℕ) (number : ℕ) → number ≡ length table.steps + 1
    → AreProperFrom problem table objects number
proper_goal problem table objects number is = λ i above k d below step inst first column row there.
    let last = last_step (steps_under table objects) step inst there in
    let lengths = length-map table.steps (instance_under objects) in
    absurd (omega (arith, last, lengths, first, above, is))

-- the same of objects that are the same
pub proper_same : (problem : Problem) (table : Table) (known objects : List ℕ) (number i : ℕ) → known ≡ objects → number ≤ i
    → AreProperFrom problem table known number → IsProper problem table objects i
proper_same problem table known objects number i same above are = subst (λ l. IsProper problem table l i) same (are i above)

pub proper_from_same : (problem : Problem) (table : Table) (known objects : List ℕ) (number : ℕ) → known ≡ objects
    → AreProperFrom problem table objects number → AreProperFrom problem table known number
proper_from_same problem table known objects number same are = subst (λ l. AreProperFrom problem table l number) (sym same) are
