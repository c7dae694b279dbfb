use Rattle.std.proofs.Common.{◌≡◌, ◌<◌, ℕ, length, get_or}
use Rattle.px_terms.specs.declared.term.Term.TheVariants.{Any}
use Rattle.px_entries.specs.Instances.{IsRenamed}
use Rattle.px_entries.proofs.instances.bound_instance.Given as goal

abbrev pub invariant-loop-k : goal.invariant-loop-k
invariant-loop-k l = record {
  size : length l.terms ≡ 8;
  are : (j : ℕ) → j < l.k → IsRenamed l.variable l.object j (get_or l.terms j Any);
}
