use Rattle.std.proofs.Common.{◌≡◌, ◌<◌, ℕ, length, get_or}
use Rattle.px_terms.specs.declared.term.Term.TheVariants.{Obj, Any}
use Rattle.px_entries.proofs.instances.filled.Given as goal

abbrev pub invariant-loop-k : goal.invariant-loop-k
invariant-loop-k l = record {
  size : length l.terms ≡ 8;
  are : (j : ℕ) → j < l.k → get_or l.terms j Any ≡ Obj (get_or l.objects j 0);
}
