use Rattle.std.proofs.Common.{◌≡◌, ◌<◌, ℕ, length, get_or}
use Rattle.px_terms.specs.declared.term.Term.TheVariants.{Any}
use Rattle.px_terms.specs.Language.{substitute}
use Rattle.px_terms.specs.declared.instance.OpInst.{OpInst}
use Rattle.px_terms.specs.Substitution.{substitute_atom}
use Rattle.px_entries.specs.Instances.{IsPartialInstance, StandsFor}
use Rattle.px_entries.proofs.matching.with_atom.Given as goal

abbrev pub invariant-loop-k : goal.invariant-loop-k
invariant-loop-k l = record {
  form : IsPartialInstance l.problem l.matched;
  count : length l.matched.inst.args ≡ length l.partial.inst.args;
  stands : (full : OpInst) → StandsFor l.problem l.partial full → substitute_atom full.args l.pattern ≡ l.wanted
      → StandsFor l.problem l.matched full;
  only : (full : OpInst) → StandsFor l.problem l.matched full
      → StandsFor l.problem l.partial full × ((j : ℕ) → j < l.k → substitute full.args (get_or l.terms j Any) ≡ get_or l.objects j Any);
}
