use Rattle.std.proofs.Common.{◌≡◌, ◌≤◌, List, length, map, take}
use Rattle.px_terms.specs.declared.term.Term.{Term}
use Rattle.px_terms.specs.Language.{substitute}
use Rattle.px_unify.specs.Changes.{Fits}
use Rattle.px_proof_state.proofs.apart.followed.Given as goal

abbrev pub invariant-loop-place : goal.invariant-loop-place
invariant-loop-place l = record {
  within : l.place ≤ length l.args;
  long : length l.terms ≡ 6;
  same : (sigma : List Term) → Fits sigma l.bind
      → map (substitute sigma) (take l.place l.args) ≡ map (substitute sigma) (take l.place l.terms);
}
