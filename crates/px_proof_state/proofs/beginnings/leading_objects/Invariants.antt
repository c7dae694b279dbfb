use Rattle.std.proofs.Common.{ℕ, ◌<◌, get_or}
use Rattle.px_terms.specs.declared.term.Term.{Term}
use Rattle.px_terms.specs.Language.{IsObject}
use Rattle.px_proof_state.proofs.beginnings.leading_objects.Given as goal

abbrev pub invariant-loop-place : goal.invariant-loop-place
invariant-loop-place l = (k : ℕ) (d : Term) → k < l.place → IsObject (get_or l.terms k d)
