use Rattle.std.specs.Prelude.{[], ◌∷◌}
use Rattle.std.specs.List.Sorted.{IsStrictlySortedBy}
use Rattle.px_terms.specs.AtomSets.{IsAtomSet}
use Rattle.px_terms.specs.declared.atom.Atom.{Atom}
use Rattle.px_proof_state.proofs.tests.a_fact_closes_and_is_taken_back.Goals as goal

one_atom : (atom : Atom) → IsAtomSet (atom ∷ [])
unfolding IsStrictlySortedBy
one_atom atom = (tt, tt)

pub try_facts-requires-clause-ascending : goal.try_facts-requires-clause-ascending
try_facts-requires-clause-ascending g c = one_atom c.of-fact.result
