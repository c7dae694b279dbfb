-- How many fresh variables a proof term takes.
use Rattle.std.specs.Prelude.{ℕ, List, sum_by}
use Rattle.px_terms.specs.declared.atom.Atom.{Atom}
use Rattle.px_proof.specs.declared.proof.Leaf.{Leaf}
use Rattle.px_proof.specs.declared.proof.Proof.{Proof}
use Rattle.px_proof.specs.ProofTerm.{derivation_of}
use Rattle.px_replay.specs.FreshVariables.{fresh_in}
use Rattle.px_replay.specs.Replay.{opened_atom}

abbrev pub fresh_of_proof : Proof → ℕ
fresh_of_proof proof = fresh_in (derivation_of proof)

-- the leaf with fresh variables, or with the add that it names
abbrev pub open_leaf : (ℕ → ℕ → Atom) → ℕ → Leaf → Leaf
open_leaf named first leaf = record { column = leaf.column; index = leaf.index; atom = opened_atom named first leaf }

abbrev pub row_fresh : List Proof → ℕ
row_fresh proofs = sum_by fresh_of_proof proofs
