-- Proofs as their parts make them, from the last part to the first; and the heights of proofs.
use Rattle.std.specs.Prelude.{◌≤◌, ℕ, ◌+◌, List, ◌∷◌, All, length, map, take, drop}
use Rattle.px_proof.specs.Derivation as derivation
use Rattle.px_proof.specs.Derivation.{Derivation, derivations}
use Rattle.px_terms.specs.Limits.{most_parameters}
use Rattle.px_script.specs.Declarations.{Declared, atom_of, parameters_here, table_term, table_variables}
use Rattle.px_script.specs.Faults.{highest}
use Rattle.px_script.specs.Items.{Part, a_fact, an_ancestor, an_axiom}
use Rattle.px_so_far.specs.Readable.{HasFewArguments}
use Rattle.px_lines.specs.declared.parts.Part as written
use Rattle.px_lines.specs.declared.parts.Part.TheVariants as part

-- the heights with that of one part more: a step takes those of its proofs
abbrev pub with_height : Part → List ℕ → List ℕ
with_height (an_axiom k place count ts) after = (1 + highest (take count after)) ∷ drop count after
with_height _ after = 1 ∷ after

-- the proofs with that of one part more: a step takes its proofs
abbrev pub with_proof : Declared → Part → List Derivation → List Derivation
with_proof d (a_fact column index x) after =
    derivation.fact (record { column = column; index = index; atom = atom_of d (table_variables d) x }) ∷ after
with_proof d (an_ancestor k) after = derivation.ancestor k ∷ after
with_proof d (an_axiom k place count ts) after =
    derivation.step k (map (table_term d) ts) place (derivations (take count after)) ∷ drop count after

-- no atom of the part has more arguments than an atom may have
abbrev pub IsNarrow : written.Part → Type 0
IsNarrow (part.Fact column index x) = HasFewArguments x
IsNarrow _ = Unit {0}

-- the part can be given by numbers
pub record IsReadablePart (d : Declared) (one : written.Part) : Type 0 where
  pub few : length (parameters_here d) ≤ most_parameters
  pub narrow : IsNarrow one

-- so can each of them
pub record AreReadableParts (d : Declared) (parts : List written.Part) : Type 0 where
  pub few : length (parameters_here d) ≤ most_parameters
  pub narrow : All IsNarrow parts
