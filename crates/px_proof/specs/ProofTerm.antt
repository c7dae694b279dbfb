-- The derivation that a proof term stands for.
use Rattle.std.specs.Prelude.{◌≡◌}
use Rattle.px_proof.specs.declared.proof.Proof.{Proof, fold-Proof}
use Rattle.px_proof.specs.declared.proof.Proof.TheOpen.{Proof-F, Fact, Anc, Step, Gap}
use Rattle.px_proof.specs.Derivation.{Derivation, derivations, fact, ancestor, step, gap}

-- one layer, with the derivation of each part in its place
abbrev pub derivation_step : Proof-F Derivation → Derivation
derivation_step (Fact leaf) = fact leaf
derivation_step (Anc i) = ancestor i
derivation_step (Step clause theta place subs) = step clause theta place (derivations subs)
derivation_step (Gap atom) = gap atom

abbrev pub derivation_of : Proof → Derivation
derivation_of = fold-Proof Derivation derivation_step

-- proof terms with the same derivation are equal
abbrev pub DerivationsTellProofs : Type 0
DerivationsTellProofs = (one other : Proof) → derivation_of one ≡ derivation_of other → one ≡ other
