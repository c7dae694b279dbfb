-- The rules that the checker's two kinds of proofs follow.
use Rattle.std.specs.Prelude.{ℕ, All}
use Rattle.px_proof.specs.declared.basis.Basis.{Basis}
use Rattle.px_proof.specs.declared.basis.Basis.TheVariants.{Facts, Names}
use Rattle.px_proof.specs.Proves.{Rules, from_facts, IsObjectOrParameter}

-- proofs over names from whatever leaves they have
abbrev pub over_names : ℕ → ℕ → Rules
over_names objects params = record {
  IsChoice = IsObjectOrParameter objects params;
  IsFact = λ leaf. All (IsObjectOrParameter objects params) leaf.atom.args;
  IsGap = λ atom. ⊥;
  IsOpen = ⊥;
}

abbrev pub rules_of : Basis → Rules
rules_of (Facts facts) = from_facts facts.now
rules_of (Names objects params) = over_names objects params
