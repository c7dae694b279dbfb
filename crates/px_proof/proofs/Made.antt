-- What is true of a derivation is true of the proof term that is made of it.
use Rattle.std.proofs.Common.{◌≡◌, subst, sym}
use Rattle.std.specs.Prelude.{IfOk}
use Rattle.std.specs.declared.result.Result.{Result}
use Rattle.std.specs.declared.result.Result.TheVariants.{Ok, Err}
use Rattle.px_base.specs.declared.no_memory.NoMemory.{NoMemory}
use Rattle.px_proof.specs.declared.proof.Proof.{Proof}
use Rattle.px_proof.specs.Derivation.{Derivation}
use Rattle.px_proof.specs.ProofTerm.{derivation_of}

pub of_made : (P : Derivation → Type 0) (wanted : Derivation) (r : Result Proof NoMemory) → P wanted
    → IfOk r (λ made. derivation_of made ≡ wanted) → IfOk r (λ made. P (derivation_of made))
of_made P wanted (Ok made) holds is = subst P (sym is) holds
of_made P wanted (Err e) holds is = tt
