use Rattle.std.proofs.Common.{[], ap, ◌∙◌, subst}
use Rattle.px_proof.specs.Derivation.{Derivation, leaves_of, leaf_atoms}
use Rattle.px_proof.specs.Literals.{positive_of}
use Rattle.px_proof.specs.ProofTerm.{derivation_of}
use Rattle.px_proof.specs.Proves.{Proves, from_atoms, IsObjectOrParameter}
use Rattle.px_proof.specs.LayerLaws.{derivation_of-step}
use Rattle.px_table.proofs.conclusions.conclusion.Goals as goal

pub returns-in-Step : goal.returns-in-Step
returns-in-Step c = λ atom proved.
    let is = ap derivation_of c.in-Step.is ∙ derivation_of-step c.in-Step.clause c.in-Step.theta c.in-Step.place c.in-Step.subs in
    let by_step =
    subst (λ (d : Derivation). Proves (from_atoms (IsObjectOrParameter proved.0 proved.1)
    (leaf_atoms (leaves_of (derivation_of c.args.proof.now))))
    c.args.axioms.now [] (positive_of atom) d) is proved.2.proves in
    (rw c.as_slice.ensures at c.atom_at.ensures) proved.0 proved.1 atom by_step.0 by_step.1
