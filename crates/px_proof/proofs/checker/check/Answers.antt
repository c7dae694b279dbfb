use Rattle.std.specs.Prelude.{[]}
use Rattle.px_terms.specs.Language.{IsObject}
use Rattle.px_proof.specs.LayerLaws.{path_literals-root}
use Rattle.px_proof.specs.ProofTerm.{derivation_of}
use Rattle.px_proof.specs.ProvesLaws.{terms_from}
use Rattle.px_proof.specs.Soundness.{follows}
use Rattle.px_proof.proofs.checker.check.Goals as goal

pub returns-clause-terms : goal.returns-clause-terms
returns-clause-terms c = λ holds.
    terms_from IsObject c.args.arena.now c.args.facts.now [] c.args.lit.now (derivation_of c.args.proof.now)
    ((rw path_literals-root at c.proves.ensures).0 holds)

pub returns-clause-sound : goal.returns-clause-sound
returns-clause-sound c =
    λ holds. follows c.args.arena.now c.args.facts.now c.args.lit.now (derivation_of c.args.proof.now)
    ((rw path_literals-root at c.proves.ensures).0 holds)
