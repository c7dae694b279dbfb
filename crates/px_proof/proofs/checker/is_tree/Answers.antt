use Rattle.std.specs.Prelude.{[]}
use Rattle.px_proof.specs.LayerLaws.{path_literals-root}
use Rattle.px_proof.specs.Derivation.{leaves_of, leaf_atoms}
use Rattle.px_proof.specs.ProofTerm.{derivation_of}
use Rattle.px_proof.specs.Proves.{IsObjectOrParameter}
use Rattle.px_proof.specs.ProvesLaws.{own_leaves, terms_from}
use Rattle.px_proof.specs.Soundness.{tree_follows}
use Rattle.px_proof.proofs.checker.is_tree.Goals as goal

pub returns-then-are_choices-clause-exact : goal.returns-then-are_choices-clause-exact
returns-then-are_choices-clause-exact c =
    let own = own_leaves c.args.arena.now c.args.objects c.args.params [] c.args.lit.now (derivation_of c.args.proof.now) in
    let exact = rw path_literals-root at c.proves.ensures in
    let names = c.are_choices.ensures.0 c.if-are_choices.true in (
      λ holds. record { proves = own.0 (exact.0 holds); terms = rw (c.args-2.ensures.value) at names },
      λ tree. exact.1 (own.1 tree.proves),
    )

pub returns-then-are_choices-clause-terms : goal.returns-then-are_choices-clause-terms
returns-then-are_choices-clause-terms c = λ holds.
    let d = derivation_of c.args.proof.now in
    terms_from (IsObjectOrParameter c.args.objects c.args.params) c.args.arena.now (leaf_atoms (leaves_of d)) [] c.args.lit.now d
    ((returns-then-are_choices-clause-exact c).0 holds).proves

pub returns-then-are_choices-clause-sound : goal.returns-then-are_choices-clause-sound
returns-then-are_choices-clause-sound c = λ holds.
    tree_follows c.args.arena.now c.args.objects c.args.params c.args.lit.now (derivation_of c.args.proof.now)
    ((returns-then-are_choices-clause-exact c).0 holds)
