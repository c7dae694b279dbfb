use Rattle.std.proofs.Common.{◌≡◌, map}
use Rattle.std.specs.List.{flat_map}
use Rattle.px_proof.specs.Derivation.{Derivation, leaves_of}
use Rattle.px_proof.specs.Grafting.{in_places_of, grafted, GraftIsTree, GraftProves}
use Rattle.px_proof.specs.GraftLaws.{graft_is_tree, graft_proves, leaves-grafted}
use Rattle.px_proof.specs.ProofTerm.{derivation_of}
use Rattle.px_proof.proofs.Made.{of_made}
use Rattle.px_proof.proofs.grafting.graft.Goals as goal

pub returns-clause-leaves : goal.returns-clause-leaves
returns-clause-leaves c =
    let old = derivation_of c.args.proof.now in
    let parts = map derivation_of c.args.parts.now in
    of_made (λ (new : Derivation). leaves_of new ≡ flat_map leaves_of (in_places_of c.args.shift parts (leaves_of old)))
    (grafted c.args.shift parts old) c.graft_all.result
    (leaves-grafted c.args.shift parts old) c.graft_all.ensures.value

pub returns-clause-tree : goal.returns-clause-tree
returns-clause-tree c =
    let old = derivation_of c.args.proof.now in
    let parts = map derivation_of c.args.parts.now in
    of_made (GraftIsTree parts old) (grafted c.args.shift parts old) c.graft_all.result
    (graft_is_tree c.args.shift parts old) c.graft_all.ensures.value

pub returns-clause-proves : goal.returns-clause-proves
returns-clause-proves c =
    let old = derivation_of c.args.proof.now in
    let parts = map derivation_of c.args.parts.now in
    of_made (GraftProves parts old) (grafted c.args.shift parts old) c.graft_all.result
    (graft_proves c.args.shift parts old) c.graft_all.ensures.value
