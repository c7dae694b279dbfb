use Rattle.std.proofs.Common.{◌∙◌, ap, map, drop, length}
use Rattle.px_proof.specs.ProofTerm.{derivation_of}
use Rattle.px_proof.proofs.Grafts.{place_first, place_later, one_left}
use Rattle.px_proof.proofs.grafting.graft_leaf.Goals as goal

pub returns-then-leaf-eq0-clause-value : goal.returns-then-leaf-eq0-clause-value
returns-then-leaf-eq0-clause-value c =
    ap derivation_of c.in_ok-part.ensures
    ∙ place_first c.args.shift c.args.parts.now c.args.used.now c.args.leaf.now c.index-parts-next.result c.if-leaf-eq0.true
    (one_left c.args.leaf.now c.args.used.now (length c.args.parts.now) c.if-leaf-eq0.true c.requires.parts) c.index-parts-next.is

pub returns-clause-value : goal.returns-clause-value
returns-clause-value c =
    place_later c.args.shift (drop c.args.used.now (map derivation_of c.args.parts.now)) c.args.leaf.now c.if-leaf-eq0.false
