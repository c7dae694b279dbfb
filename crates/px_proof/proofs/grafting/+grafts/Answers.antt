use Rattle.std.proofs.Common.{rules, ◌≤◌, ◌+◌, length, map, drop, ap, sym, subst, arith}
use Rattle.std.specs.Prelude.{All}
use Rattle.std.proofs.lemmas.List.{drop_all}
use Rattle.px_base.specs.Bounds.{u32_max}
use Rattle.px_proof.specs.declared.proof.Leaf.{Leaf}
use Rattle.px_proof.specs.declared.proof.Proof.{Proof}
use Rattle.px_proof.specs.declared.proof.Proof.TheViews.{the_lemmas}
use Rattle.px_proof.specs.Derivation.{leaves_of}
use Rattle.px_proof.specs.Grafting.{later_leaves}
use Rattle.px_proof.specs.ProofTerm.{derivation_of}
use Rattle.px_proof.proofs.Grafts.{takes, take_next, later_of_one, all_made}
use Rattle.px_proof.proofs.grafting.+grafts.Goals as goal

pub graft_each-graft_all-requires : goal.graft_each-graft_all-requires
graft_each-graft_all-requires t c =
    let here = take_next c.args.proofs.now c.loop-proof.proof-index c.proof-item.result c.proof-item.is c.loop-proof-test.true in
    let enough : c.loop-proof.used + takes (derivation_of c.proof-item.result) ≤ length c.args.parts.now =
    omega (arith, here, c.loop-proof.invariant.used, c.requires.parts) in
    let columns : All (λ (leaf : Leaf). leaf.column + c.args.shift ≤ u32_max)
    (later_leaves (leaves_of (derivation_of c.proof-item.result))) =
    subst (λ (p : Proof). All (λ (leaf : Leaf). leaf.column + c.args.shift ≤ u32_max) (later_leaves (leaves_of (derivation_of p))))
    (sym c.proof-item.is)
    (later_of_one (λ (leaf : Leaf). leaf.column + c.args.shift ≤ u32_max) c.args.proofs.now c.loop-proof.proof-index c.proof-item.result
    c.loop-proof-test.true c.requires.columns) in
    (search (rules, the_lemmas), (enough, columns))

pub graft_each-returns-clause-value : goal.graft_each-returns-clause-value
graft_each-returns-clause-value t c =
    all_made c.args.shift (drop c.args.used.now (map derivation_of c.args.parts.now)) (map derivation_of c.args.proofs.now)
    (map derivation_of (drop c.loop-proof.proof-index c.args.proofs.now)) (map derivation_of c.loop-proof.made.items)
    (drop c.loop-proof.used (map derivation_of c.args.parts.now))
    (ap (map derivation_of) (drop_all c.loop-proof.proof-index c.args.proofs.now (omega (arith, c.loop-proof-test.false))))
    c.loop-proof.invariant.made
