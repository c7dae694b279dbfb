use Rattle.std.proofs.Common.{List, map, sym, subst}
use Rattle.std.proofs.lemmas.List.{take_all}
use Rattle.std.specs.List.{AllZip}
use Rattle.px_proof.specs.declared.proof.Proof.{Proof}
use Rattle.px_proof.specs.ProofTerm.{derivation_of}
use Rattle.px_ends.specs.Made.{IsSourced}
use Rattle.px_support.proofs.SourceLaws.{first_leaves-at, sourced-next}
use Rattle.px_support.proofs.rows.sourced_row.Goals as goal

pub sourced-requires-clause-leaves : goal.sourced-requires-clause-leaves
sourced-requires-clause-leaves c =
    first_leaves-at c.args.proofs.now c.loop-proof.proof-index c.proof-item.result c.loop-proof-test.true c.proof-item.is c.requires.leaves

pub loop-proof-preserved : goal.loop-proof-preserved
loop-proof-preserved c =
    sourced-next (IsSourced c.args.problem.now c.args.steps.now) c.args.proofs.now c.loop-proof.proof-index c.proof-item.result
    c.in_ok-new.new c.loop-proof.made.items c.push.new.items.items
    c.loop-proof-test.true c.proof-item.is c.loop-proof.invariant c.in_ok-new.ensures c.in_ok-push.ensures.ok

pub returns : goal.returns
returns c =
    let sources = IsSourced c.args.problem.now c.args.steps.now in
    subst (λ (row : List Proof). AllZip sources (map derivation_of c.args.proofs.now) (map derivation_of row)) (sym c.from_proofs.ensures)
    (subst (λ (ps : List Proof). AllZip sources (map derivation_of ps) (map derivation_of c.loop-proof.made.items))
    (take_all c.loop-proof.proof-index c.args.proofs.now c.loop-proof-test.false) c.loop-proof.invariant)
