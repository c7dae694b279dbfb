use Rattle.px_proof.specs.Literals.{complement_of}
use Rattle.px_proof.specs.declared.shape.Tick.TheVariants.{Anc}
use Rattle.px_proof_state.specs.Matches.{ClosesBy}
use Rattle.px_proof_state.specs.Ancestors.{TriesAncestor}
use Rattle.px_proof_state.proofs.FactPlaces.{tried-ancestor}
use Rattle.px_proof_state.proofs.Trying.{if_ok}
use Rattle.px_proof_state.proofs.ancestors.try_ancestor.Goals as goal

pub returns : goal.returns
returns c =
    if_ok c.close_by.result
    (λ found. ClosesBy c.args.state.now c.close_by.new.self (Anc c.args.number) c.args.goal.now.lit
    (complement_of c.args.above.now) c.args.goal.now.next found)
    (λ found. TriesAncestor c.args.state.now c.close_by.new.self c.args.number c.args.above.now c.args.goal.now c.args.from found)
    (λ found closes. tried-ancestor c.args.state.now c.close_by.new.self c.args.number c.args.above.now c.args.goal.now c.args.from found
    c.if-number-from.false closes)
    (rw c.complement-lit.ensures at c.close_by.ensures)
