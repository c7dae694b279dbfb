use Rattle.std.proofs.Common.{refl}
use Rattle.px_proof_state.proofs.Literals.{found, not_found, same_sign}
use Rattle.px_proof_state.proofs.matching.matches.Goals as goal

pub returns-in-Ok : goal.returns-in-Ok
returns-in-Ok c =
    found c.args.bind.now c.unify.new.bind c.args.a.now c.args.b.now
    (same_sign c.args.a.now.positive c.args.b.now.positive c.if-differ.false) c.in-Ok.ensures.grows c.in-Ok.ensures.solvable
    c.in-Ok.ensures.ok

pub returns-in-Err : goal.returns-in-Err
returns-in-Err c = not_found c.args.bind.now c.unify.new.bind c.args.a.now c.args.b.now c.in-Err.ensures.err (c.in-Err.ensures.clash.0 refl)
