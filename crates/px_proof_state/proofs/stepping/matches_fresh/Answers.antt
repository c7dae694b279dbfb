use Rattle.std.proofs.Common.{◌≡◌, ◌+◌, arith, ap, ◌∙◌}
use Rattle.px_unify.specs.ChangeLaws.{variables-fresh}
use Rattle.px_unify.specs.Changes.{variables_of}
use Rattle.px_proof_state.proofs.NewVariables.{lit_more, found-fresh, none-fresh}
use Rattle.px_proof_state.proofs.stepping.matches_fresh.Goals as goal

pub matches-requires-clause-a_below : goal.matches-requires-clause-a_below
matches-requires-clause-a_below c =
    let variables : variables_of c.fresh.new.self ≡ variables_of c.args.bind.now + c.args.count =
    ap variables_of c.in-Ok.ensures.ok ∙ variables-fresh c.args.bind.now c.args.count in
    rw variables (lit_more (variables_of c.args.bind.now) (variables_of c.args.bind.now + c.args.count) c.args.goal.now
    (omega arith) c.requires.goal_below)

pub matches-requires-clause-b_below : goal.matches-requires-clause-b_below
matches-requires-clause-b_below c =
    let variables : variables_of c.fresh.new.self ≡ variables_of c.args.bind.now + c.args.count =
    ap variables_of c.in-Ok.ensures.ok ∙ variables-fresh c.args.bind.now c.args.count in
    rw variables c.requires.lit_below

pub returns-then-matches : goal.returns-then-matches
returns-then-matches c =
    found-fresh c.args.bind.now c.fresh.new.self c.matches.new.bind c.args.count c.args.goal.now c.args.lit.now c.in-Ok.ensures.ok
    (rw c.if-matches.true at c.matches.ensures)

pub returns : goal.returns
returns c =
    none-fresh c.args.bind.now c.fresh.new.self c.matches.new.bind c.args.count c.args.goal.now c.args.lit.now c.in-Ok.ensures.ok
    c.undo_to.new.self (rw c.if-matches.false at c.matches.ensures) (rw c.mark-mark.ensures.place at c.undo_to.ensures)
