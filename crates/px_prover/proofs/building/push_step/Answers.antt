use Rattle.std.proofs.Common.{◌-◌, length, ◌∙◌}
use Rattle.px_prover.proofs.Making.{lits-some, parts-are, pushed-step}
use Rattle.px_prover.proofs.building.push_step.Goals as goal

pub overflow_sub-count : goal.overflow_sub-count
overflow_sub-count c =
    lits-some c.args.problem.now.axioms c.args.clause c.lits.result.now c.lits.ensures.arena c.requires c.lits.ensures.value

pub returns : goal.returns
returns c =
    pushed-step c.args.made.now.items c.take_last.new.made.items c.push.new.items.items c.from_vec-2.result c.args.clause c.args.place
    (length c.lits.result.now - 1) _ c.from_vec.result _
    (parts-are c.args.problem.now.axioms c.args.clause c.lits.result.now c.requires c.lits.ensures.value)
    (c.from_vec.ensures ∙ c.in_ok-theta.ensures)
    (c.from_vec-2.ensures ∙ c.in_ok-subs.ensures.parts) c.in_ok-subs.ensures.rest c.in_ok-push.ensures.ok
