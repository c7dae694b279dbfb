use Rattle.px_question.specs.Answers.{object_terms}
use Rattle.px_terms.specs.Substitution.{substitute_atom}
use Rattle.px_gaps.proofs.Choosing.{atom-fixed, none-open, one-put, one-there, said, said_not}
use Rattle.px_gaps.proofs.Grows.{inserted}
use Rattle.px_base.proofs.Loops.{said_yes}
use Rattle.px_gaps.proofs.missing.insert_one.Goals as goal

pub returns-then-holds_near : goal.returns-then-holds_near
returns-then-holds_near c =
    one-there c.args.avoidance.now.limit c.args.terms.now c.args.avoidance.now.atoms.now c.args.avoidance.now.set.now.atoms
    (λ values. substitute_atom (object_terms values) c.args.target.now) c.apply-here.result
    (atom-fixed c.args.avoidance.now.limit c.args.terms.now c.requires.bound.binding c.args.target.now c.apply-here.result c.requires.target
    c.requires.is_ground c.apply-here.ensures)
    c.args.found.now.atoms (said_yes c.holds_near.result c.holds_near.ensures c.if-holds_near.true)

pub returns-then-not-branch : goal.returns-then-not-branch
returns-then-not-branch c =
    none-open c.args.avoidance.now.limit c.args.terms.now c.args.avoidance.now.atoms.now c.args.avoidance.now.set.now.atoms
    (λ values. substitute_atom (object_terms values) c.args.target.now) c.args.found.now.atoms
    (said_not _ c.in_ok-can_avoid.field-0 c.in_ok-can_avoid.ensures c.if-not-branch.true)

pub returns : goal.returns
returns c =
    one-put c.args.avoidance.now.limit c.args.terms.now c.args.avoidance.now.atoms.now c.args.avoidance.now.set.now.atoms
    (λ values. substitute_atom (object_terms values) c.args.target.now) c.apply-here.result
    (atom-fixed c.args.avoidance.now.limit c.args.terms.now c.requires.bound.binding c.args.target.now c.apply-here.result c.requires.target
    c.requires.is_ground c.apply-here.ensures)
    c.args.found.now.atoms c.insert.new.self.atoms
    (λ q. inserted c.apply-here.result q c.args.found.now.atoms c.insert.new.self.atoms c.in_ok-insert.ensures.ok)
    (said _ c.in_ok-can_avoid.field-0 c.in_ok-can_avoid.ensures c.if-not-branch.false)
