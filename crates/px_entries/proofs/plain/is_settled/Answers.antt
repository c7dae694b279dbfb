use Rattle.px_question.specs.Answers.{IsProvable}
use Rattle.px_question.specs.Settings.{setting_of}
use Rattle.px_terms.specs.ValidityLaws.{atom_of-is_ground}
use Rattle.px_entries.specs.Plain.{IsSettled}
use Rattle.px_gaps.proofs.FactLemmas.{fact-provable, provable-fact}
use Rattle.px_base.proofs.Loops.{said_no, said_yes}
use Rattle.px_entries.proofs.PlainLaws.{match-as}
use Rattle.px_entries.proofs.plain.is_settled.Goals as goal

pub returns-then-holds : goal.returns-then-holds
returns-then-holds c = λ fixed.
    fact-provable (setting_of c.args.problem.now c.args.model.now.atoms) c.args.atom.now c.requires.problem.height.0
    (atom_of-is_ground c.args.problem.now c.args.atom.now c.requires.atom)
    (said_yes c.holds.result c.holds.ensures c.if-holds.true)

pub returns-then-not-is_concluded : goal.returns-then-not-is_concluded
returns-then-not-is_concluded c = λ settled.
    said_no c.holds.result c.holds.ensures c.if-holds.false
    (provable-fact (setting_of c.args.problem.now c.args.model.now.atoms) c.args.atom.now
    (λ concluded. said_no c.is_concluded.result c.is_concluded.ensures c.if-not-is_concluded.true (rw c.pred.ensures concluded))
    (atom_of-is_ground c.args.problem.now c.args.atom.now c.requires.atom)
    (settled (said_no c.is_addable.result c.is_addable.ensures c.if-is_addable.false)))

pub returns-in-Ok : goal.returns-in-Ok
returns-in-Ok c =
    match-as {P = IsProvable (setting_of c.args.problem.now c.args.model.now.atoms) c.args.atom.now}
    {Q = IsSettled c.args.problem.now c.args.model.now.atoms c.args.atom.now} c.in-Ok.settled
    (λ proved fixed. proved, λ settled. settled (said_no c.is_addable.result c.is_addable.ensures c.if-is_addable.false))
    c.in-Ok.ensures.answer
