use Rattle.px_question.specs.Settings.{setting_of}
use Rattle.px_terms.specs.ValidityLaws.{atom_of-is_ground}
use Rattle.px_gaps.proofs.Choosing.{said, said_not}
use Rattle.px_gaps.proofs.Grows.{inserted}
use Rattle.px_gaps.proofs.Proving.{finds-here, finds-not}
use Rattle.px_gaps.proofs.asking.insert_provable.Goals as goal

pub insert-requires : goal.insert-requires
insert-requires c = atom_of-is_ground c.args.problem.now c.args.atom.now c.requires.atom

pub returns-then-not-branch-clause-found : goal.returns-then-not-branch-clause-found
returns-then-not-branch-clause-found c =
    finds-not (setting_of c.args.problem.now c.args.model.now.atoms) c.args.atom.now c.args.found.now.atoms
    (said_not _ c.in_ok-is_provable.field-0 c.in_ok-is_provable.ensures.answer c.if-not-branch.true) c.in_ok-is_provable.ensures.few

pub returns-clause-found : goal.returns-clause-found
returns-clause-found c =
    finds-here (setting_of c.args.problem.now c.args.model.now.atoms) c.args.atom.now c.args.found.now.atoms c.insert.new.self.atoms
    (λ q. inserted c.args.atom.now q c.args.found.now.atoms c.insert.new.self.atoms c.in_ok-insert.ensures.ok)
    (said _ c.in_ok-is_provable.field-0 c.in_ok-is_provable.ensures.answer c.if-not-branch.false) c.in_ok-is_provable.ensures.few
