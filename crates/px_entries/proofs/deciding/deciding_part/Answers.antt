use Rattle.std.proofs.Common.{◌∙◌, List, subst, sym}
use Rattle.std.proofs.lemmas.List.{take_all}
use Rattle.px_terms.specs.declared.atom.Atom.{Atom}
use Rattle.px_entries.specs.Deciding.{AreDeciding}
use Rattle.px_entries.proofs.DecidingSteps.{deciding-next}
use Rattle.px_entries.proofs.deciding.deciding_part.Goals as goal

pub loop-atom-preserved : goal.loop-atom-preserved
loop-atom-preserved c = record {
  part =
      deciding-next c.args.problem.now c.atoms-facts.result.now c.loop-atom.atom-index c.atom-item.result c.loop-atom.part.atoms
      c.loop-atom-test.true c.atom-item.is c.loop-atom.invariant.part
      c.decision_after-here.result.decides c.insert_if.new.part.atoms
      (c.decision_after-here.ensures.right c.atom-item.result (sym c.decision_after-here.ensures.pred)) c.in_ok-insert_if.ensures;
  right = c.decision_after-here.ensures.right;
}

pub returns : goal.returns
returns c =
    subst (λ (l : List Atom). AreDeciding c.args.problem.now l c.loop-atom.part.atoms)
    (take_all c.loop-atom.atom-index c.atoms-facts.result.now c.loop-atom-test.false ∙ c.atoms-facts.ensures.value)
    c.loop-atom.invariant.part
