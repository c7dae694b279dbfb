use Rattle.std.proofs.Common.{◌∙◌, ap}
use Rattle.std.specs.Prelude.{not}
use Rattle.px_terms.specs.Operators.{deletes, is_deleted}
use Rattle.px_terms.specs.declared.atom.Atom.{Atom}
use Rattle.px_terms.specs.declared.problem.Schema.{Schema}
use Rattle.px_entries.proofs.LeftSteps.{left-all, left-next, left-none, not-twice}
use Rattle.px_entries.proofs.entry_rows.left_of.Goals as goal

pub loop-atom-init : goal.loop-atom-init
loop-atom-init c =
    left-none (λ (atom : Atom). not (deletes c.args.problem.now c.args.inst.now atom)) c.atoms-held.result.now c.new-left.result.atoms
    c.new-left.ensures

pub loop-atom-preserved : goal.loop-atom-preserved
loop-atom-preserved c =
    let inst = c.args.inst.now in
    let atom = c.atom-item.result in
    left-next (λ (other : Atom). not (deletes c.args.problem.now inst other)) c.atoms-held.result.now c.loop-atom.atom-index atom
    c.loop-atom.left.atoms c.loop-atom.invariant c.loop-atom-test.true c.atom-item.is
    c.deletes-is_deleted.result c.insert_undeleted.new.left.atoms
    (c.deletes-is_deleted.ensures.test ∙ ap (λ (s : Schema). is_deleted s inst atom) c.schema_of-schema.ensures.schema
    ∙ not-twice (deletes c.args.problem.now inst atom)) c.in_ok-insert_undeleted.ensures

pub returns : goal.returns
returns c =
    left-all (λ (other : Atom). not (deletes c.args.problem.now c.args.inst.now other)) c.atoms-held.result.now c.loop-atom.atom-index
    c.loop-atom.left.atoms c.args.facts.now.atoms c.atoms-held.ensures.value c.atoms-held.ensures.model.ascending c.loop-atom-test.false
    c.loop-atom.invariant
