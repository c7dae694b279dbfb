use Rattle.std.proofs.Common.{List, arith, length, subst}
use Rattle.std.specs.Prelude.{Contains}
use Rattle.px_prover.specs.Gathering.{NotesEnds}
use Rattle.px_prover.proofs.Noting.{atoms-start, atoms-next, atoms-end, arguments-below}
use Rattle.px_terms.specs.declared.term.Term.{Term}
use Rattle.px_prover.proofs.gathering.note_atoms.Goals as goal

pub loop-atom-init : goal.loop-atom-init
loop-atom-init c = atoms-start c.args.roots.now c.args.atoms.now c.args.free.now.items

pub note_terms-requires : goal.note_terms-requires
note_terms-requires c =
    arguments-below (length c.args.roots.now) c.args.atoms.now c.loop-atom.atom-index _ c.args-terms.result.now c.loop-atom-test.true
    c.atom-item.is c.args-terms.ensures.value c.requires

pub loop-atom-preserved : goal.loop-atom-preserved
loop-atom-preserved c =
    atoms-next c.args.roots.now c.args.atoms.now c.loop-atom.atom-index _ c.args.free.now.items c.loop-atom.free.items
    c.note_terms.new.free.items c.loop-atom-test.true c.atom-item.is c.loop-atom.invariant
    (subst (λ (ts : List Term). NotesEnds (Contains ts) c.args.roots.now c.loop-atom.free.items c.note_terms.new.free.items)
    c.args-terms.ensures.value c.in_ok-note_terms.ensures)

pub returns : goal.returns
returns c =
    atoms-end c.args.roots.now c.args.atoms.now c.loop-atom.atom-index c.args.free.now.items c.loop-atom.free.items
    (omega (arith, c.loop-atom-test.false)) c.loop-atom.invariant
