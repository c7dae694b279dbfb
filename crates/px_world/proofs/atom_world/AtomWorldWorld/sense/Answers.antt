use Rattle.std.proofs.Common.{◌++◌, [], ◌∷◌, take, sym, ap, ◌∙◌, arith}
use Rattle.std.proofs.lemmas.List.{take_all, take_more}
use Rattle.px_base.specs.Sets.{set_of}
use Rattle.px_base.specs.SetLaws.{set_of-push, set_of-sorted}
use Rattle.px_terms.specs.AtomSets.{atom_set, with_atom}
use Rattle.px_terms.specs.Order.{atom_cmp}
use Rattle.px_terms.specs.OrderLaws.{atom_cmp-total, atom_cmp-same}
use Rattle.px_world.specs.AtomWorldValue.{AtomWorldValue}
use Rattle.px_world.proofs.atom_world.AtomWorldWorld.sense.Goals as goal

pub loop-atom-init : goal.loop-atom-init
unfolding set_of
loop-atom-init c = record { atoms = c.requires.empty; spare = omega arith }

pub loop-atom-preserved : goal.loop-atom-preserved
loop-atom-preserved c =
    let items = c.atoms-atoms.result.now in
    record {
      atoms = c.insert_spare.ensures.atoms ∙ ap (with_atom c.atom-item.result) c.loop-atom.invariant.atoms
          ∙ set_of-push atom_cmp atom_cmp-total atom_cmp-same (take c.loop-atom.atom-index items) c.atom-item.result
          ∙ ap atom_set (ap (λ a. take c.loop-atom.atom-index items ++ a ∷ []) c.atom-item.is
          ∙ sym (take_more items c.loop-atom.atom-index _ c.loop-atom-test.true));
      spare = omega arith;
    }

pub returns-clause-atoms : goal.returns-clause-atoms
returns-clause-atoms c =
    let items = c.atoms-atoms.result.now in
    c.loop-atom.invariant.atoms ∙ ap atom_set (take_all c.loop-atom.atom-index items (omega (arith, c.loop-atom-test.false)))
    ∙ ap atom_set c.atoms-atoms.ensures.value ∙ set_of-sorted atom_cmp c.self.inside.atoms.atoms c.atoms-atoms.ensures.model.ascending
    ∙ ap (λ (w : AtomWorldValue). w.atoms) c.self.view_is
