use Rattle.px_effects.proofs.Common.{◌++◌, [], map, refl, sym, ap, ◌∙◌, subst, take_all, set_of-sorted, atom_set, IsGround, atom_cmp, Atom, atom_of, declared_of, signed_view, SoFar}
use Rattle.px_lines.specs.declared.items.SignedAtom.{SignedAtom}
use Rattle.px_effects.proofs.Facts.{numbered, facts-more}
use Rattle.px_effects.proofs.declaring.add_facts.Goals as goal

pub loop-atom-init : goal.loop-atom-init
loop-atom-init c = (refl, sym (set_of-sorted atom_cmp c.args.so_far.now.facts.atoms c.requires.fact_set))

pub add_fact-requires : goal.add_fact-requires
add_fact-requires c =
    let f : SignedAtom → Atom = λ a. atom_of (declared_of c.args.so_far.now) [] (signed_view a) in
    let number : SoFar → Atom = λ r. atom_of (declared_of r) [] (signed_view c.atom-item.result) in
    let objects = c.requires.all_ground c.loop-atom.atom-index c.atom-item.result c.loop-atom-test.true in
    record { is_ground = subst IsGround (sym (c.atom.ensures ∙ ap number c.loop-atom.invariant.0 ∙ ap f c.atom-item.is)) objects }

pub loop-atom-preserved : goal.loop-atom-preserved
loop-atom-preserved c =
    let f : SignedAtom → Atom = λ a. atom_of (declared_of c.args.so_far.now) [] (signed_view a) in
    let number : SoFar → Atom = λ r. atom_of (declared_of r) [] (signed_view c.atom-item.result) in
    let changed : SoFar → SoFar = λ r. record r { facts = c.add_fact.new.so_far.facts } in (
      c.in_ok-add_fact.ensures.same ∙ ap changed c.loop-atom.invariant.0,
      c.in_ok-add_fact.ensures.facts ∙ facts-more f c.args.atoms.now c.args.so_far.now.facts.atoms c.loop-atom.atom-index
          c.atom-item.result c.atom.result c.loop-atom.so_far.facts.atoms
          (c.atom.ensures ∙ ap number c.loop-atom.invariant.0 ∙ ap f c.atom-item.is) c.loop-atom-test.true c.loop-atom.invariant.1,
    )

pub returns-clause-facts : goal.returns-clause-facts
returns-clause-facts c =
    let f : SignedAtom → Atom = λ a. atom_of (declared_of c.args.so_far.now) [] (signed_view a) in
    c.loop-atom.invariant.1 ∙ ap (λ t. atom_set (t ++ c.args.so_far.now.facts.atoms))
    (ap (map f) (take_all c.loop-atom.atom-index c.args.atoms.now c.loop-atom-test.false)
    ∙ sym (numbered (declared_of c.args.so_far.now) c.args.atoms.now))
