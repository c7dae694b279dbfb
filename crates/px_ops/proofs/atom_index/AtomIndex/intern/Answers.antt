use Rattle.std.proofs.Common.{List, sym, subst}
use Rattle.std.specs.Prelude.{Contains, IfOk}
use Rattle.px_terms.specs.declared.atom.Atom.{Atom}
use Rattle.px_terms.specs.Order.{atom_eq}
use Rattle.px_terms.specs.OrderLaws.{atom_eq-decides}
use Rattle.px_ops.specs.Keeping.{Keeps}
use Rattle.px_ops.specs.KeepLaws.{keeps, there}
use Rattle.px_ops.proofs.IndexLemmas.{kept_index}
use Rattle.px_ops.proofs.atom_index.AtomIndex.intern.Goals as goal

pub invariant_of-self : goal.invariant_of-self
invariant_of-self c =
    kept_index c.self.inside.atoms.keys c.keep.new.set.keys c.args.atom.now c.keep.result c.self.invariant c.requires
    (keeps atom_eq atom_eq-decides c.self.inside.atoms.keys c.keep.new.set.keys c.args.atom.now c.keep.result c.keep.ensures.keys
    c.keep.ensures.stored) c.keep.ensures.err c.keep.ensures.few

pub returns-clause-kept : goal.returns-clause-kept
returns-clause-kept c =
    subst (λ old. IfOk c.keep.result (Keeps old c.keep.new.set.keys c.args.atom.now)) c.self.view_is
    (keeps atom_eq atom_eq-decides c.self.inside.atoms.keys c.keep.new.set.keys c.args.atom.now c.keep.result c.keep.ensures.keys
    c.keep.ensures.stored)

pub returns-clause-there : goal.returns-clause-there
returns-clause-there c = λ has.
    c.keep.ensures.there
    (there atom_eq atom_eq-decides c.self.inside.atoms.keys c.args.atom.now
    (subst (λ (atoms : List Atom). Contains atoms c.args.atom.now) (sym c.self.view_is) has))

pub returns-clause-index : goal.returns-clause-index
returns-clause-index c =
    kept_index c.self.inside.atoms.keys c.keep.new.set.keys c.args.atom.now c.keep.result c.self.invariant c.requires
    (keeps atom_eq atom_eq-decides c.self.inside.atoms.keys c.keep.new.set.keys c.args.atom.now c.keep.result c.keep.ensures.keys
    c.keep.ensures.stored) c.keep.ensures.err c.keep.ensures.few
