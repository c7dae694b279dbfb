use Rattle.std.proofs.Common.{◌∙◌, ◌↔◌, List, subst, sym}
use Rattle.std.specs.Prelude.{Contains}
use Rattle.px_prover.proofs.UnderValues.{atoms-within, list-made, terms-within}
use Rattle.px_terms.specs.AtomSets.{IsAtomSet}
use Rattle.px_terms.specs.declared.atom.Atom.{Atom}
use Rattle.px_prover.proofs.listing.list_under.Goals as goal

pub values_of-requires : goal.values_of-requires
values_of-requires c =
    terms-within c.args.pattern.now c.args.values.now c.as_slice-terms.result.now c.requires.closed c.requires.count
    c.as_slice-terms.ensures

pub atoms_under-requires : goal.atoms_under-requires
atoms_under-requires c =
    atoms-within c.args.pattern.now c.args.values.now c.as_slice-atoms.result.now c.deref.result.now c.requires.closed c.requires.count
    c.as_slice-atoms.ensures (c.deref.ensures.value ∙ c.in_ok-under.ensures)

pub returns : goal.returns
returns c =
    list-made c.args.pattern.now c.args.values.now c.as_slice-terms.result.now c.as_slice-atoms.result.now c.deref.result.now
    c.in_ok-atoms_under.field-0.items _ c.requires.closed c.requires.count c.as_slice-terms.ensures c.as_slice-atoms.ensures
    (c.deref.ensures.value ∙ c.in_ok-under.ensures) c.in_ok-atoms_under.ensures (c.from_vec.ensures ∙ c.in_ok-objects.ensures)
    (subst IsAtomSet (sym c.from_vec-2.ensures) c.as_set-gaps.ensures.order)
    (λ a. subst (λ (xs : List Atom). Contains xs a ↔ Contains c.in_ok-atoms_under.field-0.items a) (sym c.from_vec-2.ensures)
    (c.as_set-gaps.ensures.members a))
