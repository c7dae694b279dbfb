use Rattle.std.proofs.Common.{◌≡◌, ◌∙◌, get_or, subst, sym}
use Rattle.px_terms.specs.OrderLaws.{atom_eq-decides}
use Rattle.px_terms.specs.declared.atom.Atom.{Atom}
use Rattle.px_gaps.proofs.missing.stands_at.Goals as goal

pub returns-then-place-atoms : goal.returns-then-place-atoms
returns-then-place-atoms c = λ yes.
    let found = c.index-atoms-place.result in
    let same : found ≡ c.args.atom.now = (atom_eq-decides found c.args.atom.now).0 (sym c.eq.ensures ∙ yes) in
    let here : c.args.atom.now ≡ get_or c.args.atoms.now c.args.place c.args.atom.now =
    subst (λ (a : Atom). a ≡ get_or c.args.atoms.now c.args.place a) same c.index-atoms-place.is in
    (c.if-place-atoms.true, (c.args.place, c.if-place-atoms.true, sym here))
