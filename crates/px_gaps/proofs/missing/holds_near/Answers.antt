use Rattle.std.proofs.Common.{List, refl, subst}
use Rattle.std.specs.Prelude.{Contains, Err, Ok}
use Rattle.px_ops.proofs.ModelLemmas.{place-decides, searched_place}
use Rattle.px_terms.specs.declared.atom.Atom.{Atom}
use Rattle.px_gaps.proofs.missing.holds_near.Goals as goal

pub returns-then-stands_at : goal.returns-then-stands_at
returns-then-stands_at c =
    (λ _. subst (λ (l : List Atom). Contains l c.args.atom.now) c.atoms-atoms.ensures.value (c.stands_at.ensures c.if-stands_at.true).1, λ _. refl)

pub returns-in-Ok : goal.returns-in-Ok
returns-in-Ok c =
    place-decides c.args.set.now.atoms c.args.atom.now (Ok c.in-Ok.place)
    (searched_place c.args.set.now.atoms c.args.atom.now (Ok c.in-Ok.place) c.atoms-atoms.ensures.model.ascending
    (rw c.atoms-atoms.ensures.value at c.in-Ok.ensures.bound) (rw c.atoms-atoms.ensures.value at c.in-Ok.ensures.position))

pub returns-in-Err : goal.returns-in-Err
returns-in-Err c =
    place-decides c.args.set.now.atoms c.args.atom.now (Err c.in-Err.place)
    (searched_place c.args.set.now.atoms c.args.atom.now (Err c.in-Err.place) c.atoms-atoms.ensures.model.ascending
    (rw c.atoms-atoms.ensures.value at c.in-Err.ensures.bound) (rw c.atoms-atoms.ensures.value at c.in-Err.ensures.position))
