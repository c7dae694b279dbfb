use Rattle.px_effects.proofs.Common.{refl, chars}
use Rattle.unicode_ident.proofs.Computing.{unicode_ident}
use Rattle.px_effects.proofs.blocks.open_building.Goals as goal

pub declare_names-requires-clause-named : goal.declare_names-requires-clause-named
unfolding chars unicode_ident
declare_names-requires-clause-named c = (refl, tt)

pub declare_names-requires-2-clause-named : goal.declare_names-requires-2-clause-named
unfolding chars unicode_ident
declare_names-requires-2-clause-named c = (refl, (refl, (refl, (refl, (refl, (refl, (refl, (refl, tt))))))))

pub declare_names-requires-3-clause-named : goal.declare_names-requires-3-clause-named
unfolding chars unicode_ident
declare_names-requires-3-clause-named c = (refl, (refl, (refl, (refl, (refl, (refl, (refl, tt)))))))

pub declare_names-requires-2-clause-fresh : goal.declare_names-requires-2-clause-fresh
declare_names-requires-2-clause-fresh c = rw c.in_ok-declare_names.ensures c.requires.fresh.predicates

pub declare_names-requires-3-clause-fresh : goal.declare_names-requires-3-clause-fresh
declare_names-requires-3-clause-fresh c = rw (c.in_ok-declare_names-2.ensures, c.in_ok-declare_names.ensures) c.requires.fresh.operators

pub returns : goal.returns
returns c =
    rw (
      c.in_ok-extend_from_slice.ensures.items,
      c.new.ensures.items,
      c.in_ok-declare_names-3.ensures,
      c.in_ok-declare_names-2.ensures,
      c.in_ok-declare_names.ensures,
    ) refl
