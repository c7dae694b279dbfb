use Rattle.std.proofs.Common.{length, ap, arith}
use Rattle.px_world.specs.AtomWorldValue.{AtomWorldValue}
use Rattle.px_ops.specs.ModelLaws.{with_atom-length, without_atom-length}
use Rattle.px_world.proofs.atom_world.AtomWorldWorld.disturb.Goals as goal

pub returns-in-Add-clause-number : goal.returns-in-Add-clause-number
returns-in-Add-clause-number c =
    let more = with_atom-length c.in-Add.atom c.self.inside.atoms.atoms in
    omega (arith, more, ap length c.insert_spare.ensures.atoms, ap (λ (w : AtomWorldValue). length w.atoms) c.self.view_is)

pub returns-in-Remove-clause-number : goal.returns-in-Remove-clause-number
returns-in-Remove-clause-number c =
    let fewer = without_atom-length c.in-Remove.atom c.self.inside.atoms.atoms in
    omega (arith, fewer, ap length c.remove.ensures.atoms, ap (λ (w : AtomWorldValue). length w.atoms) c.self.view_is)
