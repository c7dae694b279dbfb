use Rattle.std.proofs.lemmas.List.Elements.{Decides-contains, contains_decides}
use Rattle.std.specs.Prelude.{◌↔◌, IsTrue, Contains}
use Rattle.std.proofs.Common.{sym, ◌∙◌, subst}
use Rattle.px_terms.specs.Order.{atom_eq}
use Rattle.px_terms.specs.OrderLaws.{atom_eq-decides}
use Rattle.px_rooms.proofs.Worlds.{has-none, has-some}
use Rattle.px_rooms.proofs.world.RoomWorld.has.Goals as goal

pub returns-in-Some : goal.returns-in-Some
returns-in-Some c =
    has-some c.args.self.now c.args.atom.now c.in-Some.number c.contains.result (sym c.in-Some.ensures)
    (subst (λ xs. IsTrue c.contains.result ↔ Contains xs c.args.atom.now) (c.as_slice.ensures.value ∙ c.atoms_about.ensures)
    (Decides-contains c.as_slice.result.now c.args.atom.now c.contains.result
    (contains_decides atom_eq atom_eq-decides c.as_slice.result.now c.args.atom.now c.contains.result c.contains.ensures.cases)))

pub returns-in-None : goal.returns-in-None
returns-in-None c = has-none c.args.self.now c.args.atom.now (sym c.in-None.ensures)
