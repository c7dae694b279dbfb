use Rattle.std.proofs.Common.{◌≤◌, ◌-◌, length, is_ok, min, arith}
use Rattle.std.specs.Prelude.{vec_capacity}
use Rattle.px_base.specs.Bounds.{u32_max}
use Rattle.px_ops.proofs.ModelLemmas.{inserted, put_model}
use Rattle.px_ops.proofs.model.Model.put.Goals as goal

pub invariant_of-self : goal.invariant_of-self
invariant_of-self c =
    put_model c.self.inside.atoms.items c.insert.new.self.items c.args.atom c.args.place (vec_capacity c.self.inside.atoms)
    (is_ok c.insert.result) (rw (← c.self.view_is) at c.requires.place) c.insert.ensures.items
    c.self.invariant c.requires.is_ground (rw (← c.self.view_is) at c.requires.room)

pub returns-clause-atoms : goal.returns-clause-atoms
returns-clause-atoms c =
    let room : 1 ≤ min (vec_capacity c.self.inside.atoms) u32_max - length c.self.inside.atoms.items =
    rw (← c.self.view_is) at c.requires.room in
    rw (← c.self.view_is)
    (inserted c.self.inside.atoms.items c.insert.new.self.items c.args.atom c.args.place (is_ok c.insert.result)
    (rw (← c.self.view_is) at c.requires.place) c.insert.ensures.items
    (c.insert.ensures.succeeds (omega (arith, room))))

pub returns-clause-model : goal.returns-clause-model
returns-clause-model c =
    put_model c.self.inside.atoms.items c.insert.new.self.items c.args.atom c.args.place (vec_capacity c.self.inside.atoms)
    (is_ok c.insert.result) (rw (← c.self.view_is) at c.requires.place) c.insert.ensures.items
    c.self.invariant c.requires.is_ground (rw (← c.self.view_is) at c.requires.room)
