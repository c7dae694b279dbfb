use Rattle.std.proofs.Common.{refl}
use Rattle.px_terms.specs.Operators.{deletes}
use Rattle.px_entries.proofs.LeftSteps.{left-same}
use Rattle.px_entries.proofs.entry_rows.left_in_place.Goals as goal

pub returns-then-stay : goal.returns-then-stay
returns-then-stay c =
    left-same (deletes c.args.problem.now c.args.inst.now) c.atoms.result.now c.args.facts.atoms c.args.facts.atoms c.atoms.ensures.value
    (c.none_is_deleted-stay.ensures c.if-stay.true) refl
