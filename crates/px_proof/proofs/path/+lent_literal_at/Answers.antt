use Rattle.std.proofs.Common.{◌∙◌, sym}
use Rattle.px_proof.specs.LayerLaws.{path_literals-under}
use Rattle.px_proof.specs.PlaceLaws.{slice_get-rest}
use Rattle.px_proof.proofs.path.+lent_literal_at.Goals as goal

pub returns-else-place-eq0 : goal.returns-else-place-eq0
returns-else-place-eq0 t c =
    rw (c.in-Under.is, path_literals-under) (c.lent_literal_at.ensures
    ∙ sym (slice_get-rest c.in-Under.lit.now _ c.args.place c.if-place-eq0.false))
