use Rattle.std.proofs.Common.{◌∙◌, ap, length, refl, sym}
use Rattle.std.specs.Prelude.{Some}
use Rattle.std.proofs.lemmas.Option.{slice_get_read}
use Rattle.px_support.proofs.macros.proofs_at.Goals as goal

pub returns : goal.returns
returns c =
    slice_get_read c.args.table.now.proofs (length c.args.table.now.proofs) c.args.place c.index-rows-place.result refl c.requires
    (rw c.as_slice-rows.ensures at c.index-rows-place.is)
    ∙ ap Some (sym c.proofs.ensures)
