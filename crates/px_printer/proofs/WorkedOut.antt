-- The worked texts compute.
use Rattle.std.proofs.Common.{refl}
use Rattle.std.specs.Fmt.{digits}
use Rattle.px_printer.specs.Worked.{WorkedBlock, WorkedTexts}

pub worked_block : WorkedBlock
unfolding digits
worked_block = record { block = refl; goal = refl; no_proofs = refl; steps = refl; parts = refl }

pub worked_texts : WorkedTexts
unfolding digits
worked_texts = record {
  not_saved = refl;
  edited = refl;
  not_edited = refl;
  certified = λ name bytes. refl;
  not_certified = refl;
  duo = refl;
  lost = refl;
  reached = refl;
  nodes = λ node. refl;
  shapes = λ node limit shape. refl;
  solved = refl;
  exhausted = refl;
  more = refl;
  limited = refl;
  yes = refl;
  no = refl;
}
