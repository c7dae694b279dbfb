-- Proof of the goal that `texts_are_bounded` of src/laws.rt leaves open.
use Rattle.px_lengths.proofs.Transcripts.{texts_are_bounded}
use Rattle.px_lengths.proofs.laws.texts_are_bounded.Goals as goal

pub returns : goal.returns
returns c = texts_are_bounded
