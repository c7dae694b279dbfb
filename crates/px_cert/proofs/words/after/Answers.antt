use Rattle.std.proofs.lemmas.Bool.Decides.{Decides-eqb}
use Rattle.std.proofs.lemmas.Slice.Eq.{strip_prefix_is}
use Rattle.px_cert.proofs.DigitLoops.{after_is}
use Rattle.px_cert.proofs.words.after.Goals as goal

pub returns : goal.returns
returns c =
    after_is c.args.text.now c.args.bytes.now c.strip_prefix.result
    (strip_prefix_is Decides-eqb c.args.bytes.now c.args.text.now c.strip_prefix.result c.strip_prefix.ensures.cases)
