use Rattle.std.proofs.Common.{sym, ◌∙◌}
use Rattle.px_match.proofs.raising.try_object.Goals as goal

pub returns-clause-changed : goal.returns-clause-changed
returns-clause-changed c = record {
  grown = λ k is. c.raise.ensures.grown k (c.put_object.ensures.grown k is);
  same = c.put_object.ensures.others;
  stale =
      λ differs k later within is. c.raise.ensures.grown _
      (c.put_object.ensures.stale (λ same. differs (same ∙ sym c.put_object.ensures.put)) k later within is);
}
