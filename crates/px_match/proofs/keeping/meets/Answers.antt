use Rattle.std.proofs.Common.{refl, sym, ◌∙◌}
use Rattle.px_match.proofs.Renewed.{met}
use Rattle.px_match.proofs.keeping.meets.Goals as goal

pub returns-then-is_same : goal.returns-then-is_same
returns-then-is_same c = (
  λ _. met c.atoms-atoms.result.now c.args.model.now.atoms c.loop-place.place c.index-atoms-place.result c.args.atom.now
      c.atoms-atoms.ensures.value c.loop-place-test.true
      c.index-atoms-place.is (sym c.is_same.ensures ∙ c.if-is_same.true),
  λ _. refl,
)
