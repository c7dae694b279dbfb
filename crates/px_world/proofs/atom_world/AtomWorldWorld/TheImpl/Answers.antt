use Rattle.px_world.proofs.atom_world.AtomWorldWorld.TheImpl.Goals as goal

-- which edits are admitted doesn't depend on the world
pub act-tells : goal.act-tells
act-tells g c = record {
  acted = c.ensures.acted;
  guard = c.ensures.guard;
  kept = c.ensures.kept;
  spare = c.ensures.spare;
  rules = c.ensures.rules;
  admitted = λ edit. (λ is. is, λ is. is);
}
