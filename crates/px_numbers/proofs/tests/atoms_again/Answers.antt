use Rattle.px_numbers.proofs.tests.atoms_again.Goals as goal

pub model-requires : goal.model-requires
model-requires g c = (c.in_ok-model.model.atoms, c.in_ok-number.ensures.model)
