use Rattle.px_ops.proofs.ModelLemmas.{with_atom-there, missing, found_there}
use Rattle.px_ops.proofs.model.Model.insert_spare.Goals as goal

pub returns-in-Ok-clause-atoms : goal.returns-in-Ok-clause-atoms
returns-in-Ok-clause-atoms c =
    with_atom-there c.args.self.now.atoms c.args.atom c.place_from_end.ensures.model.ascending
    (found_there c.args.self.now.atoms c.args.atom c.in-Ok.field-0 c.in-Ok.ensures.place)

pub returns-in-Err-clause-is_new : goal.returns-in-Err-clause-is_new
returns-in-Err-clause-is_new c = missing c.args.self.now.atoms c.args.atom c.in-Err.place c.in-Err.ensures.place
