use Rattle.px_ops.proofs.ModelLemmas.{with_atom-there, missing, found_there}
use Rattle.px_ops.proofs.model.Model.insert.Goals as goal

pub returns-in-Ok-clause-ok : goal.returns-in-Ok-clause-ok
returns-in-Ok-clause-ok c =
    with_atom-there c.args.self.now.atoms c.args.atom c.place_from_end.ensures.model.ascending
    (found_there c.args.self.now.atoms c.args.atom c.in-Ok.field-0 c.in-Ok.ensures.place)

pub returns-in_ok-reserve-in-Err-clause-is_new : goal.returns-in_ok-reserve-in-Err-clause-is_new
returns-in_ok-reserve-in-Err-clause-is_new c = missing c.args.self.now.atoms c.args.atom c.in-Err.place c.in-Err.ensures.place

pub returns-in_err-reserve-in-Err-clause-there : goal.returns-in_err-reserve-in-Err-clause-there
returns-in_err-reserve-in-Err-clause-there c =
    λ there. absurd (missing c.args.self.now.atoms c.args.atom c.in-Err.place c.in-Err.ensures.place there)
