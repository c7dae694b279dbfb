use Rattle.px_causes.proofs.limits.own_limit.Goals as goal

pub returns-in-Edit : goal.returns-in-Edit
returns-in-Edit c = rw c.in-Edit.is c.edit_limit-limit.ensures
