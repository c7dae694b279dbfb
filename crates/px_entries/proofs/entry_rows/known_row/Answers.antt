use Rattle.std.proofs.Common.{subst}
use Rattle.px_gaps.specs.declared.question.Obligation.{Obligation}
use Rattle.px_gaps.specs.Known.{IsTriedOf}
use Rattle.px_gaps.proofs.KnownSteps.{known-applicable, known-proof_limited}
use Rattle.px_entries.proofs.entry_rows.known_row.Goals as goal

pub returns-in-Ok-Answered : goal.returns-in-Ok-Answered
returns-in-Ok-Answered c =
    let needed : Obligation = record { formula = c.args.formula.now; variable_count = 0; facts = c.args.facts.now.atoms } in
    known-applicable c.args.problem.now needed (subst
    (IsTriedOf c.args.problem.now needed) c.in-Ok-Answered.field-0-is c.in-Ok-Answered.ensures)

pub returns-in-Ok-Limited : goal.returns-in-Ok-Limited
returns-in-Ok-Limited c =
    let needed : Obligation = record { formula = c.args.formula.now; variable_count = 0; facts = c.args.facts.now.atoms } in
    known-proof_limited c.args.problem.now needed c.in-Ok-Limited.limit
    (subst (IsTriedOf c.args.problem.now needed) c.in-Ok-Limited.field-0-is c.in-Ok-Limited.ensures)
