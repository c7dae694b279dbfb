use Rattle.std.specs.Prelude.{All}
use Rattle.px_entries.specs.Plain.{IsSettled}
use Rattle.px_entries.proofs.PlainLaws.{plain-closed, some-no}
use Rattle.px_entries.proofs.plain.known_plain.Goals as goal

pub returns-in-Some-false : goal.returns-in-Some-false
returns-in-Some-false c =
    plain-closed c.args.problem.now c.requires.problem c.args.model.now.atoms c.args.formula.now c.requires.formula c.requires.apart
    c.requires.unlimited
    (some-no {P = All (IsSettled c.args.problem.now c.args.model.now.atoms) c.args.formula.now} c.in_ok-are_settled.field-0
    c.in-Some-false.field-0 c.in-Some-false.is c.in-Some-false.field-0-test c.in_ok-are_settled.ensures)
