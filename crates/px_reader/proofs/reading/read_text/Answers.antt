use Rattle.px_reader.proofs.Common.{ap, length, arith, lines_in, stage_view}
use Rattle.px_reader.proofs.Outcomes.{text-ends, unmarked-short}
use Rattle.px_reader.proofs.reading.read_text.Goals as goal

pub read_lines-requires-clause-few : goal.read_lines-requires-clause-few
read_lines-requires-clause-few c =
    omega (arith, unmarked-short c.args.text.now, ap length c.without_mark.ensures, c.requires)

pub returns-clause-script : goal.returns-clause-script
returns-clause-script c =
    (text-ends (stage_view c.args.stage.now) c.args.text.now _ c.read_lines.result (ap lines_in c.without_mark.ensures) c.utf8.text
    c.read_lines.ensures.script c.read_lines.ensures.fails).0

pub returns-clause-refused : goal.returns-clause-refused
returns-clause-refused c =
    (text-ends (stage_view c.args.stage.now) c.args.text.now _ c.read_lines.result (ap lines_in c.without_mark.ensures) c.utf8.text
    c.read_lines.ensures.script c.read_lines.ensures.fails).1
