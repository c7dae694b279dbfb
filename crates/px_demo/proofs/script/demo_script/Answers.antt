use Rattle.std.proofs.Common.{◌≡◌, rules}
use Rattle.px_demo.specs.Script.{demo_script}
use Rattle.px_demo.proofs.Lengths.{text_short}
use Rattle.px_demo.proofs.Texts.{script_text}
use Rattle.px_demo.proofs.script.demo_script.Goals as goal

pub returns-clause-short : goal.returns-clause-short
returns-clause-short c =
    let is : c.into_bytes.result.items ≡ demo_script c.args.rooms c.args.seed = search (rules, script_text) in
    text_short c.args.rooms c.args.seed c.into_bytes.result.items is c.requires.rooms.1
