use Rattle.std.specs.Prelude.{◌++◌, codes, string_bytes}
use Rattle.px_base.proofs.Loops.{on_ok}
use Rattle.px_cert.proofs.TextLines.{pushed, row_written}
use Rattle.px_cert.proofs.writing.push_row.Goals as goal

pub returns : goal.returns
returns c =
    on_ok c.push_str-2.result
    (row_written c.args.proofs.now (string_bytes c.args.text.now) (string_bytes c.push_str.new.self) (string_bytes c.push_number.new.text)
    (string_bytes c.push_proofs.new.text) (string_bytes c.push_str-2.new.self) c.in_ok-push_str.ensures.bytes c.in_ok-push_number.ensures
    c.in_ok-push_proofs.ensures)
    (pushed c.push_str-2.result (string_bytes c.push_str-2.new.self) (string_bytes c.push_proofs.new.text ++ codes "\n")
    (string_bytes c.push_proofs.new.text) c.push_str-2.ensures.bytes)
