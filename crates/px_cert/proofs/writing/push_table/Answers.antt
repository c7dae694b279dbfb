use Rattle.std.specs.Prelude.{string_bytes}
use Rattle.px_base.proofs.Loops.{on_ok}
use Rattle.px_cert.proofs.TextLines.{table_written}
use Rattle.px_cert.proofs.writing.push_table.Goals as goal

pub returns : goal.returns
returns c =
    on_ok c.push_rows.result
    (table_written c.args.table.now c.as_slice.result.now c.as_slice-2.result.now c.as_slice-3.result.now c.as_slice-4.result.now
    (string_bytes c.args.text.now) (string_bytes c.push_numbers.new.text) (string_bytes c.push_goal.new.text)
    (string_bytes c.push_steps.new.text) (string_bytes c.push_rows.new.text) c.as_slice.ensures c.as_slice-2.ensures c.as_slice-3.ensures
    c.as_slice-4.ensures c.in_ok-push_numbers.ensures c.in_ok-push_goal.ensures c.in_ok-push_steps.ensures) c.push_rows.ensures
