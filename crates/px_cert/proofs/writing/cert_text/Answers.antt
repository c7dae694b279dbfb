use Rattle.std.proofs.Common.{ℕ, Global, Vec, ap}
use Rattle.std.specs.Prelude.{string_bytes}
use Rattle.px_cert.proofs.Certifying.{accepted}
use Rattle.px_cert.proofs.TextLines.{text_written}
use Rattle.px_cert.proofs.writing.cert_text.Goals as goal

pub returns-clause-text : goal.returns-clause-text
returns-clause-text c =
    text_written c.args.problem.now c.args.table.now (string_bytes c.new-text.result) (string_bytes c.push_problem.new.text)
    (string_bytes c.push_table.new.text) c.into_bytes.result.items c.new-text.ensures.bytes c.in_ok-push_problem.ensures
    c.in_ok-push_table.ensures (ap (λ (v : Vec ℕ Global). v.items) c.into_bytes.ensures.value)

pub returns-clause-accepted : goal.returns-clause-accepted
returns-clause-accepted c =
    accepted c.args.problem.now c.args.table.now c.into_bytes.result.items
    (text_written c.args.problem.now c.args.table.now (string_bytes c.new-text.result) (string_bytes c.push_problem.new.text)
    (string_bytes c.push_table.new.text) c.into_bytes.result.items c.new-text.ensures.bytes c.in_ok-push_problem.ensures
    c.in_ok-push_table.ensures (ap (λ (v : Vec ℕ Global). v.items) c.into_bytes.ensures.value))
