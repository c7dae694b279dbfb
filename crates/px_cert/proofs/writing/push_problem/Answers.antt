use Rattle.std.specs.Prelude.{string_bytes}
use Rattle.px_base.proofs.Loops.{on_ok}
use Rattle.px_cert.proofs.TextLines.{problem_written}
use Rattle.px_cert.proofs.writing.push_problem.Goals as goal

pub returns : goal.returns
returns c =
    on_ok c.push_operators.result
    (problem_written c.args.problem.now c.as_slice.result.now c.as_slice-2.result.now c.as_slice-3.result.now (string_bytes c.args.text.now)
    (string_bytes c.push_str.new.self) (string_bytes c.push_numbers.new.text) (string_bytes c.push_arities.new.text)
    (string_bytes c.push_axioms.new.text) (string_bytes c.push_operators.new.text) c.as_slice.ensures c.as_slice-2.ensures
    c.as_slice-3.ensures c.in_ok-push_str.ensures.bytes c.in_ok-push_numbers.ensures c.in_ok-push_arities.ensures
    c.in_ok-push_axioms.ensures) c.push_operators.ensures
