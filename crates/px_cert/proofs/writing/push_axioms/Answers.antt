use Rattle.std.proofs.Common.{◌<◌, length, arith}
use Rattle.std.specs.Prelude.{string_bytes}
use Rattle.px_terms.specs.declared.clause.Clause.{Clause}
use Rattle.px_cert.specs.Lines.{clause, line_bytes}
use Rattle.px_cert.proofs.TextLines.{axiom_written}
use Rattle.px_cert.proofs.writing.push_axioms.Goals as goal

pub loop-number-preserved : goal.loop-number-preserved
loop-number-preserved c =
    let made : Clause = record { variable_count = c.variable_count.result; lits = c.lits.result.now } in
    let below : c.loop-number.number < length c.args.arena.now = omega (arith, c.count-number-end.ensures.count) in
    axiom_written (λ (x : Clause). line_bytes (clause x)) c.args.arena.now c.loop-number.number made (string_bytes c.push_count.new.text)
    (string_bytes c.loop-number.text) (string_bytes c.push_axiom.new.text) below c.variable_count.ensures.value c.lits.ensures.value
    c.loop-number.invariant c.in_ok-push_axiom.ensures
