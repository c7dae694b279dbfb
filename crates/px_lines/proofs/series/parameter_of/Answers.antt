use Rattle.px_lines.proofs.Common.{◌∙◌, arith, lit<, strip_prefix_char, starts_char}
use Rattle.px_base.specs.Answers.{both_answers}
use Rattle.px_lines.proofs.Parameters.{no-letter, no-digit, no-number, a-number}
use Rattle.px_lines.proofs.series.parameter_of.Goals as goal
use Rattle.px_lines.proofs.series.parameter_of.Goals.{then-starts_with-via-then-starts_with, then-starts_with-via-else-starts_with+then-starts_with-2}

pub returns-in_err-digits : goal.returns-in_err-digits
returns-in_err-digits c =
    let none = rw c.in_err-digits.was at
    (strip_prefix_char 112 c.args.name.now c.strip_prefix.result c.strip_prefix.ensures.cases (lit< tt)) in
    c.from_residual.ensures ∙ no-letter c.args.name.now none

pub returns-then-starts_with : goal.returns-then-starts_with
returns-then-starts_with c =
    let digits = c.in_ok-digits.digits.now in
    let letter = rw c.in_ok-digits.was at
    (strip_prefix_char 112 c.args.name.now c.strip_prefix.result c.strip_prefix.ensures.cases (lit< tt)) in
    elim c.then-starts_with.branch [
      | then-starts_with-via-then-starts_with w ↦
          let zero = (starts_char 48 digits c.starts_with.result c.starts_with.ensures.cases (lit< tt) (lit< tt)).0 w.if-starts_with.true in
          no-digit c.args.name.now digits letter (omega (arith, zero))
      | then-starts_with-via-else-starts_with+then-starts_with-2 w ↦
          let sign = (starts_char 43 digits w.starts_with-else-starts_with.result w.starts_with-else-starts_with.ensures.cases (lit< tt)
          (lit< tt)).0 w.if-starts_with-2.true in
          no-digit c.args.name.now digits letter (omega (arith, sign))
    ]

pub returns-in-Ok : goal.returns-in-Ok
returns-in-Ok c =
    let digits = c.in_ok-digits.digits.now in
    let letter = rw c.in_ok-digits.was at
    (strip_prefix_char 112 c.args.name.now c.strip_prefix.result c.strip_prefix.ensures.cases (lit< tt)) in
    let zero = starts_char 48 digits c.starts_with.result c.starts_with.ensures.cases (lit< tt) (lit< tt) in
    let sign = starts_char 43 digits c.starts_with-else-starts_with.result c.starts_with-else-starts_with.ensures.cases (lit< tt)
    (lit< tt) in
    a-number c.args.name.now digits c.parse.result c.in-Ok.number letter c.parse.ensures.value.0 c.in-Ok.is
    c.if-number-le-LAST_PARAMETER.true
    (λ e. both_answers c.starts_with.result c.if-starts_with.false (zero.1 e))
    (λ e. both_answers c.starts_with-else-starts_with.result c.if-starts_with-2.false (sign.1 e))

pub returns-in_default-2 : goal.returns-in_default-2
returns-in_default-2 c =
    let letter = rw c.in_ok-digits.was at
    (strip_prefix_char 112 c.args.name.now c.strip_prefix.result c.strip_prefix.ensures.cases (lit< tt)) in
    no-number c.args.name.now c.in_ok-digits.digits.now c.parse.result letter c.parse.ensures.value.0
    (λ n ok small. let is = c.in_default.is in cc)
