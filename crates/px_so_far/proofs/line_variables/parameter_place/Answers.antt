use Rattle.px_so_far.proofs.Common.{◌≡◌, ◌∙◌, sym, arith, lit<, both_answers}
use Rattle.std.proofs.lemmas.Str.Pattern.{starts_char, strip_prefix_char}
use Rattle.px_so_far.proofs.TableVariables.{no-letter, no-digit, no-number, a-number}
use Rattle.px_so_far.proofs.line_variables.parameter_place.Goals as goal
use Rattle.px_so_far.proofs.line_variables.parameter_place.Goals.{then-starts_with-via-then-starts_with, then-starts_with-via-else-starts_with+then-starts_with-2}

pub returns-in_err-digits : goal.returns-in_err-digits
returns-in_err-digits c =
    let none = rw c.in_err-digits.was at
    (strip_prefix_char 112 c.args.name.now c.strip_prefix.result c.strip_prefix.ensures.cases (lit< tt)) in
    rw c.from_residual.ensures (no-letter c.args.name.now c.args.parameters none)

pub returns-then-starts_with : goal.returns-then-starts_with
returns-then-starts_with c =
    let digits = c.in_ok-digits.digits.now in
    let letter = rw c.in_ok-digits.was at
    (strip_prefix_char 112 c.args.name.now c.strip_prefix.result c.strip_prefix.ensures.cases (lit< tt)) in
    elim c.then-starts_with.branch [
      | then-starts_with-via-then-starts_with w ↦
          let zero = (starts_char 48 digits c.starts_with.result c.starts_with.ensures.cases (lit< tt) (lit< tt)).0 w.if-starts_with.true in
          no-digit c.args.name.now c.args.parameters digits c.ranges.parameters.fits letter (omega (arith, zero))
      | then-starts_with-via-else-starts_with+then-starts_with-2 w ↦
          let sign = (starts_char 43 digits w.starts_with-else-starts_with.result w.starts_with-else-starts_with.ensures.cases (lit< tt)
          (lit< tt)).0 w.if-starts_with-2.true in
          no-digit c.args.name.now c.args.parameters digits c.ranges.parameters.fits letter (omega (arith, sign))
    ]

pub returns-in-Ok : goal.returns-in-Ok
returns-in-Ok c =
    let digits = c.in_ok-digits.digits.now in
    let letter = rw c.in_ok-digits.was at
    (strip_prefix_char 112 c.args.name.now c.strip_prefix.result c.strip_prefix.ensures.cases (lit< tt)) in
    let zero = starts_char 48 digits c.starts_with.result c.starts_with.ensures.cases (lit< tt) (lit< tt) in
    let sign = starts_char 43 digits c.starts_with-else-starts_with.result c.starts_with-else-starts_with.ensures.cases (lit< tt)
    (lit< tt) in
    (a-number c.args.name.now c.args.parameters digits c.parse.result c.in-Ok.number c.ranges.parameters.fits letter
    c.parse.ensures.value.0 c.in-Ok.is c.if-number-parameters.true
    (λ e. both_answers c.starts_with.result c.if-starts_with.false (zero.1 e))
    (λ e. both_answers c.starts_with-else-starts_with.result c.if-starts_with-2.false (sign.1 e))).1

pub overflow_sub-result : goal.overflow_sub-result
overflow_sub-result c =
    let digits = c.in_ok-digits.digits.now in
    let letter = rw c.in_ok-digits.was at
    (strip_prefix_char 112 c.args.name.now c.strip_prefix.result c.strip_prefix.ensures.cases (lit< tt)) in
    let zero = starts_char 48 digits c.starts_with.result c.starts_with.ensures.cases (lit< tt) (lit< tt) in
    let sign = starts_char 43 digits c.starts_with-else-starts_with.result c.starts_with-else-starts_with.ensures.cases (lit< tt)
    (lit< tt) in
    let above = (a-number c.args.name.now c.args.parameters digits c.parse.result c.in-Ok.number c.ranges.parameters.fits letter
    c.parse.ensures.value.0 c.in-Ok.is c.if-number-parameters.true
    (λ e. both_answers c.starts_with.result c.if-starts_with.false (zero.1 e))
    (λ e. both_answers c.starts_with-else-starts_with.result c.if-starts_with-2.false (sign.1 e))).0 in omega (arith, above)

pub returns-in_default : goal.returns-in_default
returns-in_default c =
    let letter = rw c.in_ok-digits.was at
    (strip_prefix_char 112 c.args.name.now c.strip_prefix.result c.strip_prefix.ensures.cases (lit< tt)) in
    no-number c.args.name.now c.args.parameters c.in_ok-digits.digits.now c.parse.result c.ranges.parameters.fits letter
    c.parse.ensures.value.0 (λ n ok small. let both = sym ok ∙ c.in-Ok.is in let same : n ≡ c.in-Ok.number = cc in
    omega (arith, same, small, c.if-number-parameters.false))

pub returns-in_default-2 : goal.returns-in_default-2
returns-in_default-2 c =
    let letter = rw c.in_ok-digits.was at
    (strip_prefix_char 112 c.args.name.now c.strip_prefix.result c.strip_prefix.ensures.cases (lit< tt)) in
    no-number c.args.name.now c.args.parameters c.in_ok-digits.digits.now c.parse.result c.ranges.parameters.fits letter
    c.parse.ensures.value.0
    (λ n ok small. let is = c.in_default.is in cc)
