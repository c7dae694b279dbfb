use Rattle.std.proofs.Common.{◌≡◌, suc, ◌<◌, length, map, get_or, arith}
use Rattle.std.proofs.lemmas.List.{length-map}
use Rattle.px_proof.specs.ProofTerm.{derivation_of}
use Rattle.px_proof.specs.Proves.{IsObjectOrParameter}
use Rattle.px_table.specs.Tables.{rows_of}
use Rattle.px_table.proofs.RowSteps.{rows_length, rows_step, rows_last}
use Rattle.px_table.proofs.validation.rows_prove.Goals as goal

pub returns-then-rows-count : goal.returns-then-rows-count
returns-then-rows-count c = (
  λ yes. cc,
  λ proved.
      let long =
      rows_length (IsObjectOrParameter c.args.problem.now.objects c.args.params) c.args.problem.now c.args.params c.args.goal.now c.args.goal_variable_count c.args.steps.now
      (rows_of c.args.rows.now) proved in
      absurd (c.if-rows-count.true (omega (
        arith,
        long,
        length-map c.args.rows.now (map derivation_of),
      ))),
)

pub returns-then-not-row_proves : goal.returns-then-not-row_proves
returns-then-not-row_proves c =
    let is : c.index-steps-k.result ≡ get_or c.args.steps.now c.loop-k.k c.index-steps-k.result = c.index-steps-k.is in
    let is' : c.index-rows-k.result ≡ get_or c.args.rows.now c.loop-k.k c.index-rows-k.result = c.index-rows-k.is in
    let below : c.loop-k.k < length c.args.steps.now = c.loop-k-test.true in
    let long : length c.args.rows.now ≡ suc (length c.args.steps.now) =
    omega (arith, c.if-rows-count.false) in
    let split =
    rows_step (IsObjectOrParameter c.args.problem.now.objects c.args.params) c.args.problem.now c.args.params c.args.goal.now c.args.goal_variable_count c.args.steps.now c.args.rows.now
    c.loop-k.k
    c.index-steps-k.result c.index-rows-k.result is is' below (omega (arith, below, long)) in
    let exact = rw c.proofs.ensures at c.row_proves.ensures in (
      λ yes. cc,
      λ proved. let yes = exact.1 (split.0 (c.loop-k.invariant.1 proved)).0 in let no_row = c.if-not-row_proves.true in cc,
    )

pub loop-k-preserved : goal.loop-k-preserved
loop-k-preserved c =
    let is : c.index-steps-k.result ≡ get_or c.args.steps.now c.loop-k.k c.index-steps-k.result = c.index-steps-k.is in
    let is' : c.index-rows-k.result ≡ get_or c.args.rows.now c.loop-k.k c.index-rows-k.result = c.index-rows-k.is in
    let below : c.loop-k.k < length c.args.steps.now = c.loop-k-test.true in
    let long : length c.args.rows.now ≡ suc (length c.args.steps.now) =
    omega (arith, c.if-rows-count.false) in
    let split =
    rows_step (IsObjectOrParameter c.args.problem.now.objects c.args.params) c.args.problem.now c.args.params c.args.goal.now c.args.goal_variable_count c.args.steps.now c.args.rows.now
    c.loop-k.k
    c.index-steps-k.result c.index-rows-k.result is is' below (omega (arith, below, long)) in
    let exact = rw c.proofs.ensures at c.row_proves.ensures in (
      λ rest. c.loop-k.invariant.0 (split.1 (exact.0 c.if-not-row_proves.false, rest)),
      λ proved. (split.0 (c.loop-k.invariant.1 proved)).1,
    )

pub returns : goal.returns
returns c =
    let end : c.loop-k.k ≡ length c.args.steps.now =
    omega (arith, c.loop-k-test.false, c.loop-k.auto.k-end) in
    let count : length c.args.steps.now ≡ c.loop-k.k = omega (arith, end) in
    let is : c.index-rows-count.result ≡ get_or c.args.rows.now c.loop-k.k c.index-rows-count.result =
    rw count at c.index-rows-count.is in
    let long : length c.args.rows.now ≡ suc c.loop-k.k =
    omega (arith, end, c.if-rows-count.false) in
    let last =
    rows_last (IsObjectOrParameter c.args.problem.now.objects c.args.params) c.args.problem.now c.args.params c.args.goal.now c.args.goal_variable_count c.args.steps.now c.args.rows.now
    c.loop-k.k
    c.index-rows-count.result is end long in
    let exact = rw c.proofs-2.ensures at c.goal_is_proved.ensures in (
      λ yes. c.loop-k.invariant.0 (last.1 (exact.0 yes)),
      λ proved. exact.1 (last.0 (c.loop-k.invariant.1 proved)),
    )
