use Rattle.std.proofs.Common.{◌≡◌, ◌<◌, Some, List, map, length, slice_get, ap, sym, ◌∙◌, subst, arith}
use Rattle.std.proofs.lemmas.List.{length-map}
use Rattle.px_terms.specs.declared.atom.Atom.{Atom}
use Rattle.px_terms.specs.Operators.{precondition}
use Rattle.px_proof.specs.declared.proof.Proof.{Proof}
use Rattle.px_proof.specs.ProofTerm.{derivation_of}
use Rattle.px_proof.specs.PlaceLaws.{slice_get-map, slice_get-read}
use Rattle.px_table.specs.Tables.{rows_of}
use Rattle.px_replay.specs.Opened.{row_pairs}
use Rattle.px_replay.specs.Replaying.{CanReplayRow, IsReplayOf}
use Rattle.px_replay.proofs.RowSteps.{last_can, plan_forms-length, row_can, rows-last, rows-on}
use Rattle.px_replay.proofs.rows.replay_rows.Goals as goal

pub bounds-rows-k : goal.bounds-rows-k
bounds-rows-k c =
    let long = plan_forms-length c.args.problem.now c.args.steps.now c.args.goal.now (rows_of c.args.rows.now) c.requires.can.forms in
    omega (arith, long, length-map c.args.rows.now (map derivation_of), c.loop-k-test.true)

pub bounds-rows-steps : goal.bounds-rows-steps
bounds-rows-steps c =
    let long = plan_forms-length c.args.problem.now c.args.steps.now c.args.goal.now (rows_of c.args.rows.now) c.requires.can.forms in
    omega (arith, long, length-map c.args.rows.now (map derivation_of))

pub replay_row-requires : goal.replay_row-requires
replay_row-requires c =
    let long = plan_forms-length c.args.problem.now c.args.steps.now c.args.goal.now (rows_of c.args.rows.now) c.requires.can.forms in
    let within : c.loop-k.k < length c.args.rows.now =
    omega (arith, long, length-map c.args.rows.now (map derivation_of), c.loop-k-test.true) in
    let at_row =
    slice_get-map (map derivation_of) c.args.rows.now c.loop-k.k c.index-rows-k.result
    (slice_get-read c.args.rows.now c.loop-k.k c.index-rows-k.result within ∙ ap Some (sym c.index-rows-k.is)) in
    let at_step = slice_get-read c.args.steps.now c.loop-k.k c.index-steps-k.result c.loop-k-test.true ∙ ap Some (sym c.index-steps-k.is) in
    let atoms_are : c.deref.result.now ≡ precondition c.args.problem.now c.index-steps-k.result =
    c.deref.ensures.value ∙ c.in_ok-atoms.ensures in
    let can =
    row_can c.args.problem.now c.args.steps.now c.args.goal.now
    (rows_of c.args.rows.now) c.args.bind.now c.loop-k.bind c.loop-k.k c.index-steps-k.result
    (map derivation_of c.index-rows-k.result) at_step at_row c.loop-k.invariant in
    subst (λ (atoms : List Atom). CanReplayRow c.args.problem.now.axioms atoms (map derivation_of c.proofs.result.now) c.loop-k.bind)
    (sym atoms_are)
    (subst (λ (row : List Proof). CanReplayRow c.args.problem.now.axioms (precondition c.args.problem.now c.index-steps-k.result)
    (map derivation_of row) c.loop-k.bind) (sym c.proofs.ensures) can)

pub loop-k-preserved : goal.loop-k-preserved
loop-k-preserved c =
    let long = plan_forms-length c.args.problem.now c.args.steps.now c.args.goal.now (rows_of c.args.rows.now) c.requires.can.forms in
    let within : c.loop-k.k < length c.args.rows.now =
    omega (arith, long, length-map c.args.rows.now (map derivation_of), c.loop-k-test.true) in
    let at_row =
    slice_get-map (map derivation_of) c.args.rows.now c.loop-k.k c.index-rows-k.result
    (slice_get-read c.args.rows.now c.loop-k.k c.index-rows-k.result within ∙ ap Some (sym c.index-rows-k.is)) in
    let at_step = slice_get-read c.args.steps.now c.loop-k.k c.index-steps-k.result c.loop-k-test.true ∙ ap Some (sym c.index-steps-k.is) in
    let atoms_are : c.deref.result.now ≡ precondition c.args.problem.now c.index-steps-k.result =
    c.deref.ensures.value ∙ c.in_ok-atoms.ensures in
    rows-on c.args.problem.now c.args.steps.now c.args.goal.now
    (rows_of c.args.rows.now) c.args.bind.now c.loop-k.bind c.loop-k.k c.index-steps-k.result
    (map derivation_of c.index-rows-k.result) at_step at_row c.loop-k.invariant
    c.replay_row.new.bind
    (subst (λ (atoms : List Atom). IsReplayOf c.loop-k.bind c.replay_row.new.bind
    (row_pairs c.args.problem.now.axioms atoms (map derivation_of c.index-rows-k.result))) atoms_are
    (subst (λ (row : List Proof). IsReplayOf c.loop-k.bind c.replay_row.new.bind
    (row_pairs c.args.problem.now.axioms c.deref.result.now (map derivation_of row))) c.proofs.ensures c.replay_row.ensures))

pub replay_row-requires-2 : goal.replay_row-requires-2
replay_row-requires-2 c =
    let long = plan_forms-length c.args.problem.now c.args.steps.now c.args.goal.now (rows_of c.args.rows.now) c.requires.can.forms in
    let past : c.loop-k.k ≡ length c.args.steps.now = omega (arith, c.loop-k-test.false, c.loop-k.auto.k-end) in
    let within : c.loop-k.k < length c.args.rows.now = omega (arith, long, length-map c.args.rows.now (map derivation_of), past) in
    let here : slice_get c.args.rows.now c.loop-k.k ≡ Some c.index-rows-steps.result =
    ap (slice_get c.args.rows.now) past
    ∙ slice_get-read c.args.rows.now (length c.args.steps.now) c.index-rows-steps.result (omega (arith, within, past))
    ∙ ap Some (sym c.index-rows-steps.is) in
    let at_row = slice_get-map (map derivation_of) c.args.rows.now c.loop-k.k c.index-rows-steps.result here in
    let can =
    last_can c.args.problem.now c.args.steps.now c.args.goal.now (rows_of c.args.rows.now) c.args.bind.now c.loop-k.bind c.loop-k.k
    (map derivation_of c.index-rows-steps.result) past at_row long c.loop-k.invariant in
    subst (λ (row : List Proof). CanReplayRow c.args.problem.now.axioms c.args.goal.now (map derivation_of row) c.loop-k.bind)
    (sym c.proofs-2.ensures) can

pub returns : goal.returns
returns c =
    let long = plan_forms-length c.args.problem.now c.args.steps.now c.args.goal.now (rows_of c.args.rows.now) c.requires.can.forms in
    let past : c.loop-k.k ≡ length c.args.steps.now = omega (arith, c.loop-k-test.false, c.loop-k.auto.k-end) in
    let within : c.loop-k.k < length c.args.rows.now = omega (arith, long, length-map c.args.rows.now (map derivation_of), past) in
    let here : slice_get c.args.rows.now c.loop-k.k ≡ Some c.index-rows-steps.result =
    ap (slice_get c.args.rows.now) past
    ∙ slice_get-read c.args.rows.now (length c.args.steps.now) c.index-rows-steps.result (omega (arith, within, past))
    ∙ ap Some (sym c.index-rows-steps.is) in
    let at_row = slice_get-map (map derivation_of) c.args.rows.now c.loop-k.k c.index-rows-steps.result here in
    rows-last c.args.problem.now c.args.steps.now c.args.goal.now (rows_of c.args.rows.now) c.args.bind.now c.loop-k.bind c.loop-k.k
    (map derivation_of c.index-rows-steps.result) past at_row long c.loop-k.invariant
    c.replay_row-2.new.bind (subst (λ (row : List Proof). IsReplayOf c.loop-k.bind c.replay_row-2.new.bind
    (row_pairs c.args.problem.now.axioms c.args.goal.now (map derivation_of row))) c.proofs-2.ensures c.replay_row-2.ensures)
