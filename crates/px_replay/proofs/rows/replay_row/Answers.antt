use Rattle.std.proofs.Common.{◌≡◌, ◌<◌, Some, List, map, length, slice_get, ap, sym, ◌∙◌, subst, arith}
use Rattle.std.proofs.lemmas.List.{length-map}
use Rattle.px_terms.specs.declared.clause.Lit.{Lit}
use Rattle.px_proof.specs.ProofTerm.{derivation_of}
use Rattle.px_proof.specs.PlaceLaws.{slice_get-map, slice_get-read}
use Rattle.px_proof.specs.Literals.{positive_of}
use Rattle.px_replay.specs.Replay.{pairs_of}
use Rattle.px_replay.specs.Replaying.{CanReplay, IsReplayOf}
use Rattle.px_proof.specs.LayerLaws.{path_literals-root}
use Rattle.px_replay.proofs.RowSteps.{proof_can, row-last, row-on, row_forms-length}
use Rattle.px_replay.proofs.rows.replay_row.Goals as goal

pub bounds-atoms-k : goal.bounds-atoms-k
bounds-atoms-k c =
    let long = row_forms-length c.args.arena.now c.args.atoms.now (map derivation_of c.args.row.now) c.requires.forms in
    omega (arith, long, length-map c.args.row.now derivation_of, c.loop-k-test.true)

pub replay-requires : goal.replay-requires
replay-requires c =
    let at_proof : slice_get (map derivation_of c.args.row.now) c.loop-k.k ≡ Some (derivation_of c.index-row-k.result) =
    slice_get-map derivation_of c.args.row.now c.loop-k.k c.index-row-k.result
    (slice_get-read c.args.row.now c.loop-k.k c.index-row-k.result c.loop-k-test.true ∙ ap Some (sym c.index-row-k.is)) in
    let long = row_forms-length c.args.arena.now c.args.atoms.now (map derivation_of c.args.row.now) c.requires.forms in
    let within : c.loop-k.k < length c.args.atoms.now = omega (arith, long, length-map c.args.row.now derivation_of, c.loop-k-test.true) in
    let at_atom : slice_get c.args.atoms.now c.loop-k.k ≡ Some c.index-atoms-k.result =
    slice_get-read c.args.atoms.now c.loop-k.k c.index-atoms-k.result within ∙ ap Some (sym c.index-atoms-k.is) in
    subst (λ (path : List Lit). CanReplay c.args.arena.now path (positive_of c.index-atoms-k.result)
    (derivation_of c.index-row-k.result) c.loop-k.bind) (sym path_literals-root)
    (proof_can c.args.arena.now c.args.atoms.now (map derivation_of c.args.row.now) c.args.bind.now c.loop-k.bind c.loop-k.k
    c.index-atoms-k.result (derivation_of c.index-row-k.result) at_atom at_proof c.loop-k.invariant)

pub loop-k-preserved : goal.loop-k-preserved
loop-k-preserved c =
    let at_proof : slice_get (map derivation_of c.args.row.now) c.loop-k.k ≡ Some (derivation_of c.index-row-k.result) =
    slice_get-map derivation_of c.args.row.now c.loop-k.k c.index-row-k.result
    (slice_get-read c.args.row.now c.loop-k.k c.index-row-k.result c.loop-k-test.true ∙ ap Some (sym c.index-row-k.is)) in
    let long = row_forms-length c.args.arena.now c.args.atoms.now (map derivation_of c.args.row.now) c.requires.forms in
    let within : c.loop-k.k < length c.args.atoms.now = omega (arith, long, length-map c.args.row.now derivation_of, c.loop-k-test.true) in
    let at_atom : slice_get c.args.atoms.now c.loop-k.k ≡ Some c.index-atoms-k.result =
    slice_get-read c.args.atoms.now c.loop-k.k c.index-atoms-k.result within ∙ ap Some (sym c.index-atoms-k.is) in
    row-on c.args.arena.now c.args.atoms.now (map derivation_of c.args.row.now) c.args.bind.now c.loop-k.bind c.loop-k.k
    c.index-atoms-k.result (derivation_of c.index-row-k.result) at_atom at_proof c.loop-k.invariant
    c.replay.new.bind (subst (λ (path : List Lit). IsReplayOf c.loop-k.bind c.replay.new.bind
    (pairs_of c.args.arena.now path (positive_of c.index-atoms-k.result) (derivation_of c.index-row-k.result))) path_literals-root
    c.replay.ensures)

pub returns : goal.returns
returns c =
    row-last c.args.arena.now c.args.atoms.now (map derivation_of c.args.row.now) c.args.bind.now c.loop-k.bind c.loop-k.k
    c.loop-k.invariant (omega (arith, length-map c.args.row.now derivation_of, c.loop-k-test.false))
