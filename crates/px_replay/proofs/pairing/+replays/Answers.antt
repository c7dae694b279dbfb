use Rattle.std.proofs.Common.{rules, ◌≡◌, Some, map, slice_get, ap, sym, subst, ◌∙◌, arith}
use Rattle.px_proof.specs.Derivation.{Derivation, derivations}
use Rattle.px_proof.specs.ProofTerm.{derivation_of}
use Rattle.px_proof.specs.Proves.{parts_of}
use Rattle.px_proof.specs.Path.{path_literals}
use Rattle.px_replay.specs.Replay.{pairs_of}
use Rattle.px_replay.specs.Replaying.{CanReplay, IsReplayOf}
use Rattle.px_proof.specs.LayerLaws.{derivation_of-fact, derivation_of-ancestor, path_literals-under}
use Rattle.px_proof.specs.declared.proof.Proof.TheViews.{the_lemmas}
use Rattle.px_proof.specs.PlaceLaws.{slice_get-map, slice_get-read}
use Rattle.std.proofs.lemmas.List.{length-map}
use Rattle.px_proof.proofs.Parts.{length-parts_of}
use Rattle.px_replay.proofs.ReplaySteps.{ancestor_below, ancestor_replayed, ancestor_solved, fact_solved, forms-length, goes-last, goes-on, no_clause, one_replayed, part_can, step_each, step_head, step_head_below, step_place, step_plain, step_replayed, step_solved}
use Rattle.px_replay.proofs.pairing.+replays.Goals as goal

pub replay-make_equal-requires-clause-solved : goal.replay-make_equal-requires-clause-solved
replay-make_equal-requires-clause-solved t c =
    let is = ap derivation_of c.in-Fact.is ∙ derivation_of-fact c.in-Fact.leaf in
    fact_solved c.args.arena.now (path_literals c.args.path.now) c.args.lit.now c.args.bind.now c.in-Fact.leaf
    (subst (λ (d : Derivation). CanReplay c.args.arena.now (path_literals c.args.path.now) c.args.lit.now d c.args.bind.now) is c.requires)

pub replay-make_equal-requires-in-Some-clause-b_below :
    goal.replay-make_equal-requires-in-Some-clause-b_below
replay-make_equal-requires-in-Some-clause-b_below t c =
    let is = ap derivation_of c.in-Anc.is ∙ derivation_of-ancestor c.in-Anc.place in
    ancestor_below c.args.arena.now (path_literals c.args.path.now) c.args.lit.now c.args.bind.now c.in-Anc.place c.in-Some.above
    (subst (λ (d : Derivation). CanReplay c.args.arena.now (path_literals c.args.path.now) c.args.lit.now d c.args.bind.now) is c.requires)
    (sym c.literal_at.ensures ∙ c.in-Some.is)

pub replay-make_equal-requires-in-Some-clause-solved :
    goal.replay-make_equal-requires-in-Some-clause-solved
replay-make_equal-requires-in-Some-clause-solved t c =
    let is = ap derivation_of c.in-Anc.is ∙ derivation_of-ancestor c.in-Anc.place in
    ancestor_solved c.args.arena.now (path_literals c.args.path.now) c.args.lit.now c.args.bind.now c.in-Anc.place c.in-Some.above
    (subst (λ (d : Derivation). CanReplay c.args.arena.now (path_literals c.args.path.now) c.args.lit.now d c.args.bind.now) is c.requires)
    (sym c.literal_at.ensures ∙ c.in-Some.is)

pub replay-returns-in-Fact : goal.replay-returns-in-Fact
replay-returns-in-Fact t c =
    let is = ap derivation_of c.in-Fact.is ∙ derivation_of-fact c.in-Fact.leaf in
    subst (λ (d : Derivation). IsReplayOf c.args.bind.now c.make_equal.new.bind
    (pairs_of c.args.arena.now (path_literals c.args.path.now) c.args.lit.now d)) (sym is)
    (one_replayed c.args.bind.now c.make_equal.new.bind c.args.lit.now.atom c.in-Fact.leaf.atom c.make_equal.ensures.narrowed
    c.make_equal.ensures.grows c.make_equal.ensures.solvable)

pub replay-returns-in-Some : goal.replay-returns-in-Some
replay-returns-in-Some t c =
    let is = ap derivation_of c.in-Anc.is ∙ derivation_of-ancestor c.in-Anc.place in
    subst (λ (d : Derivation). IsReplayOf c.args.bind.now c.make_equal-in-Some.new.bind
    (pairs_of c.args.arena.now (path_literals c.args.path.now) c.args.lit.now d)) (sym is)
    (ancestor_replayed c.args.arena.now (path_literals c.args.path.now) c.args.lit.now c.args.bind.now c.make_equal-in-Some.new.bind
    c.in-Anc.place c.in-Some.above (sym c.literal_at.ensures ∙ c.in-Some.is)
    (one_replayed c.args.bind.now c.make_equal-in-Some.new.bind c.args.lit.now.atom c.in-Some.above.atom
    c.make_equal-in-Some.ensures.narrowed c.make_equal-in-Some.ensures.grows c.make_equal-in-Some.ensures.solvable))

pub replay_each-part_at-part-requires-clause-part : goal.replay_each-part_at-part-requires-clause-part
replay_each-part_at-part-requires-clause-part t c =
    let long =
    forms-length c.args.arena.now (path_literals c.args.path.now) (parts_of c.args.lits.now c.args.theta.now c.args.place)
    (map derivation_of c.args.subs.now) c.requires.can.forms in
    omega (
      arith,
      long,
      length-map c.args.subs.now derivation_of,
      length-parts_of c.args.lits.now c.args.theta.now c.args.place c.requires.place,
      c.loop-k-test.true,
    )

pub replay_each-replay-requires : goal.replay_each-replay-requires
replay_each-replay-requires t c =
    let at_sub : slice_get (map derivation_of c.args.subs.now) c.loop-k.k ≡ Some (derivation_of c.index-subs-k.result) =
    slice_get-map derivation_of c.args.subs.now c.loop-k.k c.index-subs-k.result
    (slice_get-read c.args.subs.now c.loop-k.k c.index-subs-k.result c.loop-k-test.true ∙ ap Some (sym c.index-subs-k.is)) in
    let can =
    part_can c.args.arena.now (path_literals c.args.path.now) (parts_of c.args.lits.now c.args.theta.now c.args.place)
    (map derivation_of c.args.subs.now) c.args.bind.now c.loop-k.bind c.loop-k.k
    c.part_at-part.result (derivation_of c.index-subs-k.result) c.part_at-part.ensures at_sub c.loop-k.invariant in
    (search (rules, the_lemmas), can)

pub replay_each-loop-k-preserved : goal.replay_each-loop-k-preserved
replay_each-loop-k-preserved t c =
    let at_sub : slice_get (map derivation_of c.args.subs.now) c.loop-k.k ≡ Some (derivation_of c.index-subs-k.result) =
    slice_get-map derivation_of c.args.subs.now c.loop-k.k c.index-subs-k.result
    (slice_get-read c.args.subs.now c.loop-k.k c.index-subs-k.result c.loop-k-test.true ∙ ap Some (sym c.index-subs-k.is)) in
    goes-on c.args.arena.now (path_literals c.args.path.now) (parts_of c.args.lits.now c.args.theta.now c.args.place)
    (map derivation_of c.args.subs.now) c.args.bind.now c.loop-k.bind c.loop-k.k
    c.part_at-part.result (derivation_of c.index-subs-k.result) c.part_at-part.ensures at_sub c.loop-k.invariant c.replay.new.bind
    c.replay.ensures

pub replay_step-make_equal-requires-clause-b_below : goal.replay_step-make_equal-requires-clause-b_below
replay_step-make_equal-requires-clause-b_below t c =
    rw c.apply.ensures (step_head_below c.args.arena.now
    (path_literals c.args.path.now) c.args.lit.now c.args.bind.now c.args.clause c.args.theta.now c.args.place
    (derivations (map derivation_of c.args.subs.now)) c.requires
    c.lits-lits.result.now (c.lits-lits.ensures.value no_clause) c.lits-lits.ensures.arena c.index-lits-place.result)

pub replay_step-make_equal-requires-clause-solved : goal.replay_step-make_equal-requires-clause-solved
replay_step-make_equal-requires-clause-solved t c =
    step_solved c.args.arena.now (path_literals c.args.path.now) c.args.lit.now c.args.bind.now c.args.clause c.args.theta.now c.args.place
    (derivations (map derivation_of c.args.subs.now)) c.requires
    c.lits-lits.result.now (c.lits-lits.ensures.value no_clause) c.lits-lits.ensures.arena c.apply.result
    (c.apply.ensures ∙ step_head c.args.arena.now (path_literals c.args.path.now) c.args.lit.now c.args.bind.now c.args.clause
    c.args.theta.now c.args.place (derivations (map derivation_of c.args.subs.now)) c.requires
    c.lits-lits.result.now (c.lits-lits.ensures.value no_clause) c.lits-lits.ensures.arena c.index-lits-place.result)

pub replay_step-returns : goal.replay_step-returns
replay_step-returns t c =
    step_replayed c.args.arena.now (path_literals c.args.path.now) c.args.lit.now c.args.bind.now c.args.clause c.args.theta.now
    c.args.place
    (derivations (map derivation_of c.args.subs.now)) c.requires
    c.lits-lits.result.now (c.lits-lits.ensures.value no_clause) c.lits-lits.ensures.arena c.make_equal.new.bind c.replay_each.new.bind
    c.apply.result
    (c.apply.ensures ∙ step_head c.args.arena.now (path_literals c.args.path.now) c.args.lit.now c.args.bind.now c.args.clause
    c.args.theta.now c.args.place (derivations (map derivation_of c.args.subs.now)) c.requires
    c.lits-lits.result.now (c.lits-lits.ensures.value no_clause) c.lits-lits.ensures.arena c.index-lits-place.result)
    c.make_equal.ensures.narrowed c.make_equal.ensures.grows c.make_equal.ensures.solvable (rw path_literals-under at c.replay_each.ensures)

pub replay_step-replay_each-requires : goal.replay_step-replay_each-requires
replay_step-replay_each-requires t c =
    let can =
    step_each c.args.arena.now (path_literals c.args.path.now) c.args.lit.now c.args.bind.now c.args.clause c.args.theta.now c.args.place
    (derivations (map derivation_of c.args.subs.now)) c.requires
    c.lits-lits.result.now (c.lits-lits.ensures.value no_clause) c.lits-lits.ensures.arena c.make_equal.new.bind c.apply.result
    (c.apply.ensures ∙ step_head c.args.arena.now (path_literals c.args.path.now) c.args.lit.now c.args.bind.now c.args.clause
    c.args.theta.now c.args.place (derivations (map derivation_of c.args.subs.now)) c.requires
    c.lits-lits.result.now (c.lits-lits.ensures.value no_clause) c.lits-lits.ensures.arena c.index-lits-place.result)
    c.make_equal.ensures.narrowed c.make_equal.ensures.grows c.make_equal.ensures.solvable in
    let place =
    step_place c.args.arena.now (path_literals c.args.path.now) c.args.lit.now c.args.bind.now c.args.clause c.args.theta.now c.args.place
    (derivations (map derivation_of c.args.subs.now)) c.requires
    c.lits-lits.result.now (c.lits-lits.ensures.value no_clause) c.lits-lits.ensures.arena in
    let plain =
    step_plain c.args.arena.now (path_literals c.args.path.now) c.args.lit.now c.args.bind.now c.args.clause c.args.theta.now c.args.place
    (derivations (map derivation_of c.args.subs.now)) c.requires
    c.lits-lits.result.now (c.lits-lits.ensures.value no_clause) c.lits-lits.ensures.arena in
    (search (rules, the_lemmas), (place, (plain, rw path_literals-under can)))

pub replay_each-returns : goal.replay_each-returns
replay_each-returns t c =
    goes-last c.args.arena.now (path_literals c.args.path.now) (parts_of c.args.lits.now c.args.theta.now c.args.place)
    (map derivation_of c.args.subs.now) c.args.bind.now c.loop-k.bind c.loop-k.k c.loop-k.invariant
    (omega (arith, length-map c.args.subs.now derivation_of, c.loop-k-test.false))
