use Rattle.std.proofs.Common.{List, [], ◌∷◌, ◌++◌, ◌+◌, ◌<◌, refl, length, arith, ap, subst, sym, ◌∙◌}
use Rattle.px_proof.specs.declared.shape.Tick.{Tick}
use Rattle.px_proof_walk.specs.Order.{IsNext, NoneAfter}
use Rattle.px_proof_walk.proofs.Visits.{seen-start, seen-next, all-come, limit-comes, length-seen}
use Rattle.px_proof_walk.proofs.Trails.{trail-next, trail-visits}
use Rattle.px_proof_walk.specs.Trail.{AreVisits, BranchesOff}
use Rattle.px_proof_walk.proofs.gather.walk_to_end.Goals as goal

pub loop-count-init : goal.loop-count-init
loop-count-init g c = record {
  within = c.requires.limit;
  stands = c.requires.stands;
  short = rw c.requires.start (omega arith);
  here = rw c.requires.start c.requires.possible;
  visits = (
    [],
    rw c.new-trail.ensures.items (record {
      visits = record { each = tt; branches = λ k below. absurd (omega (arith, below)) };
      branches = rw c.requires.start refl;
    }),
    refl,
    rw c.requires.start (seen-start (g.W.Walk.possible c.args.question.now) (λ ticks. ⊥)),
    c.requires.nothing,
  );
}

pub returns-then-count-limit-clause-limited : goal.returns-then-count-limit-clause-limited
returns-then-count-limit-clause-limited g c =
    let visits = c.loop-count.invariant.visits in (
      visits.0 ++ g.W.Walk.ticks c.loop-count.walk ∷ [],
      c.in_ok-shapes.ensures (g.W.Walk.places c.args.question.now) (visits.0 ++ g.W.Walk.ticks c.loop-count.walk ∷ [])
          (subst (AreVisits (g.W.Walk.places c.args.question.now) (visits.0 ++ g.W.Walk.ticks c.loop-count.walk ∷ []))
          (sym (c.deref.ensures.value ∙ c.in_ok-push.ensures.ok))
          (trail-visits (g.W.Walk.places c.args.question.now) c.loop-count.trail.items visits.0 (g.W.Walk.ticks c.loop-count.walk)
          c.visit-visit.result visits.1 c.visit-visit.ensures)),
      limit-comes (g.W.Walk.possible c.args.question.now) (λ ticks. ⊥) visits.0 _ visits.3 c.loop-count.invariant.here (λ h. h) c.args.limit
          (rw visits.2 c.if-count-limit.true),
    )

pub returns-then-not-branch-clause-all : goal.returns-then-not-branch-clause-all
returns-then-not-branch-clause-all g c =
    let visits = c.loop-count.invariant.visits in
    let few : length visits.0 + 1 < c.args.limit = rw visits.2 (omega (arith, c.if-count-limit.false, c.loop-count.invariant.within)) in
    let after : NoneAfter (g.W.Walk.possible c.args.question.now) (g.W.Walk.ticks c.loop-count.walk) =
    subst (NoneAfter (g.W.Walk.possible c.args.question.now)) c.in_ok-gather.ensures.there
    (c.in_ok-advance.ensures.none c.if-not-branch.true) in (
      visits.0 ++ g.W.Walk.ticks c.loop-count.walk ∷ [],
      all-come (g.W.Walk.possible c.args.question.now) (λ ticks. ⊥) visits.0 _ visits.3 c.loop-count.invariant.here
          (λ h. h) c.args.limit few after,
      c.in_ok-gather.ensures.more visits.0 visits.4,
    )

pub loop-count-preserved : goal.loop-count-preserved
loop-count-preserved g c =
    let visits = c.loop-count.invariant.visits in
    let next : IsNext (g.W.Walk.possible c.args.question.now) (g.W.Walk.ticks c.loop-count.walk) (g.W.Walk.ticks c.advance.new.walk) =
    subst (λ (ticks : List Tick). IsNext (g.W.Walk.possible c.args.question.now) ticks (g.W.Walk.ticks c.advance.new.walk))
    c.in_ok-gather.ensures.there (c.in_ok-advance.ensures.next c.if-not-branch.false) in
    let branches : BranchesOff (g.W.Walk.ticks c.loop-count.walk) (g.W.Walk.ticks c.advance.new.walk) =
    subst (λ (ticks : List Tick). BranchesOff ticks (g.W.Walk.ticks c.advance.new.walk))
    c.in_ok-gather.ensures.there (c.in_ok-advance.ensures.branches c.if-not-branch.false) in
    record {
      within = omega (arith, c.if-count-limit.false, c.loop-count.invariant.within);
      stands = c.in_ok-advance.ensures.still;
      short = omega (arith, c.in_ok-advance.ensures.longer, ap length c.in_ok-gather.ensures.there, c.loop-count.invariant.short);
      here = next.holds;
      visits = (
        visits.0 ++ g.W.Walk.ticks c.loop-count.walk ∷ [],
        rw c.in_ok-push.ensures.ok (trail-next (g.W.Walk.places c.args.question.now) c.loop-count.trail.items visits.0
            (g.W.Walk.ticks c.loop-count.walk) c.visit-visit.result visits.1 c.visit-visit.ensures
            (g.W.Walk.ticks c.advance.new.walk) branches),
        rw (
          length-seen (g.W.Walk.possible c.args.question.now) (λ ticks. ⊥) visits.0 _ visits.3 c.loop-count.invariant.here (λ h. h),
          visits.2,
        ) refl,
        seen-next (g.W.Walk.possible c.args.question.now) (λ ticks. ⊥) visits.0 _ visits.3 c.loop-count.invariant.here (λ h. h) _ next,
        c.in_ok-gather.ensures.more visits.0 visits.4,
      );
    }
