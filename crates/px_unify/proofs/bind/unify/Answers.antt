use Rattle.std.proofs.Common.{◌≤◌, ◌∙◌, length, sym, refl, arith}
use Rattle.px_unify.specs.Changes.{NarrowedBy, MakesEqual}
use Rattle.px_unify.specs.ChangeLaws.{Binds-trans}
use Rattle.px_unify.proofs.Lists.{narrowed-more, never-more, atoms-narrowed, atoms-never, never-clash}
use Rattle.px_unify.proofs.bind.unify.Goals as goal
use Rattle.px_unify.proofs.bind.unify.Goals.{After-loop-i}

pub returns-in-Err-clause-clash : goal.returns-in-Err-clause-clash
returns-in-Err-clause-clash c = (
  λ _. atoms-never c.args.a.now c.args.b.now (sym c.pred.ensures ∙ c.if-pred.false ∙ c.pred-2.ensures) c.args-xs.result.now
      c.args-ys.result.now c.args-xs.ensures.value c.args-ys.ensures.value c.args.bind.now
      (never-more c.args-xs.result.now c.args-ys.result.now c.if-xs-ys.false c.loop-i.i _ _ c.loop-i-test.true c.args.bind.now c.loop-i.bind
      c.loop-i.invariant.narrowed c.in-Err.ensures.clash),
  λ _. refl,
)

pub returns-in-Err-clause-solvable : goal.returns-in-Err-clause-solvable
returns-in-Err-clause-solvable c =
    rw (c.undo_to.ensures, c.mark-mark.ensures.place, c.in-Err.ensures.err, c.loop-i.invariant.grows.prefix) c.mark-mark.ensures.solvable

pub loop-i-preserved : goal.loop-i-preserved
loop-i-preserved c = record {
  narrowed =
      narrowed-more c.args-xs.result.now c.args-ys.result.now c.if-xs-ys.false c.loop-i.i _ _ c.loop-i-test.true c.args.bind.now
      c.loop-i.bind c.loop-i.invariant.narrowed c.unify_terms.new.self c.in-Ok.ensures.ok;
  grows = Binds-trans c.args.bind.now c.loop-i.bind c.unify_terms.new.self c.loop-i.invariant.grows c.in-Ok.ensures.grows;
  solvable = c.in-Ok.ensures.solvable;
}

narrowed : (c : After-loop-i) → length c.args-xs.result.now ≤ c.loop-i.i
    → NarrowedBy c.args.bind.now c.loop-i.bind (MakesEqual c.args.a.now c.args.b.now)
narrowed c at_end =
    atoms-narrowed c.args.a.now c.args.b.now (sym c.pred.ensures ∙ c.if-pred.false ∙ c.pred-2.ensures) c.args-xs.result.now
    c.args-ys.result.now c.args-xs.ensures.value c.args-ys.ensures.value
    c.args.bind.now c.loop-i.bind c.loop-i.i c.if-xs-ys.false (omega (arith, at_end, c.loop-i.auto.i-end)) c.loop-i.invariant.narrowed

pub returns-clause-ok : goal.returns-clause-ok
returns-clause-ok c = narrowed c c.loop-i-test.false

pub returns-clause-clash : goal.returns-clause-clash
returns-clause-clash c = (
  λ is_err. absurd (cc),
  λ never. absurd (never-clash c.args.bind.now c.loop-i.bind (MakesEqual c.args.a.now c.args.b.now) c.loop-i.invariant.solvable
      (narrowed c c.loop-i-test.false) never),
)
