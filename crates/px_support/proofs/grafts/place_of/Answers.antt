use Rattle.std.proofs.Common.{◌∙◌, ap, length, refl, sym}
use Rattle.std.specs.Prelude.{Some}
use Rattle.std.proofs.lemmas.Option.{slice_get_read}
use Rattle.px_terms.specs.OrderLaws.{atom_eq-decides}
use Rattle.px_support.proofs.GraftSteps.{never_passed, not-here, one_more_passed}
use Rattle.px_support.proofs.grafts.place_of.Goals as goal

pub returns-then-eq : goal.returns-then-eq
returns-then-eq c =
    slice_get_read c.args.formula.now (length c.args.formula.now) c.loop-place.place c.index-formula-place.result refl
    c.loop-place-test.true c.index-formula-place.is
    ∙ ap Some ((atom_eq-decides c.index-formula-place.result c.args.atom.now).0 (sym c.eq.ensures ∙ c.if-eq.true))

pub loop-place-preserved : goal.loop-place-preserved
loop-place-preserved c =
    one_more_passed c.args.formula.now c.args.atom.now c.loop-place.place
    (not-here c.args.formula.now c.loop-place.place c.index-formula-place.result c.args.atom.now c.loop-place-test.true
    c.index-formula-place.is (sym c.eq.ensures ∙ c.if-eq.false)) c.loop-place.invariant

pub unreachable-requires : goal.unreachable-requires
unreachable-requires c =
    never_passed c.args.formula.now c.args.atom.now c.loop-place.place c.loop-place-test.false c.loop-place.invariant c.requires
