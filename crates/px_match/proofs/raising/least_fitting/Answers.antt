use Rattle.std.specs.Prelude.{List, ℕ, slice_index}
use Rattle.std.proofs.Common.{◌∙◌, ap, arith}
use Rattle.px_match.specs.Reasons.{object_at}
use Rattle.px_match.proofs.Down.{at_most}
use Rattle.px_match.proofs.Passed.{fits_there}
use Rattle.px_match.proofs.raising.least_fitting.Goals as goal

pub returns-then-fits_sort-clause-at_most : goal.returns-then-fits_sort-clause-at_most
returns-then-fits_sort-clause-at_most c = λ objects fits from.
    let wanted = c.sort_at-wanted.ensures ∙ ap (λ (l : List ℕ). slice_index l c.args.place) c.as_slice.ensures in
    at_most c.loop-object.object (object_at objects c.args.place) (λ passed. c.loop-object.invariant (object_at objects c.args.place) from
    passed (fits_there c.args.question.now objects c.args.place c.sort_at-wanted.result c.requires.place wanted fits))

pub returns-clause-at_most : goal.returns-clause-at_most
returns-clause-at_most c = λ objects fits from.
    let wanted = c.sort_at-wanted.ensures ∙ ap (λ (l : List ℕ). slice_index l c.args.place) c.as_slice.ensures in
    let below = fits.instantiation.objects c.args.place 0 (omega (arith, c.requires.place, fits.instantiation.count)) in
    c.loop-object.invariant (object_at objects c.args.place) from
    (omega (arith, below, c.requires.asked.objects, c.loop-object-test.false))
    (fits_there c.args.question.now objects c.args.place c.sort_at-wanted.result c.requires.place wanted fits)
