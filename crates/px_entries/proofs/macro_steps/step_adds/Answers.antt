use Rattle.std.proofs.Common.{◌≡◌, ◌∙◌, Some, slice_get, refl, ap, sym}
use Rattle.std.proofs.lemmas.Option.{get_or_from_slice_get, slice_get_within}
use Rattle.px_question.specs.FewerShapes.{Contains-at}
use Rattle.px_terms.specs.Operators.{adds}
use Rattle.px_terms.specs.OrderLaws.{atom_eq-decides}
use Rattle.px_terms.specs.declared.atom.Atom.{Atom}
use Rattle.px_base.specs.Answers.{both_answers}
use Rattle.px_base.proofs.Loops.{all_before_next}
use Rattle.px_entries.proofs.macro_steps.step_adds.Goals as goal

pub returns-then-eq : goal.returns-then-eq
returns-then-eq c =
    let at : slice_get (adds c.args.problem.now c.args.step.now) c.loop-place.place ≡ Some c.adds.result =
    rw c.schema_of-schema.ensures.schema at c.adds.ensures in
    let same : c.adds.result ≡ c.args.atom.now = (atom_eq-decides c.adds.result c.args.atom.now).0 (sym c.eq.ensures ∙ c.if-eq.true) in (
      λ _. Contains-at (adds c.args.problem.now c.args.step.now) c.loop-place.place c.args.atom.now (at ∙ ap (λ (a : Atom). Some a) same),
      λ _. refl,
    )

pub loop-place-preserved : goal.loop-place-preserved
loop-place-preserved c =
    let xs = adds c.args.problem.now c.args.step.now in
    let at : slice_get (adds c.args.problem.now c.args.step.now) c.loop-place.place ≡ Some c.adds.result =
    rw c.schema_of-schema.ensures.schema at c.adds.ensures in
    all_before_next (λ (a : Atom). ¬ (a ≡ c.args.atom.now)) xs c.loop-place.place c.adds.result c.loop-place.invariant
    (slice_get_within xs c.loop-place.place c.adds.result at)
    (sym (get_or_from_slice_get xs c.loop-place.place c.adds.result c.adds.result at))
    (λ same. both_answers c.eq.result c.if-eq.false (c.eq.ensures ∙ (atom_eq-decides c.adds.result c.args.atom.now).1 same))
