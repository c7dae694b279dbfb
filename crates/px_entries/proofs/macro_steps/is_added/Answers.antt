use Rattle.std.proofs.Common.{◌≡◌, ◌+◌, false, refl, sym, subst}
use Rattle.std.specs.Prelude.{All}
use Rattle.px_base.specs.ListLaws.{All-at}
use Rattle.px_terms.specs.Operators.{adds, deletes}
use Rattle.px_terms.specs.Validity.{IsAtomOf, IsInstanceOf}
use Rattle.px_terms.specs.ValidityLaws.{adds-are_of, atom_of-is_ground}
use Rattle.px_terms.specs.declared.instance.OpInst.{OpInst}
use Rattle.px_entries.proofs.Slices.{rest_is}
use Rattle.px_entries.proofs.AddedLemmas.{added-at, added-next}
use Rattle.px_base.proofs.Loops.{said_no, said_yes}
use Rattle.px_entries.proofs.macro_steps.is_added.Goals.{else-step_adds-via-then-step_adds+else-none_deletes, else-step_adds-via-else-step_adds}
use Rattle.px_entries.proofs.macro_steps.is_added.Goals as goal

pub none_deletes-requires-clause-is_ground : goal.none_deletes-requires-clause-is_ground
none_deletes-requires-clause-is_ground c =
    let problem = c.args.problem.now in
    let step = c.index-steps-place.result in
    let is_step : IsInstanceOf problem step =
    subst (IsInstanceOf problem) (sym c.index-steps-place.is) (c.requires.steps c.loop-place.place step c.loop-place-test.true) in
    atom_of-is_ground problem c.args.atom.now (All-at (IsAtomOf problem 0) (adds problem step) c.args.atom.now
    (adds-are_of problem step c.requires.problem is_step) (said_yes c.step_adds.result c.step_adds.ensures c.if-step_adds.true))

pub returns-then-none_deletes : goal.returns-then-none_deletes
returns-then-none_deletes c = (
  λ _. added-at c.args.problem.now c.args.atom.now c.args.steps.now c.loop-place.place c.index-steps-place.result c.loop-place-test.true
      c.index-steps-place.is (said_yes c.step_adds.result c.step_adds.ensures c.if-step_adds.true)
      (subst (All (λ (later : OpInst). deletes c.args.problem.now later c.args.atom.now ≡ false))
      (rest_is (c.loop-place.place + 1) c.args.steps.now)
      (said_yes c.none_deletes.result c.none_deletes.ensures c.if-none_deletes.true)),
  λ _. refl,
)

pub loop-place-preserved : goal.loop-place-preserved
loop-place-preserved c = λ added.
    added-next c.args.problem.now c.args.atom.now c.args.steps.now c.loop-place.place c.index-steps-place.result c.loop-place-test.true
    c.index-steps-place.is (c.loop-place.invariant added)
    (elim c.else-step_adds.branch [
      | else-step_adds-via-then-step_adds+else-none_deletes w ↦ λ has none. said_no w.none_deletes.result w.none_deletes.ensures
          w.if-none_deletes.false (subst (All (λ (later : OpInst). deletes c.args.problem.now later c.args.atom.now ≡ false))
          (sym (rest_is (c.loop-place.place + 1) c.args.steps.now)) none)
      | else-step_adds-via-else-step_adds w ↦ λ has none. said_no c.step_adds.result c.step_adds.ensures w.if-step_adds.false has
    ])
