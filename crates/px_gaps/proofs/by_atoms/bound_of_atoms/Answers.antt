use Rattle.std.proofs.Common.{◌≡◌, ◌-◌, ◌+◌, ◌<◌, ℕ, drop, get_or, length, subst, arith}
use Rattle.std.proofs.lemmas.List.Elements.{All-drop}
use Rattle.px_base.proofs.Loops.{contains_here}
use Rattle.px_base.specs.ListLaws.{All-at}
use Rattle.px_question.specs.Settings.{setting_of}
use Rattle.px_terms.specs.Validity.{IsAtomOf}
use Rattle.px_gaps.specs.ByAtoms.{IsBoundOfAtoms}
use Rattle.px_gaps.proofs.AtomsBound.{bound-next, bound-nil}
use Rattle.px_gaps.proofs.by_atoms.bound_of_atoms.Goals as goal

pub loop-passed-init : goal.loop-passed-init
loop-passed-init c =
    bound-nil (setting_of c.args.problem.now c.args.model.now.atoms) c.args.atoms.now (length c.args.atoms.now - 0) (omega arith)

pub bound_with-requires-clause-atom : goal.bound_with-requires-clause-atom
bound_with-requires-clause-atom c =
    let atoms = c.args.atoms.now in
    let passed = c.loop-passed.passed in
    let below : passed < length atoms = c.loop-passed-test.true in
    All-at (IsAtomOf c.args.problem.now 0) atoms c.index-atoms-atoms.result c.requires.atoms
    (contains_here atoms (length atoms - passed - 1) c.index-atoms-atoms.result (omega (arith, below)) c.index-atoms-atoms.is)

pub loop-passed-preserved : goal.loop-passed-preserved
loop-passed-preserved c =
    let s = setting_of c.args.problem.now c.args.model.now.atoms in
    let atoms = c.args.atoms.now in
    let passed = c.loop-passed.passed in
    let atom = c.index-atoms-atoms.result in
    let below : passed < length atoms = c.loop-passed-test.true in
    let from : length atoms - passed - 1 ≡ length atoms - (passed + 1) = omega arith in
    let here : atom ≡ get_or atoms (length atoms - (passed + 1)) atom =
    subst (λ (k : ℕ). atom ≡ get_or atoms k atom) from c.index-atoms-atoms.is in
    let grows = rw c.in-Ok-Some.field-0-is at c.in-Ok-Some.ensures in
    bound-next s atoms (length atoms - (passed + 1)) (length atoms - passed) atom c.loop-passed.bound c.in-Ok-Some.both
    (omega (arith, below)) (omega (arith, below)) here
    (grows (drop (length atoms - passed) atoms)
    (All-drop (IsAtomOf c.args.problem.now 0) (length atoms - passed) atoms c.requires.atoms))
    c.loop-passed.invariant

pub returns : goal.returns
returns c =
    let atoms = c.args.atoms.now in
    let whole : length atoms - c.loop-passed.passed ≡ 0 = omega (arith, c.loop-passed-test.false) in
    subst (λ (from : ℕ). IsBoundOfAtoms (setting_of c.args.problem.now c.args.model.now.atoms) (drop from atoms) c.loop-passed.bound) whole
    c.loop-passed.invariant
