use Rattle.px_base.specs.ListLaws.{All-at}
use Rattle.px_terms.specs.Operators.{IsAddable}
use Rattle.px_base.proofs.Loops.{all_before_next, all_whole, contains_here, is_false, is_true, said_no, said_yes}
use Rattle.px_diff.proofs.macro_open.are_addable.Goals as goal

pub returns-then-not-is_addable : goal.returns-then-not-is_addable
returns-then-not-is_addable c = is_false (λ all.
    said_no c.is_addable.result c.is_addable.ensures c.if-not-is_addable.true
    (All-at (IsAddable c.args.problem.now) c.args.atoms.now c.atom-item.result all
    (contains_here c.args.atoms.now c.loop-atom.atom-index c.atom-item.result c.loop-atom-test.true c.atom-item.is)))

pub loop-atom-preserved : goal.loop-atom-preserved
loop-atom-preserved c =
    all_before_next (IsAddable c.args.problem.now) c.args.atoms.now c.loop-atom.atom-index c.atom-item.result c.loop-atom.invariant
    c.loop-atom-test.true c.atom-item.is
    (said_yes c.is_addable.result c.is_addable.ensures c.if-not-is_addable.false)

pub returns : goal.returns
returns c =
    is_true (all_whole (IsAddable c.args.problem.now) c.args.atoms.now c.loop-atom.atom-index c.loop-atom.invariant c.loop-atom-test.false)
