use Rattle.std.proofs.Common.{arith}
use Rattle.px_numbers.proofs.NumberSteps.{number_within, built_none, built_more, built_all}
use Rattle.px_numbers.proofs.numbers.model_of.Goals as goal

pub loop-number-init : goal.loop-number-init
loop-number-init c = built_none c.args.index.now c.args.numbers.now c.new-model.result.atoms c.new-model.ensures

pub atom-atom-requires : goal.atom-atom-requires
atom-atom-requires c =
    number_within c.args.index.now c.args.numbers.now c.requires.0 c.loop-number.number-index c.requires.1.numbers_are
    c.loop-number-test.true

pub loop-number-preserved : goal.loop-number-preserved
loop-number-preserved c =
    built_more c.args.index.now c.args.numbers.now c.loop-number.number-index c.loop-number.model.atoms c.insert.new.self.atoms
    c.atom-atom.result c.loop-number-test.true c.atom-atom.ensures.atom
    c.in_ok-insert.ensures.ok c.loop-number.invariant

pub returns : goal.returns
returns c =
    built_all c.args.index.now c.args.numbers.now c.loop-number.number-index c.loop-number.model.atoms c.requires.0
    (omega (arith, c.loop-number-test.false)) c.loop-number.invariant c.requires.1
