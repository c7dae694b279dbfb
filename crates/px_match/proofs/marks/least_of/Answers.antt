use Rattle.std.proofs.Common.{sym, ap, ◌∙◌}
use Rattle.px_ops.specs.ModelValue.{ModelValue}
use Rattle.px_match.proofs.Passed.{mark_holds}
use Rattle.px_match.proofs.Renewed.{listed}
use Rattle.px_match.proofs.marks.least_of.Goals as goal

pub returns-clause-at_most : goal.returns-clause-at_most
returns-clause-at_most c = λ objects fits same from.
    let question = c.args.question.now in
    let mark = c.args.mark.now in
    let is = c.requires.mark in
    c.least.ensures.at_most objects (fits.instantiation.count ∙ sym c.requires.work.count) same from
    (listed question.table.now.marks question.model.now.atoms question.lists.now c.args.number mark c.index-question-number.result
    c.atoms.result.now objects c.requires.asked.lists is.listed (sym is.is) c.index-question-number.is
    (c.atoms.ensures.value ∙ ap (λ (list : ModelValue). list.atoms) (sym c.index-question-number.is))
    (mark_holds question.problem.now question.table.now question.bound.now question.model.now.atoms question.number objects fits mark
    (c.args.number, is.listed, is.is) is.row is.column))
