use Rattle.px_support.specs.Asking.{task_for}
use Rattle.px_search.proofs.StepLaws.{entry_on_top, result_stands}
use Rattle.px_search.proofs.cache.Cache.applied.Goals as goal

pub result_at-requires-clause-place : goal.result_at-requires-clause-place
result_at-requires-clause-place c =
    let node = c.requires.node.0 in
    let stands = c.requires.node.1 in
    entry_on_top (task_for c.args.asked.now) c.args.self.now.numbers c.args.key c.in-Some.frame node.model node.stack stands.model
    (c.in-Some.ensures.top node.stack stands.stack) c.requires.node.2

pub returns-clause-there : goal.returns-clause-there
returns-clause-there c = λ node stands.
    result_stands (task_for c.args.asked.now) c.args.self.now.numbers c.result_at.new.self.numbers c.args.key c.in-Some.frame
    c.in_ok-model.model node.model node.stack
    c.in_ok-model.ensures.cache.keeps stands.model (c.in-Some.ensures.top node.stack stands.stack) c.in_ok-model.ensures.number
