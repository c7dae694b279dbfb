use Rattle.px_prover.proofs.UnderValues.{lists-ordered, patterns-over}
use Rattle.px_question.specs.Settings.{setting_of}
use Rattle.px_prover.proofs.listing.gap_lists.Goals as goal

pub all_under-requires : goal.all_under-requires
all_under-requires c =
    patterns-over (setting_of c.args.problem.now c.args.model.now.atoms) c.args.formula.now c.args.variable_count c.in-Ok.patterns.items
    c.deref.result.now c.deref.ensures.value c.in-Ok.ensures.patterns

pub returns-in-Ok-all_under-clause-lists : goal.returns-in-Ok-all_under-clause-lists
returns-in-Ok-all_under-clause-lists c =
    lists-ordered (setting_of c.args.problem.now c.args.model.now.atoms) c.args.formula.now c.args.variable_count c.in-Ok.patterns.items
    c.deref.result.now c.in-Ok-all_under.lists.items c.ordered.result.items
    c.in-Ok.ensures.patterns c.deref.ensures.value c.in-Ok-all_under.ensures c.ordered.ensures.order c.ordered.ensures.members
