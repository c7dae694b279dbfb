use Rattle.std.proofs.Common.{◌∙◌, ap, map}
use Rattle.px_table.specs.declared.entry.Entry.TheVariants.{Op}
use Rattle.px_diff.proofs.FirstLemmas.{operators-told}
use Rattle.px_diff.proofs.firsts.first_operators.Goals as goal

pub returns-clause-gathers : goal.returns-clause-gathers
returns-clause-gathers c =
    operators-told c.args.request.now.problem.now c.args.request.now.tables.now c.args.request.now.wanted.now c.args.request.now.stack.now
    c.args.request.now.model.now.atoms c.args.enough c.in_ok-is_all.is_all c.in_ok-matches.matches.items c.deref.result.now
    c.new-found.result.items c.gather_first.new.found.items c.in_ok-entries.entries.items
    c.in_ok-matches.ensures c.deref.ensures.value c.new-found.ensures.items
    (c.in_ok-entries.ensures ∙ ap (map Op) c.deref-2.ensures.value) c.in_ok-is_all.ensures.gathers
