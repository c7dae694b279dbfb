use Rattle.std.proofs.Common.{◌∙◌, List, [], ap, map, sym, subst}
use Rattle.px_table.specs.declared.entry.Entry.TheVariants.{Op}
use Rattle.px_terms.specs.declared.instance.OpInst.{OpInst}
use Rattle.px_entries.specs.Entries.{obligations_of}
use Rattle.px_diff.specs.Gathering.{Gathers}
use Rattle.px_entries.specs.Instances.{IsCovered}
use Rattle.px_diff.specs.Macros.{GathersEntries, IsOperatorEntry}
use Rattle.px_entries.specs.declared.partial.PartialInstance.{PartialInstance}
use Rattle.px_gaps.proofs.Below.{unlimited-below}
use Rattle.px_diff.proofs.WholeLemmas.{operators_gather, whole-exact, whole-unlimited}
use Rattle.px_diff.proofs.pushes.pushable_for.Goals as goal

pub returns-clause-exact : goal.returns-clause-exact
returns-clause-exact c = λ entry.
    let gathers =
    subst (λ (l : List PartialInstance). Gathers c.args.request.now.problem.now c.args.request.now.tables.now
    c.args.request.now.wanted.now c.args.request.now.stack.now c.args.request.now.model.now.atoms
    (IsCovered c.args.request.now.problem.now l) c.new-found.result.items c.gather_matches.new.found.items) c.deref.ensures.value
    c.in_ok-gather_matches.ensures.gathers in
    let from_none =
    subst (λ (l : List OpInst). Gathers c.args.request.now.problem.now c.args.request.now.tables.now c.args.request.now.wanted.now
    c.args.request.now.stack.now c.args.request.now.model.now.atoms
    (IsCovered c.args.request.now.problem.now c.in_ok-matches.matches.items) l c.gather_matches.new.found.items)
    c.new-found.ensures.items gathers in
    let operators =
    subst (GathersEntries c.args.request.now.problem.now c.args.request.now.tables.now c.args.request.now.wanted.now
    c.args.request.now.stack.now c.args.request.now.model.now.atoms IsOperatorEntry [])
    (sym (c.in_ok-entries.ensures ∙ ap (map Op) c.deref-2.ensures.value))
    (operators_gather c.args.request.now.problem.now c.args.request.now.tables.now c.args.request.now.wanted.now
    c.args.request.now.stack.now c.args.request.now.model.now.atoms c.in_ok-matches.matches.items c.gather_matches.new.found.items
    c.in_ok-matches.ensures from_none) in
    let found =
    whole-exact c.args.request.now.problem.now c.args.request.now.tables.now c.args.request.now.wanted.now c.args.request.now.stack.now
    c.args.request.now.model.now.atoms c.in_ok-entries.entries.items c.gather_tables.new.found.items operators
    c.in_ok-gather_tables.ensures.gathers entry in
    let members = c.order_entries.ensures.members entry in
    (λ h. found.0 (members.0 h), λ p. members.1 (found.1 p))

pub returns-clause-unlimited : goal.returns-clause-unlimited
returns-clause-unlimited c = λ entry relevant.
    let gathers =
    subst (λ (l : List PartialInstance). Gathers c.args.request.now.problem.now c.args.request.now.tables.now
    c.args.request.now.wanted.now c.args.request.now.stack.now c.args.request.now.model.now.atoms
    (IsCovered c.args.request.now.problem.now l) c.new-found.result.items c.gather_matches.new.found.items) c.deref.ensures.value
    c.in_ok-gather_matches.ensures.gathers in
    let from_none =
    subst (λ (l : List OpInst). Gathers c.args.request.now.problem.now c.args.request.now.tables.now c.args.request.now.wanted.now
    c.args.request.now.stack.now c.args.request.now.model.now.atoms
    (IsCovered c.args.request.now.problem.now c.in_ok-matches.matches.items) l c.gather_matches.new.found.items)
    c.new-found.ensures.items gathers in
    let operators =
    subst (GathersEntries c.args.request.now.problem.now c.args.request.now.tables.now c.args.request.now.wanted.now
    c.args.request.now.stack.now c.args.request.now.model.now.atoms IsOperatorEntry [])
    (sym (c.in_ok-entries.ensures ∙ ap (map Op) c.deref-2.ensures.value))
    (operators_gather c.args.request.now.problem.now c.args.request.now.tables.now c.args.request.now.wanted.now
    c.args.request.now.stack.now c.args.request.now.model.now.atoms c.in_ok-matches.matches.items c.gather_matches.new.found.items
    c.in_ok-matches.ensures from_none) in
    whole-unlimited c.args.request.now.problem.now c.args.request.now.tables.now c.args.request.now.wanted.now c.args.request.now.stack.now
    c.args.request.now.model.now.atoms c.in_ok-entries.entries.items c.gather_tables.new.found.items operators
    c.in_ok-gather_tables.ensures.gathers entry relevant

pub returns-clause-below : goal.returns-clause-below
returns-clause-below c = λ entry relevant.
    unlimited-below c.args.request.now.problem.now (obligations_of c.args.request.now.problem.now c.args.request.now.tables.now
    c.args.request.now.model.now.atoms entry) (returns-clause-unlimited c entry relevant)
