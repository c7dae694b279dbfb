use Rattle.std.proofs.Common.{get_or, sym, subst, arith}
use Rattle.px_proof.specs.PlaceLaws.{slice_get-read}
use Rattle.px_diff.specs.Macros.{IsOfTable}
use Rattle.px_diff.proofs.FirstLemmas.{prefixes-left}
use Rattle.px_diff.proofs.EntryLemmas.{entries_reordered, entries_since}
use Rattle.px_entries.specs.Parameters.{AreFirstTerms}
use Rattle.px_diff.proofs.GatherLemmas.{IsShorter, shorter-all, shorter-next, shorter-none, shorter-zero, learned-at}
use Rattle.px_diff.proofs.first_macros.gather_first_table.Goals as goal

pub returns-then-can_leave_off_steps-clause-gathers : goal.returns-then-can_leave_off_steps-clause-gathers
returns-then-can_leave_off_steps-clause-gathers c =
    prefixes-left c.args.request.now.problem.now c.args.request.now.tables.now c.args.request.now.wanted.now c.args.request.now.stack.now
    c.args.request.now.model.now.atoms c.args.enough c.args.number 0 c.args.found.now.items c.can_leave_off_steps.new.found.items
    (entries_reordered c.args.request.now.problem.now c.args.request.now.tables.now c.args.request.now.wanted.now
    c.args.request.now.stack.now c.args.request.now.model.now.atoms
    (IsShorter c.args.request.now.problem.now c.args.request.now.tables.now c.args.request.now.wanted.now c.args.request.now.stack.now
    c.args.request.now.model.now.atoms c.args.number 0) c.args.found.now.items c.args.found.now.items c.can_leave_off_steps.new.found.items
    c.can_leave_off_steps.ensures.members (shorter-zero c.args.request.now.problem.now c.args.request.now.tables.now
    c.args.request.now.wanted.now c.args.request.now.stack.now c.args.request.now.model.now.atoms c.args.number c.args.found.now.items))
    (c.can_leave_off_steps.ensures.before c.if-can_leave_off_steps.true) (c.can_leave_off_steps.ensures.enough
    c.if-can_leave_off_steps.true)

pub loop-count-init : goal.loop-count-init
loop-count-init c =
    let tables = c.args.request.now.tables.now in
    let d = c.index-request-number.result in
    shorter-none c.args.request.now.problem.now tables c.args.request.now.wanted.now c.args.request.now.stack.now
    c.args.request.now.model.now.atoms c.args.number (get_or tables c.args.number d) c.can_leave_off_steps.new.found.items
    (slice_get-read tables c.args.number d c.requires.number)
    (learned-at c.args.request.now.problem.now tables c.args.number d c.requires.tables c.requires.number)

pub choices_of_table-requires-clause-table : goal.choices_of_table-requires-clause-table
choices_of_table-requires-clause-table c =
    learned-at c.args.request.now.problem.now c.args.request.now.tables.now c.args.number c.index-request-number.result c.requires.tables
    c.requires.number

pub gather_prefix-requires-clause-prefix : goal.gather_prefix-requires-clause-prefix
gather_prefix-requires-clause-prefix c = record {
  problem = c.requires.problem;
  tables = c.requires.tables;
  table = slice_get-read c.args.request.now.tables.now c.args.number c.index-request-number.result c.requires.number;
  several = omega arith;
  within = omega (arith, c.loop-count-test.true);
  first =
      subst (AreFirstTerms (get_or c.args.request.now.tables.now c.args.number c.index-request-number.result) c.loop-count.count)
      (sym c.as_slice.ensures.value) c.in_ok-start.ensures;
  keeps = λ e. c.keep_marks.ensures e;
  suffice = λ e. (c.requires.never, (c.facts_suffice-suffice.ensures).0 e);
}

pub gather_prefix-requires-clause-rows : goal.gather_prefix-requires-clause-rows
gather_prefix-requires-clause-rows c = c.in_ok-made.ensures

pub loop-count-preserved : goal.loop-count-preserved
loop-count-preserved c =
    shorter-next c.args.request.now.problem.now c.args.request.now.tables.now c.args.request.now.wanted.now c.args.request.now.stack.now
    c.args.request.now.model.now.atoms c.args.number c.loop-count.count c.can_leave_off_steps.new.found.items
    c.can_leave_off_steps-in-loop-count.new.found.items c.gather_prefix.new.found.items
    (entries_reordered c.args.request.now.problem.now c.args.request.now.tables.now c.args.request.now.wanted.now
    c.args.request.now.stack.now c.args.request.now.model.now.atoms
    (IsShorter c.args.request.now.problem.now c.args.request.now.tables.now c.args.request.now.wanted.now c.args.request.now.stack.now
    c.args.request.now.model.now.atoms c.args.number c.loop-count.count) c.can_leave_off_steps.new.found.items c.loop-count.found.items
    c.can_leave_off_steps-in-loop-count.new.found.items c.can_leave_off_steps-in-loop-count.ensures.members c.loop-count.invariant)
    c.in_ok-gather_prefix.ensures.gathers

pub returns-clause-gathers : goal.returns-clause-gathers
returns-clause-gathers c =
    let tables = c.args.request.now.tables.now in
    let d = c.index-request-number.result in
    entries_since c.args.request.now.problem.now c.args.request.now.tables.now c.args.request.now.wanted.now c.args.request.now.stack.now
    c.args.request.now.model.now.atoms (IsOfTable c.args.number) c.args.found.now.items c.can_leave_off_steps.new.found.items
    c.loop-count.found.items c.can_leave_off_steps.ensures.members
    (shorter-all c.args.request.now.problem.now tables c.args.request.now.wanted.now c.args.request.now.stack.now
    c.args.request.now.model.now.atoms c.args.number c.loop-count.count
    (get_or tables c.args.number d) c.can_leave_off_steps.new.found.items c.loop-count.found.items
    (slice_get-read tables c.args.number d c.requires.number)
    (learned-at c.args.request.now.problem.now tables c.args.number d c.requires.tables c.requires.number)
    (omega (arith, c.loop-count-test.false)) c.loop-count.invariant)

pub returns-then-can_leave_off_steps-2-clause-gathers : goal.returns-then-can_leave_off_steps-2-clause-gathers
returns-then-can_leave_off_steps-2-clause-gathers c =
    prefixes-left c.args.request.now.problem.now c.args.request.now.tables.now c.args.request.now.wanted.now c.args.request.now.stack.now
    c.args.request.now.model.now.atoms c.args.enough c.args.number c.loop-count.count c.args.found.now.items
    c.can_leave_off_steps-in-loop-count.new.found.items
    (entries_since c.args.request.now.problem.now c.args.request.now.tables.now c.args.request.now.wanted.now c.args.request.now.stack.now
    c.args.request.now.model.now.atoms (IsShorter c.args.request.now.problem.now c.args.request.now.tables.now
    c.args.request.now.wanted.now c.args.request.now.stack.now c.args.request.now.model.now.atoms c.args.number c.loop-count.count)
    c.args.found.now.items c.can_leave_off_steps.new.found.items c.can_leave_off_steps-in-loop-count.new.found.items
    c.can_leave_off_steps.ensures.members
    (entries_reordered c.args.request.now.problem.now c.args.request.now.tables.now c.args.request.now.wanted.now
    c.args.request.now.stack.now c.args.request.now.model.now.atoms
    (IsShorter c.args.request.now.problem.now c.args.request.now.tables.now c.args.request.now.wanted.now c.args.request.now.stack.now
    c.args.request.now.model.now.atoms c.args.number c.loop-count.count) c.can_leave_off_steps.new.found.items c.loop-count.found.items
    c.can_leave_off_steps-in-loop-count.new.found.items c.can_leave_off_steps-in-loop-count.ensures.members c.loop-count.invariant))
    (c.can_leave_off_steps-in-loop-count.ensures.before c.if-can_leave_off_steps-2.true)
    (c.can_leave_off_steps-in-loop-count.ensures.enough c.if-can_leave_off_steps-2.true)

pub facts_suffice-suffice-requires-clause-table : goal.facts_suffice-suffice-requires-clause-table
facts_suffice-suffice-requires-clause-table c =
    learned-at c.args.request.now.problem.now c.args.request.now.tables.now c.args.number c.index-request-number.result c.requires.tables
    c.requires.number
