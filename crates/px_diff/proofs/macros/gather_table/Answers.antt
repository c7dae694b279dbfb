use Rattle.std.proofs.Common.{get_or, sym, subst, arith}
use Rattle.px_proof.specs.PlaceLaws.{slice_get-read}
use Rattle.px_entries.specs.Parameters.{AreFirstTerms}
use Rattle.px_diff.proofs.GatherLemmas.{shorter-all, shorter-next, shorter-none, learned-at}
use Rattle.px_diff.proofs.macros.gather_table.Goals as goal

pub loop-count-init : goal.loop-count-init
loop-count-init c =
    let tables = c.args.request.now.tables.now in
    let d = c.index-request-number.result in
    shorter-none c.args.request.now.problem.now tables c.args.request.now.wanted.now c.args.request.now.stack.now
    c.args.request.now.model.now.atoms c.args.number (get_or tables c.args.number d) c.args.found.now.items
    (slice_get-read tables c.args.number d c.requires.number)
    (learned-at c.args.request.now.problem.now tables c.args.number d c.requires.tables c.requires.number)

pub rows_of_table-requires-clause-table : goal.rows_of_table-requires-clause-table
rows_of_table-requires-clause-table c =
    learned-at c.args.request.now.problem.now c.args.request.now.tables.now c.args.number c.index-request-number.result c.requires.tables
    c.requires.number

pub gather_prefix-requires-clause-prefix : goal.gather_prefix-requires-clause-prefix
gather_prefix-requires-clause-prefix c = record {
  problem = c.requires.problem;
  tables = c.requires.tables;
  table = slice_get-read c.args.request.now.tables.now c.args.number c.index-request-number.result c.requires.number;
  several = omega arith;
  within = omega (arith, c.loop-count-test.true);
  first =
      subst (AreFirstTerms (get_or c.args.request.now.tables.now c.args.number c.index-request-number.result) c.loop-count.count)
      (sym c.as_slice.ensures.value) c.in_ok-start.ensures;
  keeps = λ e. c.keep_marks.ensures e;
  suffice = λ e. absurd (cc);
}

pub gather_prefix-requires-clause-rows : goal.gather_prefix-requires-clause-rows
gather_prefix-requires-clause-rows c = c.in_ok-made.ensures

pub loop-count-preserved : goal.loop-count-preserved
loop-count-preserved c =
    shorter-next c.args.request.now.problem.now c.args.request.now.tables.now c.args.request.now.wanted.now c.args.request.now.stack.now
    c.args.request.now.model.now.atoms c.args.number c.loop-count.count c.args.found.now.items c.loop-count.found.items
    c.gather_prefix.new.found.items c.loop-count.invariant c.in_ok-gather_prefix.ensures.gathers

pub returns-clause-gathers : goal.returns-clause-gathers
returns-clause-gathers c =
    let tables = c.args.request.now.tables.now in
    let d = c.index-request-number.result in
    shorter-all c.args.request.now.problem.now tables c.args.request.now.wanted.now c.args.request.now.stack.now
    c.args.request.now.model.now.atoms c.args.number c.loop-count.count
    (get_or tables c.args.number d) c.args.found.now.items c.loop-count.found.items
    (slice_get-read tables c.args.number d c.requires.number)
    (learned-at c.args.request.now.problem.now tables c.args.number d c.requires.tables c.requires.number)
    (omega (arith, c.loop-count-test.false)) c.loop-count.invariant
