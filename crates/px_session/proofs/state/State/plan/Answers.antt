use Rattle.std.proofs.Common.{List, refl, sym, subst}
use Rattle.px_table.specs.declared.table.Table.{Table}
use Rattle.px_entries.specs.Learned.{AreLearned}
use Rattle.px_ends.specs.ByValue.{IsExhausted, IsNodeLimit}
use Rattle.px_ends.specs.Tasks.{task_of}
use Rattle.px_session.specs.Sessions.{SessionState}
use Rattle.px_session.proofs.Learned.{are-learned}
use Rattle.px_session.proofs.state.State.plan.Goals as goal

pub returns-in-Err-Exhausted-clause-told : goal.returns-in-Err-Exhausted-clause-told
returns-in-Err-Exhausted-clause-told c =
    let told = rw c.in-Err-Exhausted.field-0-is at c.in-Err-Exhausted.ensures.exhausted in
    let ends = told refl in
    let of_tables = subst (λ (tables : List Table). IsExhausted
    (task_of c.args.problem.now tables c.self.inside.facts.atoms c.args.goal.now c.args.variable_count) c.args.problem.now.weight) c.tables.ensures ends in (
      refl,
      subst (λ (s : SessionState). IsExhausted
          (task_of c.args.problem.now s.learned.tables s.atoms c.args.goal.now c.args.variable_count) c.args.problem.now.weight) c.self.view_is of_tables,
      refl,
    )

pub returns-in-Err-NodeLimit-clause-told : goal.returns-in-Err-NodeLimit-clause-told
returns-in-Err-NodeLimit-clause-told c =
    let nodes = c.in-Err-NodeLimit.nodes in
    let moves = c.in-Err-NodeLimit.moves in
    let told = rw c.in-Err-NodeLimit.field-0-is at c.in-Err-NodeLimit.ensures.node_limit in
    let ends = told nodes moves refl in
    let of_tables = subst (λ (tables : List Table). IsNodeLimit
    (task_of c.args.problem.now tables c.self.inside.facts.atoms c.args.goal.now c.args.variable_count) c.args.problem.now.weight nodes moves) c.tables.ensures ends in
    let of_state = subst (λ (s : SessionState). IsNodeLimit
    (task_of c.args.problem.now s.learned.tables s.atoms c.args.goal.now c.args.variable_count) c.args.problem.now.weight nodes moves) c.self.view_is of_tables in
    (refl, rw c.in-Err-NodeLimit.field-0-is of_state, refl)

pub search-requires-clause-tables : goal.search-requires-clause-tables
search-requires-clause-tables c =
    let learned = are-learned c.args.problem.now c.args.self.now c.requires.session in
    let here = subst (λ (s : SessionState). AreLearned c.args.problem.now s.learned.tables) (sym c.self.view_is) learned in
    subst (AreLearned c.args.problem.now) (sym c.tables.ensures) here
