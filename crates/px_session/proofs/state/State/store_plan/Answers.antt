use Rattle.std.proofs.Common.{List, sym, ap, ◌∙◌, subst, refl, arith, All}
use Rattle.px_terms.specs.declared.instance.OpInst.{OpInst}
use Rattle.px_terms.specs.Validity.{IsInstanceOf}
use Rattle.px_library.specs.Libraries.{LibraryValue, with_table}
use Rattle.px_ends.specs.Tasks.{task_of}
use Rattle.px_session.specs.Sessions.{SessionState}
use Rattle.px_session.specs.contracts.state.State as held
use Rattle.px_session.proofs.FoundPlans.{built, finds-plan}
use Rattle.px_session.proofs.state.State.store_plan.Goals as goal

pub build-requires-clause-steps : goal.build-requires-clause-steps
build-requires-clause-steps c =
    subst (All (IsInstanceOf c.args.problem.now)) (sym c.as_slice.ensures) c.requires.found.instances

pub overflow_cast-result : goal.overflow_cast-result
overflow_cast-result c =
    let most = c.requires.problem.nodes.1 in
    omega (arith, c.requires.found.few, most, c.len.ensures)

pub returns-clause-told : goal.returns-clause-told
returns-clause-told c =
    let task = task_of c.args.problem.now c.args.self.now.learned.tables c.args.self.now.atoms c.args.goal.now c.args.variable_count in
    let value = c.in_ok-table.ensures.value
    ∙ ap (λ (steps : List OpInst). built steps c.args.goal.now c.args.variable_count c.args.found.support.items) c.as_slice.ensures in
    let put = ap (λ (plans : LibraryValue). record (held.the_view c.self.inside) { plans = plans }) c.in_ok-store.ensures.stored in
    let whole = ap (λ (s : SessionState). record s { plans = with_table s.plans c.args.name c.in_ok-table.table }) c.self.view_is in (
      refl,
      finds-plan task c.args.name c.len.result c.args.self.now _ c.args.found c.in_ok-table.table c.requires.found value c.len.ensures
          (put ∙ whole),
    )
