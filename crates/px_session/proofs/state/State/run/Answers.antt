use Rattle.std.proofs.Common.{List, [], map, refl, sym, ap, ◌∙◌, subst}
use Rattle.px_terms.specs.declared.atom.Atom.{Atom}
use Rattle.px_planex.specs.Turns.{Recorded, RunsTable}
use Rattle.px_session.specs.RunWorlds.{IsWorldInBuilding, TakesAll}
use Rattle.px_turns.specs.Told.{turn_told}
use Rattle.px_session.specs.Sessions.{Edit, SessionState, leaves_edit}
use Rattle.px_session.specs.contracts.state.State as held
use Rattle.px_session.proofs.OneLearning.{any-right}
use Rattle.px_session.proofs.Placing.{placed-run}
use Rattle.px_session.proofs.RunReplies.{bad-unknown, run-told}
use Rattle.px_session.proofs.state.State.run.Goals as goal

pub run_table-requires-clause-table : goal.run_table-requires-clause-table
run_table-requires-clause-table c =
    any-right c.args.problem.now c.args.self.now c.requires.session.plans c.requires.session.learned c.args.name c.in-Some.table.now
    (sym c.in-Some.ensures)

pub run_table-requires-clause-place : goal.run_table-requires-clause-place
run_table-requires-clause-place c =
    subst (λ (s : SessionState). IsWorldInBuilding c.args.problem.now s.atoms c.args.building.now)
    (sym c.self.view_is) c.requires.placed.place

pub run_table-requires-clause-taken : goal.run_table-requires-clause-taken
run_table-requires-clause-taken c =
    subst (TakesAll c.args.building.now)
    (sym (c.deref.ensures.value ∙ ap (λ (s : SessionState). s.recorded) c.self.view_is)) c.requires.placed.edits

pub returns-in-Ok-clause-told : goal.returns-in-Ok-clause-told
returns-in-Ok-clause-told c =
    let told = map turn_told c.in-Ok.field-0.turns in
    let after = c.in-Ok.field-0.facts.atoms in
    let recorded_is = c.deref.ensures.value ∙ ap (λ (s : SessionState). s.recorded) c.self.view_is in
    let from_facts = subst (λ (recorded : List
    (Recorded Edit)). RunsTable leaves_edit c.args.problem.now c.in-Some.table.now c.args.bound.now recorded c.self.inside.facts.atoms told
    after)
    recorded_is c.in-Ok.ensures.runs in
    let runs = subst (λ (atoms : List Atom). RunsTable leaves_edit c.args.problem.now c.in-Some.table.now c.args.bound.now
    c.args.self.now.recorded atoms told after)
    (ap (λ (s : SessionState). s.atoms) c.self.view_is) from_facts in
    let cleared = ap (λ (r : List (Recorded Edit)). record
    (held.the_view c.self.inside) { atoms = after; recorded = r }) c.clear.ensures.items in
    let whole = ap (λ (s : SessionState). record s { atoms = after; recorded = [] }) c.self.view_is in (
      refl,
      run-told c.args.problem.now c.args.name c.args.bound.now c.args.self.now _ c.in-Some.table.now c.in-Ok.field-0.turns after
          c.requires.binding.from_one
          (sym c.in-Some.ensures) c.in-Ok.ensures.known runs (cleared ∙ whole),
    )

pub returns-in-Ok-clause-placed : goal.returns-in-Ok-clause-placed
returns-in-Ok-clause-placed c =
    placed-run c.args.problem.now c.run_table.new.building _ c.in-Ok.field-0.facts.atoms refl c.clear.ensures.items c.in-Ok.ensures.place

pub returns-in-Err-BadParam-clause-told : goal.returns-in-Err-BadParam-clause-told
returns-in-Err-BadParam-clause-told c =
    let told = rw c.in-Err-BadParam.field-0-is at c.in-Err-BadParam.ensures.unknown in
    let bad = told c.in-Err-BadParam.param refl in
    record {
      table = c.in-Some.table.now;
      named = sym c.in-Some.ensures;
      unknown = sym (bad-unknown c.in-Some.table.now c.args.bound.now c.requires.binding.from_one) ∙ bad;
      same = refl;
    }
