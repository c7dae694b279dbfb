use Rattle.std.proofs.Common.{List, map, [], refl, sym, ap, ◌∙◌, subst}
use Rattle.px_terms.specs.declared.atom.Atom.{Atom}
use Rattle.px_table.specs.declared.table.Table.{Table}
use Rattle.px_entries.specs.Learned.{AreLearned}
use Rattle.px_planex.specs.Turns.{Recorded}
use Rattle.px_pursue.specs.Pursuits.{IsPursuit}
use Rattle.px_turns.specs.Told.{turn_told}
use Rattle.px_session.specs.RunWorlds.{IsWorldInBuilding, TakesAll}
use Rattle.px_session.specs.Sessions.{Edit, SessionState, leaves_edit}
use Rattle.px_session.specs.contracts.state.State as held
use Rattle.px_session.proofs.Learned.{are-learned}
use Rattle.px_session.proofs.Placing.{placed-run}
use Rattle.px_session.proofs.state.State.pursue.Goals as goal

pub pursue_in_copy-requires-clause-tables : goal.pursue_in_copy-requires-clause-tables
pursue_in_copy-requires-clause-tables c =
    let learned = are-learned c.args.problem.now c.args.self.now c.requires.session in
    let here = subst (λ (s : SessionState). AreLearned c.args.problem.now s.learned.tables) (sym c.self.view_is) learned in
    subst (AreLearned c.args.problem.now) (sym c.tables.ensures) here

pub pursue_in_copy-requires-clause-place : goal.pursue_in_copy-requires-clause-place
pursue_in_copy-requires-clause-place c =
    subst (λ (s : SessionState). IsWorldInBuilding c.args.problem.now s.atoms c.args.building.now) (sym c.self.view_is)
    c.requires.placed.place

pub pursue_in_copy-requires-clause-taken : goal.pursue_in_copy-requires-clause-taken
pursue_in_copy-requires-clause-taken c =
    subst (TakesAll c.args.building.now)
    (sym (c.deref.ensures.value ∙ ap (λ (s : SessionState). s.recorded) c.self.view_is)) c.requires.placed.edits

pub returns-in-Ok-clause-told : goal.returns-in-Ok-clause-told
returns-in-Ok-clause-told c =
    let made = c.in-Ok.field-0 in
    let pursues = λ (tables : List Table) (recorded : List (Recorded Edit)) (atoms : List Atom).
    IsPursuit leaves_edit c.args.problem.now tables c.args.goal.now c.args.variable_count recorded atoms made.searches (map turn_told made.turns)
    made.end made.facts.atoms in
    let of_tables = subst (λ (tables : List Table). pursues tables c.deref.result.now c.self.inside.facts.atoms) c.tables.ensures
    c.in-Ok.ensures.pursues in
    let of_recorded = subst (λ (recorded : List (Recorded Edit)). pursues c.self.inside.learned.tables recorded c.self.inside.facts.atoms)
    c.deref.ensures.value of_tables in
    let of_state = subst (λ (s : SessionState). pursues s.learned.tables s.recorded s.atoms) c.self.view_is of_recorded in
    let cleared = ap (λ (r : List (Recorded Edit)). record
    (held.the_view c.self.inside) { atoms = made.facts.atoms; recorded = r }) c.clear.ensures.items in
    let whole = ap (λ (s : SessionState). record s { atoms = made.facts.atoms; recorded = [] }) c.self.view_is in
    (refl, record { after = made.facts.atoms; pursues = of_state; changed = cleared ∙ whole })

pub returns-in-Ok-clause-placed : goal.returns-in-Ok-clause-placed
returns-in-Ok-clause-placed c =
    placed-run c.args.problem.now c.pursue_in_copy.new.building _ c.in-Ok.field-0.facts.atoms refl c.clear.ensures.items
    c.in-Ok.ensures.place
