use Rattle.std.proofs.Common.{List, refl, sym, ap, subst}
use Rattle.px_terms.specs.declared.atom.Atom.{Atom}
use Rattle.px_duo.specs.Duos.{both}
use Rattle.px_session.specs.DuoRuns.{RunsDuo}
use Rattle.px_session.specs.RunWorlds.{IsWorldInBuilding}
use Rattle.px_session.specs.Sessions.{SessionState, leaves_edit}
use Rattle.px_session.proofs.OneDuo.{first-unnamed, second-unnamed}
use Rattle.px_session.proofs.OneLearning.{any-right}
use Rattle.px_session.proofs.Placing.{placed-duo}
use Rattle.px_session.proofs.state.State.duo.Goals as goal

pub returns-in_default-clause-told : goal.returns-in_default-clause-told
returns-in_default-clause-told c = (first-unnamed c.args.self.now c.args.first c.args.second (sym c.in_default.ensures), refl)

pub returns-in_default-table-clause-told : goal.returns-in_default-table-clause-told
returns-in_default-table-clause-told c = (
  second-unnamed c.args.self.now c.args.first c.args.second c.in-Some.one.now (sym c.in-Some.ensures) (sym c.in_default-table.ensures),
  refl,
)

pub run_duo-requires-clause-first : goal.run_duo-requires-clause-first
run_duo-requires-clause-first c =
    any-right c.args.problem.now c.args.self.now c.requires.session.plans c.requires.session.learned c.args.first c.in-Some.one.now
    (sym c.in-Some.ensures)

pub run_duo-requires-clause-second : goal.run_duo-requires-clause-second
run_duo-requires-clause-second c =
    any-right c.args.problem.now c.args.self.now c.requires.session.plans c.requires.session.learned c.args.second c.in-Some-table.other.now
    (sym c.in-Some-table.ensures)

pub run_duo-requires-clause-place : goal.run_duo-requires-clause-place
run_duo-requires-clause-place c =
    subst (λ (s : SessionState). IsWorldInBuilding c.args.problem.now s.atoms c.args.building.now) (sym c.self.view_is)
    c.requires.placed.place

pub returns-in-Ok-clause-told : goal.returns-in-Ok-clause-told
returns-in-Ok-clause-told c =
    let after = c.in-Ok.field-0.facts.atoms in (
      refl,
      refl,
      record {
        one = c.in-Some.one.now;
        other = c.in-Some-table.other.now;
        first_named = sym c.in-Some.ensures;
        second_named = sym c.in-Some-table.ensures;
        after = after;
        runs = subst (λ (atoms : List Atom). RunsDuo leaves_edit c.args.problem.now (both c.in-Some.one.now c.in-Some-table.other.now) atoms
            c.args.numbers.now c.in-Ok.field-0.lines after) (ap (λ (s : SessionState). s.atoms) c.self.view_is) c.in-Ok.ensures.runs;
        changed = ap (λ (s : SessionState). record s { atoms = after }) c.self.view_is;
      },
    )

pub returns-in-Ok-clause-placed : goal.returns-in-Ok-clause-placed
returns-in-Ok-clause-placed c =
    let after = c.in-Ok.field-0.facts.atoms in
    placed-duo c.args.problem.now c.args.building.now c.run_duo.new.building c.args.self.now _ after
    (ap (λ (s : SessionState). record s { atoms = after }) c.self.view_is) c.requires.placed.edits c.run_duo.ensures.takes
    c.in-Ok.ensures.place
