use Rattle.std.proofs.Common.{List, refl, sym, ap, ◌∙◌, subst}
use Rattle.px_terms.specs.declared.atom.Atom.{Atom}
use Rattle.px_table.specs.declared.table.Table.{Table}
use Rattle.px_entries.specs.Learned.{AreLearned}
use Rattle.px_ends.specs.Tasks.{task_with}
use Rattle.px_ends.specs.Trees.{IsTree}
use Rattle.px_session.specs.Sessions.{SessionState}
use Rattle.px_session.proofs.Learned.{are-learned}
use Rattle.px_session.proofs.state.State.tree.Goals as goal

pub search_tree-requires-clause-tables : goal.search_tree-requires-clause-tables
search_tree-requires-clause-tables c =
    let learned = are-learned c.args.problem.now c.args.self.now c.requires.session in
    let here = subst (λ (s : SessionState). AreLearned c.args.problem.now s.learned.tables) (sym c.self.view_is) learned in
    subst (AreLearned c.args.problem.now) (sym c.tables.ensures) here

pub returns : goal.returns
returns c =
    let grown = λ (tables : List Table) (atoms : List Atom).
    IsTree (task_with c.args.problem.now c.args.nodes tables atoms c.args.goal.now c.args.variable_count) c.args.problem.now.weight c.in_ok-tree.tree in
    let of_tables = subst (λ (tables : List Table). grown tables c.self.inside.facts.atoms) c.tables.ensures c.in_ok-tree.ensures in
    let of_state = subst (λ (s : SessionState). grown s.learned.tables s.atoms) c.self.view_is of_tables in
    let names = c.in_ok-tables.ensures ∙ c.names.ensures ∙ ap (λ (s : SessionState). s.learned.names) c.self.view_is in
    record { told = (refl, names, of_state, refl) }
