use Rattle.std.proofs.Common.{◌∙◌, List, sym, subst}
use Rattle.std.specs.Prelude.{[], ◌∷◌, All, IfOk}
use Rattle.px_terms.specs.Validity.{IsAtomOf}
use Rattle.px_terms.specs.ValidityLaws.{precondition-is_of}
use Rattle.px_terms.specs.declared.atom.Atom.{Atom}
use Rattle.px_table.specs.declared.entry.Entry.{Entry}
use Rattle.px_entries.specs.Entries.{IsEntry, obligations_of}
use Rattle.px_gaps.specs.Known.{IsKnownOf}
use Rattle.px_entries.proofs.RowSteps.{macro-known, macro-within}
use Rattle.px_entries.proofs.entry_rows.known_entry.Goals as goal

pub precondition_of-requires-clause-op : goal.precondition_of-requires-clause-op
precondition_of-requires-clause-op c = (subst (IsEntry c.args.problem.now c.args.tables.now) c.in-Op.is c.requires.entry).of.op

pub precondition_of-requires-clause-count : goal.precondition_of-requires-clause-count
precondition_of-requires-clause-count c = (subst (IsEntry c.args.problem.now c.args.tables.now) c.in-Op.is c.requires.entry).of.count

pub known_row-requires-clause-formula : goal.known_row-requires-clause-formula
known_row-requires-clause-formula c =
    subst (All (IsAtomOf c.args.problem.now 0)) (sym (c.deref.ensures.value ∙ c.in_ok-formula-in-Op.ensures))
    (precondition-is_of c.args.problem.now c.in-Op.inst c.requires.problem
    (subst (IsEntry c.args.problem.now c.args.tables.now) c.in-Op.is c.requires.entry).of)

pub returns-in_ok-formula-in-Op : goal.returns-in_ok-formula-in-Op
returns-in_ok-formula-in-Op c =
    subst (λ (e : Entry). IfOk c.known_row.result (IsKnownOf c.args.problem.now
    (obligations_of c.args.problem.now c.args.tables.now c.args.model.now.atoms e))) (sym c.in-Op.is)
    (subst (λ (l : List Atom). IfOk c.known_row.result
    (IsKnownOf c.args.problem.now (record { formula = l; variable_count = 0; facts = c.args.model.now.atoms } ∷ [])))
    (c.deref.ensures.value ∙ c.in_ok-formula-in-Op.ensures) c.known_row.ensures)

pub returns-in-Macro : goal.returns-in-Macro
returns-in-Macro c =
    let problem = c.args.problem.now in
    let tables = c.args.tables.now in
    let model = c.args.model.now.atoms in
    let within =
    macro-within problem tables c.in-Macro.number c.in-Macro.prefix c.in-Macro.sigma
    (subst (IsEntry problem tables) c.in-Macro.is c.requires.entry) in
    subst (λ (e : Entry). IfOk c.known_prefix.result (IsKnownOf problem (obligations_of problem tables model e))) (sym c.in-Macro.is)
    (macro-known problem tables model c.in-Macro.number c.in-Macro.prefix c.in-Macro.sigma c.as_slice.result.now
    c.index-tables-number.result c.known_prefix.result c.as_slice.ensures within c.index-tables-number.is c.known_prefix.ensures)
