use Rattle.std.proofs.Common.{ℕ, List, sym, subst}
use Rattle.std.specs.Prelude.{All, IfOk}
use Rattle.px_table.specs.declared.entry.Entry.{Entry}
use Rattle.px_table.specs.declared.entry.Entry.TheVariants.{Macro}
use Rattle.px_entries.specs.Entries.{IsEntry, obligations_of}
use Rattle.px_support.specs.Asking.{IsFindable}
use Rattle.px_support.specs.Going.{IsEntryApplied}
use Rattle.px_support.proofs.RowSteps.{instance-findable}
use Rattle.px_support.proofs.walk.apply_entry.Goals as goal

pub apply_instance-requires-clause-inst : goal.apply_instance-requires-clause-inst
apply_instance-requires-clause-inst c =
    (subst (IsEntry c.args.asked.now.problem.now c.args.asked.now.tables.now) c.in-Op.is c.requires.entry).of

pub apply_instance-requires-clause-findable : goal.apply_instance-requires-clause-findable
apply_instance-requires-clause-findable c =
    instance-findable c.args.asked.now.problem.now c.args.asked.now.tables.now c.args.walk.model.atoms c.args.entry.now c.in-Op.inst
    c.in-Op.is c.requires.findable

pub returns-in-Op : goal.returns-in-Op
returns-in-Op c =
    subst (λ (e : Entry). IfOk c.apply_instance.result
    (IsEntryApplied c.args.asked.now.problem.now c.args.asked.now.tables.now e c.args.walk)) (sym c.in-Op.is) c.apply_instance.ensures

pub apply_macro-requires-clause-entry : goal.apply_macro-requires-clause-entry
apply_macro-requires-clause-entry c =
    let problem = c.args.asked.now.problem.now in
    let tables = c.args.asked.now.tables.now in
    subst (λ (s : List ℕ). IsEntry problem tables (Macro c.in-Macro.number c.in-Macro.prefix s)) (sym c.as_slice.ensures)
    (subst (IsEntry problem tables) c.in-Macro.is c.requires.entry)

pub apply_macro-requires-clause-findable : goal.apply_macro-requires-clause-findable
apply_macro-requires-clause-findable c =
    let problem = c.args.asked.now.problem.now in
    let tables = c.args.asked.now.tables.now in
    let model = c.args.walk.model.atoms in
    subst (λ (s : List ℕ). All (IsFindable problem) (obligations_of problem tables model (Macro c.in-Macro.number c.in-Macro.prefix s)))
    (sym c.as_slice.ensures)
    (subst (λ (e : Entry). All (IsFindable problem) (obligations_of problem tables model e)) c.in-Macro.is c.requires.findable)

pub returns-in-Macro : goal.returns-in-Macro
returns-in-Macro c =
    let problem = c.args.asked.now.problem.now in
    let tables = c.args.asked.now.tables.now in
    subst (λ (e : Entry). IfOk c.apply_macro.result (IsEntryApplied problem tables e c.args.walk)) (sym c.in-Macro.is)
    (subst (λ (s : List ℕ). IfOk c.apply_macro.result
    (IsEntryApplied problem tables (Macro c.in-Macro.number c.in-Macro.prefix s) c.args.walk)) c.as_slice.ensures c.apply_macro.ensures)
