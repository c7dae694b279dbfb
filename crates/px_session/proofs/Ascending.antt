-- A world's atoms stay a set: whatever edits and actions leave of a set is one.
use Rattle.std.specs.Prelude.{◌≡◌, ℕ, not, List, [], ◌++◌, filter}
use Rattle.std.proofs.Common.{sym, subst}
use Rattle.px_base.specs.SetLaws.{set_of-is_sorted, with_item-sorted}
use Rattle.px_terms.specs.declared.atom.Atom.{Atom}
use Rattle.px_terms.specs.declared.instance.OpInst.{OpInst}
use Rattle.px_terms.specs.declared.problem.Problem.{Problem}
use Rattle.px_terms.specs.declared.problem.Schema.{Schema}
use Rattle.px_terms.specs.AtomSets.{IsAtomSet}
use Rattle.px_terms.specs.Operators.{atoms_of, is_deleted, result_by, schema_of}
use Rattle.px_terms.specs.Order.{atom_cmp}
use Rattle.px_terms.specs.OrderLaws.{atom_cmp-same, atom_cmp-total}
use Rattle.px_ops.specs.ModelLaws.{without_atom-ascending}
use Rattle.px_table.specs.declared.table.Table.{Table}
use Rattle.px_world.specs.declared.edits.AtomEdit.TheVariants.{Add, Remove}
use Rattle.px_rooms.specs.Changes.{edit_schema}
use Rattle.px_planex.specs.declared.event.Event.TheVariants.{Sense, Act}
use Rattle.px_planex.specs.declared.event.Outcome.{Outcome}
use Rattle.px_planex.specs.declared.event.Outcome.TheVariants.{Acted}
use Rattle.px_planex.specs.Execution.{Happens, Running}
use Rattle.px_planex.specs.Turns.{Recorded, RunsTable, TakesTurns, TurnValue}
use Rattle.px_session.specs.Sessions.{Edit, leaves_edit, of_atoms, of_rooms}
use Rattle.px_duo.specs.Duos.{Pair, duo_running, neither_sensed}
use Rattle.px_printer.specs.declared.duo_line.DuoLine.{DuoLine}
use Rattle.px_session.specs.DuoRuns.{RunsDuo}
use Rattle.px_session.proofs.TwoRunning.{first_ready, lines_keep}
use Rattle.px_session.proofs.Walks.{turns-keep}

result-set : (schema : Schema) (atoms : List Atom) (inst : OpInst) → IsAtomSet (result_by schema atoms inst)
result-set schema atoms inst =
    set_of-is_sorted atom_cmp atom_cmp-total atom_cmp-same
    (filter (λ atom. not (is_deleted schema inst atom)) atoms ++ atoms_of schema.add inst)

edit-set : (edit : Edit) (atoms : List Atom) → IsAtomSet atoms → IsAtomSet (leaves_edit edit atoms)
edit-set (of_atoms (Add atom)) atoms set = with_item-sorted atom_cmp atom_cmp-total atom_cmp-same atom atoms set
edit-set (of_atoms (Remove atom)) atoms set = without_atom-ascending atom atoms set
edit-set (of_rooms one) atoms set = result-set (edit_schema one) atoms (record { op = 0; args = [] })

-- turns from any number on
pub turns-set : (problem : Problem) (table : Table) (bound : List (ℕ × ℕ)) (recorded : List (Recorded Edit)) (number : ℕ) (old : Running)
    (turns : List TurnValue) (new : Running)
    → TakesTurns leaves_edit problem table bound recorded number old turns new → IsAtomSet old.atoms → IsAtomSet new.atoms
turns-set problem table bound recorded number old turns new takes set =
    turns-keep leaves_edit problem table bound IsAtomSet (λ (edit : Edit). Unit {0})
    (λ edit atoms own set. edit-set edit atoms set) acted recorded number old turns new
    (λ k one below i edit within. tt) takes set
  where
    acted : (outcome : Outcome) (old sensed before new : Running) → Happens leaves_edit problem table bound old Sense outcome sensed
        → before.memory ≡ sensed.memory → Happens leaves_edit problem table bound before Act Acted new → IsAtomSet before.atoms
        → IsAtomSet new.atoms
    acted outcome old sensed before new senses same (kernel, remembered, holds, (inst, step, left)) set =
        subst (λ (r : Running). IsAtomSet r.atoms) (sym left) (result-set (schema_of problem inst) before.atoms inst)

pub run-set : (problem : Problem) (table : Table) (bound : List (ℕ × ℕ)) (recorded : List (Recorded Edit)) (atoms : List Atom)
    (turns : List TurnValue) (after : List Atom)
    → RunsTable leaves_edit problem table bound recorded atoms turns after → IsAtomSet atoms → IsAtomSet after
run-set problem table bound recorded atoms turns after (memory, takes) set = turns-set problem table bound recorded 1 _ turns _ takes set

pub duo-set : (problem : Problem) (tables : Pair Table) (atoms : List Atom) (numbers : List ℕ) (lines : List DuoLine) (after : List Atom)
    → RunsDuo leaves_edit problem tables atoms numbers lines after → IsAtomSet atoms → IsAtomSet after
duo-set problem tables atoms numbers lines after (memories, is) set =
    lines_keep leaves_edit problem tables IsAtomSet
    (λ who old new ready step set. subst IsAtomSet (sym step.left) (result-set (schema_of problem step.inst) old.atoms step.inst)) numbers
    (duo_running atoms neither_sensed) (duo_running after memories) lines is (first_ready leaves_edit problem tables) set
