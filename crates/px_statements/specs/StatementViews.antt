-- What the definitions see of statements.
use Rattle.std.specs.Prelude.{◌≡◌, Bool, true, Option, Some, map}
use Rattle.px_script.specs.Statements as spec
use Rattle.px_script.specs.Declarations.{Declared, has_building}
use Rattle.px_script.specs.Forms.{is_formed}
use Rattle.px_lines.specs.ItemViews.{binding_view, room_edit_view, signed_view, text_of, argument_view, part_view}
use Rattle.px_statements.specs.declared.statement_kinds.Statement.{Statement}
use Rattle.px_statements.specs.declared.statement_kinds.Statement.TheVariants as statement

abbrev pub statement_view : Statement → spec.Statement
statement_view (statement.Script n) = spec.script n
statement_view (statement.Object ns) = spec.object (map text_of ns.now)
statement_view (statement.Predicate n a) = spec.predicate n.now a
statement_view (statement.Axiom atoms) = spec.«axiom» (map signed_view atoms.now)
statement_view (statement.Operator n ps) = spec.operator n.now (map text_of ps.now)
statement_view (statement.Pre atoms) = spec.pre (map signed_view atoms.now)
statement_view (statement.Delete atoms) = spec.delete (map signed_view atoms.now)
statement_view (statement.Add atoms) = spec.add (map signed_view atoms.now)
statement_view statement.Building = spec.building
statement_view (statement.Room n) = spec.room n.now
statement_view (statement.Door n one other is_open) = spec.door n.now one.now other.now is_open
statement_view (statement.Box n r) = spec.box n.now r.now
statement_view (statement.Robot r) = spec.robot r.now
statement_view statement.End = spec.end
statement_view (statement.Fact atoms) = spec.fact (map signed_view atoms.now)
statement_view (statement.Height n) = spec.height n
statement_view (statement.Nodes n) = spec.nodes n
statement_view (statement.Shapes n) = spec.shapes n
statement_view (statement.Weight n) = spec.weight n
statement_view (statement.Plan n atoms) = spec.plan n.now (map signed_view atoms.now)
statement_view (statement.Learn n source) = spec.learn n.now source.now
statement_view (statement.Ask about n) = spec.ask about n.now
statement_view (statement.DisturbAtoms turn between edits) = spec.disturb_atoms turn between (map signed_view edits.now)
statement_view (statement.DisturbRooms turn between edits) = spec.disturb_rooms turn between (map room_edit_view edits.now)
statement_view (statement.Run n bindings) = spec.run n.now (map binding_view bindings.now)
statement_view (statement.Duo one other ns) = spec.duo one.now other.now ns.now
statement_view statement.Facts = spec.facts
statement_view (statement.Sort n ns) = spec.sort n.now (map text_of ns.now)
statement_view (statement.Table n parameters) = spec.table n.now parameters
statement_view (statement.Step o ts) = spec.step o.now (map argument_view ts.now)
statement_view (statement.Goal atoms) = spec.goal (map signed_view atoms.now)
statement_view (statement.Proof parts) = spec.proof (map part_view parts.now)
statement_view (statement.Edit n source prefix ps) = spec.edit n.now source.now prefix ps.now
statement_view (statement.Pursue n atoms) = spec.pursue n.now (map signed_view atoms.now)
statement_view (statement.Tree n most atoms) = spec.tree n.now most (map signed_view atoms.now)
statement_view (statement.Param n ps) = spec.param n.now (map text_of ps.now)

-- Where the line is that of a statement, in the form that lines have after some lines, the answer is this statement.
abbrev pub UndoesLineOf : Bool → spec.Line → Option spec.Statement → Type 0
UndoesLineOf with_building line answer = (d : Declared) (s : spec.Statement) → has_building d ≡ with_building
    → is_formed d (spec.line_of s) ≡ true → line ≡ spec.line_of s → answer ≡ Some s
