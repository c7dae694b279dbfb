use Rattle.std.proofs.Common.{◌≡◌, List, ℕ, Bor, Result, sym, subst}
use Rattle.px_cert.specs.declared.draft.Draft.{Draft}
use Rattle.px_cert.specs.declared.refused.Refused.{Refused}
use Rattle.px_cert.specs.Reading.{Parsed, Leaves, next_at}
use Rattle.px_cert.proofs.NextLine.{next-heading, next-objects, next-predicates, next-axioms, next-axiom, next-operators, next-operator, next-pre, next-delete, next-add, next-table, next-goal, next-steps, next-step, next-row, next-nothing}
use Rattle.px_cert.proofs.reading.next_line.Goals as goal

-- what was left is what the next line leaves
left_by : (new : Draft) (r : Result (Bor (List ℕ)) Refused) (read other : Parsed Draft) → read ≡ other → Leaves new r other → Leaves new r read
left_by new r read other same left = subst (λ (x : Parsed Draft). Leaves new r x) (sym same) left

pub returns-in-Heading : goal.returns-in-Heading
returns-in-Heading c =
    left_by c.heading_line.new.draft c.heading_line.result (next_at c.args.draft.now c.args.bytes.now) _
    (next-heading c.args.draft.now c.args.bytes.now c.in-Heading.is) c.heading_line.ensures

pub returns-in-Objects : goal.returns-in-Objects
returns-in-Objects c =
    left_by c.objects_line.new.draft c.objects_line.result (next_at c.args.draft.now c.args.bytes.now) _
    (next-objects c.args.draft.now c.args.bytes.now c.in-Objects.is) c.objects_line.ensures

pub returns-in-Predicates : goal.returns-in-Predicates
returns-in-Predicates c =
    left_by c.predicates_line.new.draft c.predicates_line.result (next_at c.args.draft.now c.args.bytes.now) _
    (next-predicates c.args.draft.now c.args.bytes.now c.in-Predicates.is) c.predicates_line.ensures

pub returns-in-Axioms : goal.returns-in-Axioms
returns-in-Axioms c =
    left_by c.axioms_line.new.draft c.axioms_line.result (next_at c.args.draft.now c.args.bytes.now) _
    (next-axioms c.args.draft.now c.args.bytes.now c.in-Axioms.is) c.axioms_line.ensures

pub returns-in-Axiom : goal.returns-in-Axiom
returns-in-Axiom c =
    left_by c.axiom_line.new.draft c.axiom_line.result (next_at c.args.draft.now c.args.bytes.now) _
    (next-axiom c.args.draft.now c.args.bytes.now c.in-Axiom.more c.in-Axiom.is) c.axiom_line.ensures

pub returns-in-Operators : goal.returns-in-Operators
returns-in-Operators c =
    left_by c.operators_line.new.draft c.operators_line.result (next_at c.args.draft.now c.args.bytes.now) _
    (next-operators c.args.draft.now c.args.bytes.now c.in-Operators.is) c.operators_line.ensures

pub returns-in-Operator : goal.returns-in-Operator
returns-in-Operator c =
    left_by c.operator_line.new.draft c.operator_line.result (next_at c.args.draft.now c.args.bytes.now) _
    (next-operator c.args.draft.now c.args.bytes.now c.in-Operator.more c.in-Operator.is) c.operator_line.ensures

pub returns-in-Pre : goal.returns-in-Pre
returns-in-Pre c =
    left_by c.pre_line.new.draft c.pre_line.result (next_at c.args.draft.now c.args.bytes.now) _
    (next-pre c.args.draft.now c.args.bytes.now c.in-Pre.more c.in-Pre.is) c.pre_line.ensures

pub returns-in-Delete : goal.returns-in-Delete
returns-in-Delete c =
    left_by c.delete_line.new.draft c.delete_line.result (next_at c.args.draft.now c.args.bytes.now) _
    (next-delete c.args.draft.now c.args.bytes.now c.in-Delete.more c.in-Delete.is) c.delete_line.ensures

pub returns-in-Add : goal.returns-in-Add
returns-in-Add c =
    left_by c.add_line.new.draft c.add_line.result (next_at c.args.draft.now c.args.bytes.now) _
    (next-add c.args.draft.now c.args.bytes.now c.in-Add.more c.in-Add.is) c.add_line.ensures

pub returns-in-Table : goal.returns-in-Table
returns-in-Table c =
    left_by c.table_line.new.draft c.table_line.result (next_at c.args.draft.now c.args.bytes.now) _
    (next-table c.args.draft.now c.args.bytes.now c.in-Table.is) c.table_line.ensures

pub returns-in-Goal : goal.returns-in-Goal
returns-in-Goal c =
    left_by c.goal_line.new.draft c.goal_line.result (next_at c.args.draft.now c.args.bytes.now) _
    (next-goal c.args.draft.now c.args.bytes.now c.in-Goal.is) c.goal_line.ensures

pub returns-in-Steps : goal.returns-in-Steps
returns-in-Steps c =
    left_by c.steps_line.new.draft c.steps_line.result (next_at c.args.draft.now c.args.bytes.now) _
    (next-steps c.args.draft.now c.args.bytes.now c.in-Steps.is) c.steps_line.ensures

pub returns-in-Step : goal.returns-in-Step
returns-in-Step c =
    left_by c.step_line.new.draft c.step_line.result (next_at c.args.draft.now c.args.bytes.now) _
    (next-step c.args.draft.now c.args.bytes.now c.in-Step.more c.in-Step.rows c.in-Step.is) c.step_line.ensures

pub returns-in-Row : goal.returns-in-Row
returns-in-Row c =
    left_by c.row_line.new.draft c.row_line.result (next_at c.args.draft.now c.args.bytes.now) _
    (next-row c.args.draft.now c.args.bytes.now c.in-Row.more c.in-Row.is) c.row_line.ensures

pub returns-in-Nothing : goal.returns-in-Nothing
returns-in-Nothing c = next-nothing c.args.draft.now c.args.bytes.now c.in-Nothing.is
