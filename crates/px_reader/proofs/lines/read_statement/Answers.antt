use Rattle.px_reader.proofs.Common.{◌∙◌, sym, no-fault, stage_view, declared_of, statement_view}
use Rattle.px_causes.proofs.Late.{early-all, early-right, early-some, few-facts, many-facts}
use Rattle.px_reader.proofs.lines.read_statement.Goals as goal

pub declare-requires-clause-right : goal.declare-requires-clause-right
declare-requires-clause-right c =
    let none = rw c.in-None.is at c.in_ok-fault.ensures.early in
    early-right (stage_view c.args.stage.now) (declared_of c.args.so_far.now) (statement_view c.args.statement) (sym none)

pub declare-requires-clause-faultless : goal.declare-requires-clause-faultless
declare-requires-clause-faultless c = λ other.
    let none = rw c.in-None.is at c.in_ok-fault.ensures.early in
    (no-fault (stage_view c.args.stage.now) (declared_of c.args.so_far.now) (statement_view c.args.statement)
    (sym (early-all (stage_view c.args.stage.now) (declared_of c.args.so_far.now) (statement_view c.args.statement) other) ∙ sym none)).1

pub returns-in-Some-clause-fault : goal.returns-in-Some-clause-fault
returns-in-Some-clause-fault c =
    early-some (stage_view c.args.stage.now) (declared_of c.args.so_far.now) (statement_view c.args.statement) _
    (sym (rw c.in-Some.is at c.in_ok-fault.ensures.early))

pub returns-then-passes_facts-clause-fault : goal.returns-then-passes_facts-clause-fault
returns-then-passes_facts-clause-fault c =
    let none = rw c.in-None.is at c.in_ok-fault.ensures.early in
    let many = rw c.is_fact-is_fact.ensures at (sym c.passes_facts.ensures ∙ c.if-passes_facts.true) in
    many-facts (stage_view c.args.stage.now) c.args.number (declared_of c.args.so_far.now) (declared_of c.declare.new.so_far)
    (statement_view c.args.statement) c.in_ok-declare-in-None.ensures (sym none) many

pub returns-else-passes_facts-clause-fault : goal.returns-else-passes_facts-clause-fault
returns-else-passes_facts-clause-fault c =
    let none = rw c.in-None.is at c.in_ok-fault.ensures.early in
    let few = rw c.is_fact-is_fact.ensures at (sym c.passes_facts.ensures ∙ c.if-passes_facts.false) in
    few-facts (stage_view c.args.stage.now) c.args.number (declared_of c.args.so_far.now) (declared_of c.declare.new.so_far)
    (statement_view c.args.statement) c.in_ok-declare-in-None.ensures (sym none) few
