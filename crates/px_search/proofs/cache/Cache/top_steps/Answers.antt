use Rattle.std.proofs.Common.{true, ◌∙◌, List, take, sym, subst}
use Rattle.px_table.specs.declared.node.Node.{Node}
use Rattle.px_entries.specs.Entries.{IsEntry}
use Rattle.px_gaps.specs.declared.known.Known.TheVariants.{Applicable, Open, Closed, Limited}
use Rattle.px_gaps.specs.Known.{IsOpenWith}
use Rattle.px_ends.specs.Tasks.{needs_with}
use Rattle.px_support.specs.Asking.{task_for}
use Rattle.px_search.specs.Going.{BeginsAt, AreFirstSuccessors, LimitsAt, LimitsNode}
use Rattle.px_search.specs.declared.step.Step.{Step}
use Rattle.px_base.proofs.Loops.{ok_map}
use Rattle.px_search.proofs.FromLaws.{alone-applicable, alone-closed, read-each, read-known, read-of, read-top, some_top, top_entry, if_limit}
use Rattle.px_search.proofs.Stepping.{limits-needs}
use Rattle.px_search.proofs.cache.Cache.top_steps.Goals as goal

pub entry-top-requires : goal.entry-top-requires
entry-top-requires c = some_top c.args.self.now.numbers c.requires.node.0.stack c.args.frame c.requires.node.3

pub known_top-requires-clause-entry : goal.known_top-requires-clause-entry
known_top-requires-clause-entry c =
    top_entry c.args.self.now.numbers (IsEntry c.args.asked.now.problem.now c.args.asked.now.tables.now) c.requires.node.0.stack
    c.args.frame c.entry-top.result.now c.requires.node.2 c.requires.node.3 c.entry-top.ensures

pub returns-in-Limited-clause-limited : goal.returns-in-Limited-clause-limited
returns-in-Limited-clause-limited c =
    let task = task_for c.args.asked.now in
    let kept = c.args.self.now.numbers in
    let model = c.args.current.now.model.atoms in
    let stack = c.as_slice.result.now in
    let n = c.requires.node in
    let r =
    read-of task kept c.args.key c.args.frame model stack n c.requires.current.model_at
    (c.as_slice.ensures.value ∙ c.in_ok-stack.ensures n.0.stack n.1.stack) in
    read-each r (λ (node : Node). LimitsNode task node c.in-Limited.limit)
    (limits-needs task (record { model = model; stack = stack }) c.in-Limited.limit
    (read-known r c.entry-top.result.now (Limited c.in-Limited.limit) c.in_ok-known.known c.entry-top.ensures c.in_ok-known.ensures
    c.in-Limited.is))

pub kept_over-requires-clause-here : goal.kept_over-requires-clause-here
kept_over-requires-clause-here c =
    let n = c.requires.node in
    let r =
    read-of (task_for c.args.asked.now) c.args.self.now.numbers c.args.key c.args.frame c.args.current.now.model.atoms c.as_slice.result.now
    n c.requires.current.model_at (c.as_slice.ensures.value ∙ c.in_ok-stack.ensures n.0.stack n.1.stack) in
    record { top = read-top r; part = c.requires.current.part_at }

pub kept_over-requires-clause-alone : goal.kept_over-requires-clause-alone
kept_over-requires-clause-alone c =
    let task = task_for c.args.asked.now in
    let kept = c.args.self.now.numbers in
    let model = c.args.current.now.model.atoms in
    let stack = c.as_slice.result.now in
    let n = c.requires.node in
    let r =
    read-of task kept c.args.key c.args.frame model stack n c.requires.current.model_at
    (c.as_slice.ensures.value ∙ c.in_ok-stack.ensures n.0.stack n.1.stack) in
    let known =
    read-known r c.entry-top.result.now Closed c.in_ok-known.known c.entry-top.ensures c.in_ok-known.ensures c.in-Closed.is in
    subst (λ (s : List Step). AreFirstSuccessors task kept (record { model = model; stack = take 1 stack }) s true)
    (sym c.new-nothing.ensures.items) (alone-closed task (read-top r) true known)

pub returns-in-Closed-clause-steps : goal.returns-in-Closed-clause-steps
returns-in-Closed-clause-steps c =
    let task = task_for c.args.asked.now in
    let kept = c.args.self.now.numbers in
    let new = c.kept_over.new.self.numbers in
    let model = c.args.current.now.model.atoms in
    let stack = c.as_slice.result.now in
    let n = c.requires.node in
    let r =
    read-of task kept c.args.key c.args.frame model stack n c.requires.current.model_at
    (c.as_slice.ensures.value ∙ c.in_ok-stack.ensures n.0.stack n.1.stack) in
    read-each r
    (λ (node : Node). AreFirstSuccessors task new node c.in_ok-none-in-Closed.none.steps.items c.in_ok-none-in-Closed.none.is_all)
    c.in_ok-none-in-Closed.ensures.steps

pub kept_over-requires-in-Applicable-clause-alone : goal.kept_over-requires-in-Applicable-clause-alone
kept_over-requires-in-Applicable-clause-alone c =
    let task = task_for c.args.asked.now in
    let kept = c.args.self.now.numbers in
    let model = c.args.current.now.model.atoms in
    let stack = c.as_slice.result.now in
    let n = c.requires.node in
    let r =
    read-of task kept c.args.key c.args.frame model stack n c.requires.current.model_at
    (c.as_slice.ensures.value ∙ c.in_ok-stack.ensures n.0.stack n.1.stack) in
    let known =
    read-known r c.entry-top.result.now Applicable c.in_ok-known.known c.entry-top.ensures c.in_ok-known.ensures c.in-Applicable.is in
    subst (λ (s : List Step). AreFirstSuccessors task kept (record { model = model; stack = take 1 stack }) s true)
    (sym c.in_ok-only-in-Applicable.ensures) (alone-applicable task (read-top r) true known)

pub returns-in-Applicable-clause-steps : goal.returns-in-Applicable-clause-steps
returns-in-Applicable-clause-steps c =
    let task = task_for c.args.asked.now in
    let kept = c.args.self.now.numbers in
    let new = c.kept_over-in-Applicable.new.self.numbers in
    let model = c.args.current.now.model.atoms in
    let stack = c.as_slice.result.now in
    let n = c.requires.node in
    let r =
    read-of task kept c.args.key c.args.frame model stack n c.requires.current.model_at
    (c.as_slice.ensures.value ∙ c.in_ok-stack.ensures n.0.stack n.1.stack) in
    read-each r
    (λ (node : Node). AreFirstSuccessors task new node c.in_ok-apply-in-Applicable.apply.steps.items
    c.in_ok-apply-in-Applicable.apply.is_all)
    c.in_ok-apply-in-Applicable.ensures.steps

pub pushes_over-requires-clause-here : goal.pushes_over-requires-clause-here
pushes_over-requires-clause-here c =
    let n = c.requires.node in
    let r =
    read-of (task_for c.args.asked.now) c.args.self.now.numbers c.args.key c.args.frame c.args.current.now.model.atoms c.as_slice.result.now
    n c.requires.current.model_at (c.as_slice.ensures.value ∙ c.in_ok-stack.ensures n.0.stack n.1.stack) in
    record { top = read-top r; part = c.requires.current.part_at }

pub pushes_over-requires-clause-gaps : goal.pushes_over-requires-clause-gaps
pushes_over-requires-clause-gaps c =
    let task = task_for c.args.asked.now in
    let kept = c.args.self.now.numbers in
    let model = c.args.current.now.model.atoms in
    let stack = c.as_slice.result.now in
    let n = c.requires.node in
    let r =
    read-of task kept c.args.key c.args.frame model stack n c.requires.current.model_at
    (c.as_slice.ensures.value ∙ c.in_ok-stack.ensures n.0.stack n.1.stack) in
    subst (IsOpenWith task.problem (needs_with task model stack)) (sym c.as_slice-in-Open.ensures)
    (read-known r c.entry-top.result.now (Open c.in-Open.gaps) c.in_ok-known.known c.entry-top.ensures c.in_ok-known.ensures c.in-Open.is)

pub returns-clause-steps : goal.returns-clause-steps
returns-clause-steps c =
    let task = task_for c.args.asked.now in
    let kept = c.args.self.now.numbers in
    let new = c.pushes_over.new.self.numbers in
    let model = c.args.current.now.model.atoms in
    let stack = c.as_slice.result.now in
    let n = c.requires.node in
    let r =
    read-of task kept c.args.key c.args.frame model stack n c.requires.current.model_at
    (c.as_slice.ensures.value ∙ c.in_ok-stack.ensures n.0.stack n.1.stack) in
    ok_map (λ successors. AreFirstSuccessors task new (record { model = model; stack = stack }) successors.steps.items successors.is_all)
    (BeginsAt task kept new c.args.key)
    (λ successors is. read-each r
    (λ (node : Node). AreFirstSuccessors task new node successors.steps.items successors.is_all) is) c.pushes_over.result
    c.pushes_over.ensures.steps

pub returns-clause-limited : goal.returns-clause-limited
returns-clause-limited c =
    let task = task_for c.args.asked.now in
    let kept = c.args.self.now.numbers in
    let model = c.args.current.now.model.atoms in
    let stack = c.as_slice.result.now in
    let n = c.requires.node in
    let r =
    read-of task kept c.args.key c.args.frame model stack n c.requires.current.model_at
    (c.as_slice.ensures.value ∙ c.in_ok-stack.ensures n.0.stack n.1.stack) in
    if_limit (LimitsNode task (record { model = model; stack = stack }))
    (LimitsAt task kept c.args.key) c.pushes_over.result c.pushes_over.ensures.limited
    (λ limit limits. read-each r (λ (node : Node). LimitsNode task node limit) limits)
