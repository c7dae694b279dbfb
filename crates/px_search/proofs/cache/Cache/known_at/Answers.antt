use Rattle.std.proofs.Common.{◌∷◌, [], refl}
use Rattle.px_table.specs.declared.node.Node.{Node}
use Rattle.px_entries.specs.Entries.{IsEntry, obligations_of}
use Rattle.px_gaps.specs.Known.{IsKnownOf}
use Rattle.px_ends.specs.Tasks.{goal_from, needs_at}
use Rattle.px_numbers.specs.Numbers.{IsKeyOf}
use Rattle.px_numbers.specs.NumberLaws.{one_model}
use Rattle.px_base.proofs.Loops.{ok_map}
use Rattle.px_support.specs.Asking.{task_for}
use Rattle.px_search.proofs.FromLaws.{Read, no_answer, none_top, of_node, read-each, read-known, some_top, stack_of, top_entry}
use Rattle.px_search.proofs.cache.Cache.known_at.Goals as goal

pub known_formula-requires-clause-no_answer : goal.known_formula-requires-clause-no_answer
known_formula-requires-clause-no_answer c =
    let n = c.requires.node in
    let model = c.args.model.now.atoms in
    no_answer (task_for c.args.asked.now) n.node model n.tried
    (none_top c.args.self.now.numbers n.node.stack (c.in-None.ensures.top n.node.stack n.stands.stack))
    (one_model c.args.self.now.numbers c.args.key.model model n.node.model c.requires.model n.stands.model)

pub entry-requires : goal.entry-requires
entry-requires c =
    let n =
    c.requires.node in some_top c.args.self.now.numbers n.node.stack c.in-Some.frame (c.in-Some.ensures.top n.node.stack n.stands.stack)

pub known_top-requires-clause-entry : goal.known_top-requires-clause-entry
known_top-requires-clause-entry c =
    let n = c.requires.node in
    top_entry c.args.self.now.numbers (IsEntry c.args.asked.now.problem.now c.args.asked.now.tables.now) n.node.stack c.in-Some.frame
    c.entry.result.now n.entries (c.in-Some.ensures.top n.node.stack n.stands.stack) c.entry.ensures

pub returns-in-None : goal.returns-in-None
returns-in-None c =
    let task = task_for c.args.asked.now in
    let kept = c.args.self.now.numbers in
    let n = c.requires.node in
    let model = c.args.model.now.atoms in
    ok_map (IsKnownOf task.problem (goal_from task model ∷ []))
    (λ known. (node : Node) → IsKeyOf kept c.args.key node → IsKnownOf task.problem (needs_at task node) known)
    (λ known is node stands. of_node kept c.args.key
    (λ (m : Node). IsKnownOf task.problem (needs_at task m) known) node model [] stands c.requires.model
    (stack_of kept c.args.key n.node node [] n.stands stands
    (none_top kept n.node.stack (c.in-None.ensures.top n.node.stack n.stands.stack))) is) c.known_formula.result c.known_formula.ensures

pub returns-in-Some : goal.returns-in-Some
returns-in-Some c =
    let task = task_for c.args.asked.now in
    let kept = c.args.self.now.numbers in
    let n = c.requires.node in
    let model = c.args.model.now.atoms in
    let frame = c.in-Some.frame in
    let r : Read task kept c.args.key frame model n.node.stack =
    record {
      node = n.node;
      stands = n.stands;
      top = c.in-Some.ensures.top n.node.stack n.stands.stack;
      model_at = c.requires.model;
      stack_is = refl;
    }
    in
    ok_map (IsKnownOf task.problem (obligations_of task.problem task.tables model c.entry.result.now))
    (λ known. (node : Node) → IsKeyOf kept c.args.key node → IsKnownOf task.problem (needs_at task node) known)
    (λ known is node stands. read-each r
    (λ (m : Node). IsKnownOf task.problem (needs_at task m) known)
    (read-known r c.entry.result.now known known c.entry.ensures is refl) node stands)
    c.known_top.result c.known_top.ensures
