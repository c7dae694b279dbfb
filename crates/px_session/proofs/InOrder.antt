-- The causes come in their order.
use Rattle.std.specs.Prelude.{◌≡◌, ℕ, Some, None, List, [], ◌∷◌, length}
use Rattle.std.proofs.Common.{refl, sym, ap, ◌∙◌}
use Rattle.px_terms.specs.declared.problem.Problem.{Problem}
use Rattle.px_table.specs.declared.table.Table.{Table}
use Rattle.px_general.specs.Limits.{IsTooDeep, IsTooLong}
use Rattle.px_library.specs.Libraries.{table_named}
use Rattle.px_ends.specs.Tasks.{Task, task_of}
use Rattle.px_ends.specs.WorkedEnds.{idle, p}
use Rattle.px_ends.proofs.ByValueLaws.{exhausted_with_all, value_ends_are_one}
use Rattle.px_ends.proofs.WorkedByValue.{there_by_value}
use Rattle.px_printer.specs.declared.reply.Reply.{Reply}
use Rattle.px_printer.specs.declared.reply.Reply.TheVariants as reply
use Rattle.px_printer.specs.declared.reply.Why.{Why}
use Rattle.px_printer.specs.declared.reply.Why.TheVariants.{TooLong, TooDeep, TooWide, Full}
use Rattle.px_tree.specs.declared.nodes.Tree.{Tree}
use Rattle.px_tree.specs.declared.nodes.TreeEnd.TheVariants.{Exhausted}
use Rattle.px_tree.specs.declared.nodes.TreeNode.{TreeNode}
use Rattle.px_session.specs.Causes.{CausesInOrder, RefusedReplies, one_learned, plan_p, tree_p, where_p}
use Rattle.px_session.specs.Lawful.{Lawful, RefusesLearning, TellsLearning, TellsRun, first_unknown}
use Rattle.px_session.specs.Sessions.{SessionState, any_table}
use Rattle.px_session.proofs.AskedReplies.{asked_in_order}
use Rattle.px_session.proofs.OneDuo.{no-first, no-second}
use Rattle.px_session.proofs.OneEditing.{no-source, not-edited}
use Rattle.px_session.proofs.OneLearning.{none_or_some, one_some}
use Rattle.px_session.proofs.RunReplies.{bad-unknown}

no-plan : (problem : Problem) (old : SessionState) (name source : ℕ) (answer : Reply) (new : SessionState)
    → table_named old.plans source ≡ None → TellsLearning problem old name source answer new → (answer ≡ reply.Unknown source) × (new ≡ old)
no-plan problem old name source (reply.Unknown given) new none is = (ap reply.Unknown is.0, is.2)
no-plan problem old name source (reply.LearnRefused given why) new none is =
    absurd (none_or_some (table_named old.plans source) is.1.plan none is.1.named)
no-plan problem old name source (reply.Learned given params steps) new none is =
    absurd (none_or_some (table_named old.plans source) is.1.plan none is.1.named)
no-plan problem old name source answer new none is = absurd is

too-long : (state : SessionState) (plan : Table) (why : Why) → IsTooLong plan → RefusesLearning state plan why → why ≡ TooLong
too-long state plan TooLong long is = refl
too-long state plan TooDeep long is = absurd (is.0 long)
too-long state plan TooWide long is = absurd (is.0 long)
too-long state plan Full long is = absurd (is.0 long)

too-deep : (state : SessionState) (plan : Table) (why : Why) → (¬ IsTooLong plan) → IsTooDeep plan → RefusesLearning state plan why
    → why ≡ TooDeep
too-deep state plan TooLong short deep is = absurd (short is)
too-deep state plan TooDeep short deep is = refl
too-deep state plan TooWide short deep is = absurd (is.1 deep)
too-deep state plan Full short deep is = absurd (is.1 deep)

module _ (problem : Problem) (old : SessionState) (name : ℕ) (bound : List (ℕ × ℕ)) where
  no-table : (answer : Reply) (new : SessionState) → any_table old name ≡ None → TellsRun problem old name bound answer new
      → (answer ≡ reply.Unknown name) × (new ≡ old)
  no-table (reply.Unknown given) new none is = (ap reply.Unknown is.0, is.2)
  no-table (reply.UnknownParam param) new none is = absurd (none_or_some (any_table old name) is.table none is.named)
  no-table (reply.Ran given told) new none is = absurd (none_or_some (any_table old name) is.1.table none is.1.named)
  no-table answer new none is = absurd is

  no-parameter : (answer : Reply) (new : SessionState) (table : Table) (param : ℕ) → any_table old name ≡ Some table
      → first_unknown table bound ≡ Some param
      → TellsRun problem old name bound answer new → (answer ≡ reply.UnknownParam param) × (new ≡ old)
  no-parameter (reply.Unknown given) new table param named unknown is = absurd (none_or_some (any_table old name) table is.1 named)
  no-parameter (reply.UnknownParam given) new table param named unknown is =
      let same : is.table ≡ table = one_some (any_table old name) is.table table is.named named in (
        ap reply.UnknownParam (one_some (first_unknown table bound) given param (ap (λ (x : Table). first_unknown x bound) (sym same)
            ∙ is.unknown) unknown),
        is.same,
      )
  no-parameter (reply.Ran given told) new table param named unknown is =
      let same : is.1.table ≡ table = one_some (any_table old name) is.1.table table is.1.named named in
      absurd (none_or_some (first_unknown table bound) param (ap (λ (x : Table). first_unknown x bound) (sym same) ∙ is.1.known) unknown)
  no-parameter answer new table param named unknown is = absurd is

pub causes_in_order : CausesInOrder
causes_in_order = record {
  no_plan = no-plan;
  too_long = too-long;
  too_deep = too-deep;
  no_source = λ problem old name source prefix wanted answer new. no-source problem old name source prefix wanted answer new;
  not_edited = λ problem old name source prefix wanted answer new. not-edited problem old name source prefix wanted answer new;
  asked = asked_in_order;
  no_table = no-table;
  no_parameter = no-parameter;
  no_first_table = λ problem old first second numbers answer new. no-first problem old first second numbers answer new;
  no_second_table = λ problem old first second numbers answer new. no-second problem old first second numbers answer new;
  bad_parameter = λ table bound from. sym (bad-unknown table bound from);
}

-- ---- refused replies

abbrev task_p : Task
task_p = task_of idle [] (p ∷ []) (p ∷ []) 0

exhausted : (new : SessionState) → ¬ Lawful idle where_p plan_p (reply.Exhausted 0) new
exhausted new is = exhausted_with_all.found task_p idle.weight idle.weight is.1 [] (there_by_value idle.weight)

moved : (new : SessionState) → ¬ Lawful idle where_p plan_p (reply.Plan 0 1 []) new
moved new is =
    let none = value_ends_are_one.found task_p idle.weight is.1.moves [] is.1.found (there_by_value idle.weight) in
    let count = is.1.counted ∙ ap length none in
    cc

other-name : (new : SessionState) → ¬ Lawful idle where_p plan_p (reply.Plan 1 0 []) new
other-name new is = let name = is.0 in cc

not-stored : ¬ Lawful idle where_p plan_p (reply.Plan 0 0 []) where_p
not-stored is = let names = ap (λ (s : SessionState). s.plans.names) is.1.stored in cc

no-learned : (new : SessionState) → ¬ TellsLearning idle one_learned 2 1 (reply.Learned 2 0 0) new
no-learned new is = let at = is.1.named in cc

not-exhausted : (tables : List ℕ) (nodes : List TreeNode) (new : SessionState)
    → ¬ Lawful idle where_p tree_p (reply.Tree 0 tables (record { nodes = nodes; end = Exhausted })) new
not-exhausted tables nodes new is = exhausted_with_all.found task_p idle.weight idle.weight is.2.end.0 [] (there_by_value idle.weight)

none-first : (names : List ℕ) → ¬ ([] ≡ 1 ∷ names)
none-first names is = cc

no-names : (tree : Tree) (new : SessionState) → ¬ Lawful idle one_learned tree_p (reply.Tree 0 [] tree) new
no-names tree new is = none-first [] is.1

pub refused_replies : RefusedReplies
refused_replies = record {
  exhausted = exhausted;
  moved = moved;
  other_name = other-name;
  not_stored = not-stored;
  no_plan = no-learned;
  not_exhausted = not-exhausted;
  no_names = no-names;
}
