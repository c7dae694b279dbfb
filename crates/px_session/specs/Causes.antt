-- Which cause comes first, and what each leaves as it was.
use Rattle.std.specs.Prelude.{◌≡◌, ◌≤◌, ℕ, Some, None, List, [], ◌∷◌, All}
use Rattle.px_terms.specs.declared.problem.Problem.{Problem}
use Rattle.px_table.specs.declared.table.Table.{Table}
use Rattle.px_general.specs.Limits.{IsTooDeep, IsTooLong}
use Rattle.px_library.specs.Libraries.{no_tables, table_named, with_table}
use Rattle.px_match.specs.Matching.{first_bad}
use Rattle.px_ends.specs.WorkedEnds.{idle, p, p_at_once}
use Rattle.px_printer.specs.declared.reply.EditWhy.{EditWhy}
use Rattle.px_printer.specs.declared.reply.Reply.{Reply}
use Rattle.px_printer.specs.declared.reply.Reply.TheVariants as reply
use Rattle.px_printer.specs.declared.reply.SaveWhy.{SaveWhy}
use Rattle.px_printer.specs.declared.reply.Why.{Why}
use Rattle.px_printer.specs.declared.reply.Why.TheVariants.{TooLong, TooDeep}
use Rattle.px_script.specs.declared.command.Command.{Command}
use Rattle.px_script.specs.declared.command.Command.TheVariants as command
use Rattle.px_tree.specs.declared.nodes.Tree.{Tree}
use Rattle.px_tree.specs.declared.nodes.TreeEnd.TheVariants.{Exhausted}
use Rattle.px_tree.specs.declared.nodes.TreeNode.{TreeNode}
use Rattle.px_session.specs.Asked.{RefusesWriting}
use Rattle.px_session.specs.Lawful.{Lawful, RefusesEditing, RefusesLearning, first_unknown}
use Rattle.px_session.specs.Sessions.{SessionState, any_table, opening}

-- A name without a table is unknown, whatever is asked. Of the causes not to write a table each is the answer wherever it is the first.
pub record AskedInOrder : Type 0 where
  pub none_to_show : (problem : Problem) (old : SessionState) (name : ℕ) (answer : Reply) (new : SessionState)
      → any_table old name ≡ None → Lawful problem old (command.Show name) answer new → (answer ≡ reply.Unknown name) × (new ≡ old)
  pub none_to_save : (problem : Problem) (old : SessionState) (name : ℕ) (answer : Reply) (new : SessionState)
      → any_table old name ≡ None → Lawful problem old (command.Save name) answer new → (answer ≡ reply.Unknown name) × (new ≡ old)
  pub none_to_certify : (problem : Problem) (old : SessionState) (name : ℕ) (answer : Reply) (new : SessionState)
      → any_table old name ≡ None → Lawful problem old (command.Certify name) answer new → (answer ≡ reply.Unknown name) × (new ≡ old)
  pub not_saved : (problem : Problem) (old : SessionState) (name : ℕ) (answer : Reply) (new : SessionState) (table : Table) (why : SaveWhy)
      → any_table old name ≡ Some table → RefusesWriting table why → Lawful problem old (command.Save name) answer new
      → (answer ≡ reply.SaveRefused name why) × (new ≡ old)
  pub not_certified : (problem : Problem) (old : SessionState) (name : ℕ)
      (answer : Reply) (new : SessionState) (table : Table) (why : SaveWhy)
      → any_table old name ≡ Some table → RefusesWriting table why → Lawful problem old (command.Certify name) answer new
      → (answer ≡ reply.CertifyRefused name why) × (new ≡ old)

-- A name without a table is unknown, whatever is bound, and so is a plan's name without a plan, whatever is learned. A bound parameter
-- that the table does not have comes before the run. After these answers nothing has changed, what is recorded included.
pub record CausesInOrder : Type 0 where
  pub no_plan : (problem : Problem) (old : SessionState) (name source : ℕ) (answer : Reply) (new : SessionState)
      → table_named old.plans source ≡ None → Lawful problem old (command.Learn name source) answer new → (answer ≡ reply.Unknown source)
      × (new ≡ old)
  pub too_long : (state : SessionState) (plan : Table) (why : Why) → IsTooLong plan → RefusesLearning state plan why → why ≡ TooLong
  pub too_deep : (state : SessionState) (plan : Table) (why : Why) → (¬ IsTooLong plan) → IsTooDeep plan → RefusesLearning state plan why
      → why ≡ TooDeep
  pub no_source : (problem : Problem) (old : SessionState) (name source prefix : ℕ) (wanted : List (ℕ × ℕ))
      (answer : Reply) (new : SessionState)
      → any_table old source ≡ None → Lawful problem old (command.Edit name source prefix wanted) answer new
      → (answer ≡ reply.Unknown source) × (new ≡ old)
  -- of the causes not to edit a table each is the answer wherever it is the first
  pub not_edited : (problem : Problem) (old : SessionState) (name source prefix : ℕ) (wanted : List (ℕ × ℕ))
      (answer : Reply) (new : SessionState) (table : Table) (why : EditWhy)
      → any_table old source ≡ Some table → RefusesEditing problem old table prefix wanted why
      → Lawful problem old (command.Edit name source prefix wanted) answer new → (answer ≡ reply.EditRefused name why) × (new ≡ old)
  pub asked : AskedInOrder
  pub no_table : (problem : Problem) (old : SessionState) (name : ℕ) (bound : List (ℕ × ℕ)) (answer : Reply) (new : SessionState)
      → any_table old name ≡ None → Lawful problem old (command.Run name bound) answer new → (answer ≡ reply.Unknown name) × (new ≡ old)
  pub no_parameter : (problem : Problem) (old : SessionState) (name : ℕ) (bound : List (ℕ × ℕ))
      (answer : Reply) (new : SessionState) (table : Table) (param : ℕ)
      → any_table old name ≡ Some table → first_unknown table bound ≡ Some param
      → Lawful problem old (command.Run name bound) answer new → (answer ≡ reply.UnknownParam param) × (new ≡ old)
  -- of two names the first without a table is unknown
  pub no_first_table : (problem : Problem) (old : SessionState) (first second : ℕ) (numbers : List ℕ) (answer : Reply) (new : SessionState)
      → any_table old first ≡ None → Lawful problem old (command.Duo first second numbers) answer new
      → (answer ≡ reply.Unknown first) × (new ≡ old)
  pub no_second_table : (problem : Problem) (old : SessionState) (first second : ℕ) (numbers : List ℕ)
      (answer : Reply) (new : SessionState) (table : Table)
      → any_table old first ≡ Some table → any_table old second ≡ None
      → Lawful problem old (command.Duo first second numbers) answer new → (answer ≡ reply.Unknown second) × (new ≡ old)
  -- where all numbers are from 1 on, an executor refuses the same bindings
  pub bad_parameter : (table : Table) (bound : List (ℕ × ℕ)) → All (λ (pair : ℕ × ℕ). 1 ≤ pair.0) bound
      → first_unknown table bound ≡ first_bad table bound

-- P is a fact, and `plan N P`
abbrev pub where_p : SessionState
where_p = opening (p ∷ []) []

abbrev pub plan_p : Command
plan_p = command.Plan 0 (p ∷ []) 0

-- `tree N n P`, with as many nodes as the problem has
abbrev pub tree_p : Command
tree_p = command.Tree 0 idle.nodes (p ∷ []) 0

-- with one learned table
abbrev pub one_learned : SessionState
one_learned = record where_p { learned = with_table no_tables 1 p_at_once }

-- Where P is a fact, a plan for it is neither exhausted nor has a move, and a tree for it isn't exhausted; a learned table is no plan, and a
-- tree has its name.
pub record RefusedReplies : Type 0 where
  pub exhausted : (new : SessionState) → ¬ Lawful idle where_p plan_p (reply.Exhausted 0) new
  pub moved : (new : SessionState) → ¬ Lawful idle where_p plan_p (reply.Plan 0 1 []) new
  pub other_name : (new : SessionState) → ¬ Lawful idle where_p plan_p (reply.Plan 1 0 []) new
  pub not_stored : ¬ Lawful idle where_p plan_p (reply.Plan 0 0 []) where_p
  pub no_plan : (new : SessionState) → ¬ Lawful idle one_learned (command.Learn 2 1) (reply.Learned 2 0 0) new
  pub not_exhausted : (tables : List ℕ) (nodes : List TreeNode) (new : SessionState)
      → ¬ Lawful idle where_p tree_p (reply.Tree 0 tables (record { nodes = nodes; end = Exhausted })) new
  pub no_names : (tree : Tree) (new : SessionState) → ¬ Lawful idle one_learned tree_p (reply.Tree 0 [] tree) new
