-- Each table that a session keeps can be written.
use Rattle.std.specs.Prelude.{◌≡◌, ◌≤◌, ◌+◌, ◌-◌, ℕ, Option, List, [], ◌∷◌, ◌++◌, length, map, slice_index_or, All}
use Rattle.std.proofs.Common.{zero, suc, refl, sym, ap, ◌∙◌, subst, arith, inl, inr}
use Rattle.std.proofs.lemmas.List.{length-map}
use Rattle.std.proofs.lemmas.List.Elements.{All-append, All-cons, All-head, All-map, All-nil, All-tail, All-weaker}
use Rattle.px_base.specs.ListLaws.{All-at}
use Rattle.px_terms.specs.declared.atom.Atom.{Atom}
use Rattle.px_terms.specs.declared.instance.OpInst.{OpInst}
use Rattle.px_terms.specs.declared.problem.Problem.{Problem}
use Rattle.px_terms.specs.declared.problem.Schema.{Schema}
use Rattle.px_terms.specs.declared.term.Term.{Term}
use Rattle.px_terms.specs.declared.term.Term.TheVariants.{Obj}
use Rattle.px_terms.specs.Language.{substitute}
use Rattle.px_terms.specs.Operators.{adds, no_schema, schema_of}
use Rattle.px_terms.specs.Substitution.{substitute_atom}
use Rattle.px_terms.specs.Validity.{IsAtomOf, IsValid}
use Rattle.px_proof.specs.Derivation.{no_atom}
use Rattle.px_table.specs.declared.table.Table.{Table}
use Rattle.px_table.specs.Kernels.{IsProper, goal_under}
use Rattle.px_table.specs.Supports.{variables}
use Rattle.px_table.specs.Tables.{IsTable}
use Rattle.px_table.specs.WellSorted.{sorts_by_places}
use Rattle.px_table.specs.WellSortedLaws.{sorts_of_places-computed}
use Rattle.px_edit.specs.Editing.{IsEdited, left_parameters, names_by, no_step, wanted_atom, wanted_atoms}
use Rattle.px_general.specs.General.{Generalises}
use Rattle.px_general.proofs.Instances.{has_instance}
use Rattle.px_general.proofs.Reading.{less_or_not}
use Rattle.px_printer.specs.declared.reply.Reply.{Reply}
use Rattle.px_ends.specs.Made.{IsTableOfMoves}
use Rattle.px_ends.specs.Tasks.{Task, task_of}
use Rattle.px_table.specs.declared.entry.Move.{Move}
use Rattle.px_cert.specs.ClaimRanges.{IsShortSchema}
use Rattle.px_script.specs.declared.command.Command.{Command}
use Rattle.px_script.specs.declared.command.Command.TheVariants as command
use Rattle.px_script.specs.Content.{ScriptValue}
use Rattle.px_script.specs.declared.limits.Limit.TheVariants as limit
use Rattle.px_script.specs.Limits.{greatest}
use Rattle.px_script.specs.RangeLaws.{version-most}
use Rattle.px_script.specs.Ranges.{HasShortLists, IsCommandOf, IsGoalOf, IsInRange, IsSavedTable, last_goal_variable}
use Rattle.px_world.specs.declared.thing.Thing.{Thing}
use Rattle.px_session.specs.CertifiedReplies.{IsCertifiableProblem}
use Rattle.px_session.specs.Lawful.{Lawful}
use Rattle.px_session.specs.Sessions.{IsSession, SessionState, opening}
use Rattle.px_session.specs.Writable.{AsksWritable, HasWritableTables, IsWritable}
use Rattle.px_session.proofs.OneEditing.{edited-learned}
use Rattle.px_session.proofs.OneLearning.{any-right, plan-right, table-there}
use Rattle.px_session.proofs.Replied.{replied}
use Rattle.px_session.proofs.WritableGoals.{arguments_of, last-low, last-under, last_of, no-terms, none-under, numbered-last, some-under, are-terms}

-- ---- saved tables

saved-writable : (version : ℕ) (problem : Problem) (table : Table) → IsSavedTable version problem table → IsWritable problem table
saved-writable version problem table is = record {
  some = is.some;
  few_atoms = is.few_atoms;
  few_variables = is.few_variables;
  last_occurs = is.last_occurs;
  sorts = is.sorts;
  no_objects = is.no_objects;
}

-- ---- plans

-- no parameter has no sort
no-sorts : (problem : Problem) (steps : List OpInst) (params : ℕ) → params ≡ 0 → sorts_by_places problem steps params ≡ []
no-sorts problem steps zero none = refl
no-sorts problem steps (suc params) none = absurd (omega (arith, none))

plan-writable : (task : Task) (moves : List Move) (made : Table) → IsTableOfMoves task moves made
    → IsGoalOf 2 task.problem task.goal task.variable_count → IsWritable task.problem made
plan-writable task moves made is of = record {
  some = subst (λ (goal : List Atom). 1 ≤ length goal) (sym is.goal) of.some;
  few_atoms = subst (λ (goal : List Atom). length goal ≤ greatest 2 limit.GoalAtoms) (sym is.goal) of.few;
  few_variables = subst (λ (variable_count : ℕ). variable_count ≤ greatest 2 limit.Variables) (sym is.goal_variable_count) of.few_variables;
  last_occurs = is.goal_variable_count ∙ numbered-last task.problem task.variable_count task.goal of.atoms of.numbered
      ∙ sym ((λ i. last_of (is.params i) (arguments_of (is.goal i))));
  sorts = is.param_sorts ∙ sym (no-sorts task.problem made.steps made.params is.params);
  no_objects = λ none.
      let no_variables = of.no_objects none in
      let atoms = subst (λ (variable_count : ℕ). All (IsAtomOf task.problem variable_count) task.goal) no_variables of.atoms in
      ap arguments_of is.goal ∙ no-terms task.problem none (arguments_of task.goal) (are-terms task.problem 0 task.goal atoms);
}

-- ---- learned tables

module _ (problem : Problem) (plan general : Table) (is_table : IsTable problem plan) (no_params : plan.params ≡ 0)
    (proper : IsProper problem plan [] 1) (is : Generalises problem plan general) (written : IsWritable problem plan) where
  abbrev objects : List ℕ
  objects = (has_instance problem plan is_table no_params proper general is).0

  count : length objects ≡ general.params
  count = (has_instance problem plan is_table no_params proper general is).1.count

  goals : goal_under plan [] ≡ goal_under general objects
  goals = (has_instance problem plan is_table no_params proper general is).1.goal_is

  long : length general.goal ≡ length plan.goal
  long =
      sym (length-map general.goal (substitute_atom (map Obj objects ++ variables general.goal_variable_count))) ∙ sym (ap length goals)
      ∙ length-map plan.goal (substitute_atom (map Obj [] ++ variables plan.goal_variable_count))

  last-general : last_goal_variable general ≡ last_goal_variable plan
  last-general =
      sym (last-under problem general.params general.goal_variable_count objects count general.goal is.table.in_range.goal)
      ∙ sym (ap (λ (goal : List Atom). last_of 0 (arguments_of goal)) goals)
      ∙ last-under problem plan.params plan.goal_variable_count [] (sym no_params) plan.goal is_table.in_range.goal

  pub general-writable : IsWritable problem general
  general-writable = record {
    some = let some = written.some in omega (arith, some, long);
    few_atoms = let few = written.few_atoms in omega (arith, few, long);
    few_variables = let few = written.few_variables in omega (arith, few, is.goal_variable_count);
    last_occurs = is.goal_variable_count ∙ written.last_occurs ∙ sym last-general;
    sorts = sorts_of_places-computed problem general is.sorts;
    no_objects = λ none.
        none-under problem general.params general.goal_variable_count objects count general.goal
        (sym (ap arguments_of goals)
        ∙ some-under problem plan.params plan.goal_variable_count [] (sym no_params) plan.goal (written.no_objects none));
  }

-- ---- edited tables

past-end : {A : Type 0} (xs : List A) (k : ℕ) (d : A) → length xs ≤ k → slice_index_or xs k d ≡ d
past-end [] k d past = refl
past-end (x ∷ xs) zero d past = absurd (omega (arith, past))
past-end (x ∷ xs) (suc k) d past = past-end xs k d (omega (arith, past))

-- the atom has no arguments
abbrev HasNone : Atom → Type 0
HasNone atom = atom.args ≡ []

item-none : (atoms : List Atom) (terms : List Term) → All HasNone atoms → (k : ℕ)
    → HasNone (slice_index_or (map (substitute_atom terms) atoms) k no_atom)
item-none [] terms all k = refl
item-none (atom ∷ atoms) terms all zero = ap (map (substitute terms)) (All-head HasNone atom atoms all)
item-none (atom ∷ atoms) terms all (suc k) = item-none atoms terms (All-tail HasNone atom atoms all) k

-- without objects no operator has parameters, and so nothing that one adds has arguments
module _ (problem : Problem) (valid : IsValid problem) (none : problem.objects ≡ 0) where
  schema-none : (schema : Schema) → schema.params ≡ 0 → All (IsAtomOf problem schema.params) schema.add → All HasNone schema.add
  schema-none schema no_params of =
      All-weaker (IsAtomOf problem 0) HasNone (λ atom is. no-terms problem none atom.args is.1) schema.add
      (subst (λ (n : ℕ). All (IsAtomOf problem n) schema.add) no_params of)

  adds-none : (inst : OpInst) → All HasNone (schema_of problem inst).add
  adds-none inst = elim (less_or_not inst.op (length problem.schemas)) [
    | inl below ↦ schema-none (schema_of problem inst) ((valid.no_objects none).0 inst.op no_schema below)
        (valid.schemas inst.op below).add
    | inr past ↦ subst (λ (schema : Schema). All HasNone schema.add) (sym (past-end problem.schemas inst.op no_schema past)) (All-nil HasNone)
  ]

  wanted-none : (table : Table) (pair : ℕ × ℕ) → HasNone (wanted_atom problem table pair)
  wanted-none table pair =
      let inst = slice_index_or table.steps (pair.0 - 1) no_step in
      item-none (schema_of problem inst).add inst.args (adds-none inst) pair.1

  goal-none : (table : Table) (names : List Term) (wanted : List (ℕ × ℕ))
      → arguments_of (map (substitute_atom names) (wanted_atoms problem table wanted)) ≡ []
  goal-none table names [] = refl
  goal-none table names (pair ∷ wanted) =
      let here = ap (map (substitute names)) (wanted-none table pair) in
      let rest = goal-none table names wanted in
      λ i. here i ++ rest i

module _ (problem : Problem) (valid : IsValid problem) (table : Table) (wanted : List (ℕ × ℕ)) (edited : Table)
    (is : IsEdited problem table wanted edited) (is_table : IsTable problem edited) (some : 1 ≤ length wanted)
    (few : length wanted ≤ greatest 2 limit.Pairs) where
  abbrev names : List Term
  names = names_by table.params (left_parameters problem table wanted is.kept)

  as-many : length edited.goal ≡ length wanted
  as-many =
      ap length is.renamed.goal_is ∙ length-map (wanted_atoms problem table wanted) (substitute_atom names)
      ∙ length-map wanted (wanted_atom problem table)

  pub edited-writable : IsWritable problem edited
  edited-writable = record {
    some = omega (arith, some, as-many);
    few_atoms = omega (arith, few, as-many);
    few_variables = omega (arith, is.renamed.goal_variable_count);
    last_occurs =
        let terms = are-terms problem (edited.params + edited.goal_variable_count) edited.goal is_table.in_range.goal in
        let low = last-low problem edited.params edited.goal_variable_count (arguments_of edited.goal) terms in
        omega (arith, low, is.renamed.goal_variable_count);
    sorts = is.renamed.sorts_are;
    no_objects = λ none. ap arguments_of is.renamed.goal_is ∙ goal-none problem valid none table names wanted;
  }

-- ---- all tables of a session

one-more : (P : Table → Type 0) (tables : List Table) (one : Table) → All P tables → P one → All P (tables ++ one ∷ [])
one-more P tables one all is = All-append P tables (one ∷ []) all (All-cons P one [] is (All-nil P))

pub writable-opened : (script : ScriptValue) → IsInRange script → HasWritableTables script.problem (opening script.facts script.saved)
writable-opened script range = record {
  plans = All-nil (IsWritable script.problem);
  learned = All-map (IsWritable script.problem) (λ (one : ℕ × Table). one.1) script.saved
      (All-weaker (λ (one : ℕ × Table). IsSavedTable script.version script.problem one.1) (λ one. IsWritable script.problem one.1)
      (λ one is. saved-writable script.version script.problem one.1 is) script.saved range.saved);
}

pub writable-kept : (problem : Problem) (old : SessionState) (given : Command) (answer : Reply) (new : SessionState) → IsValid problem
    → IsSession problem old → HasWritableTables problem old → AsksWritable problem given → Lawful problem old given answer new
    → HasWritableTables problem new
writable-kept problem old given answer new valid session written asks is =
    replied problem old given (HasWritableTables problem) written
    (λ name goal variable_count count steps new by is. record {
      plans = one-more (IsWritable problem) old.plans.tables is.made written.plans
          (plan-writable (task_of problem old.learned.tables old.atoms goal variable_count) is.moves is.made is.table
          (subst (AsksWritable problem) by asks));
      learned = written.learned;
    })
    (λ name source params steps new by is. subst (HasWritableTables problem) (sym is.learned)
    (record {
      plans = written.plans;
      learned = one-more (IsWritable problem) old.learned.tables is.general written.learned
          (let plan = plan-right problem old session source is.plan is.named in
          general-writable problem is.plan is.general plan.table plan.no_params plan.proper is.generalises
          (All-at (IsWritable problem) old.plans.tables is.plan written.plans
          (table-there old.plans.names old.plans.tables source is.plan is.named)));
    }))
    (λ name source prefix wanted params steps new by is. subst (HasWritableTables problem) (sym is.learned)
    (record {
      plans = written.plans;
      learned = one-more (IsWritable problem) old.learned.tables is.edited written.learned
          (let right = any-right problem old session.plans session.learned source is.table is.named in
          let pairs = subst (AsksWritable problem) by asks in
          let made = edited-learned problem valid is.table right prefix wanted is.editable is.few is.low is.edited is.is in
          edited-writable problem valid is.table wanted is.edited is.is made.table pairs.0 pairs.1);
    }))
    (λ turn between. record { plans = written.plans; learned = written.learned })
    (λ name bound told new by is. subst (HasWritableTables problem) (sym is.changed)
    (record { plans = written.plans; learned = written.learned }))
    (λ first second numbers lines new by is. subst (HasWritableTables problem) (sym is.changed)
    (record { plans = written.plans; learned = written.learned }))
    (λ name goal variable_count searches told end new by is. subst (HasWritableTables problem) (sym is.changed)
    (record { plans = written.plans; learned = written.learned }))
    answer new is

-- ---- what a script asks for

asks-writable : (version : ℕ) (problem : Problem) (building : Option (List Thing)) (results : ℕ) (c : Command)
    → IsCommandOf version problem building results c → AsksWritable problem c
asks-writable version problem building results (command.Plan name goal variable_count) of = record {
  some = of.1.some;
  few = of.1.few;
  few_variables = of.1.few_variables;
  no_objects = of.1.no_objects;
  atoms = of.1.atoms;
  numbered = of.1.numbered;
}
asks-writable version problem building results (command.Edit name source prefix wanted) of = (of.3.some, of.3.few)
asks-writable version problem building results _ of = tt

pub all-ask : (script : ScriptValue) → IsInRange script → All (AsksWritable script.problem) script.commands
all-ask script range =
    All-weaker (IsCommandOf script.version script.problem script.building (length script.names.results)) (AsksWritable script.problem)
    (asks-writable script.version script.problem script.building (length script.names.results)) script.commands range.commands.each

short-schema : (version : ℕ) (schema : Schema) → HasShortLists version schema → IsShortSchema schema
short-schema version schema is = record { pre = is.0; del = is.1; add = is.2 }

pub certifiable-problem : (script : ScriptValue) → IsInRange script → IsCertifiableProblem script.problem
certifiable-problem script range =
    let objects = version-most script.version (length script.names.objects) 256 1024 (omega arith) range.names.few_objects in
    let predicates = range.names.few_predicates in
    let operators = range.names.few_operators in
    let sorts = range.problem.few_sorts in
    record {
      objects = omega (arith, objects, range.problem.objects);
      sorts = omega (arith, sorts);
      predicates = (omega (arith, predicates, range.problem.predicates), range.problem.arities);
      operators = (
        omega (arith, operators, range.operators),
        All-weaker (HasShortLists script.version) IsShortSchema (short-schema script.version) script.problem.schemas
            range.problem.short_lists,
      );
    }
