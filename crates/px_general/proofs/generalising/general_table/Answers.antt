use Rattle.std.proofs.Common.{◌≡◌, ◌∙◌, ℕ, List, length, map, replicate, ap, sym, subst}
use Rattle.std.specs.Prelude.{All}
use Rattle.std.proofs.lemmas.List.{length-map}
use Rattle.px_base.proofs.Loops.{ok_map_both}
use Rattle.px_terms.specs.declared.instance.OpInst.{OpInst}
use Rattle.px_terms.specs.declared.term.Term.{Term}
use Rattle.px_terms.specs.Language.{IsPlainBelow, IsVariableBelow, substitute}
use Rattle.px_unify.specs.declared.change.Change.TheVariants.{Fresh}
use Rattle.px_proof.specs.Derivation.{Derivation}
use Rattle.px_table.specs.Tables.{rows_of}
use Rattle.px_replay.specs.Opened.{rows_pairs}
use Rattle.px_replay.specs.Replaying.{HasSchema}
use Rattle.px_replay.proofs.PlanSteps.{schemas_opened}
use Rattle.px_general.specs.General.{Generalises, KeepsPlan, row_terms, step_terms}
use Rattle.px_general.specs.Naming.{AreLabels, HasRootsBelow, IsBuilt, IsMadeOf, walked_terms}
use Rattle.px_general.proofs.GeneralSteps.{built_is, can_here, few_rows, length-resolved, made_general, plan_can, resolved-below, rows_below, solution_back, solution_roots, steps_below, variables_all, walked_below, walked_is}
use Rattle.px_general.proofs.generalising.general_table.Goals as goal

pub replayed-requires-clause-schemas : goal.replayed-requires-clause-schemas
replayed-requires-clause-schemas c =
    subst (All (HasSchema c.args.problem.now)) (sym c.in_ok-plan.ensures.steps)
    (schemas_opened c.args.problem.now c.args.table.now c.requires.table c.requires.no_params)

pub replayed-requires-clause-can : goal.replayed-requires-clause-can
replayed-requires-clause-can c =
    let plan = c.in_ok-plan.plan in
    let is = c.in_ok-plan.ensures in
    can_here c.args.problem.now c.args.table.now plan.steps.items plan.goal.items plan.rows.items is.steps is.goal is.rows
    (replicate c.args.count Fresh)
    (plan_can c.args.problem.now c.args.table.now c.requires.problem c.requires.table c.requires.no_params c.args.count c.requires.count)

pub labels_along-requires-clause-roots : goal.labels_along-requires-clause-roots
labels_along-requires-clause-roots c =
    let plan = c.in_ok-plan.plan in
    let pairs = rows_pairs c.args.problem.now plan.steps.items plan.goal.items (rows_of plan.rows.items) in
    subst (λ (l : List Term). HasRootsBelow (length l) l) (sym c.deref-3.ensures.value)
    (solution_roots pairs c.args.count c.in_ok-resolved.resolved.items c.in_ok-resolved.ensures)

pub labels_along-requires-clause-inside : goal.labels_along-requires-clause-inside
labels_along-requires-clause-inside c =
    let plan = c.in_ok-plan.plan in
    let is = c.in_ok-plan.ensures in
    let pairs = rows_pairs c.args.problem.now plan.steps.items plan.goal.items (rows_of plan.rows.items) in
    let walked =
    walked_is c.args.problem.now c.args.table.now c.deref.result.now plan.goal.items c.deref-2.result.now
    (c.deref.ensures.value ∙ is.steps) is.goal (ap rows_of c.deref-2.ensures.value ∙ is.rows)
    plan.first_object plan.objects c.in_ok-walked.walked.items is.first_object is.objects c.in_ok-walked.ensures in
    let many : length c.deref-3.result.now ≡ c.args.count =
    ap length c.deref-3.ensures.value ∙ length-resolved pairs c.args.count c.in_ok-resolved.resolved.items c.in_ok-resolved.ensures in
    subst (λ (n : ℕ). All (IsVariableBelow n) c.deref-4.result.now) (sym many)
    (subst (All (IsVariableBelow c.args.count)) (sym (c.deref-4.ensures.value ∙ walked))
    (walked_below c.args.problem.now c.args.table.now c.requires.problem c.requires.table c.requires.no_params c.args.count
    c.requires.count))

pub substitute_terms-requires : goal.substitute_terms-requires
substitute_terms-requires c =
    let plan = c.in_ok-plan.plan in
    let resolved = c.in_ok-resolved.resolved.items in
    let pairs = rows_pairs c.args.problem.now plan.steps.items plan.goal.items (rows_of plan.rows.items) in
    let many : length c.deref-6.result.now ≡ length resolved =
    ap length c.deref-6.ensures.value ∙ c.in_ok-labels.ensures.long ∙ ap length c.deref-3.ensures.value in
    resolved-below (length c.deref-6.result.now) c.deref-5.result.now
    (subst (λ (l : List Term). HasRootsBelow (length c.deref-6.result.now) l) (sym c.deref-5.ensures.value)
    (subst (λ (n : ℕ). HasRootsBelow n resolved) (sym many) (solution_roots pairs c.args.count resolved c.in_ok-resolved.ensures)))

pub build_general-requires-clause-steps : goal.build_general-requires-clause-steps
build_general-requires-clause-steps c =
    let plan = c.in_ok-plan.plan in
    let pairs = rows_pairs c.args.problem.now plan.steps.items plan.goal.items (rows_of plan.rows.items) in
    let many : length c.deref-7.result.now ≡ c.args.count =
    ap length (c.deref-7.ensures.value ∙ c.in_ok-names.ensures) ∙ length-map c.deref-5.result.now (substitute c.deref-6.result.now)
    ∙ ap length c.deref-5.ensures.value
    ∙ length-resolved pairs c.args.count c.in_ok-resolved.resolved.items c.in_ok-resolved.ensures in
    variables_all c.args.count (length c.deref-7.result.now) (step_terms plan.steps.items) (sym many)
    (subst (λ (s : List OpInst). All (IsPlainBelow c.args.count) (step_terms s)) (sym c.in_ok-plan.ensures.steps)
    (steps_below c.args.problem.now c.args.table.now c.requires.problem c.requires.table c.requires.no_params c.args.count
    c.requires.count))

pub build_general-requires-clause-rows : goal.build_general-requires-clause-rows
build_general-requires-clause-rows c =
    let plan = c.in_ok-plan.plan in
    let pairs = rows_pairs c.args.problem.now plan.steps.items plan.goal.items (rows_of plan.rows.items) in
    let many : length c.deref-7.result.now ≡ c.args.count =
    ap length (c.deref-7.ensures.value ∙ c.in_ok-names.ensures) ∙ length-map c.deref-5.result.now (substitute c.deref-6.result.now)
    ∙ ap length c.deref-5.ensures.value
    ∙ length-resolved pairs c.args.count c.in_ok-resolved.resolved.items c.in_ok-resolved.ensures in
    variables_all c.args.count (length c.deref-7.result.now) (row_terms (rows_of plan.rows.items)) (sym many)
    (subst (λ (r : List (List Derivation)). All (IsPlainBelow c.args.count) (row_terms r)) (sym c.in_ok-plan.ensures.rows)
    (rows_below c.args.problem.now c.args.table.now c.requires.problem c.requires.table c.requires.no_params c.args.count
    c.requires.count))

pub build_general-requires-clause-short : goal.build_general-requires-clause-short
build_general-requires-clause-short c =
    few_rows c.args.problem.now c.args.table.now c.in_ok-plan.plan.rows.items
    (replicate c.args.count Fresh) c.requires.table c.in_ok-plan.ensures.rows
    (plan_can c.args.problem.now c.args.table.now c.requires.problem c.requires.table c.requires.no_params c.args.count c.requires.count)

pub returns : goal.returns
returns c =
    let problem = c.args.problem.now in
    let table = c.args.table.now in
    let plan = c.in_ok-plan.plan in
    let is = c.in_ok-plan.ensures in
    let resolved = c.in_ok-resolved.resolved.items in
    let labels = c.in_ok-labels.labels in
    let solution =
    solution_back problem table plan.steps.items plan.goal.items plan.rows.items is.steps is.goal is.rows c.args.count resolved
    c.in_ok-resolved.ensures in
    let walked =
    walked_is problem table c.deref.result.now plan.goal.items c.deref-2.result.now (c.deref.ensures.value ∙ is.steps) is.goal
    (ap rows_of c.deref-2.ensures.value ∙ is.rows)
    plan.first_object plan.objects c.in_ok-walked.walked.items is.first_object is.objects c.in_ok-walked.ensures in
    let are = subst (λ (w : List Term). AreLabels resolved labels.terms.items labels.params w) (c.deref-4.ensures.value ∙ walked)
    (subst (λ (r : List Term). AreLabels r labels.terms.items labels.params c.deref-4.result.now) c.deref-3.ensures.value
    c.in_ok-labels.ensures.labels) in
    let names =
    c.deref-7.ensures.value ∙ c.in_ok-names.ensures
    ∙ ap (λ (l : List Term). map (substitute l) c.deref-5.result.now) c.deref-6.ensures.value
    ∙ ap (map (substitute labels.terms.items)) c.deref-5.ensures.value in
    ok_map_both (λ general. general.params ≡ labels.params)
    (λ general. IsMadeOf problem plan.steps.items (rows_of plan.rows.items) plan.first_object table general c.deref-7.result.now)
    (λ general. Generalises problem table general × KeepsPlan problem table general)
    (λ general params_is made.
    made_general problem table c.requires.problem c.requires.table c.requires.no_params c.args.count c.requires.count general resolved
    labels.terms.items solution
    (c.in_ok-labels.ensures.long ∙ ap length c.deref-3.ensures.value)
    (subst (λ (n : ℕ). AreLabels resolved labels.terms.items n (walked_terms problem table)) (sym params_is) are)
    (subst (IsBuilt problem table general) names (built_is problem table plan.steps.items plan.goal.items plan.rows.items is.steps is.goal
    is.rows plan.first_object general c.deref-7.result.now is.first_object made)))
    c.build_general.result c.build_general.ensures.params c.build_general.ensures.made
