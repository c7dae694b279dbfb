-- Labels that are given along the walk make the opened plan the general table.
use Rattle.std.specs.Prelude.{◌≡◌, ◌↔◌, ◌<◌, ℕ, true, Some, List, [], ◌∷◌, map, length, filter, flat_map, slice_get, slice_index_or, All, Contains}
use Rattle.std.proofs.Common.{zero, suc, refl, sym, ap, ◌∙◌, subst, inl, inr, arith}
use Rattle.std.proofs.lemmas.Bool.Decides.{nat_tests}
use Rattle.std.proofs.lemmas.List.{length-map}
use Rattle.std.proofs.lemmas.List.Elements.{Contains-append_right, Contains-append_cases}
use Rattle.px_base.specs.ListLaws.{All-at, All-each, Contains-first, Contains-later, Contains-filter}
use Rattle.px_terms.specs.declared.instance.OpInst.{OpInst}
use Rattle.px_terms.specs.declared.problem.Problem.{Problem}
use Rattle.px_terms.specs.declared.term.Term.{Term}
use Rattle.px_terms.specs.declared.term.Term.TheVariants.{Obj, Var, Any as WildCard}
use Rattle.px_terms.specs.Language.{substitute, IsPlainBelow}
use Rattle.px_terms.specs.Order.{term_eq}
use Rattle.px_terms.specs.OrderLaws.{term_eq-decides}
use Rattle.px_terms.specs.Validity.{IsValid}
use Rattle.px_unify.specs.declared.change.Change.{Change}
use Rattle.px_unify.specs.Changes.{Fits, HasSolutions, IsRoot, MakesEachEqual, variables_of}
use Rattle.px_proof.specs.declared.proof.Leaf.{Leaf}
use Rattle.px_proof.specs.Derivation.{Derivation, terms_of}
use Rattle.px_base.specs.Answers.{some_same}
use Rattle.px_proof.specs.PlaceLaws.{Contains-mapped, slice_get-read, slice_get-within}
use Rattle.px_proof.specs.Proves.{IsObjectOrParameter}
use Rattle.px_proof.specs.SubstitutionLaws.{substitute_twice, terms_twice}
use Rattle.px_table.specs.declared.table.Table.{Table}
use Rattle.px_table.specs.KernelLaws.{Contains-from_map}
use Rattle.px_table.specs.Marks.{row_leaves}
use Rattle.px_table.specs.Once.{each_once}
use Rattle.px_table.specs.OnceLaws.{Contains-each_once, Contains-from_each_once}
use Rattle.px_terms.specs.Substitution.{variables_from}
use Rattle.px_table.specs.Supports.{variables}
use Rattle.px_table.specs.Tables.{IsTable}
use Rattle.px_terms.proofs.VariableLemmas.{length-variables}
use Rattle.px_general.specs.General.{Generalises, KeepsPlan, is_parameter, row_terms}
use Rattle.px_general.specs.Naming.{args_of_leaves, AreLabels, AreNamed, IsBuilt, IsResolved, is_variable_term, leaf_terms, roots_of, walked_terms}
use Rattle.px_replay.specs.Opened.{goal_objects, opened_terms, replay_pairs, rows_opened, step_variables, steps_opened}
use Rattle.px_replay.proofs.GoalSteps.{read-variable}
use Rattle.px_general.specs.Replayed.{IsReplayed}
use Rattle.px_general.proofs.MostGeneral.{is_most_general, same_list}
use Rattle.px_general.proofs.Numbering.{walks-number}
use Rattle.px_general.proofs.Reading.{All-flat_map, Contains-flat_map, read-map}
use Rattle.px_general.proofs.Opening.{read-at}
use Rattle.px_general.proofs.PlanInstance.{keeps-plan, plan-own}
use Rattle.px_general.proofs.Together.{generalises}
use Rattle.px_general.proofs.Marked.{each_once-by, filter-by, row_leaf-terms}

place_of : (xs : List Term) (x : Term) → Contains xs x → (p : ℕ) × (slice_get xs p ≡ Some x)
place_of xs x has = (has.0, slice_get-read xs has.0 x has.1 ∙ ap Some has.2)

there_at : (xs : List Term) (p : ℕ) (x : Term) → slice_get xs p ≡ Some x → Contains xs x
there_at [] p x at = absurd (cc)
there_at (y ∷ xs) zero x at = subst (Contains (y ∷ xs)) (some_same at) (Contains-first y xs)
there_at (y ∷ xs) (suc p) x at = Contains-later y xs x (there_at xs p x at)

same_number : {v w : ℕ} → Var v ≡ Var w → v ≡ w
same_number e = cc

-- ---- labels

module _ (resolved labels : List Term) (next : ℕ) (walked : List Term) (are : AreLabels resolved labels next walked) where
  abbrev roots : List Term
  roots = roots_of resolved walked

  abbrev found : List Term
  found = map (substitute resolved) walked

  abbrev variables_there : List Term
  variables_there = filter is_variable_term found

  -- a term with a label
  abbrev HasLabel : Term → Type 0
  HasLabel t = (v : ℕ) × (p : ℕ) × (t ≡ Var v) × (slice_get labels v ≡ Some (Var p)) × (p < next)

  label_of_root : (v : ℕ) → Contains roots (Var v) → HasLabel (Var v)
  label_of_root v has =
      let place = place_of roots (Var v) has in (
        v,
        place.0,
        refl,
        (are.exact v place.0).1 place.1,
        subst (λ n. place.0 < n) are.count (slice_get-within roots place.0 (Var v) place.1),
      )

  root_of_found : (v : ℕ) → Contains found (Var v) → Contains roots (Var v)
  root_of_found v has =
      Contains-each_once term_eq term_eq-decides (filter is_variable_term found) (Var v)
      ((Contains-filter is_variable_term found (Var v)).1 (has, refl))

  pub label_of : (t : Term) → Contains walked t → (v : ℕ) → substitute resolved t ≡ Var v
      → (p : ℕ) × (slice_get labels v ≡ Some (Var p)) × (p < next)
  label_of t has v is =
      let label = label_of_root v (root_of_found v (subst (Contains found) is (Contains-mapped (substitute resolved) walked t has))) in
      let same : label.0 ≡ v = sym (same_number label.2) in
      (label.1, subst (λ n. slice_get labels n ≡ Some (Var label.1)) same label.3, label.4)

  pub labelled : (v p : ℕ) → slice_get labels v ≡ Some (Var p) → slice_get roots p ≡ Some (Var v)
  labelled v p at = (are.exact v p).0 at

  abbrev name : Term → Term
  name t = substitute labels t

  name_is : (v p : ℕ) → slice_get labels v ≡ Some (Var p) → name (Var v) ≡ Var p
  name_is v p at = read-at labels v (Var p) at

  below_next : (p : ℕ) → p < next → is_parameter next (Var p) ≡ true
  below_next p below = grind (arith, nat_tests, below)

  -- of the names those of variables are the parameters
  test_by : (t : Term) → Contains found t → is_parameter next (name t) ≡ is_variable_term t
  test_by (Obj n) has = refl
  test_by (Var v) has =
      let label = label_of_root v (root_of_found v has) in
      ap (is_parameter next) (ap name label.2 ∙ name_is label.0 label.1 label.3) ∙ below_next label.1 label.4
  test_by WildCard has = refl

  -- terms that have one label are one
  one_label : (t u : Term) → HasLabel t → HasLabel u → name t ≡ name u → t ≡ u
  one_label t u a b same =
      let one : a.1 ≡ b.1 = same_number (sym (ap name a.2 ∙ name_is a.0 a.1 a.3) ∙ same ∙ ap name b.2 ∙ name_is b.0 b.1 b.3) in
      a.2 ∙ some_same (sym (labelled a.0 a.1 a.3) ∙ ap (slice_get roots) one ∙ labelled b.0 b.1 b.3) ∙ sym b.2

  variable_found : (t : Term) → Contains (filter is_variable_term found) t → (v : ℕ) × (t ≡ Var v)
  variable_found t has = by_term t ((Contains-filter is_variable_term found t).0 has).1
    where
      by_term : (t : Term) → is_variable_term t ≡ true → (v : ℕ) × (t ≡ Var v)
      by_term (Obj n) e = absurd (cc)
      by_term (Var v) e = (v, refl)
      by_term WildCard e = absurd (cc)

  labels_found : All HasLabel (filter is_variable_term found)
  labels_found = All-each HasLabel (filter is_variable_term found) (λ t has.
      let v = variable_found t has in
      let label =
      label_of_root v.0 (Contains-each_once term_eq term_eq-decides (filter is_variable_term found) (Var v.0)
      (subst (Contains (filter is_variable_term found)) v.1 has)) in
      subst HasLabel (sym v.1) label)

  -- the root at a place
  pub root_at : (p : ℕ) → p < next → (v : ℕ) × (slice_get roots p ≡ Some (Var v)) × (slice_get labels v ≡ Some (Var p))
  root_at p below =
      let read = slice_get-read roots p WildCard (subst (λ n. p < n) (sym are.count) below) in
      let v =
      variable_found (slice_index_or roots p WildCard)
      (Contains-from_each_once term_eq (filter is_variable_term found) _ (there_at roots p _ read)) in
      let at : slice_get roots p ≡ Some (Var v.0) = read ∙ ap Some v.1 in
      (v.0, at, (are.exact v.0 p).1 at)

  names_in_order : map name roots ≡ variables next
  names_in_order =
      same_list (map name roots) (variables next) (length-map roots name ∙ are.count ∙ sym (length-variables 0 next)) (λ p below.
      let under : p < next = omega (arith, below, length-map roots name, are.count) in
      let root = root_at p under in
      read-map name roots p (omega (arith, under, are.count)) ∙ ap name (read-at roots p (Var root.0) root.1) ∙ name_is root.0 p root.2
      ∙ ap Var (omega arith) ∙ sym (read-variable 0 next p under))

  pub walk-numbered : each_once term_eq (filter (is_parameter next) (map (substitute (map (substitute labels) resolved)) walked))
      ≡ variables next
  walk-numbered =
      ap (λ l. each_once term_eq (filter (is_parameter next) l)) (sym (terms_twice labels resolved walked))
      ∙ ap (each_once term_eq) (filter-by name (is_parameter next) is_variable_term found test_by)
      ∙ each_once-by name term_eq term_eq term_eq-decides term_eq-decides variables_there
      (λ t u has there. one_label t u (All-at HasLabel variables_there t labels_found has)
      (All-at HasLabel variables_there u labels_found there))
      ∙ names_in_order

  -- each parameter is the name of a term of the walk
  pub used_on_walk : (p : ℕ) → p < next → (t : Term) × Contains walked t × (substitute (map (substitute labels) resolved) t ≡ Var p)
  used_on_walk p below =
      let root = root_at p below in
      let there =
      ((Contains-filter is_variable_term found (Var root.0)).0
      (Contains-from_each_once term_eq (filter is_variable_term found) (Var root.0) (there_at roots p (Var root.0) root.1))).0 in
      let from = Contains-from_map (substitute resolved) walked (Var root.0) there in
      (from.0, from.1, sym (substitute_twice labels resolved from.0) ∙ ap name from.2 ∙ name_is root.0 p root.2)

-- ---- leaves' terms are terms of the proofs

pub leaf_terms-among : (P : Term → Type 0) (rows : List (List Derivation)) → All P (row_terms rows) → All P (leaf_terms rows)
leaf_terms-among P rows all = All-flat_map P (λ (row : List Derivation). args_of_leaves (row_leaves row)) rows (λ row has.
    All-flat_map P (λ (leaf : Leaf). leaf.atom.args) (row_leaves row) (λ leaf there.
    All-each P leaf.atom.args (λ t here. All-at P (row_terms rows) t all
    (Contains-flat_map (flat_map terms_of) rows row t has (row_leaf-terms row leaf t there here)))))

-- ---- all together

module _ (problem : Problem) (plan general : Table) (changes : List Change) (resolved labels : List Term) (valid : IsValid problem)
    (is_table : IsTable problem plan) (no_params : plan.params ≡ 0)
    (solutions : HasSolutions changes) (fits : (terms : List Term) → Fits terms changes ↔ MakesEachEqual (replay_pairs problem plan) terms)
    (below : All (IsPlainBelow (variables_of changes)) (opened_terms problem plan))
    (resolved_are : IsResolved changes resolved) (long : length labels ≡ variables_of changes)
    (are : AreLabels resolved labels general.params (walked_terms problem plan))
    (built : IsBuilt problem plan general (map (substitute labels) resolved)) where
  abbrev the_names : List Term
  the_names = map (substitute labels) resolved

  abbrev the_roots : List Term
  the_roots = roots_of resolved (walked_terms problem plan)

  on_walk : (t : Term) → Contains (opened_terms problem plan) t → Contains (walked_terms problem plan) t
  on_walk t has = Contains-append_right (leaf_terms (rows_opened problem plan)) (opened_terms problem plan) t has

  off_walk : (t : Term) → Contains (walked_terms problem plan) t → Contains (opened_terms problem plan) t
  off_walk t has = elim (Contains-append_cases (leaf_terms (rows_opened problem plan)) (opened_terms problem plan) t has) [
    | inl in_leaves ↦
        All-at (Contains (opened_terms problem plan)) (leaf_terms (rows_opened problem plan)) t
        (leaf_terms-among (Contains (opened_terms problem plan)) (rows_opened problem plan)
        (All-each (Contains (opened_terms problem plan)) (flat_map (flat_map terms_of) (rows_opened problem plan)) (λ u inside.
        Contains-append_right (flat_map (λ (inst : OpInst). inst.args) (steps_opened plan)) _ u
        (Contains-append_right (variables_from (step_variables plan.steps) (goal_objects plan.goal)) _ u inside))))
        in_leaves
    | inr later ↦ later
  ]

  named : AreNamed changes (opened_terms problem plan) resolved labels the_names the_roots
  named = record {
    resolved_are = resolved_are;
    long = long;
    labelled = labelled resolved labels general.params (walked_terms problem plan) are;
    each_root =
        λ t has v is. let label =
        label_of resolved labels general.params (walked_terms problem plan) are t (on_walk t has) v is in (label.0, label.1);
    names_are = refl;
  }

  -- the object to which a term is bound is the problem's
  bound_object : (t : Term) → Contains (opened_terms problem plan) t → IsPlainBelow (variables_of changes) t → (n : ℕ)
      → substitute resolved t ≡ Obj n → n < problem.objects
  bound_object (Obj m) has inside n is =
      let own = plan-own problem plan is_table no_params in
      let same : m ≡ n = same_object is in
      subst (λ k. k < problem.objects) same (own.2 (Obj m) has)
    where
      same_object : {a b : ℕ} → Obj a ≡ Obj b → a ≡ b
      same_object e = cc
  bound_object (Var v) has inside n is =
      let own = plan-own problem plan is_table no_params in
      let value : substitute own.0 (Var v) ≡ Obj n = resolved_are.value v inside own.0 ((fits own.0).1 own.1) ∙ ap (substitute own.0) is in
      subst (IsObjectOrParameter problem.objects 0) value (own.2 (Var v) has)
  bound_object WildCard has inside n is = absurd inside

  name-there : (t : Term) → Contains (opened_terms problem plan) t
      → IsObjectOrParameter problem.objects general.params (substitute the_names t)
  name-there t has =
      subst (IsObjectOrParameter problem.objects general.params) (substitute_twice labels resolved t) (by_root (substitute resolved t) refl)
    where
      inside : IsPlainBelow (variables_of changes) t
      inside = All-at (IsPlainBelow (variables_of changes)) (opened_terms problem plan) t below has

      rooted : (t : Term) → IsPlainBelow (variables_of changes) t → IsRoot changes (substitute resolved t)
      rooted (Obj n) h = tt
      rooted (Var v) h = resolved_are.root v h
      rooted WildCard h = absurd h

      by_root : (r : Term) → substitute resolved t ≡ r → IsObjectOrParameter problem.objects general.params (substitute labels r)
      by_root (Obj n) e = bound_object t has inside n e
      by_root (Var w) e =
          let label = label_of resolved labels general.params (walked_terms problem plan) are t (on_walk t has) w e in
          subst (IsObjectOrParameter problem.objects general.params) (sym (read-at labels w (Var label.0) label.1)) label.2
      by_root WildCard e = absurd (subst (IsRoot changes) e (rooted t inside))

  replayed : IsReplayed problem plan general the_names the_roots
  replayed = record {
    most_general =
        is_most_general changes (replay_pairs problem plan)
        (opened_terms problem plan) resolved labels the_names the_roots solutions fits named below;
    are_names =
        All-each (λ t. IsObjectOrParameter problem.objects general.params (substitute the_names t)) (opened_terms problem plan) name-there;
    used =
        λ v inside. let on =
        used_on_walk resolved labels general.params (walked_terms problem plan) are v inside in (on.0, off_walk on.0 on.1, on.2);
    count = are.count;
    steps = built.steps_are;
    goal = built.goal_is;
    goal_variable_count = built.goal_variable_count;
    rows = built.rows_are;
    marks = built.marks_are;
    sorts = built.sorts_are;
  }

  -- it is the general table, and keeps the plan
  pub general-is : Generalises problem plan general × KeepsPlan problem plan general
  general-is = (
    generalises problem plan general the_names the_roots valid is_table no_params replayed
        (walks-number problem plan general the_names the_roots is_table no_params replayed
        (walk-numbered resolved labels general.params (walked_terms problem plan) are)),
    keeps-plan problem plan is_table no_params general the_names the_roots replayed,
  )
