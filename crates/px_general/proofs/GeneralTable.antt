-- The opened plan under a most general solution of its replay is a table.
use Rattle.std.specs.Prelude.{◌≡◌, ◌+◌, ◌<◌, ◌≤◌, ◌==◌, false, ℕ, Some, List, [], ◌∷◌, ◌++◌, map, length, flat_map, count_by, slice_get, slice_index, slice_index_or, All, Contains}
use Rattle.std.proofs.Common.{zero, suc, refl, sym, ap, ◌∙◌, subst, inl, inr, arith}
use Rattle.std.specs.List.{AllZip}
use Rattle.std.proofs.lemmas.List.{length-map}
use Rattle.std.proofs.lemmas.List.Elements.{All-head, All-tail, All-cons, All-map, Contains-append_left, Contains-append_right, Contains-append_cases}
use Rattle.std.proofs.lemmas.List.Sums.{sum_by-cons}
use Rattle.px_base.specs.ListLaws.{All-at, All-each, Contains-none, Contains-first, Contains-cases}
use Rattle.px_terms.specs.declared.atom.Atom.{Atom}
use Rattle.px_terms.specs.declared.instance.OpInst.{OpInst}
use Rattle.px_terms.specs.declared.problem.Problem.{Problem}
use Rattle.px_terms.specs.declared.term.Term.{Term}
use Rattle.px_terms.specs.declared.term.Term.TheVariants.{Obj, Var, Any as WildCard}
use Rattle.px_terms.specs.Language.{substitute}
use Rattle.px_terms.specs.Operators.{adds, no_schema, precondition, schema_of}
use Rattle.px_terms.specs.Substitution.{substitute_atom, substitute_instance, variables_from}
use Rattle.px_terms.specs.Validity.{HasArity, IsAtomOf, IsTermOf, IsValid}
use Rattle.px_unify.specs.Changes.{MakesPairEqual, MakesEachEqual}
use Rattle.px_proof.specs.declared.proof.Leaf.{Leaf}
use Rattle.px_proof.specs.Derivation.{Derivation, Derivations, fact, ancestor, step, gap, open_place, none, also, leaves_of, all_leaves_of, leaf_atoms, terms_of}
use Rattle.px_proof.specs.Literals.{positive_of}
use Rattle.px_proof.specs.PlaceLaws.{All-prefix, All-back, Contains-mapped, slice_get-map}
use Rattle.px_proof.specs.Proves.{IsObjectOrParameter}
use Rattle.px_proof.specs.Substitution.{derivation_under}
use Rattle.px_proof.specs.SubstitutionLaws.{leaf_atoms-under}
use Rattle.px_proof.specs.ProvesLaws.{term_of_name}
use Rattle.px_table.specs.declared.mark.Mark.{Mark}
use Rattle.px_table.specs.declared.table.Table.{Table}
use Rattle.px_table.specs.Marks.{IsNamed, mark_of, marks_from, row_leaves, row_marks, step_at}
use Rattle.px_table.specs.Supports.{ProvesEachOf, RowsProve, variables}
use Rattle.px_table.specs.Tables.{IsTableInRange, IsStepOf, IsTable, rows_of}
use Rattle.px_table.specs.UnderLaws.{adds-under, from_map, precondition-under, step_at-map}
use Rattle.px_terms.proofs.VariableLemmas.{length-variables}
use Rattle.px_table.specs.RowLaws.{first_row}
use Rattle.px_replay.specs.FreshVariables.{fresh_in, is_object}
use Rattle.px_replay.specs.Opened.{add_at, first_of_rows, first_own, goal_objects, named_args, named_goal, opened_args, opened_goal, opened_row, opened_rows, opened_steps, row_pairs, rows_opened, rows_pairs, step_variables, steps_opened}
use Rattle.px_general.specs.Replayed.{IsReplayed}
use Rattle.px_replay.specs.Replay.{opened, opened_atom, all_opened, pairs_of}
use Rattle.px_replay.proofs.GoalSteps.{read-variable}
use Rattle.px_general.proofs.Assembling.{add_at-is}
use Rattle.px_general.proofs.Opening.{zero_test}
use Rattle.px_general.proofs.OpenedForms.{form-opened}
use Rattle.px_general.proofs.Reading.{Contains-flat_map, read-left, read-map, read-right}
use Rattle.px_general.proofs.PlanInstance.{keeps-plan}
use Rattle.px_general.proofs.Proving.{conclusion-names, proves-from_pairs}
use Rattle.px_general.proofs.Shaped.{slot-name}
use Rattle.px_general.proofs.Solving.{AreAlike, count-object, count-variable, goal_opened-alike, preconditions-alike}
use Rattle.px_general.proofs.Under.{from_marks-under, rows_terms-under}
use Rattle.px_general.proofs.WellSortedGeneral.{well_sorted-general}
use Rattle.px_general.proofs.Marked.{mark_by, mark_terms-in, row_mark-leaf}

-- ---- leaves and marks of the opened plan

module _ (named : ℕ → ℕ → Atom) where
  abbrev pub open_leaf : ℕ → Leaf → Leaf
  open_leaf k leaf = record { column = leaf.column; index = leaf.index; atom = opened_atom named k leaf }

  -- the leaf is one of the list, opened
  abbrev pub IsOpenOf : List Leaf → Leaf → Type 0
  IsOpenOf leaves leaf' = (leaf : Leaf) × (k : ℕ) × Contains leaves leaf × (open_leaf k leaf ≡ leaf')

  mutual
    leaf-opened : (first : ℕ) (d : Derivation) (leaf' : Leaf) → Contains (leaves_of (opened named first d)) leaf'
        → IsOpenOf (leaves_of d) leaf'
    leaf-opened first (fact leaf) leaf' has =
        elim (Contains-cases (open_leaf first leaf) [] leaf' has) [
          | inl is ↦ (leaf, first, Contains-first leaf [], is)
          | inr later ↦ absurd
              (Contains-none leaf' later)
        ]
    leaf-opened first (ancestor i) leaf' has = absurd (Contains-none leaf' has)
    leaf-opened first (step number theta place parts) leaf' has = leaves-opened (first + length theta) parts leaf' has
    leaf-opened first (gap atom) leaf' has = absurd (Contains-none leaf' has)
    leaf-opened first open_place leaf' has = absurd (Contains-none leaf' has)

    leaves-opened : (first : ℕ) (ds : Derivations) (leaf' : Leaf) → Contains (all_leaves_of (all_opened named first ds)) leaf'
        → IsOpenOf (all_leaves_of ds) leaf'
    leaves-opened first none leaf' has = absurd (Contains-none leaf' has)
    leaves-opened first (also d ds) leaf' has =
        let later = all_leaves_of (all_opened named (first + fresh_in d) ds) in
        elim (Contains-append_cases (leaves_of (opened named first d)) later leaf' has) [
          | inl here ↦
              let one = leaf-opened first d leaf' here in
              (one.0, one.1, Contains-append_left (leaves_of d) (all_leaves_of ds) one.0 one.2, one.3)
          | inr there ↦
              let rest = leaves-opened (first + fresh_in d) ds leaf' there in
              (rest.0, rest.1, Contains-append_right (leaves_of d) (all_leaves_of ds) rest.0 rest.2, rest.3)
        ]

  row_leaf-opened : (first : ℕ) (row : List Derivation) (leaf' : Leaf) → Contains (row_leaves (opened_row named first row)) leaf'
      → IsOpenOf (row_leaves row) leaf'
  row_leaf-opened first [] leaf' has = absurd (Contains-none leaf' has)
  row_leaf-opened first (d ∷ row) leaf' has =
      elim (Contains-append_cases (leaves_of (opened named first d)) (row_leaves (opened_row named (first + fresh_in d) row)) leaf' has) [
        | inl here ↦ let one =
            leaf-opened first d leaf' here in (one.0, one.1, Contains-append_left (leaves_of d) (row_leaves row) one.0 one.2, one.3)
        | inr later ↦ let rest =
            row_leaf-opened (first + fresh_in d) row leaf' later in
            (rest.0, rest.1, Contains-append_right (leaves_of d) (row_leaves row) rest.0 rest.2, rest.3)
      ]

  -- each mark of the opened rows is that of a leaf of the rows, opened
  pub from_marks-opened : (r first : ℕ) (rows : List (List Derivation)) (mark : Mark)
      → Contains (marks_from r (opened_rows named first rows)) mark
      → (leaf : Leaf) × (k : ℕ) × (q : ℕ) × Contains (marks_from r rows) (mark_of q leaf) × (mark_of q (open_leaf k leaf) ≡ mark)
  from_marks-opened r first [] mark has = absurd (Contains-none mark has)
  from_marks-opened r first (row ∷ rows) mark has =
      elim (Contains-append_cases (row_marks r (opened_row named first row)) (marks_from (suc r) (opened_rows named _ rows)) mark has) [
        | inl here ↦
            let leaf = row_mark-leaf r (opened_row named first row) mark here in
            let open_of = row_leaf-opened first row leaf.0 leaf.1 in (
              open_of.0,
              open_of.1,
              r,
              first_row r row rows open_of.0 open_of.2,
              ap (mark_of r) open_of.3 ∙ leaf.2,
            )
        | inr later ↦
            let rest = from_marks-opened (suc r) _ rows mark later in (
              rest.0,
              rest.1,
              rest.2,
              Contains-append_right (row_marks r row) (marks_from (suc r) rows) (mark_of rest.2 rest.0) rest.3,
              rest.4,
            )
      ]

-- ---- the terms of marks

module _ (P : Term → Type 0) where
  mark-terms : (r : ℕ) (rows : List (List Derivation)) (mark : Mark) → All P (flat_map (flat_map terms_of) rows)
      → Contains (marks_from r rows) mark → All P mark.atom.args
  mark-terms r rows mark all has =
      All-each P mark.atom.args (λ t here. All-at P (flat_map (flat_map terms_of) rows) t all
      (mark_terms-in r rows t (Contains-flat_map (λ (m : Mark). m.atom.args) (marks_from r rows) mark t has here)))

-- ---- adds of the opened steps

step-opened : (first : ℕ) (steps : List OpInst) (k : ℕ) (inst : OpInst) → slice_get steps k ≡ Some inst
    → (o : OpInst) × (slice_get (opened_steps first steps) k ≡ Some o) × (inst.op ≡ o.op) × (length o.args ≡ length inst.args)
step-opened first [] k inst at = absurd (cc)
step-opened first (s ∷ steps) zero inst at =
    let same : s ≡ inst = cc in (
      record { op = s.op; args = variables_from first (length s.args) },
      refl,
      ap (λ (x : OpInst). x.op) (sym same),
      length-variables first (length s.args) ∙ ap (λ (x : OpInst). length x.args) same,
    )
step-opened first (s ∷ steps) (suc k) inst at = step-opened (first + length s.args) steps k inst at

step_at-opened : (first : ℕ) (steps : List OpInst) (k : ℕ) (inst : OpInst) → step_at steps k ≡ Some inst
    → (o : OpInst) × (step_at (opened_steps first steps) k ≡ Some o) × (inst.op ≡ o.op)
step_at-opened first steps zero inst at = absurd (cc)
step_at-opened first steps (suc k) inst at = let o = step-opened first steps k inst at in (o.0, o.1, o.2)

-- where the add of a step is named, so is that of the opened step, and they are alike
add-opened : (problem : Problem) (first : ℕ) (steps : List OpInst) (column index : ℕ) (inst : OpInst) (atom : Atom)
    → step_at steps column ≡ Some inst → slice_get (adds problem inst) index ≡ Some atom
    → (o : OpInst) × (step_at (opened_steps first steps) column ≡ Some o)
    × (slice_get (adds problem o) index ≡ Some (add_at problem (opened_steps first steps) column index))
    × (atom.pred ≡ (add_at problem (opened_steps first steps) column index).pred)
    × (length atom.args ≡ length (add_at problem (opened_steps first steps) column index).args)
add-opened problem first steps column index inst atom at add =
    let o = step_at-opened first steps column inst at in
    let from = from_map (substitute_atom inst.args) (schema_of problem inst).add index atom add in
    let here : slice_get ((slice_index_or problem.schemas o.0.op no_schema).add) index ≡ Some from.0 =
    ap (λ (op : ℕ). slice_get ((slice_index_or problem.schemas op no_schema).add) index) (sym o.2) ∙ from.1 in
    let add_open : slice_get (adds problem o.0) index ≡ Some (substitute_atom o.0.args from.0) =
    slice_get-map (substitute_atom o.0.args) ((slice_index_or problem.schemas o.0.op no_schema).add) index from.0 here in
    let is = add_at-is problem (opened_steps first steps) column index o.0 (substitute_atom o.0.args from.0) o.1 add_open in (
      o.0,
      o.1,
      add_open ∙ ap Some (sym is),
      ap (λ (a : Atom). a.pred) (sym from.2) ∙ ap (λ (a : Atom). a.pred) (sym is),
      ap (λ (a : Atom). length a.args) (sym from.2) ∙ length-map from.0.args (substitute inst.args)
          ∙ sym (length-map from.0.args (substitute o.0.args)) ∙ ap (λ (a : Atom). length a.args) (sym is),
    )

-- ---- rows

module _ (One : Term → Type 0) (problem : Problem) (valid : IsValid problem) (params : ℕ) (named : ℕ → ℕ → Atom) (names : List Term) where
  abbrev pub IsNameUnder : Term → Type 0
  IsNameUnder t = IsObjectOrParameter problem.objects params (substitute names t)

  row-proved : (first : ℕ) (atoms opens : List Atom) (row : List Derivation) → ProvesEachOf One problem.axioms atoms row
      → AllZip AreAlike atoms opens → All IsNameUnder (flat_map terms_of (opened_row named first row))
      → MakesEachEqual (row_pairs problem.axioms opens (opened_row named first row)) names
      → ProvesEachOf (IsObjectOrParameter problem.objects params) problem.axioms (map (substitute_atom names) opens)
      (map (derivation_under names) (opened_row named first row))
  row-proved first [] [] [] p alike are equal = tt
  row-proved first [] [] (d ∷ row) p alike are equal = absurd p
  row-proved first [] (b ∷ opens) row p alike are equal = absurd alike
  row-proved first (a ∷ atoms) [] row p alike are equal = absurd alike
  row-proved first (a ∷ atoms) (b ∷ opens) [] p alike are equal = absurd p
  row-proved first (a ∷ atoms) (b ∷ opens) (d ∷ row) p alike are equal =
      let open_d : Derivation = opened named first d in
      let new_d : Derivation = derivation_under names open_d in
      let form =
      form-opened One problem.axioms (leaf_atoms (leaves_of d)) named first [] [] (positive_of a)
      (positive_of b) d tt alike.0 p.0.proves in
      let proves =
      proves-from_pairs (IsObjectOrParameter problem.objects params) problem.axioms (leaf_atoms (leaves_of new_d)) names []
      (positive_of b) open_d form
      (All-prefix (MakesPairEqual names) (pairs_of problem.axioms [] (positive_of b) open_d)
      (row_pairs problem.axioms opens (opened_row named (first + fresh_in d) row)) equal)
      (All-prefix IsNameUnder (terms_of open_d) (flat_map terms_of (opened_row named (first + fresh_in d) row)) are)
      (λ leaf has. subst (λ (l : List Atom). Contains l (substitute_atom names leaf.atom)) (sym (leaf_atoms-under names open_d))
      (Contains-mapped (substitute_atom names) (leaf_atoms (leaves_of open_d)) leaf.atom
      (Contains-mapped (λ (l : Leaf). l.atom) (leaves_of open_d) leaf has))) in (
        record {
          proves = proves;
          terms = conclusion-names problem valid params (leaf_atoms (leaves_of new_d)) (positive_of (substitute_atom names b)) new_d proves;
        },
        row-proved (first + fresh_in d) atoms opens row p.1 alike.1
            (All-back IsNameUnder (terms_of open_d) (flat_map terms_of (opened_row named (first + fresh_in d) row)) are)
            (All-back (MakesPairEqual names) (pairs_of problem.axioms [] (positive_of b) open_d)
            (row_pairs problem.axioms opens (opened_row named (first + fresh_in d) row)) equal),
      )

  module _ (goal_variable_count own : ℕ) where
    -- what is chosen for the goal's own variables
    abbrev pub chosen_names : List Term
    chosen_names = map (substitute names) (variables_from own goal_variable_count)

    named_args-chosen : (first : ℕ) (ts : List Term) → All (IsTermOf problem goal_variable_count) ts
        → ((v : ℕ) → first ≤ v → v < first + count_by is_object ts → IsNameUnder (Var v))
        → map (substitute (variables params ++ chosen_names)) (named_args names params first ts)
        ≡ map (substitute names) (opened_args first own ts)
    named_args-chosen first [] are at = refl
    named_args-chosen first (Obj n ∷ ts) are at =
        let counted = count-object n ts in
        let here = at first (omega arith) (omega (arith, counted)) in
        let head = stays (substitute names (Var first)) here in
        let rest =
        named_args-chosen (first + 1) ts (All-tail (IsTermOf problem goal_variable_count) (Obj n) ts are)
        (λ v low high. at v (omega (arith, low)) (omega (arith, high, counted))) in
        λ i. head i ∷ rest i
      where
        stays : (t : Term) → IsObjectOrParameter problem.objects params t → substitute (variables params ++ chosen_names) t ≡ t
        stays (Obj m) is = refl
        stays (Var v) is =
            read-left (variables params) chosen_names v (omega (arith, is, length-variables 0 params)) ∙ read-variable 0 params v is
            ∙ ap Var (omega arith)
        stays WildCard is = absurd is
    named_args-chosen first (Var v ∷ ts) are at =
        let below : v < goal_variable_count = All-head (IsTermOf problem goal_variable_count) (Var v) ts are in
        let counted = count-variable v ts in
        let head : substitute (variables params ++ chosen_names) (Var (params + v)) ≡ substitute names (Var (own + v)) =
        read-right (variables params) chosen_names params v (sym (length-variables 0 params))
        ∙ read-map (substitute names) (variables_from own goal_variable_count) v (omega (arith, below, length-variables own goal_variable_count))
        ∙ ap (substitute names) (read-variable own goal_variable_count v below) in
        let rest =
        named_args-chosen first ts (All-tail (IsTermOf problem goal_variable_count) (Var v) ts are)
        (λ x low high. at x low (omega (arith, high, counted))) in
        λ i. head i ∷ rest i
    named_args-chosen first (WildCard ∷ ts) are at = absurd (All-head (IsTermOf problem goal_variable_count) WildCard ts are)

    named_goal-chosen : (first : ℕ) (goal : List Atom) → All (IsAtomOf problem goal_variable_count) goal
        → ((v : ℕ) → first ≤ v → v < first + goal_objects goal → IsNameUnder (Var v))
        → map (substitute_atom names) (opened_goal first own goal)
        ≡ map (substitute_atom (variables params ++ chosen_names)) (named_goal names params first goal)
    named_goal-chosen first [] are at = refl
    named_goal-chosen first (a ∷ goal) are at =
        let counted = sum_by-cons (λ (atom : Atom). count_by is_object atom.args) a goal in
        let args =
        named_args-chosen first a.args (All-head (IsAtomOf problem goal_variable_count) a goal are).1
        (λ v low high. at v low (omega (arith, high, counted))) in
        let rest =
        named_goal-chosen (first + count_by is_object a.args) goal (All-tail (IsAtomOf problem goal_variable_count) a goal are)
        (λ v low high. at v (omega (arith, low)) (omega (arith, high, counted))) in
        λ i. record { pred = a.pred; args = sym args i } ∷ rest i

    module _ (goal : List Atom) (goal_first : ℕ) (goal_are : All (IsAtomOf problem goal_variable_count) goal)
        (slots : (v : ℕ) → goal_first ≤ v → v < goal_first + goal_objects goal → IsNameUnder (Var v)) where
      rows-proved : (f first : ℕ) (steps : List OpInst) (rows : List (List Derivation)) → RowsProve One problem 0 steps goal goal_variable_count rows
          → All IsNameUnder (flat_map (flat_map terms_of) (opened_rows named first rows))
          → MakesEachEqual (rows_pairs problem (opened_steps f steps) (opened_goal goal_first own goal) (opened_rows named first rows))
          names
          → RowsProve (IsObjectOrParameter problem.objects params) problem params (map (substitute_instance names) (opened_steps f steps))
          (named_goal names params goal_first goal) goal_variable_count (map (map (derivation_under names)) (opened_rows named first rows))
      rows-proved f first [] [] p are equal = absurd p
      rows-proved f first [] (row ∷ []) p are equal = (
        chosen_names,
        length-map (variables_from own goal_variable_count) (substitute names) ∙ length-variables own goal_variable_count,
        subst (λ (l : List Atom). ProvesEachOf (IsObjectOrParameter problem.objects params) problem.axioms l
            (map (derivation_under names) (opened_row named first row))) (named_goal-chosen goal_first goal goal_are slots)
            (row-proved first (map (substitute_atom p.0) goal) (opened_goal goal_first own goal) row p.2
            (goal_opened-alike goal_first own p.0 goal)
            (All-prefix IsNameUnder (flat_map terms_of (opened_row named first row)) [] are) equal),
      )
      rows-proved f first [] (row ∷ second ∷ rows) p are equal = absurd p
      rows-proved f first (s ∷ steps) [] p are equal = absurd p
      rows-proved f first (s ∷ steps) (row ∷ rows) p are equal =
          let opens : OpInst = record { op = s.op; args = variables_from f (length s.args) } in (
            subst (λ (l : List Atom). ProvesEachOf (IsObjectOrParameter problem.objects params) problem.axioms l
                (map (derivation_under names) (opened_row named first row))) (sym (precondition-under problem names opens))
                (row-proved first (precondition problem s) (precondition problem opens) row p.0 (preconditions-alike problem s opens refl)
                (All-prefix IsNameUnder (flat_map terms_of (opened_row named first row)) _ are)
                (All-prefix (MakesPairEqual names) (row_pairs problem.axioms (precondition problem opens) (opened_row named first row)) _
                equal)),
            rows-proved (f + length s.args) (first + _) steps rows p.1
                (All-back IsNameUnder (flat_map terms_of (opened_row named first row)) _ are)
                (All-back (MakesPairEqual names) (row_pairs problem.axioms (precondition problem opens) (opened_row named first row)) _
                equal),
          )

-- ---- the table

pub length-opened_steps : (first : ℕ) (steps : List OpInst) → length (opened_steps first steps) ≡ length steps
length-opened_steps first [] = refl
length-opened_steps first (s ∷ steps) = ap suc (length-opened_steps (first + length s.args) steps)

steps-are_of : (problem : Problem) (params first : ℕ) (names : List Term) (steps : List OpInst) → All (IsStepOf problem 0) steps
    → All (λ t. IsObjectOrParameter problem.objects params (substitute names t))
    (flat_map (λ (inst : OpInst). inst.args) (opened_steps first steps))
    → All (IsStepOf problem params) (map (substitute_instance names) (opened_steps first steps))
steps-are_of problem params first names [] are terms = λ k d below. absurd (omega (arith, below))
steps-are_of problem params first names (s ∷ steps) are terms =
    let here = All-head (IsStepOf problem 0) s steps are in
    let own =
    All-prefix (λ t. IsObjectOrParameter problem.objects params (substitute names t)) (variables_from first (length s.args)) _ terms in
    All-cons (IsStepOf problem params) _ _
    record {
      op = here.op;
      count = length-map (variables_from first (length s.args)) (substitute names) ∙ length-variables first (length s.args) ∙ here.count;
      terms =
          All-map (IsTermOf problem params) (substitute names) (variables_from first (length s.args))
          (λ k d below. term_of_name problem params _ (own k d below));
    }
    (steps-are_of problem params (first + length s.args) names steps (All-tail (IsStepOf problem 0) s steps are)
    (All-back (λ t. IsObjectOrParameter problem.objects params (substitute names t)) (variables_from first (length s.args)) _ terms))

name-term_of_more : (problem : Problem) (params more : ℕ) (t : Term) → IsObjectOrParameter problem.objects params t
    → IsTermOf problem (params + more) t
name-term_of_more problem params more (Obj n) is = is
name-term_of_more problem params more (Var v) is = omega (arith, is)
name-term_of_more problem params more WildCard is = is

module _ (problem : Problem) (params variable_count : ℕ) (names : List Term) where
  args-are_of : (first : ℕ) (ts : List Term) → All (IsTermOf problem variable_count) ts
      → ((v : ℕ) → first ≤ v → v < first + count_by is_object ts → IsObjectOrParameter problem.objects params (substitute names (Var v)))
      → All (IsTermOf problem (params + variable_count)) (named_args names params first ts) × (length (named_args names params first ts) ≡ length ts)
  args-are_of first [] are at = ((λ k d below. absurd (omega (arith, below))), refl)
  args-are_of first (Obj n ∷ ts) are at =
      let counted = count-object n ts in
      let here = at first (omega arith) (omega (arith, counted)) in
      let rest =
      args-are_of (first + 1) ts (All-tail (IsTermOf problem variable_count) (Obj n) ts are)
      (λ v low high. at v (omega (arith, low)) (omega (arith, high, counted))) in (
        All-cons (IsTermOf problem (params + variable_count)) _ _ (name-term_of_more problem params variable_count (substitute names (Var first)) here) rest.0,
        ap suc rest.1,
      )
  args-are_of first (Var v ∷ ts) are at =
      let below : v < variable_count = All-head (IsTermOf problem variable_count) (Var v) ts are in
      let counted = count-variable v ts in
      let rest =
      args-are_of first ts (All-tail (IsTermOf problem variable_count) (Var v) ts are) (λ x low high. at x low (omega (arith, high, counted))) in
      (All-cons (IsTermOf problem (params + variable_count)) (Var (params + v)) _ (omega (arith, below)) rest.0, ap suc rest.1)
  args-are_of first (WildCard ∷ ts) are at = absurd (All-head (IsTermOf problem variable_count) WildCard ts are)

  goal-is_of : (first : ℕ) (goal : List Atom) → All (IsAtomOf problem variable_count) goal
      → ((v : ℕ) → first ≤ v → v < first + goal_objects goal → IsObjectOrParameter problem.objects params (substitute names (Var v)))
      → All (IsAtomOf problem (params + variable_count)) (named_goal names params first goal)
  goal-is_of first [] are at = λ k d below. absurd (omega (arith, below))
  goal-is_of first (a ∷ goal) are at =
      let counted = sum_by-cons (λ (atom : Atom). count_by is_object atom.args) a goal in
      let here = All-head (IsAtomOf problem variable_count) a goal are in
      let args = args-are_of first a.args here.1 (λ v low high. at v low (omega (arith, high, counted))) in
      All-cons (IsAtomOf problem (params + variable_count)) _ _ ((here.0.0, args.1 ∙ here.0.1), args.0)
      (goal-is_of (first + count_by is_object a.args) goal (All-tail (IsAtomOf problem variable_count) a goal are)
      (λ v low high. at v (omega (arith, low)) (omega (arith, high, counted))))

arity-alike : (problem : Problem) (atom other : Atom) → atom.pred ≡ other.pred → length atom.args ≡ length other.args
    → HasArity problem atom → HasArity problem other
arity-alike problem atom other pred long has =
    (subst (λ (n : ℕ). n < length problem.arities) pred has.0, sym long ∙ has.1 ∙ ap (λ (n : ℕ). slice_index problem.arities n) pred)

module _ (problem : Problem) (valid : IsValid problem) (plan general : Table) (names roots : List Term) (is_table : IsTable problem plan)
    (no_params : plan.params ≡ 0) (replayed : IsReplayed problem plan general names roots) where
  abbrev named_here : ℕ → ℕ → Atom
  named_here = add_at problem (steps_opened plan)

  abbrev IsHere : Term → Type 0
  IsHere t = IsObjectOrParameter problem.objects general.params (substitute names t)

  step_terms-are : All IsHere (flat_map (λ (inst : OpInst). inst.args) (steps_opened plan))
  step_terms-are = All-prefix IsHere (flat_map (λ (inst : OpInst). inst.args) (steps_opened plan)) _ replayed.are_names

  row_terms-are : All IsHere (flat_map (flat_map terms_of) (rows_opened problem plan))
  row_terms-are =
      All-back IsHere (variables_from (step_variables plan.steps) (goal_objects plan.goal)) _
      (All-back IsHere (flat_map (λ (inst : OpInst). inst.args) (steps_opened plan)) _ replayed.are_names)

  plan_goal-are : All (IsAtomOf problem plan.goal_variable_count) plan.goal
  plan_goal-are = subst (λ (n : ℕ). All (IsAtomOf problem n) plan.goal) (omega (arith, no_params)) is_table.in_range.goal

  in-range : IsTableInRange problem general
  in-range = record {
    short =
        omega (
          arith,
          is_table.in_range.short,
          ap length replayed.steps,
          length-map (steps_opened plan) (substitute_instance names),
          length-opened_steps 0 plan.steps,
        );
    steps = subst (All (IsStepOf problem general.params)) (sym replayed.steps)
        (steps-are_of problem general.params 0 names plan.steps
        (subst (λ (n : ℕ). All (IsStepOf problem n) plan.steps) no_params is_table.in_range.steps) step_terms-are);
    goal = subst (λ (g : List Atom). All (IsAtomOf problem (general.params + general.goal_variable_count)) g) (sym replayed.goal)
        (subst (λ (n : ℕ). All (IsAtomOf problem (general.params + n))
        (named_goal names general.params (step_variables plan.steps) plan.goal)) (sym replayed.goal_variable_count)
        (goal-is_of problem general.params plan.goal_variable_count names (step_variables plan.steps) plan.goal plan_goal-are
        (slot-name problem plan general names roots replayed)));
  }

  proved : RowsProve (IsObjectOrParameter problem.objects general.params) problem general.params general.steps general.goal
      general.goal_variable_count
      (rows_of general.proofs)
  proved =
      let plan_prove =
      subst (λ (n : ℕ). RowsProve (IsObjectOrParameter problem.objects n) problem n plan.steps plan.goal plan.goal_variable_count
      (rows_of plan.proofs))
      no_params is_table.prove in
      subst (λ (s : List OpInst). RowsProve (IsObjectOrParameter problem.objects general.params) problem general.params s general.goal
      general.goal_variable_count
      (rows_of general.proofs)) (sym replayed.steps)
      (subst (λ (g : List Atom). RowsProve (IsObjectOrParameter problem.objects general.params) problem general.params
      (map (substitute_instance names) (steps_opened plan)) g general.goal_variable_count (rows_of general.proofs)) (sym replayed.goal)
      (subst (λ (n : ℕ). RowsProve (IsObjectOrParameter problem.objects general.params) problem general.params
      (map (substitute_instance names) (steps_opened plan)) (named_goal names general.params (step_variables plan.steps) plan.goal) n
      (rows_of general.proofs)) (sym replayed.goal_variable_count)
      (subst (λ (r : List (List Derivation)). RowsProve (IsObjectOrParameter problem.objects general.params) problem general.params
      (map (substitute_instance names) (steps_opened plan))
      (named_goal names general.params (step_variables plan.steps) plan.goal) plan.goal_variable_count r)
      (sym replayed.rows)
      (rows-proved (IsObjectOrParameter problem.objects 0) problem valid general.params named_here names plan.goal_variable_count
      (first_own plan) plan.goal
      (step_variables plan.steps) plan_goal-are (slot-name problem plan general names roots replayed)
      0 (first_of_rows plan) plan.steps (rows_of plan.proofs) plan_prove row_terms-are replayed.most_general.unifies))))

  -- each mark is that of a leaf of the plan, opened, under the names
  from_plan : (mark : Mark) → Contains general.marks mark
      → (leaf : Leaf) × (k : ℕ) × (q : ℕ) × Contains plan.marks (mark_of q leaf)
      × (mark_by (substitute names) (mark_of q (open_leaf named_here k leaf)) ≡ mark)
  from_plan mark has =
      let there : Contains (marks_from 1 (map (map (derivation_under names)) (rows_opened problem plan))) mark =
      subst (λ (r : List (List Derivation)). Contains (marks_from 1 r) mark) replayed.rows
      (subst (λ (l : List Mark). Contains l mark) replayed.marks has) in
      let under = from_marks-under names 1 (rows_opened problem plan) mark there in
      let open_mark = from_marks-opened named_here 1 (first_of_rows plan) (rows_of plan.proofs) under.0 under.1 in (
        open_mark.0,
        open_mark.1,
        open_mark.2,
        subst (λ (l : List Mark). Contains l (mark_of open_mark.2 open_mark.0)) (sym is_table.marks) open_mark.3,
        ap (mark_by (substitute names)) open_mark.4 ∙ under.2,
      )

  plan_named : (q : ℕ) (leaf : Leaf) → Contains plan.marks (mark_of q leaf) → IsNamed problem plan.steps (mark_of q leaf)
  plan_named q leaf has = All-at (IsNamed problem plan.steps) plan.marks (mark_of q leaf) is_table.named has

  -- the opened leaf's atom has the predicate and as many arguments
  opened-alike : (q k : ℕ) (leaf : Leaf) → Contains plan.marks (mark_of q leaf)
      → (leaf.atom.pred ≡ (opened_atom named_here k leaf).pred) × (length leaf.atom.args ≡ length (opened_atom named_here k leaf).args)
  opened-alike q k leaf has = elim (zero_test leaf.column) [
    | inl z ↦ rw z.1 (refl, sym (length-variables k (length leaf.atom.args)))
    | inr z ↦
        let add = (plan_named q leaf has).added z.0 in
        let open_add = add-opened problem 0 plan.steps leaf.column leaf.index add.0 leaf.atom add.1 add.2 in
        rw z.1 (open_add.3, open_add.4)
  ]

  opened-named : (q k : ℕ) (leaf : Leaf) → Contains plan.marks (mark_of q leaf) → 0 < leaf.column
      → (inst : OpInst) × (step_at general.steps leaf.column ≡ Some inst)
      × (slice_get (adds problem inst) leaf.index ≡ Some (substitute_atom names (opened_atom named_here k leaf)))
  opened-named q k leaf has later =
      let add = (plan_named q leaf has).added later in
      let open_add = add-opened problem 0 plan.steps leaf.column leaf.index add.0 leaf.atom add.1 add.2 in
      let not_first : leaf.column == 0 ≡ false =
      elim (zero_test leaf.column) [ inl z ↦ absurd (omega (arith, z.0, later)) | inr z ↦ z.1 ] in (
        substitute_instance names open_add.0,
        ap (λ (l : List OpInst). step_at l leaf.column) replayed.steps
            ∙ step_at-map (substitute_instance names) (steps_opened plan) leaf.column open_add.0 open_add.1,
        rw not_first (ap (λ (l : List Atom). slice_get l leaf.index) (adds-under problem names open_add.0)
            ∙ slice_get-map (substitute_atom names) (adds problem open_add.0) leaf.index (named_here leaf.column leaf.index) open_add.2),
      )

  mark-named : (mark : Mark) → Contains general.marks mark → IsNamed problem general.steps mark
  mark-named mark has =
      let from = from_plan mark has in
      let plan_is = plan_named from.2 from.0 from.3 in
      subst (IsNamed problem general.steps) from.4 record {
        earlier = plan_is.earlier;
        initial = plan_is.initial;
        added = opened-named from.2 from.1 from.0 from.3;
      }

  mark-is_of : (mark : Mark) → Contains general.marks mark → IsAtomOf problem general.params mark.atom
  mark-is_of mark has =
      let from = from_plan mark has in
      let alike = opened-alike from.2 from.1 from.0 from.3 in
      let plan_arity =
      (All-at (λ (m : Mark). IsAtomOf problem plan.params m.atom) plan.marks (mark_of from.2 from.0) is_table.atoms from.3).0 in
      let open_arity = arity-alike problem from.0.atom (opened_atom named_here from.1 from.0) alike.0 alike.1 plan_arity in
      let arity : HasArity problem (substitute_atom names (opened_atom named_here from.1 from.0)) =
      (open_arity.0, length-map _ (substitute names) ∙ open_arity.1) in
      let rows_terms : All (IsTermOf problem general.params) (flat_map (flat_map terms_of) (rows_of general.proofs)) =
      subst (λ (r : List (List Derivation)). All (IsTermOf problem general.params) (flat_map (flat_map terms_of) r)) (sym replayed.rows)
      (subst (All (IsTermOf problem general.params)) (sym (rows_terms-under names (rows_opened problem plan)))
      (All-map (IsTermOf problem general.params) (substitute names) (flat_map (flat_map terms_of) (rows_opened problem plan))
      (λ k d below. term_of_name problem general.params _ (row_terms-are k d below)))) in (
        subst (λ (m : Mark). HasArity problem m.atom) from.4 arity,
        mark-terms (IsTermOf problem general.params) 1 (rows_of general.proofs) mark rows_terms
            (subst (λ (l : List Mark). Contains l mark) replayed.marks has),
      )

  general_is_table : IsTable problem general
  general_is_table = record {
    in_range = in-range;
    prove = proved;
    marks = replayed.marks;
    atoms = All-each (λ (m : Mark). IsAtomOf problem general.params m.atom) general.marks mark-is_of;
    named = All-each (IsNamed problem general.steps) general.marks mark-named;
    sorted =
        well_sorted-general problem valid plan general is_table no_params
        (keeps-plan problem plan is_table no_params general names roots replayed) in-range.steps replayed.sorts;
  }

pub general-is_table : (problem : Problem) → IsValid problem → (plan general : Table) (names roots : List Term) → IsTable problem plan
    → plan.params ≡ 0 → IsReplayed problem plan general names roots → IsTable problem general
general-is_table problem valid plan general names roots is_table no_params replayed =
    general_is_table problem valid plan general names roots is_table no_params replayed
