-- Parameters that are numbered along a walk through the opened plan are numbered as they first occur in the general table.
use Rattle.std.specs.Prelude.{◌≡◌, ◌+◌, ◌||◌, ℕ, Bool, true, false, cond, not, nat_lt, List, [], ◌∷◌, ◌++◌, map, filter, flat_map, count_by, All}
use Rattle.std.proofs.Common.{zero, suc, refl, sym, ap, ◌∙◌, subst, arith, append_assoc}
use Rattle.std.specs.Bool.{Decides}
use Rattle.std.specs.List.{list_any}
use Rattle.std.proofs.lemmas.Bool.Decides.{nat_tests}
use Rattle.std.proofs.lemmas.List.{map-append}
use Rattle.std.proofs.lemmas.List.Elements.{filter-append, All-head, All-tail}
use Rattle.std.proofs.lemmas.List.Folds.{list_any-append}
use Rattle.std.proofs.lemmas.List.Sums.{sum_by-cons}
use Rattle.px_terms.specs.declared.atom.Atom.{Atom}
use Rattle.px_terms.specs.declared.instance.OpInst.{OpInst}
use Rattle.px_terms.specs.declared.problem.Problem.{Problem}
use Rattle.px_terms.specs.declared.term.Term.{Term}
use Rattle.px_terms.specs.declared.term.Term.TheVariants.{Obj, Var, Any as WildCard}
use Rattle.px_terms.specs.Language.{substitute}
use Rattle.px_terms.specs.Order.{term_eq}
use Rattle.px_terms.specs.OrderLaws.{term_eq-decides}
use Rattle.px_terms.specs.Validity.{IsAtomOf, IsTermOf}
use Rattle.px_proof.specs.declared.proof.Leaf.{Leaf}
use Rattle.px_proof.specs.Derivation.{Derivation, terms_of}
use Rattle.px_proof.specs.Substitution.{derivation_under, leaf_under}
use Rattle.px_table.specs.declared.mark.Mark.{Mark}
use Rattle.px_table.specs.declared.table.Table.{Table}
use Rattle.px_table.specs.MarkLaws.{mark_eq-decides}
use Rattle.px_table.specs.Marks.{mark_eq, mark_of, marks_from, row_leaves, row_marks}
use Rattle.px_table.specs.Once.{each_once, put_each, put_once}
use Rattle.px_table.specs.OnceLaws.{put_each-append, put_each-each_once}
use Rattle.px_terms.specs.Substitution.{variables_from}
use Rattle.px_table.specs.Tables.{IsTable, rows_of}
use Rattle.px_general.specs.General.{is_parameter, terms_in, IsNumbered}
use Rattle.px_replay.specs.FreshVariables.{is_object}
use Rattle.px_general.specs.Naming.{AreParametersNumbered, leaf_terms, walked_terms}
use Rattle.px_replay.specs.Opened.{goal_objects, named_args, named_goal, rows_opened, step_variables, steps_opened}
use Rattle.px_general.specs.Replayed.{IsReplayed}
use Rattle.px_general.proofs.Under.{row_leaves-under, rows_terms-under, steps_terms-under}
use Rattle.px_general.proofs.Reading.{flat_map-mapped}

-- ---- lists

flat_map-append : {A B : Type 0} (f : A → List B) (xs ys : List A) → flat_map f (xs ++ ys) ≡ flat_map f xs ++ flat_map f ys
flat_map-append f [] ys = refl
flat_map-append f (x ∷ xs) ys = ap (λ l. f x ++ l) (flat_map-append f xs ys) ∙ sym (append_assoc (f x) (flat_map f xs) (flat_map f ys))

filter-flat_map : {A B : Type 0} (p : B → Bool) (f : A → List B) (xs : List A)
    → filter p (flat_map f xs) ≡ flat_map (λ x. filter p (f x)) xs
filter-flat_map p f [] = refl
filter-flat_map p f (x ∷ xs) = filter-append p (f x) (flat_map f xs) ∙ ap (λ l. filter p (f x) ++ l) (filter-flat_map p f xs)

flat_map-of_map : {A B C : Type 0} (f : B → List C) (g : A → B) (xs : List A) → flat_map f (map g xs) ≡ flat_map (λ x. f (g x)) xs
flat_map-of_map f g [] = refl
flat_map-of_map f g (x ∷ xs) = ap (λ l. f (g x) ++ l) (flat_map-of_map f g xs)

or_true : (a b : Bool) → a ≡ true → (a || b) ≡ true
or_true true b e = refl
or_true false b e = absurd (cc)

or_true_right : (a b : Bool) → b ≡ true → (a || b) ≡ true
or_true_right true b e = refl
or_true_right false b e = e

-- ---- what is there already adds nothing

module _ {A : Type 0} (same : A → A → Bool) (decides : (x y : A) → Decides (same x y) (x ≡ y)) where
  abbrev Has : List A → A → Type 0
  Has acc t = list_any (λ y. same y t) acc ≡ true

  abbrev HasAll : List A → List A → Type 0
  HasAll acc [] = Unit {0}
  HasAll acc (t ∷ ts) = Has acc t × HasAll acc ts

  put_once-there : (acc : List A) (t : A) → Has acc t → put_once same acc t ≡ acc
  put_once-there acc t has = ap (λ b. cond b acc (acc ++ t ∷ [])) has

  put_each-there : (acc ts : List A) → HasAll acc ts → put_each same acc ts ≡ acc
  put_each-there acc [] has = refl
  put_each-there acc (t ∷ ts) has = ap (λ l. put_each same l ts) (put_once-there acc t has.0) ∙ put_each-there acc ts has.1

  still_has : (acc : List A) (u t : A) → Has acc t → Has (put_once same acc u) t
  still_has acc u t has = by_case (list_any (λ y. same y u) acc)
    where
      by_case : (b : Bool) → Has (cond b acc (acc ++ u ∷ [])) t
      by_case true = has
      by_case false =
          list_any-append (λ y. same y t) acc (u ∷ []) ∙ or_true (list_any (λ y. same y t) acc) (list_any (λ y. same y t) (u ∷ [])) has

  still_has_each : (us acc : List A) (t : A) → Has acc t → Has (put_each same acc us) t
  still_has_each [] acc t has = has
  still_has_each (u ∷ us) acc t has = still_has_each us (put_once same acc u) t (still_has acc u t has)

  still_has_all : (us acc ts : List A) → HasAll acc ts → HasAll (put_each same acc us) ts
  still_has_all us acc [] has = tt
  still_has_all us acc (t ∷ ts) has = (still_has_each us acc t has.0, still_has_all us acc ts has.1)

  has_put : (acc : List A) (t : A) → Has (put_once same acc t) t
  has_put acc t = elim (list_any (λ y. same y t) acc) as (λ b. list_any (λ y. same y t) acc ≡ b → Has (cond b acc (acc ++ t ∷ [])) t) [
    | true ↦ λ is. is
    | false ↦ λ is. list_any-append (λ y. same y t) acc (t ∷ [])
        ∙ or_true_right (list_any (λ y. same y t) acc) (same t t || false) (or_true (same t t) false ((decides t t).1 refl))
  ] refl

  has_all_put : (ts acc : List A) → HasAll (put_each same acc ts) ts
  has_all_put [] acc = tt
  has_all_put (t ∷ ts) acc = (still_has_each ts (put_once same acc t) t (has_put acc t), has_all_put ts (put_once same acc t))

  module _ {M : Type 0} (equal : M → M → Bool) (equal-decides : (x y : M) → Decides (equal x y) (x ≡ y)) (f : M → List A) where
    dropped : (x : M) (zs : List M) (acc : List A) → HasAll acc (f x)
        → put_each same acc (flat_map f (filter (λ y. not (equal x y)) zs)) ≡ put_each same acc (flat_map f zs)
    dropped x [] acc has = refl
    dropped x (z ∷ zs) acc has =
        elim (equal x z) as (λ b. equal x z ≡ b
        → put_each same acc (flat_map f (cond (not b) (z ∷ filter (λ y. not (equal x y)) zs) (filter (λ y. not (equal x y)) zs)))
        ≡ put_each same acc (f z ++ flat_map f zs)) [
          | true ↦ λ is.
              let there : HasAll acc (f z) = subst (λ (m : M). HasAll acc (f m)) ((equal-decides x z).0 is) has in
              dropped x zs acc has ∙ ap (λ l. put_each same l (flat_map f zs)) (sym (put_each-there acc (f z) there))
              ∙ sym (put_each-append same acc (f z) (flat_map f zs))
          | false ↦ λ is.
              put_each-append same acc (f z) (flat_map f (filter (λ y. not (equal x y)) zs))
              ∙ dropped x zs (put_each same acc (f z)) (still_has_all (f z) acc (f x) has)
              ∙ sym (put_each-append same acc (f z) (flat_map f zs))
        ] refl

    -- items of what stands twice add nothing the second time
    pub put_each-once : (xs : List M) (acc : List A)
        → put_each same acc (flat_map f (each_once equal xs)) ≡ put_each same acc (flat_map f xs)
    put_each-once [] acc = refl
    put_each-once (x ∷ xs) acc =
        put_each-append same acc (f x) (flat_map f (filter (λ y. not (equal x y)) (each_once equal xs)))
        ∙ dropped x (each_once equal xs) (put_each same acc (f x)) (has_all_put (f x) acc)
        ∙ put_each-once xs (put_each same acc (f x)) ∙ sym (put_each-append same acc (f x) (flat_map f xs))

-- ---- marks and leaves

module _ (p : Term → Bool) where
  abbrev chosen_of_mark : Mark → List Term
  chosen_of_mark mark = filter p mark.atom.args

  marks-leaves : (r : ℕ) (rows : List (List Derivation)) (acc : List Term)
      → put_each term_eq acc (filter p (flat_map (λ (mark : Mark). mark.atom.args) (marks_from r rows)))
      ≡ put_each term_eq acc (filter p (leaf_terms rows))
  marks-leaves r [] acc = refl
  marks-leaves r (row ∷ rows) acc =
      let own : List Term = flat_map (λ (leaf : Leaf). leaf.atom.args) (row_leaves row) in
      let rest : List Term = flat_map (λ (mark : Mark). mark.atom.args) (marks_from (suc r) rows) in
      let first : put_each term_eq acc (filter p (flat_map (λ (mark : Mark). mark.atom.args) (row_marks r row)))
      ≡ put_each term_eq acc (filter p own) =
      ap (put_each term_eq acc) (filter-flat_map p (λ (mark : Mark). mark.atom.args) (row_marks r row))
      ∙ put_each-once term_eq term_eq-decides mark_eq mark_eq-decides chosen_of_mark (map (mark_of r) (row_leaves row)) acc
      ∙ ap (put_each term_eq acc) (flat_map-of_map chosen_of_mark (mark_of r) (row_leaves row)
      ∙ sym (filter-flat_map p (λ (leaf : Leaf). leaf.atom.args) (row_leaves row))) in
      ap (λ l. put_each term_eq acc (filter p l)) (flat_map-append (λ (mark : Mark). mark.atom.args) (row_marks r row)
      (marks_from (suc r) rows))
      ∙ ap (put_each term_eq acc) (filter-append p (flat_map (λ (mark : Mark). mark.atom.args) (row_marks r row)) rest)
      ∙ put_each-append term_eq acc (filter p (flat_map (λ (mark : Mark). mark.atom.args) (row_marks r row))) (filter p rest)
      ∙ ap (λ l. put_each term_eq l (filter p rest)) first
      ∙ marks-leaves (suc r) rows (put_each term_eq acc (filter p own))
      ∙ sym (put_each-append term_eq acc (filter p own) (filter p (leaf_terms rows)))
      ∙ ap (put_each term_eq acc) (sym (filter-append p own (leaf_terms rows)))

leaf_terms-under : (terms : List Term) (rows : List (List Derivation))
    → leaf_terms (map (map (derivation_under terms)) rows) ≡ map (substitute terms) (leaf_terms rows)
leaf_terms-under terms rows =
    flat_map-mapped (λ (row : List Derivation). flat_map (λ (leaf : Leaf). leaf.atom.args) (row_leaves row)) (map (derivation_under terms))
    (λ (row : List Derivation). flat_map (λ (leaf : Leaf). leaf.atom.args) (row_leaves row)) (substitute terms)
    (λ row. ap (flat_map (λ (leaf : Leaf). leaf.atom.args)) (row_leaves-under terms row)
    ∙ flat_map-mapped (λ (leaf : Leaf). leaf.atom.args) (leaf_under terms) (λ (leaf : Leaf). leaf.atom.args) (substitute terms)
    (λ leaf. refl) (row_leaves row))
    rows

-- ---- the goal's own variables are no parameters

not_below : (params v : ℕ) → nat_lt (params + v) params ≡ false
not_below params v = grind (arith, nat_tests)

variables_from-more : (first m n : ℕ) → variables_from first (m + n) ≡ variables_from first m ++ variables_from (first + m) n
variables_from-more first zero n =
    let a : 0 + n ≡ n = omega arith in
    let b : first + 0 ≡ first = omega arith in
    ap (variables_from first) a ∙ ap (λ k. variables_from k n) (sym b)
variables_from-more first (suc m) n =
    let a : suc m + n ≡ suc (m + n) = omega arith in
    let b : suc first + m ≡ first + suc m = omega arith in
    ap (variables_from first) a ∙ ap (λ l. Var first ∷ l)
    (variables_from-more (suc first) m n ∙ ap (λ k. variables_from (suc first) m ++ variables_from k n) b)

module _ (problem : Problem) (variable_count params : ℕ) (names : List Term) where
  args-parameters : (first : ℕ) (ts : List Term) → All (IsTermOf problem variable_count) ts
      → filter (is_parameter params) (named_args names params first ts)
      ≡ filter (is_parameter params) (map (substitute names) (variables_from first (count_by is_object ts)))
  args-parameters first [] are = refl
  args-parameters first (Obj n ∷ ts) are =
      let counted : count_by is_object (Obj n ∷ ts) ≡ suc (count_by is_object ts) =
      omega (arith, sum_by-cons (λ t. cond (is_object t) 1 0) (Obj n) ts) in
      let next : first + 1 ≡ suc first = omega arith in
      let rest =
      args-parameters (first + 1) ts (All-tail (IsTermOf problem variable_count) (Obj n) ts are)
      ∙ ap (λ k. filter (is_parameter params) (map (substitute names) (variables_from k (count_by is_object ts)))) next in
      ap (λ l. cond (is_parameter params (substitute names (Var first))) (substitute names (Var first) ∷ l) l) rest
      ∙ ap (λ k. filter (is_parameter params) (map (substitute names) (variables_from first k))) (sym counted)
  args-parameters first (Var v ∷ ts) are =
      let counted : count_by is_object (Var v ∷ ts) ≡ count_by is_object ts =
      omega (arith, sum_by-cons (λ t. cond (is_object t) 1 0) (Var v) ts) in
      ap (λ b. cond b (Var (params + v) ∷ filter (is_parameter params) (named_args names params first ts))
      (filter (is_parameter params) (named_args names params first ts))) (not_below params v)
      ∙ args-parameters first ts (All-tail (IsTermOf problem variable_count) (Var v) ts are)
      ∙ ap (λ k. filter (is_parameter params) (map (substitute names) (variables_from first k))) (sym counted)
  args-parameters first (WildCard ∷ ts) are = absurd (All-head (IsTermOf problem variable_count) WildCard ts are)

  goal-parameters : (first : ℕ) (goal : List Atom) → All (IsAtomOf problem variable_count) goal
      → filter (is_parameter params) (flat_map (λ (atom : Atom). atom.args) (named_goal names params first goal))
      ≡ filter (is_parameter params) (map (substitute names) (variables_from first (goal_objects goal)))
  goal-parameters first [] are = refl
  goal-parameters first (a ∷ goal) are =
      let counted : goal_objects (a ∷ goal) ≡ count_by is_object a.args + goal_objects goal =
      sum_by-cons (λ (atom : Atom). count_by is_object atom.args) a goal in
      let own = count_by is_object a.args in
      let here = args-parameters first a.args (All-head (IsAtomOf problem variable_count) a goal are).1 in
      let rest = goal-parameters (first + own) goal (All-tail (IsAtomOf problem variable_count) a goal are) in
      filter-append (is_parameter params) (named_args names params first a.args)
      (flat_map (λ (atom : Atom). atom.args) (named_goal names params (first + own) goal))
      ∙ ap (λ l. l ++ filter (is_parameter params) (flat_map (λ (atom : Atom). atom.args) (named_goal names params (first + own) goal)))
      here
      ∙ ap (λ l. filter (is_parameter params) (map (substitute names) (variables_from first own)) ++ l) rest
      ∙ sym (filter-append (is_parameter params) (map (substitute names) (variables_from first own))
      (map (substitute names) (variables_from (first + own) (goal_objects goal))))
      ∙ ap (filter (is_parameter params)) (sym (map-append (substitute names) (variables_from first own)
      (variables_from (first + own) (goal_objects goal))))
      ∙ ap (λ l. filter (is_parameter params) (map (substitute names) l))
      (sym (variables_from-more first own (goal_objects goal)) ∙ ap (variables_from first) (sym counted))

-- ---- all of it

module _ (problem : Problem) (plan general : Table) (names roots : List Term) (is_table : IsTable problem plan)
    (no_params : plan.params ≡ 0) (replayed : IsReplayed problem plan general names roots)
    (numbered : AreParametersNumbered problem plan names general.params) where
  abbrev chosen : List Term → List Term
  chosen = filter (is_parameter general.params)

  abbrev marks_part : List Term
  marks_part = flat_map (λ (mark : Mark). mark.atom.args) general.marks

  abbrev steps_part : List Term
  steps_part = flat_map (λ (inst : OpInst). inst.args) general.steps

  abbrev goal_part : List Term
  goal_part = flat_map (λ (atom : Atom). atom.args) general.goal

  abbrev rows_part : List Term
  rows_part = flat_map (flat_map terms_of) (rows_of general.proofs)

  abbrev leaves_walk : List Term
  leaves_walk = leaf_terms (rows_opened problem plan)

  abbrev steps_walk : List Term
  steps_walk = flat_map (λ (inst : OpInst). inst.args) (steps_opened plan)

  abbrev goal_walk : List Term
  goal_walk = variables_from (step_variables plan.steps) (goal_objects plan.goal)

  abbrev rows_walk : List Term
  rows_walk = flat_map (flat_map terms_of) (rows_opened problem plan)

  abbrev put : List Term → List Term → List Term
  put acc ts = put_each term_eq acc (chosen ts)

  put-append : (acc xs ys : List Term) → put acc (xs ++ ys) ≡ put (put acc xs) ys
  put-append acc xs ys =
      ap (put_each term_eq acc) (filter-append (is_parameter general.params) xs ys) ∙ put_each-append term_eq acc (chosen xs) (chosen ys)

  marks-same : (acc : List Term) → put acc marks_part ≡ put acc (map (substitute names) leaves_walk)
  marks-same acc =
      ap (λ (l : List Mark). put acc (flat_map (λ (mark : Mark). mark.atom.args) l)) replayed.marks
      ∙ marks-leaves (is_parameter general.params) 1 (rows_of general.proofs) acc
      ∙ ap (λ (r : List (List Derivation)). put acc (leaf_terms r)) replayed.rows
      ∙ ap (put acc) (leaf_terms-under names (rows_opened problem plan))

  steps-same : steps_part ≡ map (substitute names) steps_walk
  steps-same = ap (flat_map (λ (inst : OpInst). inst.args)) replayed.steps ∙ steps_terms-under names (steps_opened plan)

  rows-same : rows_part ≡ map (substitute names) rows_walk
  rows-same = ap (flat_map (flat_map terms_of)) replayed.rows ∙ rows_terms-under names (rows_opened problem plan)

  goal-same : chosen goal_part ≡ chosen (map (substitute names) goal_walk)
  goal-same =
      let goal_are : All (IsAtomOf problem plan.goal_variable_count) plan.goal =
      subst (λ (n : ℕ). All (IsAtomOf problem n) plan.goal) (omega (arith, no_params)) is_table.in_range.goal in
      ap (λ (g : List Atom). chosen (flat_map (λ (atom : Atom). atom.args) g)) replayed.goal
      ∙ goal-parameters problem plan.goal_variable_count general.params names (step_variables plan.steps) plan.goal goal_are

  -- what is put of the table's terms is what is put along the walk
  all-same : put [] (marks_part ++ (steps_part ++ (goal_part ++ rows_part))) ≡ put [] (map (substitute names) (walked_terms problem plan))
  all-same =
      let a : List Term = put [] (map (substitute names) leaves_walk) in
      let b : List Term = put a (map (substitute names) steps_walk) in
      let c : List Term = put b (map (substitute names) goal_walk) in
      put-append [] marks_part (steps_part ++ (goal_part ++ rows_part))
      ∙ put-append (put [] marks_part) steps_part (goal_part ++ rows_part)
      ∙ put-append (put (put [] marks_part) steps_part) goal_part rows_part
      ∙ ap (λ l. put (put (put l steps_part) goal_part) rows_part) (marks-same [])
      ∙ ap (λ l. put (put (put a l) goal_part) rows_part) steps-same
      ∙ ap (λ l. put (put_each term_eq b l) rows_part) goal-same
      ∙ ap (put c) rows-same
      ∙ sym (ap (put []) (map-append (substitute names) leaves_walk (steps_walk ++ (goal_walk ++ rows_walk)))
      ∙ put-append [] (map (substitute names) leaves_walk) (map (substitute names) (steps_walk ++ (goal_walk ++ rows_walk)))
      ∙ ap (put a) (map-append (substitute names) steps_walk (goal_walk ++ rows_walk))
      ∙ put-append a (map (substitute names) steps_walk) (map (substitute names) (goal_walk ++ rows_walk))
      ∙ ap (put b) (map-append (substitute names) goal_walk rows_walk)
      ∙ put-append b (map (substitute names) goal_walk) (map (substitute names) rows_walk))

  once-put : (ts : List Term) → each_once term_eq ts ≡ put_each term_eq [] ts
  once-put ts = sym (put_each-each_once term_eq term_eq-decides [] ts)

  general-is_numbered : IsNumbered general
  general-is_numbered =
      once-put (chosen (terms_in general)) ∙ all-same ∙ sym (once-put (chosen (map (substitute names) (walked_terms problem plan))))
      ∙ numbered

pub walks-number : (problem : Problem) (plan general : Table) (names roots : List Term) → IsTable problem plan → plan.params ≡ 0
    → IsReplayed problem plan general names roots → AreParametersNumbered problem plan names general.params → IsNumbered general
walks-number problem plan general names roots is_table no_params replayed numbered =
    general-is_numbered problem plan general names roots is_table no_params replayed numbered
