-- The parameters of an edited table occur, and are numbered in the order in which they first occur.
use Rattle.std.specs.Prelude.{◌≡◌, ◌≢◌, ◌<◌, ◌≤◌, ◌+◌, ℕ, Bool, true, false, cond, not, nat_lt, Some, List, [], ◌∷◌, ◌++◌, length, map, filter, flat_map, slice_get, slice_index_or, All, Contains}
use Rattle.std.specs.Bool.{Decides}
use Rattle.std.proofs.Common.{zero, suc, refl, sym, ap, ◌∙◌, subst, inl, inr, arith}
use Rattle.std.proofs.lemmas.Bool.Decides.{nat_tests}
use Rattle.std.proofs.lemmas.List.{map-append}
use Rattle.std.proofs.lemmas.List.Elements.{Contains-append_left, Contains-append_right}
use Rattle.px_base.specs.Answers.{cons_same}
use Rattle.px_base.specs.ListLaws.{All-at, Contains-cases, Contains-filter, Contains-first, Contains-later, Contains-none}
use Rattle.px_terms.specs.declared.atom.Atom.{Atom}
use Rattle.px_terms.specs.declared.instance.OpInst.{OpInst}
use Rattle.px_terms.specs.declared.problem.Problem.{Problem}
use Rattle.px_terms.specs.declared.term.Term.{Term}
use Rattle.px_terms.specs.declared.term.Term.TheVariants.{Obj, Var, Any as WildCard}
use Rattle.px_terms.specs.Language.{substitute}
use Rattle.px_terms.specs.Order.{term_eq}
use Rattle.px_terms.specs.OrderLaws.{term_eq-decides}
use Rattle.px_terms.specs.Substitution.{substitute_atom, substitute_instance, variables_from}
use Rattle.px_terms.specs.Validity.{IsAtomOf, IsTermOf, IsValid}
use Rattle.px_proof.specs.declared.proof.Leaf.{Leaf}
use Rattle.px_proof.specs.Derivation.{Derivation, Derivations, fact, ancestor, step, gap, open_place, none, also, terms_of, all_terms_of}
use Rattle.px_proof.specs.PlaceLaws.{slice_get-within}
use Rattle.px_proof.specs.Substitution.{derivation_under, derivations_under, leaf_under}
use Rattle.px_table.specs.declared.mark.Mark.{Mark}
use Rattle.px_table.specs.KernelLaws.{Contains-from_map}
use Rattle.px_table.specs.MarkLaws.{mark_eq-decides}
use Rattle.px_table.specs.Marks.{mark_eq, mark_of, marks_from, row_leaves, row_marks}
use Rattle.px_table.specs.Once.{each_once}
use Rattle.px_table.specs.OnceLaws.{Contains-each_once, Contains-from_each_once}
use Rattle.px_table.specs.Parameters.{goal_terms, is_parameter, row_terms, step_terms}
use Rattle.px_table.specs.Supports.{variables}
use Rattle.px_edit.specs.Editing.{names_by, parameters_in, place_name, terms_of_parts}
use Rattle.px_edit.proofs.Lists.{Contains-flat_map}
use Rattle.px_edit.proofs.Names.{length-names, name-of, parameter-named}
use Rattle.px_edit.proofs.TableParts.{AreTableParts, apart, mark_named, of-mark, row_leaves-named}

-- ---- lists under a function. Alike: `filter-by` and `each_once-by` of `px_general/proofs/Marked`, which this crate doesn't stand on

filter-by : {A B : Type 0} (f : A → B) (p : B → Bool) (q : A → Bool) (xs : List A) → ((x : A) → Contains xs x → p (f x) ≡ q x)
    → filter p (map f xs) ≡ map f (filter q xs)
filter-by f p q [] each = refl
filter-by f p q (x ∷ xs) each =
    let rest = filter-by f p q xs (λ y has. each y (Contains-later x xs y has)) in
    ap (λ b. cond b (f x ∷ filter p (map f xs)) (filter p (map f xs))) (each x (Contains-first x xs)) ∙ both rest (q x)
  where
    both : filter p (map f xs) ≡ map f (filter q xs) → (b : Bool)
        → cond b (f x ∷ filter p (map f xs)) (filter p (map f xs)) ≡ map f (cond b (x ∷ filter q xs) (filter q xs))
    both rest true = ap (λ l. f x ∷ l) rest
    both rest false = rest

same_tests : (a b : Bool) → (a ≡ true → b ≡ true) → (b ≡ true → a ≡ true) → a ≡ b
same_tests true b to from = sym (to refl)
same_tests false true to from = from refl
same_tests false false to from = refl

each_once-by : {A B : Type 0} (f : A → B) (same : A → A → Bool) (other : B → B → Bool) → ((x y : A) → Decides (same x y) (x ≡ y))
    → ((x y : B) → Decides (other x y) (x ≡ y))
    → (xs : List A) → ((x y : A) → Contains xs x → Contains xs y → f x ≡ f y → x ≡ y)
    → each_once other (map f xs) ≡ map f (each_once same xs)
each_once-by f same other decides other_decides [] one = refl
each_once-by {A = A} f same other decides other_decides (x ∷ xs) one =
    let rest =
    each_once-by f same other decides other_decides xs
    (λ y z has there. one y z (Contains-later x xs y has) (Contains-later x xs z there)) in
    ap (λ l. f x ∷ filter (λ y. not (other (f x) y)) l) rest
    ∙ ap (λ l. f x ∷ l) (filter-by f (λ y. not (other (f x) y)) (λ y. not (same x y)) (each_once same xs)
    (λ y has. ap not (tests y (Contains-from_each_once same xs y has))))
  where
    tests : (y : A) → Contains xs y → other (f x) (f y) ≡ same x y
    tests y has = same_tests (other (f x) (f y)) (same x y)
        (λ is. (decides x y).1 (one x y (Contains-first x xs) (Contains-later x xs y has) ((other_decides (f x) (f y)).0 is)))
        (λ is. (other_decides (f x) (f y)).1 (ap f ((decides x y).0 is)))

flat_map-by : {A B : Type 0} (f : Term → Term) (g : A → B) (k : A → List Term) (m : B → List Term) → ((x : A) → m (g x) ≡ map f (k x))
    → (xs : List A) → flat_map m (map g xs) ≡ map f (flat_map k xs)
flat_map-by f g k m each [] = refl
flat_map-by f g k m each (x ∷ xs) =
    ap (λ l. l ++ flat_map m (map g xs)) (each x) ∙ ap (λ l. map f (k x) ++ l) (flat_map-by f g k m each xs)
    ∙ sym (map-append f (k x) (flat_map k xs))

lists-one : (f : Term → Term) (xs ys : List Term) → ((t u : Term) → Contains xs t → Contains ys u → f t ≡ f u → t ≡ u)
    → map f xs ≡ map f ys → xs ≡ ys
lists-one f [] [] one same = refl
lists-one f [] (y ∷ ys) one same = absurd (cc)
lists-one f (x ∷ xs) [] one same = absurd (cc)
lists-one f (x ∷ xs) (y ∷ ys) one same =
    let both = cons_same same in
    let head = one x y (Contains-first x xs) (Contains-first y ys) both.0 in
    let tail = lists-one f xs ys (λ t u has there. one t u (Contains-later x xs t has) (Contains-later y ys u there)) both.1 in
    λ i. head i ∷ tail i

-- ---- a list in which nothing stands twice is numbered by its own places

abbrev NoneTwice : List Term → Type 0
NoneTwice [] = Unit {0}
NoneTwice (x ∷ xs) = (¬ Contains xs x) × NoneTwice xs

filtered-none_twice : (p : Term → Bool) (xs : List Term) → NoneTwice xs → NoneTwice (filter p xs)
filtered-none_twice p [] apart_from = tt
filtered-none_twice p (x ∷ xs) apart_from = by-test (filtered-none_twice p xs apart_from.1) (p x)
  where
    by-test : NoneTwice (filter p xs) → (b : Bool) → NoneTwice (cond b (x ∷ filter p xs) (filter p xs))
    by-test rest true = (λ has. apart_from.0 ((Contains-filter p xs x).0 has).0, rest)
    by-test rest false = rest

once-none_twice : (xs : List Term) → NoneTwice (each_once term_eq xs)
once-none_twice [] = tt
once-none_twice (x ∷ xs) = (
  λ has. out ((Contains-filter (λ y. not (term_eq x y)) (each_once term_eq xs) x).0 has).1,
  filtered-none_twice (λ y. not (term_eq x y)) (each_once term_eq xs) (once-none_twice xs),
)
  where
    out : ¬ (not (term_eq x x) ≡ true)
    out is = wrong (term_eq x x) ((term_eq-decides x x).1 refl) is
      where
        wrong : (b : Bool) → b ≡ true → ¬ (not b ≡ true)
        wrong true one other = cc
        wrong false one other = cc

places-are : (first : ℕ) (xs : List Term) → NoneTwice xs → map (place_name first xs) xs ≡ variables_from first (length xs)
places-are first [] apart_from = refl
places-are first (x ∷ xs) apart_from =
    let head : place_name first (x ∷ xs) x ≡ Var first =
    ap (λ b. cond b (Var first) (place_name (suc first) xs x)) ((term_eq-decides x x).1 refl) in
    let tail = later xs (λ t has. has) ∙ places-are (suc first) xs apart_from.1 in
    λ i. head i ∷ tail i
  where
    other : (t : Term) → Contains xs t → (b : Bool) → term_eq x t ≡ b
        → cond b (Var first) (place_name (suc first) xs t) ≡ place_name (suc first) xs t
    other t has true is = absurd (apart_from.0 (subst (Contains xs) (sym ((term_eq-decides x t).0 is)) has))
    other t has false is = refl

    later : (ts : List Term) → ((t : Term) → Contains ts t → Contains xs t)
        → map (place_name first (x ∷ xs)) ts ≡ map (place_name (suc first) xs) ts
    later [] among = refl
    later (t ∷ ts) among =
        let head = other t (among t (Contains-first t ts)) (term_eq x t) refl in
        let tail = later ts (λ u has. among u (Contains-later t ts u has)) in
        λ i. head i ∷ tail i

-- ---- the terms of derivations under names

mutual
  terms-under : (names : List Term) (d : Derivation) → terms_of (derivation_under names d) ≡ map (substitute names) (terms_of d)
  terms-under names (fact leaf) = refl
  terms-under names (ancestor i) = refl
  terms-under names (step number theta place parts) =
      ap (λ l. map (substitute names) theta ++ l) (all_terms-under names parts)
      ∙ sym (map-append (substitute names) theta (all_terms_of parts))
  terms-under names (gap atom) = refl
  terms-under names open_place = refl

  all_terms-under : (names : List Term) (ds : Derivations)
      → all_terms_of (derivations_under names ds) ≡ map (substitute names) (all_terms_of ds)
  all_terms-under names none = refl
  all_terms-under names (also d ds) =
      ap (λ l. l ++ all_terms_of (derivations_under names ds)) (terms-under names d)
      ∙ ap (λ l. map (substitute names) (terms_of d) ++ l) (all_terms-under names ds)
      ∙ sym (map-append (substitute names) (terms_of d) (all_terms_of ds))

-- ---- marks under names that keep their terms apart

module _ (names : List Term) (Good : Term → Type 0)
    (one : (t u : Term) → Good t → Good u → substitute names t ≡ substitute names u → t ≡ u) where
  named-leaves : (r : ℕ) (leaves : List Leaf)
      → map (mark_of r) (map (leaf_under names) leaves) ≡ map (mark_named names) (map (mark_of r) leaves)
  named-leaves r [] = refl
  named-leaves r (leaf ∷ leaves) = ap (λ l. mark_named names (mark_of r leaf) ∷ l) (named-leaves r leaves)

  one-mark : (m n : Mark) → All Good m.atom.args → All Good n.atom.args → mark_named names m ≡ mark_named names n → m ≡ n
  one-mark m n good also_good same =
      let args : m.atom.args ≡ n.atom.args = lists-one (substitute names) m.atom.args n.atom.args
      (λ t u has there. one t u (All-at Good m.atom.args t good has) (All-at Good n.atom.args u also_good there))
      (ap (λ (x : Mark). x.atom.args) same) in
      λ i. record {
        atom = record { pred = ap (λ (x : Mark). x.atom.pred) same i; args = args i };
        row = ap (λ (x : Mark). x.row) same i;
        column = ap (λ (x : Mark). x.column) same i;
        index = ap (λ (x : Mark). x.index) same i;
      }

  named-row : (r : ℕ) (row : List Derivation) → ((m : Mark) → Contains (row_marks r row) m → All Good m.atom.args)
      → row_marks r (map (derivation_under names) row) ≡ map (mark_named names) (row_marks r row)
  named-row r row good =
      ap (λ l. each_once mark_eq (map (mark_of r) l)) (row_leaves-named names row)
      ∙ ap (each_once mark_eq) (named-leaves r (row_leaves row))
      ∙ each_once-by (mark_named names) mark_eq mark_eq mark_eq-decides mark_eq-decides (map (mark_of r) (row_leaves row))
      (λ m n has there.
      one-mark m n (good m (Contains-each_once mark_eq mark_eq-decides (map (mark_of r) (row_leaves row)) m has))
      (good n (Contains-each_once mark_eq mark_eq-decides (map (mark_of r) (row_leaves row)) n there)))

  named-marks : (first : ℕ) (rows : List (List Derivation))
      → ((m : Mark) → Contains (marks_from first rows) m → All Good m.atom.args)
      → marks_from first (map (map (derivation_under names)) rows) ≡ map (mark_named names) (marks_from first rows)
  named-marks first [] good = refl
  named-marks first (row ∷ rows) good =
      ap (λ l. l ++ marks_from (suc first) (map (map (derivation_under names)) rows))
      (named-row first row (λ m has. good m (Contains-append_left (row_marks first row) (marks_from (suc first) rows) m has)))
      ∙ ap (λ l. map (mark_named names) (row_marks first row) ++ l)
      (named-marks (suc first) rows (λ m has. good m (Contains-append_right (row_marks first row) (marks_from (suc first) rows) m has)))
      ∙ sym (map-append (mark_named names) (row_marks first row) (marks_from (suc first) rows))

-- ---- the parts with names for those of their parameters that occur

module _ (problem : Problem) (valid : IsValid problem) (params : ℕ) (param_sorts : List ℕ) (steps : List OpInst) (goal : List Atom)
    (rows : List (List Derivation)) (are : AreTableParts problem params param_sorts steps goal rows) where
  abbrev terms : List Term
  terms = terms_of_parts steps goal rows

  abbrev left : List Term
  left = parameters_in params terms

  abbrev names : List Term
  names = names_by params left

  -- a term of the problem that occurs
  abbrev IsHere : Term → Type 0
  IsHere t = IsTermOf problem params t × Contains terms t

  same_object : {a b : ℕ} → Obj a ≡ Obj b → a ≡ b
  same_object e = cc

  none-twice_named : (t u : Term) → IsHere t → IsHere u → substitute names t ≡ substitute names u → t ≡ u
  none-twice_named t (Var v) here there same =
      apart problem valid params param_sorts steps goal rows are v t there.0 there.1 here.1 here.0 same
  none-twice_named (Var v) (Obj n) here there same =
      sym (apart problem valid params param_sorts steps goal rows are v (Obj n) here.0 here.1 there.1 there.0 (sym same))
  none-twice_named (Obj m) (Obj n) here there same = same
  none-twice_named WildCard (Obj n) here there same = absurd here.0
  none-twice_named t WildCard here there same = absurd there.0

  good-marks : (m : Mark) → Contains (marks_from 1 rows) m → All IsHere m.atom.args
  good-marks m has k d below = (
    (All-at (λ (x : Mark). IsAtomOf problem params x.atom) (marks_from 1 rows) m are.atoms has).1 k d below,
    of-mark problem valid params param_sorts steps goal rows are m _ has (k, below, refl_at m.atom.args k d below),
  )
    where
      refl_at : (xs : List Term) (k : ℕ) (d : Term) → k < length xs → slice_index_or xs k (slice_index_or xs k d) ≡ slice_index_or xs k d
      refl_at [] k d below = absurd (omega (arith, below))
      refl_at (x ∷ xs) zero d below = refl
      refl_at (x ∷ xs) (suc k) d below = refl_at xs k d (omega (arith, below))

  abbrev arguments : List Mark → List Term
  arguments marks = flat_map (λ (mark : Mark). mark.atom.args) marks

  -- the terms of the parts under the names are the terms under the names
  pub named-terms : terms_of_parts (map (substitute_instance names) steps) (map (substitute_atom names) goal)
      (map (map (derivation_under names)) rows) ≡ map (substitute names) terms
  named-terms =
      let marks : arguments (marks_from 1 (map (map (derivation_under names)) rows)) ≡ map (substitute names) (arguments (marks_from 1 rows)) =
      ap arguments (named-marks names IsHere none-twice_named 1 rows good-marks)
      ∙ flat_map-by (substitute names) (mark_named names) (λ (mark : Mark). mark.atom.args) (λ (mark : Mark). mark.atom.args) (λ m. refl)
      (marks_from 1 rows) in
      let own_steps =
      flat_map-by (substitute names) (substitute_instance names) (λ (inst : OpInst). inst.args) (λ (inst : OpInst). inst.args) (λ s. refl) steps in
      let own_goal =
      flat_map-by (substitute names) (substitute_atom names) (λ (atom : Atom). atom.args) (λ (atom : Atom). atom.args) (λ a. refl) goal in
      let own_rows =
      flat_map-by (substitute names) (map (derivation_under names)) (flat_map terms_of) (flat_map terms_of)
      (flat_map-by (substitute names) (derivation_under names) terms_of terms_of (terms-under names)) rows in
      (λ i. marks i ++ (own_steps i ++ (own_goal i ++ own_rows i)))
      ∙ sym (ap (λ l. map (substitute names) (arguments (marks_from 1 rows)) ++ (map (substitute names) (step_terms steps) ++ l))
      (map-append (substitute names) (goal_terms goal) (row_terms rows)))
      ∙ sym (ap (λ l. map (substitute names) (arguments (marks_from 1 rows)) ++ l)
      (map-append (substitute names) (step_terms steps) (goal_terms goal ++ row_terms rows)))
      ∙ sym (map-append (substitute names) (arguments (marks_from 1 rows)) (step_terms steps ++ (goal_terms goal ++ row_terms rows)))

  lt-true : (a b : ℕ) → a < b → nat_lt a b ≡ true
  lt-true a b below = grind (arith, nat_tests)

  lt-false : (a b : ℕ) → b ≤ a → nat_lt a b ≡ false
  lt-false a b above = grind (arith, nat_tests)

  below-by : (a b : ℕ) → nat_lt a b ≡ true → a < b
  below-by a b is = grind (arith, nat_tests, is)

  past-end : (xs : List Term) (v : ℕ) → length xs ≤ v → slice_index_or xs v WildCard ≡ WildCard
  past-end [] v past = refl
  past-end (x ∷ xs) zero past = absurd (omega (arith, past))
  past-end (x ∷ xs) (suc v) past = past-end xs v (omega (arith, past))

  -- what is named like a parameter is one
  alike : (t : Term) → Contains terms t → is_parameter (length left) (substitute names t) ≡ is_parameter params t
  alike (Obj n) has = refl
  alike (Var v) has = by-test (nat_lt v params) refl
    where
      by-test : (b : Bool) → nat_lt v params ≡ b → is_parameter (length left) (substitute names (Var v)) ≡ nat_lt v params
      by-test true is =
          let named = parameter-named params terms v (below-by v params is) has in
          let low : 0 + named.place < length left =
          omega (arith, slice_get-within left named.place (Var v) named.at) in
          ap (is_parameter (length left)) named.name_is ∙ lt-true (0 + named.place) (length left) low ∙ sym is
      by-test false is =
          let past : length names ≤ v = omega (arith, length-names params left, at-least v params is) in
          ap (is_parameter (length left)) (past-end names v past) ∙ sym is
        where
          at-least : (a b : ℕ) → nat_lt a b ≡ false → b ≤ a
          at-least a b is = grind (arith, nat_tests, is)
  alike WildCard has = refl

  -- a parameter that is left
  from-left : (t : Term) → Contains (filter (is_parameter params) terms) t → (v : ℕ) × (t ≡ Var v) × (v < params)
  from-left t has = by-form t ((Contains-filter (is_parameter params) terms t).0 has).1
    where
      by-form : (t : Term) → is_parameter params t ≡ true → (v : ℕ) × (t ≡ Var v) × (v < params)
      by-form (Obj n) is = absurd (cc)
      by-form (Var v) is = (v, refl, below-by v params is)
      by-form WildCard is = absurd (cc)

  here-left : (t : Term) → Contains (filter (is_parameter params) terms) t → IsHere t
  here-left t has =
      let one = from-left t has in (
        subst (IsTermOf problem params) (sym one.1) one.2,
        ((Contains-filter (is_parameter params) terms t).0 has).0,
      )

  -- each parameter that is left is named by its place
  named-left : (ts : List Term) → ((t : Term) → Contains ts t → Contains left t) → map (substitute names) ts ≡ map (place_name 0 left) ts
  named-left [] among = refl
  named-left (t ∷ ts) among =
      let one = from-left t (Contains-from_each_once term_eq (filter (is_parameter params) terms) t (among t (Contains-first t ts))) in
      let head : substitute names t ≡ place_name 0 left t =
      ap (substitute names) one.1 ∙ name-of params left one.0 one.2 ∙ ap (place_name 0 left) (sym one.1) in
      let tail = named-left ts (λ u has. among u (Contains-later t ts u has)) in
      λ i. head i ∷ tail i

  pub parts-numbered : each_once term_eq (filter (is_parameter (length left)) (map (substitute names) terms)) ≡ variables (length left)
  parts-numbered =
      ap (each_once term_eq) (filter-by (substitute names) (is_parameter (length left)) (is_parameter params) terms alike)
      ∙ each_once-by (substitute names) term_eq term_eq term_eq-decides term_eq-decides (filter (is_parameter params) terms)
      (λ t u has there. none-twice_named t u (here-left t has) (here-left u there))
      ∙ named-left left (λ t has. has)
      ∙ places-are 0 left (once-none_twice (filter (is_parameter params) terms))
