-- The terms of any steps, goal and proofs of the plan's shape make all pairs of its replay equal, and the opened plan under
-- them is these steps, this goal and these proofs.
use Rattle.std.specs.Prelude.{◌≡◌, ◌+◌, ◌<◌, ◌≤◌, ℕ, cond, Some, List, [], ◌∷◌, ◌++◌, map, length, sum_by, count_by, flat_map, slice_get, slice_index_or, All, Contains}
use Rattle.std.proofs.Common.{suc, refl, sym, ap, ◌∙◌, subst, arith, length-append}
use Rattle.std.specs.List.{AllZip}
use Rattle.std.proofs.lemmas.List.{length-map}
use Rattle.std.proofs.lemmas.List.Sums.{sum_by-cons}
use Rattle.std.proofs.lemmas.List.Elements.{All-nil, All-cons, All-head, All-tail, All-append}
use Rattle.px_base.specs.ListLaws.{Contains-first, Contains-later}
use Rattle.px_terms.specs.declared.atom.Atom.{Atom}
use Rattle.px_terms.specs.declared.instance.OpInst.{OpInst}
use Rattle.px_terms.specs.declared.problem.Problem.{Problem}
use Rattle.px_terms.specs.declared.term.Term.{Term}
use Rattle.px_terms.specs.declared.term.Term.TheVariants.{Obj, Var, Any as WildCard}
use Rattle.px_terms.specs.Language.{substitute}
use Rattle.px_terms.specs.Operators.{precondition, schema_of, no_schema}
use Rattle.px_terms.specs.Substitution.{substitute_atom, substitute_instance, variables_from}
use Rattle.px_terms.specs.Validity.{IsTermOf, IsAtomOf}
use Rattle.px_unify.specs.Changes.{MakesPairEqual, MakesEachEqual}
use Rattle.px_proof.specs.Derivation.{Derivation, leaves_of, skeleton, leaf_atoms}
use Rattle.px_proof.specs.Literals.{positive_of}
use Rattle.px_proof.specs.PlaceLaws.{All-prefix, All-back, slice_get-read}
use Rattle.px_proof.specs.Substitution.{derivation_under}
use Rattle.px_table.specs.Marks.{row_leaves}
use Rattle.px_table.specs.Supports.{ProvesEachOf, RowsProve}
use Rattle.px_table.specs.SupportShapes.{without_object}
use Rattle.px_replay.specs.FreshVariables.{fresh_in, is_object}
use Rattle.px_replay.specs.Opened.{opened_steps, opened_args, opened_goal, opened_row, row_pairs, step_variables, goal_objects}
use Rattle.px_replay.specs.Replay.{own_terms, pairs_of, opened}
use Rattle.px_general.proofs.Matching.{IsAlike}
use Rattle.px_general.proofs.Opening.{HasFrom, HasFrom-prefix, HasFrom-back, IsNamedAdd, read-at, variables-are, fresh-own}
use Rattle.px_general.proofs.OpenedForms.{own_terms-unify}
use Rattle.px_general.proofs.Reading.{cons_same}

-- ---- the terms of steps, goal and proofs

-- the objects among the terms
abbrev pub objects_among : List Term → List Term
objects_among [] = []
objects_among (Obj n ∷ ts) = Obj n ∷ objects_among ts
objects_among (Var v ∷ ts) = objects_among ts
objects_among (WildCard ∷ ts) = objects_among ts

-- what holds of each object of the list holds of the objects among its terms
pub objects_among-all : (P : Term → Type 0) (ts : List Term) → ((n : ℕ) → Contains ts (Obj n) → P (Obj n)) → All P (objects_among ts)
objects_among-all P [] each = All-nil P
objects_among-all P (Obj n ∷ ts) each =
    All-cons P (Obj n) (objects_among ts) (each n (Contains-first (Obj n) ts))
    (objects_among-all P ts (λ m has. each m (Contains-later (Obj n) ts (Obj m) has)))
objects_among-all P (Var v ∷ ts) each = objects_among-all P ts (λ m has. each m (Contains-later (Var v) ts (Obj m) has))
objects_among-all P (WildCard ∷ ts) each = objects_among-all P ts (λ m has. each m (Contains-later WildCard ts (Obj m) has))

abbrev pub own_of_steps : List OpInst → List Term
own_of_steps steps = flat_map (λ (inst : OpInst). inst.args) steps

abbrev pub own_of_goal : List Atom → List Term
own_of_goal goal = flat_map (λ (atom : Atom). objects_among atom.args) goal

abbrev pub own_of_row : List Derivation → List Term
own_of_row row = flat_map own_terms row

abbrev pub own_of_rows : List (List Derivation) → List Term
own_of_rows rows = flat_map own_of_row rows

-- the terms that the last row chooses for the goal's own variables
abbrev pub goal_terms : (Is : Term → Type 0) (problem : Problem) (params : ℕ) (steps : List OpInst) (goal : List Atom) (goal_variable_count : ℕ)
    (rows : List (List Derivation)) → RowsProve Is problem params steps goal goal_variable_count rows → List Term
goal_terms Is problem params [] goal goal_variable_count [] h = []
goal_terms Is problem params [] goal goal_variable_count (row ∷ []) h = h.0
goal_terms Is problem params [] goal goal_variable_count (row ∷ second ∷ rows) h = []
goal_terms Is problem params (inst ∷ steps) goal goal_variable_count [] h = []
goal_terms Is problem params (inst ∷ steps) goal goal_variable_count (row ∷ rows) h = goal_terms Is problem params steps goal goal_variable_count rows h.1

-- all of them, where the opened plan has its fresh variables
abbrev pub own_of : List OpInst → List Atom → List Term → List (List Derivation) → List Term
own_of steps goal chosen rows = own_of_steps steps ++ (own_of_goal goal ++ (chosen ++ own_of_rows rows))

-- ---- atoms that differ in their terms alone

abbrev pub AreAlike : Atom → Atom → Type 0
AreAlike atom other = IsAlike (positive_of atom) (positive_of other)

pub alike_under : (theta tau : List Term) (atoms : List Atom)
    → AllZip AreAlike (map (substitute_atom theta) atoms) (map (substitute_atom tau) atoms)
alike_under theta tau [] = tt
alike_under theta tau (atom ∷ atoms) = (
  record { sign = refl; pred = refl; arity = length-map atom.args (substitute theta) ∙ sym (length-map atom.args (substitute tau)) },
  alike_under theta tau atoms,
)

pub preconditions-alike : (problem : Problem) (inst other : OpInst) → inst.op ≡ other.op
    → AllZip AreAlike (precondition problem inst) (precondition problem other)
preconditions-alike problem inst other same =
    subst (λ (op : ℕ). AllZip AreAlike (precondition problem inst)
    (map (substitute_atom other.args) ((slice_index_or problem.schemas op no_schema).pre))) same
    (alike_under inst.args other.args (schema_of problem inst).pre)

-- ---- steps

abbrev pub HasItsArguments : Problem → OpInst → Type 0
HasItsArguments problem inst = length inst.args ≡ (schema_of problem inst).params

abbrev pub op_of : OpInst → ℕ
op_of inst = inst.op

same_arguments : (problem : Problem) (inst other : OpInst) → inst.op ≡ other.op → HasItsArguments problem inst
    → HasItsArguments problem other → length inst.args ≡ length other.args
same_arguments problem inst other same h g = h ∙ ap (λ (op : ℕ). (slice_index_or problem.schemas op no_schema).params) same ∙ sym g

module _ (problem : Problem) where
  pub steps-fresh : (steps others : List OpInst) → map op_of others ≡ map op_of steps → All (HasItsArguments problem) steps
      → All (HasItsArguments problem) others → step_variables steps ≡ length (own_of_steps others)
  steps-fresh [] [] same h g = refl
  steps-fresh [] (o ∷ others) same h g = absurd (cc)
  steps-fresh (s ∷ steps) [] same h g = absurd (cc)
  steps-fresh (s ∷ steps) (o ∷ others) same h g =
      let both = cons_same o.op s.op (map op_of others) (map op_of steps) same in
      let one =
      same_arguments problem s o (sym both.0) (All-head (HasItsArguments problem) s steps h)
      (All-head (HasItsArguments problem) o others g) in
      let rest =
      steps-fresh steps others both.1 (All-tail (HasItsArguments problem) s steps h) (All-tail (HasItsArguments problem) o others g) in
      omega (arith, one, rest, sum_by-cons (λ (inst : OpInst). length inst.args) s steps, length-append o.args (own_of_steps others))

  -- the opened steps under the others' terms are the others
  pub steps-solved : (terms : List Term) (first : ℕ) (steps others : List OpInst) → map op_of others ≡ map op_of steps
      → All (HasItsArguments problem) steps → All (HasItsArguments problem) others → HasFrom terms first (own_of_steps others)
      → map (substitute_instance terms) (opened_steps first steps) ≡ others
  steps-solved terms first [] [] same h g has = refl
  steps-solved terms first [] (o ∷ others) same h g has = absurd (cc)
  steps-solved terms first (s ∷ steps) [] same h g has = absurd (cc)
  steps-solved terms first (s ∷ steps) (o ∷ others) same h g has =
      let both = cons_same o.op s.op (map op_of others) (map op_of steps) same in
      let one =
      same_arguments problem s o (sym both.0) (All-head (HasItsArguments problem) s steps h)
      (All-head (HasItsArguments problem) o others g) in
      let args : map (substitute terms) (variables_from first (length s.args)) ≡ o.args =
      ap (λ (k : ℕ). map (substitute terms) (variables_from first k)) one
      ∙ variables-are terms first o.args (HasFrom-prefix terms first o.args (own_of_steps others) has) in
      let rest =
      steps-solved terms (first + length s.args) steps others both.1 (All-tail (HasItsArguments problem) s steps h)
      (All-tail (HasItsArguments problem) o others g)
      (HasFrom-back terms first (first + length s.args) o.args (own_of_steps others) (omega (arith, one)) has) in
      λ i. record { op = sym both.0 i; args = args i } ∷ rest i

-- ---- the goal

abbrev pub atom_without : Atom → Atom
atom_without atom = record { pred = atom.pred; args = map without_object atom.args }

pub count-object : (n : ℕ) (ts : List Term) → count_by is_object (Obj n ∷ ts) ≡ 1 + count_by is_object ts
count-object n ts = sum_by-cons (λ t. cond (is_object t) 1 0) (Obj n) ts

pub count-variable : (v : ℕ) (ts : List Term) → count_by is_object (Var v ∷ ts) ≡ count_by is_object ts
count-variable v ts = omega (arith, sum_by-cons (λ t. cond (is_object t) 1 0) (Var v) ts)

pub count-wild_card : (ts : List Term) → count_by is_object (WildCard ∷ ts) ≡ count_by is_object ts
count-wild_card ts = omega (arith, sum_by-cons (λ t. cond (is_object t) 1 0) WildCard ts)

pub objects-counted : (ts us : List Term) → map without_object us ≡ map without_object ts
    → count_by is_object ts ≡ length (objects_among us)
objects-counted [] [] same = refl
objects-counted [] (u ∷ us) same = absurd (cc)
objects-counted (t ∷ ts) [] same = absurd (cc)
objects-counted (Obj n ∷ ts) (Obj m ∷ us) same =
    let rest = objects-counted ts us (cons_same _ _ _ _ same).1 in omega (arith, rest, count-object n ts)
objects-counted (Var v ∷ ts) (Var w ∷ us) same = count-variable v ts ∙ objects-counted ts us (cons_same _ _ _ _ same).1
objects-counted (WildCard ∷ ts) (WildCard ∷ us) same = count-wild_card ts ∙ objects-counted ts us (cons_same _ _ _ _ same).1
objects-counted (Obj n ∷ ts) (Var w ∷ us) same = absurd (cc)
objects-counted (Obj n ∷ ts) (WildCard ∷ us) same = absurd (cc)
objects-counted (Var v ∷ ts) (Obj m ∷ us) same = absurd (cc)
objects-counted (Var v ∷ ts) (WildCard ∷ us) same = absurd (cc)
objects-counted (WildCard ∷ ts) (Obj m ∷ us) same = absurd (cc)
objects-counted (WildCard ∷ ts) (Var w ∷ us) same = absurd (cc)

pub goal-counted : (goal others : List Atom) → map atom_without others ≡ map atom_without goal
    → goal_objects goal ≡ length (own_of_goal others)
goal-counted [] [] same = refl
goal-counted [] (o ∷ others) same = absurd (cc)
goal-counted (a ∷ goal) [] same = absurd (cc)
goal-counted (a ∷ goal) (o ∷ others) same =
    let both = cons_same (atom_without o) (atom_without a) (map atom_without others) (map atom_without goal) same in
    let one = objects-counted a.args o.args (ap (λ (x : Atom). x.args) both.0) in
    let rest = goal-counted goal others both.1 in
    omega (
      arith,
      one,
      rest,
      sum_by-cons (λ (atom : Atom). count_by is_object atom.args) a goal,
      length-append (objects_among o.args) (own_of_goal others),
    )

module _ (problem : Problem) (variable_count : ℕ) (terms : List Term) (own : ℕ) (chosen : List Term) (enough : variable_count ≤ length chosen)
    (has_chosen : HasFrom terms own chosen) where
  args-solved : (first : ℕ) (ts us : List Term) → map without_object us ≡ map without_object ts → All (IsTermOf problem variable_count) ts
      → HasFrom terms first (objects_among us)
      → map (substitute terms) (opened_args first own ts) ≡ map (substitute chosen) us
  args-solved first [] [] same are has = refl
  args-solved first [] (u ∷ us) same are has = absurd (cc)
  args-solved first (t ∷ ts) [] same are has = absurd (cc)
  args-solved first (Obj n ∷ ts) (Obj m ∷ us) same are has =
      let here : slice_index_or terms first WildCard ≡ Obj m =
      read-at terms first (Obj m) (subst (λ (k : ℕ). slice_get terms k ≡ Some (Obj m)) (omega arith) (has 0 (Obj m) refl)) in
      let rest =
      args-solved (first + 1) ts us (cons_same _ _ _ _ same).1 (All-tail (IsTermOf problem variable_count) (Obj n) ts are)
      (HasFrom-back terms first (first + 1) (Obj m ∷ []) (objects_among us) (omega arith) has) in
      cc (here, rest)
  args-solved first (Var v ∷ ts) (Var w ∷ us) same are has =
      let same_var : w ≡ v = number (cons_same (Var w) (Var v) _ _ same).0 in
      let below : v < variable_count = All-head (IsTermOf problem variable_count) (Var v) ts are in
      let inside : w < length chosen = omega (arith, below, enough, same_var) in
      let read = slice_get-read chosen w WildCard inside in
      let here : slice_index_or terms (own + v) WildCard ≡ slice_index_or chosen w WildCard =
      read-at terms (own + v) _ (subst (λ (k : ℕ). slice_get terms (own + k) ≡ Some (slice_index_or chosen w WildCard)) same_var
      (has_chosen w _ read)) in
      let rest = args-solved first ts us (cons_same _ _ _ _ same).1 (All-tail (IsTermOf problem variable_count) (Var v) ts are) has in
      cc (here, rest)
    where
      number : {v w : ℕ} → Var w ≡ Var v → w ≡ v
      number e = cc
  args-solved first (WildCard ∷ ts) us same are has = absurd (All-head (IsTermOf problem variable_count) WildCard ts are)
  args-solved first (Obj n ∷ ts) (Var w ∷ us) same are has = absurd (cc)
  args-solved first (Obj n ∷ ts) (WildCard ∷ us) same are has = absurd (cc)
  args-solved first (Var v ∷ ts) (Obj m ∷ us) same are has = absurd (cc)
  args-solved first (Var v ∷ ts) (WildCard ∷ us) same are has = absurd (cc)

  -- the opened goal under the terms is the other goal with what is chosen for its variables
  pub goal-solved : (first : ℕ) (goal others : List Atom) → map atom_without others ≡ map atom_without goal
      → All (IsAtomOf problem variable_count) goal → HasFrom terms first (own_of_goal others)
      → map (substitute_atom terms) (opened_goal first own goal) ≡ map (substitute_atom chosen) others
  goal-solved first [] [] same are has = refl
  goal-solved first [] (o ∷ others) same are has = absurd (cc)
  goal-solved first (a ∷ goal) [] same are has = absurd (cc)
  goal-solved first (a ∷ goal) (o ∷ others) same are has =
      let both = cons_same (atom_without o) (atom_without a) (map atom_without others) (map atom_without goal) same in
      let same_args = ap (λ (x : Atom). x.args) both.0 in
      let args =
      args-solved first a.args o.args same_args (All-head (IsAtomOf problem variable_count) a goal are).1
      (HasFrom-prefix terms first (objects_among o.args) (own_of_goal others) has) in
      let rest = goal-solved (first + count_by is_object a.args) goal others both.1 (All-tail (IsAtomOf problem variable_count) a goal are)
      (HasFrom-back terms first (first + count_by is_object a.args) (objects_among o.args) (own_of_goal others)
      (omega (arith, objects-counted a.args o.args same_args)) has) in
      λ i. record { pred = sym (ap (λ (x : Atom). x.pred) both.0) i; args = args i } ∷ rest i

length-opened_args : (first own : ℕ) (ts : List Term) → length (opened_args first own ts) ≡ length ts
length-opened_args first own [] = refl
length-opened_args first own (Obj n ∷ ts) = ap suc (length-opened_args (first + 1) own ts)
length-opened_args first own (Var v ∷ ts) = ap suc (length-opened_args first own ts)
length-opened_args first own (WildCard ∷ ts) = ap suc (length-opened_args first own ts)

pub goal_opened-alike : (first own : ℕ) (chosen : List Term) (goal : List Atom)
    → AllZip AreAlike (map (substitute_atom chosen) goal) (opened_goal first own goal)
goal_opened-alike first own chosen [] = tt
goal_opened-alike first own chosen (a ∷ goal) = (
  record { sign = refl; pred = refl; arity = length-map a.args (substitute chosen) ∙ sym (length-opened_args first own a.args) },
  goal_opened-alike (first + count_by is_object a.args) own chosen goal,
)

pub goals-alike : (chosen chosen' : List Term) (goal others : List Atom) → map atom_without others ≡ map atom_without goal
    → AllZip AreAlike (map (substitute_atom chosen) goal) (map (substitute_atom chosen') others)
goals-alike chosen chosen' [] [] same = tt
goals-alike chosen chosen' [] (o ∷ others) same = absurd (cc)
goals-alike chosen chosen' (a ∷ goal) [] same = absurd (cc)
goals-alike chosen chosen' (a ∷ goal) (o ∷ others) same =
    let both = cons_same (atom_without o) (atom_without a) (map atom_without others) (map atom_without goal) same in
    let long =
    sym (length-map a.args without_object) ∙ ap length (sym (ap (λ (x : Atom). x.args) both.0)) ∙ length-map o.args without_object in (
      record {
        sign = refl;
        pred = sym (ap (λ (x : Atom). x.pred) both.0);
        arity = length-map a.args (substitute chosen) ∙ long
            ∙ sym (length-map o.args (substitute chosen'));
      },
      goals-alike chosen chosen' goal others both.1,
    )

-- ---- rows

module _ (One Other : Term → Type 0) (problem : Problem) (named : ℕ → ℕ → Atom) (terms : List Term) where
  -- the row's opened proofs under the terms are the other row's, and the terms make their pairs equal
  pub record IsRowSolved (first : ℕ) (opens : List Atom) (row row' : List Derivation) : Type 0 where
    pub is : map (derivation_under terms) (opened_row named first row) ≡ row'
    pub equal : MakesEachEqual (row_pairs problem.axioms opens (opened_row named first row)) terms
    pub counted : sum_by fresh_in row ≡ length (own_of_row row')

  pub row-solved : (first : ℕ) (atoms opens others : List Atom) (row row' : List Derivation) → ProvesEachOf One problem.axioms atoms row
      → ProvesEachOf Other problem.axioms others row' → map skeleton row' ≡ map skeleton row
      → AllZip AreAlike atoms others → AllZip AreAlike atoms opens → map (substitute_atom terms) opens ≡ others
      → HasFrom terms first (own_of_row row') → All (IsNamedAdd named terms) (row_leaves row') → IsRowSolved first opens row row'
  row-solved first [] [] [] [] [] p q same alike alike' is has names =
      record { is = refl; equal = All-nil (MakesPairEqual terms); counted = refl }
  row-solved first (a ∷ atoms) (b ∷ opens) (c ∷ others) (d ∷ row) (e ∷ row') p q same alike alike' is has names =
      let both = cons_same (skeleton e) (skeleton d) (map skeleton row') (map skeleton row) same in
      let here = cons_same (substitute_atom terms b) c (map (substitute_atom terms) opens) others is in
      let one =
      own_terms-unify One problem.axioms (leaf_atoms (leaves_of d)) named Other (leaf_atoms (leaves_of e)) terms first (positive_of a)
      (positive_of b) (positive_of c) d e p.0.proves q.0.proves (sym both.0)
      alike.0 alike'.0 (ap positive_of here.0) (HasFrom-prefix terms first (own_terms e) (own_of_row row') has)
      (All-prefix (IsNamedAdd named terms) (leaves_of e) (row_leaves row') names) in
      let fresh = fresh-own d e one.0 in
      let rest = row-solved (first + fresh_in d) atoms opens others row row' p.1 q.1 both.1 alike.1 alike'.1 here.1
      (HasFrom-back terms first (first + fresh_in d) (own_terms e) (own_of_row row') (omega (arith, fresh)) has)
      (All-back (IsNamedAdd named terms) (leaves_of e) (row_leaves row') names) in
      record {
        is = λ i. one.1 i ∷ rest.is i;
        equal =
            All-append (MakesPairEqual terms) (pairs_of problem.axioms [] (positive_of b) (opened named first d))
            (row_pairs problem.axioms opens (opened_row named (first + fresh_in d) row)) one.2 rest.equal;
        counted = omega (arith, fresh, rest.counted, sum_by-cons fresh_in d row, length-append (own_terms e) (own_of_row row'));
      }
  row-solved first [] (b ∷ opens) others row row' p q same alike alike' is has names = absurd alike'
  row-solved first [] [] (c ∷ others) row row' p q same alike alike' is has names = absurd alike
  row-solved first [] [] [] (d ∷ row) row' p q same alike alike' is has names = absurd p
  row-solved first [] [] [] [] (e ∷ row') p q same alike alike' is has names = absurd q
  row-solved first (a ∷ atoms) [] others row row' p q same alike alike' is has names = absurd alike'
  row-solved first (a ∷ atoms) (b ∷ opens) [] row row' p q same alike alike' is has names = absurd alike
  row-solved first (a ∷ atoms) (b ∷ opens) (c ∷ others) [] row' p q same alike alike' is has names = absurd p
  row-solved first (a ∷ atoms) (b ∷ opens) (c ∷ others) (d ∷ row) [] p q same alike alike' is has names = absurd q
