-- The edited table under the objects that are left of some objects for the table: where its marks come from, and where it may be used.
use Rattle.std.specs.Prelude.{◌≡◌, ◌⊎◌, ◌+◌, ◌-◌, ◌<◌, ◌≤◌, ℕ, Bool, true, nat_lt, Some, List, [], ◌∷◌, cond, map, length, take, filter, slice_get, slice_index, slice_index_or, All, Contains}
use Rattle.std.proofs.Common.{zero, suc, refl, sym, ap, ◌∙◌, subst, inl, inr, arith}
use Rattle.std.proofs.lemmas.Bool.Decides.{nat_tests}
use Rattle.std.proofs.lemmas.List.{length-map}
use Rattle.px_base.specs.Answers.{cons_same, some_same}
use Rattle.px_base.specs.ListLaws.{All-at, All-each, Contains-filter, Contains-first, Contains-later}
use Rattle.px_terms.specs.declared.atom.Atom.{Atom}
use Rattle.px_terms.specs.declared.instance.OpInst.{OpInst}
use Rattle.px_terms.specs.declared.problem.Problem.{Problem}
use Rattle.px_terms.specs.declared.term.Term.{Term}
use Rattle.px_terms.specs.declared.term.Term.TheVariants.{Obj, Var, Any as WildCard}
use Rattle.px_terms.specs.Language.{substitute}
use Rattle.px_terms.specs.Operators.{IsDeleted, schema_of}
use Rattle.px_terms.specs.Order.{term_eq}
use Rattle.px_terms.specs.Sorts.{IsWellSorted, IsWellSortedBy}
use Rattle.px_terms.specs.SortLaws.{object_at}
use Rattle.px_terms.specs.Substitution.{substitute_atom, substitute_instance}
use Rattle.px_terms.specs.Validity.{IsAtomOf, IsTermOf, IsValid}
use Rattle.px_proof.specs.Derivation.{Derivation}
use Rattle.px_proof.specs.PlaceLaws.{slice_get-map, slice_get-read, slice_get-within}
use Rattle.px_proof.specs.Substitution.{derivation_under}
use Rattle.px_table.specs.declared.mark.Mark.{Mark}
use Rattle.px_table.specs.declared.table.Table.{Table}
use Rattle.px_table.specs.KernelLaws.{Contains-from_map, from_kernel}
use Rattle.px_table.specs.Kernels.{IsInstantiation, IsProper, atom_under, instance_under, kernel_of, kernel_under, mark_under, steps_under}
use Rattle.px_table.specs.Marks.{IsKept, marks_from, step_at}
use Rattle.px_table.specs.OnceLaws.{Contains-from_each_once}
use Rattle.px_table.specs.Parameters.{is_parameter}
use Rattle.px_table.specs.Prefixes.{IsProperPrefix}
use Rattle.px_table.specs.Tables.{IsStepOf, IsTable}
use Rattle.px_table.specs.UnderLaws.{from_map, step_at-map}
use Rattle.px_table.specs.WellSorted.{ParametersFit}
use Rattle.px_table.specs.WellSortedLaws.{places-fit}
use Rattle.px_edit.specs.EditCauses.{IsEditable}
use Rattle.px_edit.specs.EditClaims.{AreObjectsLeft, EachMarkIsKept, IsAskedAtFirst, IsGoalMark, IsOldMark, IsSpoilt, IsUsedAlike, names_left}
use Rattle.px_edit.specs.Editing.{IsEdited, kept_rows, kept_steps, left_parameters, names_by, new_number, no_step, parameters_in, terms_of_parts, wanted_atom, wanted_atoms}
use Rattle.px_edit.proofs.Counting.{number-at, number-rises, place-before}
use Rattle.px_edit.proofs.EditSteps.{taken-has}
use Rattle.px_edit.proofs.KeptParts.{IsKeptMark, IsWantedMark, kept-mark, kept-parts, mark-cases, wanted-mark}
use Rattle.px_edit.proofs.Lists.{place_of, read-at, read-map, there_at}
use Rattle.px_edit.proofs.Names.{parameter-named}
use Rattle.px_edit.proofs.Needed.{keeps_wanted, nothing_missed}
use Rattle.px_edit.proofs.TableParts.{AreTableParts, from_marks-named, mark_named, of-mark, of-step, to_marks-named}

-- ---- lists

-- the step of a number that there is
pub step-in : (steps : List OpInst) (j : ℕ) → 1 ≤ j → j ≤ length steps → step_at steps j ≡ Some (slice_index_or steps (j - 1) no_step)
step-in steps zero low high = absurd (omega (arith, low))
step-in steps (suc j) low high =
    let down : suc j - 1 ≡ j = omega arith in
    slice_get-read steps j no_step (omega (arith, high)) ∙ ap (λ n. Some (slice_index_or steps n no_step)) (sym down)

taken-step : (steps : List OpInst) (j limit : ℕ) (inst : OpInst) → step_at steps j ≡ Some inst → j ≤ limit → Contains (take limit steps) inst
taken-step steps zero limit inst at low = absurd (cc)
taken-step steps (suc j) limit inst at low =
    taken-has steps j limit inst (omega (arith, low)) (slice_get-within steps j inst at) (read-at steps j inst inst at)

less-or-not : (a b : ℕ) → (a < b) ⊎ (b ≤ a)
less-or-not a b = grind arith

-- which of two numbers comes first is told by the numbers that they get
before-by : (kept : List ℕ) (a b : ℕ) → new_number kept a < new_number kept b → a < b
before-by kept a b less = elim (less-or-not a b) [
  | inl before ↦ before
  | inr after ↦ absurd (omega (arith, less, number-rises kept b a after))
]

pub below-by : (v params : ℕ) → nat_lt v params ≡ true → v < params
below-by v params is = grind (arith, nat_tests, is)

-- what holds of the objects that a function gives to the terms holds of the objects
objects-by : (P : ℕ → Type 0) (f : Term → Term) (left : List ℕ) (ts : List Term) → map Obj left ≡ map f ts
    → ((t : Term) → Contains ts t → (n : ℕ) → Obj n ≡ f t → P n) → All P left
objects-by P f [] ts same each = λ k d below. absurd (omega (arith, below))
objects-by P f (n ∷ left) [] same each = absurd (cc)
objects-by P f (n ∷ left) (t ∷ ts) same each =
    let both = cons_same same in
    let rest = objects-by P f left ts both.1 (λ u has. each u (Contains-later t ts u has)) in
    by-place both.0 rest
  where
    by-place : Obj n ≡ f t → All P left → All P (n ∷ left)
    by-place first rest zero d below = each t (Contains-first t ts) n first
    by-place first rest (suc k) d below = rest k d (omega (arith, below))

-- ---- the marks

module _ (problem : Problem) (valid : IsValid problem) (table : Table) (is : IsTable problem table) (prefix : ℕ) (wanted : List (ℕ × ℕ))
    (may : IsEditable problem table prefix wanted) (edited : Table) (done : IsEdited problem table wanted edited) where
  abbrev kept : List ℕ
  kept = done.kept

  abbrev names : List Term
  names = names_left problem table wanted kept

  abbrev rows : List (List Derivation)
  rows = kept_rows problem table wanted kept

  abbrev terms : List Term
  terms = terms_of_parts (kept_steps table kept) (wanted_atoms problem table wanted) rows

  marks-are : edited.marks ≡ marks_from 1 (map (map (derivation_under names)) rows)
  marks-are = done.renamed.marks_are ∙ ap (marks_from 1) done.renamed.rows_are

  has-named : (mark : Mark) → Contains (marks_from 1 rows) mark → Contains edited.marks (mark_named names mark)
  has-named mark has =
      subst (λ (l : List Mark). Contains l (mark_named names mark)) (sym marks-are) (to_marks-named names rows mark has)

  wanted-kept : (pair : ℕ × ℕ) → Contains wanted pair → Contains kept pair.0
  wanted-kept pair has =
      All-at (λ (p : ℕ × ℕ). Contains kept p.0) wanted pair (keeps_wanted problem table prefix wanted is may kept done.are_kept).0 has

  within : (k : ℕ) → Contains kept k → (1 ≤ k) × (k ≤ prefix)
  within k has =
      All-at (λ k. (1 ≤ k) × (k ≤ prefix)) kept k (keeps_wanted problem table prefix wanted is may kept done.are_kept).1 has

  number-of : (k : ℕ) → Contains kept k → (p : ℕ) × (slice_get kept p ≡ Some k) × (new_number kept k ≡ suc p)
  number-of k has =
      let found = place_of kept k has in (found.0, found.1, number-at kept done.are_kept.in_order found.0 k found.1)

  -- the mark of the edited table that a mark over the old parameters becomes
  old-mark : (mark m : Mark) → mark_named names m ≡ mark → IsKeptMark problem valid table is prefix wanted may kept done.are_kept m
      → IsOldMark problem table wanted kept mark
  old-mark mark m named of =
      let row = there_at kept of.place of.old.row of.row_at in
      record {
        old = of.old;
        has = of.has;
        row = row;
        column = All-at (λ (x : Mark). Contains kept x.row → (x.column ≡ 0) ⊎ Contains kept x.column) table.marks of.old
            (nothing_missed table wanted kept done.are_kept) of.has row;
        atom_is = sym (ap (λ (x : Mark). x.atom) named) ∙ sym (ap (λ (x : Mark). substitute_atom names x.atom) of.mark_is);
        row_is = sym (ap (λ (x : Mark). x.row) named) ∙ sym (ap (λ (x : Mark). x.row) of.mark_is)
            ∙ sym (number-at kept done.are_kept.in_order of.place of.old.row of.row_at);
        column_is = sym (ap (λ (x : Mark). x.column) named) ∙ sym (ap (λ (x : Mark). x.column) of.mark_is);
        index_is = sym (ap (λ (x : Mark). x.index) named) ∙ sym (ap (λ (x : Mark). x.index) of.mark_is);
      }

  goal-mark : (mark m : Mark) → mark_named names m ≡ mark → IsWantedMark problem valid table is prefix wanted may kept done.are_kept m
      → IsGoalMark problem table wanted kept mark
  goal-mark mark m named of = record {
    pair = of.pair;
    has = of.has;
    column = wanted-kept of.pair of.has;
    atom_is = sym (ap (λ (x : Mark). x.atom) named) ∙ sym (ap (λ (x : Mark). substitute_atom names x.atom) of.mark_is);
    row_is = sym (ap (λ (x : Mark). x.row) named) ∙ sym (ap (λ (x : Mark). x.row) of.mark_is);
    column_is = sym (ap (λ (x : Mark). x.column) named) ∙ sym (ap (λ (x : Mark). x.column) of.mark_is);
    index_is = sym (ap (λ (x : Mark). x.index) named) ∙ sym (ap (λ (x : Mark). x.index) of.mark_is);
  }

  each-mark : (mark : Mark) → Contains edited.marks mark
      → IsOldMark problem table wanted kept mark ⊎ IsGoalMark problem table wanted kept mark
  each-mark mark has =
      let from = from_marks-named names rows mark (subst (λ (l : List Mark). Contains l mark) marks-are has) in
      elim (mark-cases problem valid table is prefix wanted may kept done.are_kept from.0 from.1) [
        | inl of ↦ inl (old-mark mark from.0 from.2 of)
        | inr of ↦ inr (goal-mark mark from.0 from.2 of)
      ]

  pub marks-kept : EachMarkIsKept problem table wanted kept edited
  marks-kept = All-each (λ mark. IsOldMark problem table wanted kept mark ⊎ IsGoalMark problem table wanted kept mark) edited.marks each-mark

  parts : AreTableParts problem table.params table.param_sorts (kept_steps table kept) (wanted_atoms problem table wanted) rows
  parts = kept-parts problem valid table is prefix wanted may kept done.are_kept

  -- ---- under objects

  module _ (sigma left : List ℕ) (given : IsInstantiation problem table sigma)
      (objects : AreObjectsLeft problem table wanted kept sigma left) where
    -- a term under its name and the objects that are left is the term under sigma
    term-under : (t : Term) → Contains terms t → IsTermOf problem table.params t
        → substitute (map Obj left) (substitute names t) ≡ substitute (map Obj sigma) t
    term-under (Obj n) has term = refl
    term-under (Var v) has term =
        let named = parameter-named table.params terms v term has in
        let place : 0 + named.place ≡ named.place = omega arith in
        let at : slice_get (left_parameters problem table wanted kept) (0 + named.place) ≡ Some (Var v) =
        ap (slice_get (left_parameters problem table wanted kept)) place ∙ named.at in
        ap (substitute (map Obj left)) named.name_is
        ∙ ap (λ (l : List Term). slice_index_or l (0 + named.place) WildCard) objects
        ∙ read-map (substitute (map Obj sigma)) (left_parameters problem table wanted kept) (0 + named.place) WildCard WildCard
        (slice_get-within (left_parameters problem table wanted kept) (0 + named.place) (Var v) at)
        ∙ ap (substitute (map Obj sigma)) (read-at (left_parameters problem table wanted kept) (0 + named.place) (Var v) WildCard at)
    term-under WildCard has term = absurd term

    args-under : (ts : List Term) → ((t : Term) → Contains ts t → Contains terms t) → All (IsTermOf problem table.params) ts
        → map (substitute (map Obj left)) (map (substitute names) ts) ≡ map (substitute (map Obj sigma)) ts
    args-under [] among all = refl
    args-under (t ∷ ts) among all =
        let head = term-under t (among t (Contains-first t ts)) (all 0 t (omega arith)) in
        let tail = args-under ts (λ u has. among u (Contains-later t ts u has)) (λ k d below. all (suc k) d (omega (arith, below))) in
        λ i. head i ∷ tail i

    mark-under : (m : Mark) → Contains (marks_from 1 rows) m → atom_under left (substitute_atom names m.atom) ≡ atom_under sigma m.atom
    mark-under m has =
        ap (λ (args : List Term). record { pred = m.atom.pred; args = args })
        (args-under m.atom.args
        (λ t there. of-mark problem valid table.params table.param_sorts (kept_steps table kept) (wanted_atoms problem table wanted) rows parts m t
        has there)
        (All-at (λ (x : Mark). IsAtomOf problem table.params x.atom) (marks_from 1 rows) m parts.atoms has).1)

    old-under : (old : Mark) → Contains table.marks old → Contains kept old.row
        → atom_under left (substitute_atom names old.atom) ≡ atom_under sigma old.atom
    old-under old has row =
        let found = place_of kept old.row row in
        mark-under _ (kept-mark problem valid table is prefix wanted may kept done.are_kept old has found.0 found.1)

    goal-under : (pair : ℕ × ℕ) → Contains wanted pair
        → atom_under left (substitute_atom names (wanted_atom problem table pair)) ≡ atom_under sigma (wanted_atom problem table pair)
    goal-under pair has = mark-under _ (wanted-mark problem valid table is prefix wanted may kept done.are_kept pair has)

    step-under : (s : OpInst) → Contains (kept_steps table kept) s
        → instance_under left (substitute_instance names s) ≡ instance_under sigma s
    step-under s has =
        ap (λ (args : List Term). record { op = s.op; args = args })
        (args-under s.args
        (λ t there. of-step problem valid table.params table.param_sorts (kept_steps table kept) (wanted_atoms problem table wanted) rows parts s t
        has there)
        (All-at (IsStepOf problem table.params) (kept_steps table kept) s parts.steps_are has).terms)

    -- a step of the edited table is a kept step under sigma
    pub record IsStepBack (k : ℕ) (inst : OpInst) : Type 0 where
      pub old : ℕ
      pub has : Contains kept old
      pub number : new_number kept old ≡ k
      pub at : step_at (steps_under table sigma) old ≡ Some inst

    step-back : (k : ℕ) (inst : OpInst) → step_at (steps_under edited left) k ≡ Some inst → IsStepBack k inst
    step-back zero inst at = absurd (cc)
    step-back (suc p) inst at =
        let new = from_map (instance_under left) edited.steps p inst at in
        let named =
        from_map (substitute_instance names) (kept_steps table kept) p new.0
        (ap (λ (l : List OpInst). slice_get l p) (sym done.renamed.steps_are) ∙ new.1) in
        let number = from_map (λ k. slice_index_or table.steps (k - 1) no_step) kept p named.0 named.1 in
        let has = there_at kept p number.0 number.1 in
        let inside = within number.0 has in
        let there : step_at table.steps number.0 ≡ Some named.0 =
        step-in table.steps number.0 inside.0 (omega (arith, inside.1, may.most)) ∙ ap Some number.2 in
        let same : instance_under sigma named.0 ≡ inst =
        sym (step-under named.0 (there_at (kept_steps table kept) p named.0 named.1)) ∙ ap (instance_under left) named.2 ∙ new.2 in
        record {
          old = number.0;
          has = has;
          number = number-at kept done.are_kept.in_order p number.0 number.1;
          at = step_at-map (instance_under sigma) table.steps number.0 named.0 there ∙ ap Some same;
        }

    step-forth : (old : ℕ) (inst : OpInst) → Contains kept old → step_at (steps_under table sigma) old ≡ Some inst
        → step_at (steps_under edited left) (new_number kept old) ≡ Some inst
    step-forth old inst has at =
        let place = number-of old has in
        let inside = within old has in
        let s : OpInst = slice_index_or table.steps (old - 1) no_step in
        let there : step_at (steps_under table sigma) old ≡ Some (instance_under sigma s) =
        step_at-map (instance_under sigma) table.steps old s (step-in table.steps old inside.0 (omega (arith, inside.1, may.most))) in
        let here : slice_get (kept_steps table kept) place.0 ≡ Some s =
        slice_get-map (λ k. slice_index_or table.steps (k - 1) no_step) kept place.0 old place.1 in
        let named : slice_get edited.steps place.0 ≡ Some (substitute_instance names s) =
        ap (λ (l : List OpInst). slice_get l place.0) done.renamed.steps_are
        ∙ slice_get-map (substitute_instance names) (kept_steps table kept) place.0 s here in
        ap (step_at (steps_under edited left)) place.2
        ∙ slice_get-map (instance_under left) edited.steps place.0 (substitute_instance names s) named
        ∙ ap Some (step-under s (there_at (kept_steps table kept) place.0 s here))
        ∙ sym there ∙ at

    -- ---- the objects are the problem's, and fit

    left-object : (t : Term) → Contains (left_parameters problem table wanted kept) t → (n : ℕ) → Obj n ≡ substitute (map Obj sigma) t
        → n < problem.objects
    left-object t has n same =
        let inside =
        (Contains-filter (is_parameter table.params) terms t).0
        (Contains-from_each_once term_eq (filter (is_parameter table.params) terms) t has) in
        by-form t inside.1 same
      where
        same_object : {a b : ℕ} → Obj a ≡ Obj b → a ≡ b
        same_object e = cc

        by-form : (t : Term) → is_parameter table.params t ≡ true → Obj n ≡ substitute (map Obj sigma) t → n < problem.objects
        by-form (Obj m) not_one same = absurd (cc)
        by-form (Var v) one same =
            let below : v < length sigma = omega (arith, below-by v table.params one, given.count) in
            let n_is : n ≡ slice_index sigma v = same_object (same ∙ object_at sigma v below) in
            let inside : slice_index sigma v < problem.objects = given.objects v 0 below in
            omega (arith, n_is, inside)
        by-form WildCard not_one same = absurd (cc)

    pub left-instantiation : IsInstantiation problem edited left
    left-instantiation = record {
      count =
          sym (length-map left Obj) ∙ ap length objects
          ∙ length-map (left_parameters problem table wanted kept) (substitute (map Obj sigma)) ∙ sym done.params;
      objects = objects-by (λ n. n < problem.objects) (substitute (map Obj sigma)) left (left_parameters problem table wanted kept) objects
          left-object;
    }

    pub left-fits : All (IsWellSorted problem) (take prefix (steps_under table sigma)) → ParametersFit problem.object_sorts edited left
    left-fits fits =
        places-fit problem edited problem.object_sorts left left-instantiation.count done.renamed.sorts_are
        (All-each (IsWellSortedBy problem.object_sorts problem) (steps_under edited left) (λ inst has.
        let place = place_of (steps_under edited left) inst has in
        let back = step-back (suc place.0) inst place.1 in
        All-at (IsWellSorted problem) (take prefix (steps_under table sigma)) inst fits
        (taken-step (steps_under table sigma) back.old prefix inst back.at (within back.old back.has).1)))

    -- ---- what they are proper for

    old-kept : IsProperPrefix problem table prefix sigma → (mark : Mark) → IsOldMark problem table wanted kept mark
        → IsKept problem (steps_under edited left) 1 (mark_under left mark)
    old-kept proper mark of k inst low after before at deleted =
        let back = step-back k inst at in
        All-at (λ (m : Mark). m.row ≤ prefix → IsKept problem (steps_under table sigma) 1 (mark_under sigma m)) table.marks of.old proper of.has
        (within of.old.row of.row).1 back.old inst (within back.old back.has).0
        (before-by kept of.old.column back.old (omega (arith, after, of.column_is, back.number)))
        (before-by kept back.old of.old.row (omega (arith, before, of.row_is, back.number))) back.at
        (subst (IsDeleted (schema_of problem inst) inst) (ap (atom_under left) of.atom_is ∙ old-under of.old of.has of.row) deleted)

    goal-kept : ((k : ℕ) → ¬ IsSpoilt problem table wanted kept sigma k) → (mark : Mark) → IsGoalMark problem table wanted kept mark
        → IsKept problem (steps_under edited left) 1 (mark_under left mark)
    goal-kept stays mark of k inst low after before at deleted =
        let back = step-back k inst at in
        stays back.old (record {
          pair = of.pair;
          has = of.has;
          is_kept = back.has;
          later = before-by kept of.pair.0 back.old (omega (arith, after, of.column_is, back.number));
          inst = inst;
          at = back.at;
          deleted = subst (IsDeleted (schema_of problem inst) inst) (ap (atom_under left) of.atom_is ∙ goal-under of.pair of.has) deleted;
        })

    pub left-proper : IsProperPrefix problem table prefix sigma → ((k : ℕ) → ¬ IsSpoilt problem table wanted kept sigma k)
        → IsProper problem edited left 1
    left-proper proper stays =
        All-each (λ mark. IsKept problem (steps_under edited left) 1 (mark_under left mark)) edited.marks (λ mark has.
        elim (each-mark mark has) [ inl of ↦ old-kept proper mark of | inr of ↦ goal-kept stays mark of ])

    -- and where a wanted add is deleted, they are proper at no kernel up to that step
    pub left-spoilt : (k i : ℕ) → IsSpoilt problem table wanted kept sigma k → i ≤ new_number kept k → ¬ IsProper problem edited left i
    left-spoilt k i spoilt low proper =
        let mark = wanted-mark problem valid table is prefix wanted may kept done.are_kept spoilt.pair spoilt.has in
        let first = number-of spoilt.pair.0 (wanted-kept spoilt.pair spoilt.has) in
        let second = number-of k spoilt.is_kept in
        let before = place-before kept done.are_kept.in_order first.0 second.0 spoilt.pair.0 k first.1 second.1 spoilt.later in
        All-at (λ (m : Mark). IsKept problem (steps_under edited left) i (mark_under left m)) edited.marks _ proper (has-named _ mark)
        (new_number kept k) spoilt.inst low (omega (arith, before, first.2, second.2))
        (omega (arith, second.2, slice_get-within kept second.0 k second.1))
        (step-forth k spoilt.inst spoilt.is_kept spoilt.at)
        (subst (IsDeleted (schema_of problem spoilt.inst) spoilt.inst) (sym (goal-under spoilt.pair spoilt.has)) spoilt.deleted)

    -- ---- what the first kernel asks for

    asked-of : (mark : Mark) → mark.column < 1 → IsOldMark problem table wanted kept mark
        → IsAskedAtFirst table prefix sigma (atom_under left mark.atom)
    asked-of mark first of = record {
      mark = of.old;
      has = of.has;
      row = (within of.old.row of.row).1;
      column = elim of.column [
        | inl none ↦ none
        | inr some ↦ absurd (omega (arith, first, of.column_is, (number-of of.old.column some).2))
      ];
      atom_is = sym (ap (atom_under left) of.atom_is ∙ old-under of.old of.has of.row);
    }

    pub left-asks : (atom : Atom) → Contains (kernel_under edited left 1) atom → IsAskedAtFirst table prefix sigma atom
    left-asks atom has =
        let own = Contains-from_map (atom_under left) (kernel_of edited 1) atom has in
        let mark = from_kernel edited 1 own.0 own.1 in
        let here : atom_under left mark.0.atom ≡ atom = ap (atom_under left) mark.2 ∙ own.2 in
        elim (each-mark mark.0 mark.1) [
          | inl of ↦ subst (IsAskedAtFirst table prefix sigma) here (asked-of mark.0 mark.4 of)
          | inr of ↦ absurd (omega (arith, mark.4, of.column_is, (number-of of.pair.0 of.column).2))
        ]

    pub used-alike : IsUsedAlike problem table prefix wanted kept edited sigma left
    used-alike = record {
      instantiation = left-instantiation;
      fits = left-fits;
      proper = left-proper;
      asks_no_more = left-asks;
      spoilt = left-spoilt;
    }
