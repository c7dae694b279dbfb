-- What stands in the rows of a table is in the range of certificates.
use Rattle.std.proofs.Common.{◌≡◌, ◌≤◌, ◌<◌, ◌+◌, ℕ, zero, suc, List, [], ◌∷◌, ◌++◌, length, map, get_or, Some, refl, sym, ap, subst, ◌∙◌, arith}
use Rattle.std.specs.Prelude.{All, Contains, slice_get}
use Rattle.std.specs.List.{AllByRecursion}
use Rattle.std.proofs.lemmas.List.{length-map}
use Rattle.std.proofs.lemmas.List.Elements.{Contains-append_left, Contains-append_right, recursion_from_All}
use Rattle.std.proofs.lemmas.Option.{same_Some}
use Rattle.px_base.specs.ListLaws.{Contains-first, Contains-later}
use Rattle.px_terms.specs.declared.atom.Atom.{Atom}
use Rattle.px_terms.specs.declared.clause.Clause.{Clause}
use Rattle.px_terms.specs.declared.clause.Lit.{Lit}
use Rattle.px_terms.specs.declared.instance.OpInst.{OpInst}
use Rattle.px_terms.specs.declared.problem.Problem.{Problem}
use Rattle.px_terms.specs.declared.term.Term.{Term}
use Rattle.px_terms.specs.declared.term.Term.TheVariants.{Obj, Var, Any}
use Rattle.px_terms.specs.Operators.{adds, no_schema, precondition}
use Rattle.px_terms.specs.Substitution.{substitute_atom}
use Rattle.px_terms.specs.Validity.{IsPatternTermOf}
use Rattle.px_proof.specs.declared.proof.Leaf.{Leaf}
use Rattle.px_proof.specs.Derivation.{Derivation, Derivations, fact, ancestor, step, gap, open_place, none, also, height, greatest_height, leaves_of, all_leaves_of, leaf_atoms}
use Rattle.px_proof.specs.Literals.{complement_of, positive_of}
use Rattle.px_proof.specs.PlaceLaws.{length-remove}
use Rattle.px_proof.specs.Proves.{IsObjectOrParameter, Proves, ProvesEach, from_atoms, instance_of, parts_of}
use Rattle.px_table.specs.declared.mark.Mark.{Mark}
use Rattle.px_table.specs.MarkLaws.{mark_eq-decides}
use Rattle.px_table.specs.Marks.{IsNamed, mark_eq, mark_of, marks_from, row_leaves, row_marks, step_at}
use Rattle.px_table.specs.OnceLaws.{Contains-each_once}
use Rattle.px_table.specs.Supports.{ProvesEachOf, RowsProve, variables}
use Rattle.px_table.specs.Limits.{most_steps}
use Rattle.px_cert.specs.declared.draft.Draft.{Draft}
use Rattle.px_table.specs.Deciding.{clause_at}
use Rattle.px_cert.specs.ClaimRanges.{AreProofsInRange, IsProofInRange, IsShortSchema, IsTableAtom, part_count}
use Rattle.px_cert.specs.Drafts.{language}
use Rattle.px_cert.specs.Limits.{greatest_written_height, most_places, table_variables}
use Rattle.px_cert.specs.Sound.{IsSound}

-- ---- lists

got_below : {A : Type 0} (xs : List A) (k : ℕ) (x : A) → slice_get xs k ≡ Some x → k < length xs
got_below [] k x e = absurd (cc)
got_below (y ∷ xs) zero x e = omega arith
got_below (y ∷ xs) (suc k) x e = let r = got_below xs k x e in omega (arith, r)

got_is : {A : Type 0} (xs : List A) (k : ℕ) (x other : A) → slice_get xs k ≡ Some x → get_or xs k other ≡ x
got_is [] k x other e = absurd (cc)
got_is (y ∷ xs) zero x other e = same_Some y x e
got_is (y ∷ xs) (suc k) x other e = got_is xs k x other e

split : {A : Type 0} (P : A → Type 0) (xs ys : List A) → AllByRecursion P (xs ++ ys) → AllByRecursion P xs × AllByRecursion P ys
split P [] ys all = (tt, all)
split P (x ∷ xs) ys all = let r = split P xs ys all.1 in ((all.0, r.0), r.1)

each_or : {A : Type 0} (P : A → Type 0) (xs : List A) (k : ℕ) (other : A) → AllByRecursion P xs → P other → P (get_or xs k other)
each_or P [] k other all is = is
each_or P (x ∷ xs) zero other all is = all.0
each_or P (x ∷ xs) (suc k) other all is = each_or P xs k other all.1 is

of_each : {A : Type 0} (P : A → Type 0) (xs : List A) → ((x : A) → Contains xs x → P x) → AllByRecursion P xs
of_each P [] each = tt
of_each P (x ∷ xs) each = (each x (Contains-first x xs), of_each P xs (λ y has. each y (Contains-later x xs y has)))

mapped : {A B : Type 0} (f : A → B) (xs : List A) (x : A) → Contains xs x → Contains (map f xs) (f x)
mapped f [] x (k, below, is) = absurd (omega (arith, below))
mapped f (y ∷ xs) x (zero, below, is) = (0, omega arith, ap f is)
mapped f (y ∷ xs) x (suc k, below, is) = Contains-later (f y) (map f xs) (f x) (mapped f xs x (k, omega (arith, below), is))

-- there is a row more than there are steps
pub rows_count : (IsTerm : Term → Type 0) (p : Problem) (params : ℕ) (steps : List OpInst) (goal : List Atom) (goal_variable_count : ℕ)
    (rows : List (List Derivation)) → RowsProve IsTerm p params steps goal goal_variable_count rows → length rows ≡ suc (length steps)
rows_count IsTerm p params [] goal goal_variable_count [] is = absurd is
rows_count IsTerm p params [] goal goal_variable_count (row ∷ []) is = refl
rows_count IsTerm p params [] goal goal_variable_count (row ∷ second ∷ rows) is = absurd is
rows_count IsTerm p params (inst ∷ steps) goal goal_variable_count [] is = absurd is
rows_count IsTerm p params (inst ∷ steps) goal goal_variable_count (row ∷ rows) is =
    ap suc (rows_count IsTerm p params steps goal goal_variable_count rows is.1)

-- proofs that are low, list by list
pub lows : (most : ℕ) (rows : List (List Derivation)) → All (All (λ (e : Derivation). height e ≤ most)) rows
    → AllByRecursion (AllByRecursion (λ (e : Derivation). height e ≤ most)) rows
lows most [] all = tt
lows most (row ∷ rows) all = (
  recursion_from_All (λ (e : Derivation). height e ≤ most) row (all 0 row (omega arith)),
  lows most rows (λ k r below. all (suc k) r (omega (arith, below))),
)

module _ (d : Draft) (sound : IsSound d) (params : ℕ) (few : params ≤ most_places) where
  abbrev IsTerm : Term → Type 0
  IsTerm = IsObjectOrParameter (length d.objects) params

  table_term : (t : Term) → IsTerm t → IsPatternTermOf (language d) table_variables t
  table_term (Obj n) is = is
  table_term (Var v) is = omega (arith, is, few)
  table_term Any is = absurd is

  abbrev pub IsGoodLeaf : Leaf → Type 0
  IsGoodLeaf leaf = (leaf.column ≤ most_places) × (leaf.index ≤ most_places) × IsTableAtom (language d) leaf.atom

  -- ---- proofs

  parts_are : (atoms : List Atom) (path lits : List Lit) (ds : Derivations) → ProvesEach (from_atoms IsTerm atoms) d.axioms path lits ds
      → part_count ds ≡ length lits
  parts_are atoms path [] none is = refl
  parts_are atoms path (lit ∷ lits) (also e es) is = let r = parts_are atoms path lits es is.1 in omega (arith, r)
  parts_are atoms path [] (also e es) is = absurd is
  parts_are atoms path (lit ∷ lits) none is = absurd is

  module _ (atoms : List Atom) where
    place_is : (number place : ℕ) (theta : List Term) (c : Clause) → length (clause_at d.axioms number).lits ≤ 6 → clause_at d.axioms number ≡ c
        → place < length (instance_of c.lits theta) → place ≤ most_places
    place_is number place theta c size there at =
        let same = ap (λ (c : Clause). length c.lits) there in omega (arith, same, size, at, length-map {A = Lit} {B = Lit})

    count_is : (path : List Lit) (lit : Lit) (number place : ℕ) (theta : List Term) (parts : Derivations) (c : Clause)
        → clause_at d.axioms number ≡ c → place < length (instance_of c.lits theta)
        → ProvesEach (from_atoms IsTerm atoms) d.axioms (lit ∷ path) (parts_of c.lits theta place) parts
        → part_count parts + 1 ≡ length (clause_at d.axioms number).lits
    count_is path lit number place theta parts c there at is =
        let same = ap (λ (c : Clause). length c.lits) there in
        let parts_count = parts_are atoms (lit ∷ path) (parts_of c.lits theta place) parts is in
        let removed = length-remove (instance_of c.lits theta) place at in
        omega (arith, same, parts_count, removed, length-map {A = Lit} {B = Lit})

    mutual
      ranged : (path : List Lit) (lit : Lit) (e : Derivation) → Proves (from_atoms IsTerm atoms) d.axioms path lit e
          → AllByRecursion IsGoodLeaf (leaves_of e) → length path + height e ≤ 10000 → IsProofInRange (language d) d.axioms e
      ranged path lit (fact leaf) is good short = good.0
      ranged path lit (ancestor i) is good short = let below = got_below path i (complement_of lit) is in omega (arith, below, short)
      ranged path lit (step number theta place parts) is good short =
          let empty : Clause = record { variable_count = 0; lits = [] } in
          let below = got_below d.axioms number is.0 is.1.axiom_at in
          let there : clause_at d.axioms number ≡ is.0 = got_is d.axioms number is.0 empty is.1.axiom_at in
          let size = (sound.clauses number empty below).1.1 in
          let at = got_below (instance_of is.0.lits theta) place lit is.1.literal_at in (
            below,
            place_is number place theta is.0 size there at,
            is.1.terms ∙ sym (ap (λ (c : Clause). c.variable_count) there),
            λ k t inside. table_term _ (is.1.choices k t inside),
            count_is path lit number place theta parts is.0 there at is.2,
            parts_ranged (lit ∷ path) (parts_of is.0.lits theta place) parts is.2 good (omega (arith, short)),
          )
      ranged path lit (gap atom) is good short = absurd is.1
      ranged path lit open_place is good short = absurd is

      parts_ranged : (path lits : List Lit) (es : Derivations) → ProvesEach (from_atoms IsTerm atoms) d.axioms path lits es
          → AllByRecursion IsGoodLeaf (all_leaves_of es) → length path + greatest_height es ≤ 10000 → AreProofsInRange (language d) d.axioms es
      parts_ranged path [] none is good short = tt
      parts_ranged path (lit ∷ lits) (also e es) is good short =
          let both = split IsGoodLeaf (leaves_of e) (all_leaves_of es) good in
          (ranged path lit e is.0 both.0 (omega (arith, short)), parts_ranged path lits es is.1 both.1 (omega (arith, short)))
      parts_ranged path [] (also e es) is good short = absurd is
      parts_ranged path (lit ∷ lits) none is good short = absurd is

  -- ---- rows

  abbrev pub IsLowHere : Derivation → Type 0
  IsLowHere e = height e ≤ greatest_written_height

  abbrev pub IsRanged : Derivation → Type 0
  IsRanged e = (height e ≤ greatest_written_height) × IsProofInRange (language d) d.axioms e

  row_ranged : (atoms : List Atom) (row : List Derivation) → ProvesEachOf IsTerm d.axioms atoms row
      → AllByRecursion IsGoodLeaf (row_leaves row) → AllByRecursion IsLowHere row → AllByRecursion IsRanged row
  row_ranged [] [] is good low = tt
  row_ranged [] (e ∷ row) is good low = absurd is
  row_ranged (a ∷ atoms) [] is good low = absurd is
  row_ranged (a ∷ atoms) (e ∷ row) is good low =
      let both = split IsGoodLeaf (leaves_of e) (row_leaves row) good in
      let high = low.0 in (
        (low.0, ranged (leaf_atoms (leaves_of e)) [] (positive_of a) e is.0.proves both.0 (omega (arith, high))),
        row_ranged atoms row is.1 both.1 low.1,
      )

  -- there is a proof for each atom
  each_count : (axioms : List Clause) (atoms : List Atom) (row : List Derivation) → ProvesEachOf IsTerm axioms atoms row
      → length row ≡ length atoms
  each_count axioms [] [] is = refl
  each_count axioms [] (e ∷ row) is = absurd is
  each_count axioms (a ∷ atoms) [] is = absurd is
  each_count axioms (a ∷ atoms) (e ∷ row) is = ap suc (each_count axioms atoms row is.1)

  row_here : (p : Problem) → p.axioms ≡ d.axioms → (atoms : List Atom) (row : List Derivation) → ProvesEachOf IsTerm p.axioms atoms row
      → AllByRecursion IsGoodLeaf (row_leaves row) → AllByRecursion IsLowHere row → AllByRecursion IsRanged row
  row_here p same atoms row is good low =
      row_ranged atoms row (subst (λ (cs : List Clause). ProvesEachOf IsTerm cs atoms row) same is) good low

  pub rows_ranged : (p : Problem) → p.axioms ≡ d.axioms → (steps : List OpInst) (goal : List Atom) (goal_variable_count : ℕ)
      (rows : List (List Derivation)) → RowsProve IsTerm p params steps goal goal_variable_count rows
      → AllByRecursion (λ row. AllByRecursion IsGoodLeaf (row_leaves row)) rows → AllByRecursion (AllByRecursion IsLowHere) rows
      → AllByRecursion (AllByRecursion IsRanged) rows
  rows_ranged p same [] goal goal_variable_count [] is good low = absurd is
  rows_ranged p same [] goal goal_variable_count (row ∷ []) is good low =
      (row_here p same (map (substitute_atom (variables params ++ is.0)) goal) row is.2 good.0 low.0, tt)
  rows_ranged p same [] goal goal_variable_count (row ∷ second ∷ rows) is good low = absurd is
  rows_ranged p same (inst ∷ steps) goal goal_variable_count [] is good low = absurd is
  rows_ranged p same (inst ∷ steps) goal goal_variable_count (row ∷ rows) is good low = (
    row_here p same (precondition p inst) row is.0 good.0 low.0,
    rows_ranged p same steps goal goal_variable_count rows is.1 good.1 low.1,
  )

  -- ---- marks

  abbrev pub IsGoodMark : Mark → Type 0
  IsGoodMark mark = (mark.column ≤ most_places) × (mark.index ≤ most_places) × IsTableAtom (language d) mark.atom

  pub leaves_good : (first : ℕ) (rows : List (List Derivation)) → ((m : Mark) → Contains (marks_from first rows) m → IsGoodMark m)
      → AllByRecursion (λ row. AllByRecursion IsGoodLeaf (row_leaves row)) rows
  leaves_good first [] good = tt
  leaves_good first (row ∷ rows) good = (
    of_each IsGoodLeaf (row_leaves row) (λ leaf has. good (mark_of first leaf)
        (Contains-append_left (row_marks first row) (marks_from (suc first) rows) (mark_of first leaf)
        (Contains-each_once mark_eq mark_eq-decides (map (mark_of first) (row_leaves row)) (mark_of first leaf)
        (mapped (mark_of first) (row_leaves row) leaf has)))),
    leaves_good (suc first) rows
        (λ m has. good m (Contains-append_right (row_marks first row) (marks_from (suc first) rows) m has)),
  )

  module _ (p : Problem) (shorts : AllByRecursion IsShortSchema p.schemas) (steps : List OpInst) (few_steps : length steps ≤ most_steps) where
    adds_few : (inst : OpInst) → length (adds p inst) ≤ 16
    adds_few inst =
        let short = (each_or IsShortSchema p.schemas inst.op no_schema shorts
        (record { pre = omega arith; del = omega arith; add = omega arith })).add in
        omega (arith, short, length-map {A = Atom} {B = Atom})

    precondition_few : (inst : OpInst) → length (precondition p inst) ≤ 16
    precondition_few inst =
        let short = (each_or IsShortSchema p.schemas inst.op no_schema shorts
        (record { pre = omega arith; del = omega arith; add = omega arith })).pre in
        omega (arith, short, length-map {A = Atom} {B = Atom})

    pub rows_short : (goal : List Atom) → length goal ≤ 16 → (goal_variable_count : ℕ) (left : List OpInst) (rows : List (List Derivation))
        → RowsProve IsTerm p params left goal goal_variable_count rows → AllByRecursion (λ (row : List Derivation). length row ≤ 16) rows
    rows_short goal few_atoms goal_variable_count [] [] is = absurd is
    rows_short goal few_atoms goal_variable_count [] (row ∷ []) is =
        let same = each_count p.axioms (map (substitute_atom (variables params ++ is.0)) goal) row is.2 in
        (omega (arith, same, few_atoms, length-map {A = Atom} {B = Atom}), tt)
    rows_short goal few_atoms goal_variable_count [] (row ∷ second ∷ rows) is = absurd is
    rows_short goal few_atoms goal_variable_count (inst ∷ left) [] is = absurd is
    rows_short goal few_atoms goal_variable_count (inst ∷ left) (row ∷ rows) is =
        let same = each_count p.axioms (precondition p inst) row is.0 in
        let few_atoms_here = precondition_few inst in
        (omega (arith, same, few_atoms_here), rows_short goal few_atoms goal_variable_count left rows is.1)

    at_step : (column : ℕ) (inst : OpInst) → step_at steps column ≡ Some inst → column ≤ length steps
    at_step zero inst e = absurd (cc)
    at_step (suc k) inst e = let below = got_below steps k inst e in omega (arith, below)

    pub named_low : (column : ℕ) (mark : Mark) → mark.column ≡ column → IsNamed p steps mark
        → (mark.column ≤ most_places) × (mark.index ≤ most_places)
    named_low zero mark e is = let index = is.initial e in (omega (arith, e), omega (arith, index))
    named_low (suc k) mark e is =
        let add = is.added (omega (arith, e)) in
        let column = at_step mark.column add.0 add.1 in
        let index = got_below (adds p add.0) mark.index mark.atom add.2 in
        let few_adds = adds_few add.0 in
        (omega (arith, column, few_steps), omega (arith, index, few_adds))
