-- The rows of a table are short: how many places and leaves their proofs have, and so how many marks the table has.
use Rattle.std.specs.Prelude.{All, Contains, not, slice_get, Some}
use Rattle.std.proofs.Common.{◌≡◌, ℕ, ◌+◌, ◌*◌, ◌≤◌, suc, Bool, List, [], ◌∷◌, ◌++◌, length, map, ap, arith, length-append}
use Rattle.std.specs.List.{remove}
use Rattle.std.proofs.Math.Nat.{le_trans, max-le, mul-le-mul_right}
use Rattle.std.proofs.lemmas.List.{length-map}
use Rattle.std.proofs.lemmas.List.Elements.{All-cons, All-head, All-nil, All-tail, Contains-append_left, Contains-append_right}
use Rattle.px_base.specs.ListLaws.{Contains-first}
use Rattle.px_terms.specs.declared.atom.Atom.{Atom}
use Rattle.px_terms.specs.declared.clause.Clause.{Clause}
use Rattle.px_terms.specs.declared.clause.Lit.{Lit}
use Rattle.px_terms.specs.declared.instance.OpInst.{OpInst}
use Rattle.px_terms.specs.declared.problem.Problem.{Problem}
use Rattle.px_terms.specs.declared.term.Term.{Term}
use Rattle.px_terms.specs.Clauses.{IsClause}
use Rattle.px_terms.specs.Limits.{most_arguments, most_formula_variables, most_literals}
use Rattle.px_terms.specs.Operators.{no_schema, precondition, schema_of}
use Rattle.px_terms.specs.Substitution.{substitute_atom}
use Rattle.px_terms.specs.Validity.{IsAxiomOf, IsValid}
use Rattle.px_proof.specs.declared.proof.Leaf.{Leaf}
use Rattle.px_proof.specs.Derivation.{Derivation, Derivations, fact, ancestor, step, gap, open_place, none, also, all_leaves_of, derivations, greatest_height, height, leaf_atoms, leaves_of}
use Rattle.px_proof.specs.Literals.{complement_of, positive_of}
use Rattle.px_proof.specs.PlaceLaws.{All-got, length-remove, slice_get-within}
use Rattle.px_proof.specs.Proves.{IsObjectOrParameter, Proves, ProvesEach, from_atoms, instance_of, parts_of}
use Rattle.px_table.specs.declared.mark.Mark.{Mark}
use Rattle.px_table.specs.Marks.{mark_eq, mark_of, marks_from, row_leaves, row_marks}
use Rattle.px_table.specs.MarkLaws.{all_leaves-row}
use Rattle.px_table.specs.Once.{each_once}
use Rattle.px_table.specs.RowLaws.{first_row}
use Rattle.px_table.specs.Supports.{ProvesEachOf, RowsProve, variables}
use Rattle.px_table.specs.Tables.{IsStepOf}
use Rattle.px_cert.specs.ClaimRanges.{IsShortSchema}
use Rattle.px_cert.specs.Limits.{greatest_written_height, most_atoms}
use Rattle.px_printer.specs.Blocks.{count_of}
use Rattle.px_lengths.specs.Longest.{most_places, most_row_places}
use Rattle.px_lengths.proofs.Places.{AreSmall, IsSmall, all-few-leaves, all-few-places, all_places_of}
use Rattle.px_lengths.proofs.Sizes.{filter-short, one-more}

-- ---- proofs are small

-- the clause of a step is short, and so are the terms that it chooses
record IsShortClause (clause : Clause) : Type 0 where
  pub variable_count : clause.variable_count ≤ most_formula_variables
  pub lits : length clause.lits ≤ most_literals

remove-short : {X : Type 0} (xs : List X) (place : ℕ) (x : X) → slice_get xs place ≡ Some x → length (remove xs place) ≤ length xs
remove-short xs place x at = omega (arith, length-remove xs place (slice_get-within xs place x at))

parts-short : (lits : List Lit) (theta : List Term) (place : ℕ) (lit : Lit) → slice_get (instance_of lits theta) place ≡ Some lit
    → length (parts_of lits theta place) ≤ length lits
parts-short lits theta place lit at =
    omega (
      arith,
      length-map (remove (instance_of lits theta) place) complement_of,
      remove-short (instance_of lits theta) place lit at,
      length-instance lits theta,
    )
  where
    length-instance : (lits : List Lit) (theta : List Term) → length (instance_of lits theta) ≡ length lits
    length-instance [] theta = omega arith
    length-instance (lit ∷ lits) theta = omega (arith, length-instance lits theta)

module _ (problem : Problem) (valid : IsValid problem) (params : ℕ) where
  abbrev Is : Term → Type 0
  Is = IsObjectOrParameter problem.objects params

  short-clause : (number : ℕ) (clause : Clause) → slice_get problem.axioms number ≡ Some clause → IsShortClause clause
  short-clause number clause at = record {
    variable_count = (All-got (IsAxiomOf problem) problem.axioms number clause valid.axioms at).variable_count;
    lits = (All-got IsClause problem.axioms number clause valid.arena.each at).size.1;
  }

  -- the atoms of these leaves have few arguments
  abbrev AreNarrow : List Leaf → Type 0
  AreNarrow leaves = (leaf : Leaf) → Contains leaves leaf → length leaf.atom.args ≤ most_arguments

  counted : (atoms : List Atom) (path lits : List Lit) (ds : Derivations)
      → ProvesEach (from_atoms Is atoms) problem.axioms path lits ds → count_of ds ≡ length lits
  counted atoms path [] none proves = omega arith
  counted atoms path [] (also d ds) proves = absurd proves
  counted atoms path (lit ∷ lits) none proves = absurd proves
  counted atoms path (lit ∷ lits) (also d ds) proves = omega (arith, counted atoms path lits ds proves.1)

  mutual
    small-proof : (atoms : List Atom) (path : List Lit) (lit : Lit) (d : Derivation)
        → Proves (from_atoms Is atoms) problem.axioms path lit d → AreNarrow (leaves_of d) → IsSmall d
    small-proof atoms path lit (fact leaf) proves narrow = narrow leaf (Contains-first leaf [])
    small-proof atoms path lit (ancestor i) proves narrow = tt
    small-proof atoms path lit (step number theta place parts) proves narrow =
        let clause = short-clause number proves.0 proves.1.axiom_at in
        let few = parts-short proves.0.lits theta place lit proves.1.literal_at in
        let count = counted atoms (lit ∷ path) (parts_of proves.0.lits theta place) parts proves.2 in
        let terms = proves.1.terms in (
          omega (arith, terms, clause.variable_count),
          omega (arith, count, few, clause.lits),
          small-proofs atoms (lit ∷ path) (parts_of proves.0.lits theta place) parts proves.2 narrow,
        )
    small-proof atoms path lit (gap atom) proves narrow = tt
    small-proof atoms path lit open_place proves narrow = tt

    small-proofs : (atoms : List Atom) (path lits : List Lit) (ds : Derivations)
        → ProvesEach (from_atoms Is atoms) problem.axioms path lits ds → AreNarrow (all_leaves_of ds) → AreSmall ds
    small-proofs atoms path [] none proves narrow = tt
    small-proofs atoms path [] (also d ds) proves narrow = absurd proves
    small-proofs atoms path (lit ∷ lits) none proves narrow = absurd proves
    small-proofs atoms path (lit ∷ lits) (also d ds) proves narrow = (
      small-proof atoms path lit d proves.0 (λ leaf has. narrow leaf (Contains-append_left (leaves_of d) (all_leaves_of ds) leaf has)),
      small-proofs atoms path lits ds proves.1 (λ leaf has. narrow leaf (Contains-append_right (leaves_of d) (all_leaves_of ds) leaf has)),
    )

  -- ---- rows

  small-row : (atoms : List Atom) (row : List Derivation) → ProvesEachOf Is problem.axioms atoms row → AreNarrow (row_leaves row)
      → AreSmall (derivations row)
  small-row [] [] proves narrow = tt
  small-row [] (d ∷ row) proves narrow = absurd proves
  small-row (atom ∷ atoms) [] proves narrow = absurd proves
  small-row (atom ∷ atoms) (d ∷ row) proves narrow = (
    small-proof (leaf_atoms (leaves_of d)) [] (positive_of atom) d proves.0.proves
        (λ leaf has. narrow leaf (Contains-append_left (leaves_of d) (row_leaves row) leaf has)),
    small-row atoms row proves.1 (λ leaf has. narrow leaf (Contains-append_right (leaves_of d) (row_leaves row) leaf has)),
  )

  row-count : (atoms : List Atom) (row : List Derivation) → ProvesEachOf Is problem.axioms atoms row → length row ≡ length atoms
  row-count [] [] proves = omega arith
  row-count [] (d ∷ row) proves = absurd proves
  row-count (atom ∷ atoms) [] proves = absurd proves
  row-count (atom ∷ atoms) (d ∷ row) proves = omega (arith, row-count atoms row proves.1)

-- few small proofs
pub record IsSmallRow (row : List Derivation) : Type 0 where
  pub few : length row ≤ most_atoms
  pub small : AreSmall (derivations row)

-- the precondition of a step has few atoms
few-needed : (problem : Problem) → All IsShortSchema problem.schemas → (params : ℕ) (inst : OpInst) → IsStepOf problem params inst
    → length (precondition problem inst) ≤ most_atoms
few-needed problem short params inst of =
    let schema : IsShortSchema (schema_of problem inst) = short inst.op no_schema of.op in
    omega (arith, length-map (schema_of problem inst).pre (substitute_atom inst.args), schema.pre)

module _ (problem : Problem) (valid : IsValid problem) (short : All IsShortSchema problem.schemas) (params : ℕ) where
  -- the atoms of these marks have few arguments
  abbrev AreNarrowMarks : List Mark → Type 0
  AreNarrowMarks marks = (mark : Mark) → Contains marks mark → length mark.atom.args ≤ most_arguments

  in-row : (first : ℕ) (row : List Derivation) (rows : List (List Derivation)) → AreNarrowMarks (marks_from first (row ∷ rows))
      → AreNarrow problem valid params (row_leaves row)
  in-row first row rows narrow leaf has = narrow (mark_of first leaf) (first_row first row rows leaf has)

  later-rows : (first : ℕ) (row : List Derivation) (rows : List (List Derivation)) → AreNarrowMarks (marks_from first (row ∷ rows))
      → AreNarrowMarks (marks_from (suc first) rows)
  later-rows first row rows narrow mark has =
      narrow mark (Contains-append_right (row_marks first row) (marks_from (suc first) rows) mark has)

  pub small-rows : (first : ℕ) (steps : List OpInst) (goal : List Atom) (goal_variable_count : ℕ) (rows : List (List Derivation))
      → RowsProve (IsObjectOrParameter problem.objects params) problem params steps goal goal_variable_count rows
      → All (IsStepOf problem params) steps → length goal ≤ most_atoms → AreNarrowMarks (marks_from first rows)
      → All IsSmallRow rows × (length rows ≡ length steps + 1)
  small-rows first [] goal goal_variable_count [] proves steps-of few narrow = absurd proves
  small-rows first [] goal goal_variable_count (row ∷ []) proves steps-of few narrow =
      let wanted = map (substitute_atom (variables params ++ proves.0)) goal in
      let count = row-count problem valid params wanted row proves.2 in (
        All-cons IsSmallRow row []
            (record {
              few = omega (arith, count, length-map goal (substitute_atom (variables params ++ proves.0)), few);
              small = small-row problem valid params wanted row proves.2 (in-row first row [] narrow);
            })
            (All-nil IsSmallRow),
        omega arith,
      )
  small-rows first [] goal goal_variable_count (row ∷ second ∷ rows) proves steps-of few narrow = absurd proves
  small-rows first (inst ∷ steps) goal goal_variable_count [] proves steps-of few narrow = absurd proves
  small-rows first (inst ∷ steps) goal goal_variable_count (row ∷ rows) proves steps-of few narrow =
      let count = row-count problem valid params (precondition problem inst) row proves.0 in
      let needed = few-needed problem short params inst (All-head (IsStepOf problem params) inst steps steps-of) in
      let rest = small-rows (suc first) steps goal goal_variable_count rows proves.1 (All-tail (IsStepOf problem params) inst steps steps-of) few
      (later-rows first row rows narrow) in (
        All-cons IsSmallRow row rows
            (record {
              few = omega (arith, count, needed);
              small = small-row problem valid params (precondition problem inst) row proves.0 (in-row first row rows narrow);
            })
            rest.0,
        omega (arith, rest.1),
      )

-- ---- places and marks of low rows

row-counted : (row : List Derivation) → count_of (derivations row) ≡ length row
row-counted [] = omega arith
row-counted (d ∷ row) = omega (arith, row-counted row)

low-row : (row : List Derivation) → All (λ d. height d ≤ greatest_written_height) row
    → greatest_height (derivations row) ≤ greatest_written_height
low-row [] low = omega arith
low-row (d ∷ row) low =
    max-le (All-head (λ (e : Derivation). height e ≤ greatest_written_height) d row low)
    (low-row row (All-tail (λ (e : Derivation). height e ≤ greatest_written_height) d row low))

-- few places, since the proofs are low
abbrev pub IsLowRow : List Derivation → Type 0
IsLowRow row = All (λ d. height d ≤ greatest_written_height) row

pub row-places : (row : List Derivation) → IsSmallRow row → IsLowRow row → all_places_of (derivations row) ≤ most_row_places
unfolding most_row_places
row-places row is low =
    let all = all-few-places (derivations row) greatest_written_height is.small (low-row row low) in
    let few : count_of (derivations row) ≤ most_atoms = omega (arith, row-counted row, is.few) in
    le_trans all (mul-le-mul_right (most_places greatest_written_height) few)

once-short : {A : Type 0} (same : A → A → Bool) (xs : List A) → length (each_once same xs) ≤ length xs
once-short same [] = omega arith
once-short same (x ∷ xs) = omega (arith, filter-short (λ y. not (same x y)) (each_once same xs), once-short same xs)

row-marks-few : (number : ℕ) (row : List Derivation) → IsSmallRow row → IsLowRow row → length (row_marks number row) ≤ most_row_places
row-marks-few number row is low =
    let leaves = all-few-leaves (derivations row) in
    let same : length (all_leaves_of (derivations row)) ≡ length (row_leaves row) = ap length (all_leaves-row row) in
    omega (
      arith,
      once-short mark_eq (map (mark_of number) (row_leaves row)),
      length-map (row_leaves row) (mark_of number),
      leaves,
      same,
      row-places row is low,
    )

pub low-marks-few : (first : ℕ) (rows : List (List Derivation)) → All IsSmallRow rows → All IsLowRow rows
    → length (marks_from first rows) ≤ length rows * most_row_places
low-marks-few first [] small low = omega arith
low-marks-few first (row ∷ rows) small low =
    let here = row-marks-few first row (All-head IsSmallRow row rows small) (All-head IsLowRow row rows low) in
    let rest = low-marks-few (suc first) rows (All-tail IsSmallRow row rows small) (All-tail IsLowRow row rows low) in
    let sum = one-more (length rows) most_row_places (length (row_marks first row)) (length (marks_from (suc first) rows)) here rest in
    omega (arith, length-append (row_marks first row) (marks_from (suc first) rows), sum)
