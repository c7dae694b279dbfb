-- What a problem within the limits of scripts has is short: its operators, its axioms, and the tables of a session.
use Rattle.std.specs.Prelude.{All, Any, Contains, Option, None, Some, slice_index_or}
use Rattle.std.proofs.Common.{◌≡◌, ◌⊎◌, ℕ, ◌+◌, ◌*◌, ◌<◌, ◌≤◌, zero, suc, List, length, map, refl, sym, ap, subst, inl, inr, arith}
use Rattle.std.proofs.Math.Nat.{mul-le-mul_right}
use Rattle.std.proofs.lemmas.List.{length-map}
use Rattle.std.proofs.lemmas.List.Elements.{All-from_get_or, All-weaker}
use Rattle.px_base.specs.Bounds.{u32_max}
use Rattle.px_base.specs.ListLaws.{All-at, All-each}
use Rattle.px_terms.specs.declared.atom.Atom.{Atom}
use Rattle.px_terms.specs.declared.clause.Lit.{Lit}
use Rattle.px_terms.specs.declared.instance.OpInst.{OpInst}
use Rattle.px_terms.specs.declared.problem.Problem.{Problem}
use Rattle.px_terms.specs.Clauses.{IsClause}
use Rattle.px_terms.specs.Limits.{most_parameters}
use Rattle.px_terms.specs.Operators.{adds, no_schema, schema_of}
use Rattle.px_terms.specs.Substitution.{substitute_atom}
use Rattle.px_terms.specs.Validity.{HasArity, IsAtomOf, IsAxiomOf, IsInstanceOf, IsPatternOf, IsValid}
use Rattle.px_proof.specs.Derivation.{height}
use Rattle.px_proof.specs.PlaceLaws.{All-got, slice_get-within}
use Rattle.px_proof.specs.ProofTerm.{derivation_of}
use Rattle.px_table.specs.declared.mark.Mark.{Mark}
use Rattle.px_table.specs.declared.table.Table.{Table}
use Rattle.px_table.specs.Limits.{most_steps}
use Rattle.px_table.specs.Marks.{IsNamed, marks_from, step_at}
use Rattle.px_table.specs.Tables.{IsStepOf, IsTable, rows_of}
use Rattle.px_cert.specs.Limits.{most_atoms}
use Rattle.px_general.specs.Limits.{IsTooDeep}
use Rattle.px_session.specs.CertifiedReplies.{IsCertifiableProblem}
use Rattle.px_session.specs.Sessions.{IsLearnedTable, IsPlanTable}
use Rattle.px_session.proofs.OwnRuns.{IsOwnStep}
use Rattle.px_lengths.specs.Longest.{most_facts, most_marks, most_row_places}
use Rattle.px_lengths.proofs.CertificateTexts.{IsNarrowClause, IsShortOperator}
use Rattle.px_lengths.proofs.Facts.{IsGroundMark, ground-marks-few}
use Rattle.px_lengths.proofs.Rows.{IsLowRow, IsSmallRow, low-marks-few, small-rows}
use Rattle.px_lengths.proofs.RunTexts.{IsNarrowOption}
use Rattle.px_lengths.proofs.TableTexts.{IsNarrowAtom, IsNarrowMark, IsNarrowStep}

-- where none is otherwise, all are so
all-so : {A : Type 0} (P Q : A → Type 0) → ((a : A) → ¬ Q a → P a) → (xs : List A) → ¬ Any Q xs → All P xs
all-so P Q so xs none = All-each P xs (λ a has. so a (λ bad. none (has.0, a, has.1, has.2, bad)))

pub low-rows : (table : Table) → ¬ IsTooDeep table → All IsLowRow (rows_of table.proofs)
low-rows table low =
    all-so IsLowRow (Any (λ d. 56 < height d))
    (all-so (λ d. height d ≤ 56) (λ d. 56 < height d) (λ d none. grind (arith, none))) (rows_of table.proofs) low

none-or-more : (n : ℕ) → (n ≡ 0) ⊎ (0 < n)
none-or-more zero = inl refl
none-or-more (suc n) = inr (omega arith)

step-there : (problem : Problem) (params : ℕ) (steps : List OpInst) (number : ℕ) (inst : OpInst) → All (IsStepOf problem params) steps
    → step_at steps number ≡ Some inst → IsStepOf problem params inst
step-there problem params steps zero inst all at = absurd (cc)
step-there problem params steps (suc k) inst all at = All-got (IsStepOf problem params) steps k inst all at

module _ (problem : Problem) (valid : IsValid problem) (limits : IsCertifiableProblem problem) where
  -- ---- atoms and steps

  narrow-atom : (atom : Atom) → HasArity problem atom → IsNarrowAtom atom
  narrow-atom atom of =
      let low = limits.predicates.1 atom.pred 0 of.0 in
      omega (arith, of.1, low)

  pub narrow-atoms : (variable_count : ℕ) (atoms : List Atom) → All (IsAtomOf problem variable_count) atoms → All IsNarrowAtom atoms
  narrow-atoms variable_count atoms of = All-weaker (IsAtomOf problem variable_count) IsNarrowAtom (λ atom is. narrow-atom atom is.0) atoms of

  params-few : (op : ℕ) → op < length problem.schemas → (slice_index_or problem.schemas op no_schema).params ≤ most_parameters
  params-few op below = (valid.schemas op below).params

  narrow-step : (params : ℕ) (inst : OpInst) → IsStepOf problem params inst → IsNarrowStep inst
  narrow-step params inst of =
      let few = params-few inst.op of.op in
      omega (arith, of.count, few)

  pub narrow-steps : (params : ℕ) (steps : List OpInst) → All (IsStepOf problem params) steps → All IsNarrowStep steps
  narrow-steps params steps of = All-weaker (IsStepOf problem params) IsNarrowStep (narrow-step params) steps of

  pub narrow-instance : (inst : OpInst) → IsInstanceOf problem inst → IsNarrowStep inst
  narrow-instance inst of =
      let few = params-few inst.op of.op in
      omega (arith, of.count, few)

  pub narrow-option : (op : Option OpInst) → IsOwnStep problem op → IsNarrowOption op
  narrow-option None own = tt
  narrow-option (Some inst) own = narrow-instance inst own

  -- ---- operators and axioms

  short-operator : (op : ℕ) → op < length problem.schemas → IsShortOperator (slice_index_or problem.schemas op no_schema)
  short-operator op below =
      let schema = slice_index_or problem.schemas op no_schema in
      let is = valid.schemas op below in
      let few = limits.operators.1 op no_schema below in
      record {
        sorts = omega (arith, is.sorts.0, is.params);
        pre = few.pre;
        pre_narrow = narrow-atoms schema.params schema.pre is.pre;
        del = few.del;
        del_narrow = All-weaker (IsPatternOf problem schema.params) IsNarrowAtom (λ atom of. narrow-atom atom of.0) schema.del is.del;
        add = few.add;
        add_narrow = narrow-atoms schema.params schema.add is.add;
      }

  pub short-operators : All IsShortOperator problem.schemas
  short-operators = All-from_get_or IsShortOperator problem.schemas no_schema short-operator

  pub narrow-clauses : All IsNarrowClause problem.axioms
  narrow-clauses =
      All-each IsNarrowClause problem.axioms
      (λ clause has. record {
        few = (All-at IsClause problem.axioms clause valid.arena.each has).size.1;
        narrow =
            let of = All-at (IsAxiomOf problem) problem.axioms clause valid.axioms has in
            All-weaker (λ (lit : Lit). IsAtomOf problem clause.variable_count lit.atom) (λ (lit : Lit). IsNarrowAtom lit.atom)
            (λ lit is. narrow-atom lit.atom is.0) clause.lits of.lits;
      })

  -- ---- tables

  module _ (table : Table) (is : IsTable problem table) where
    pub narrow-marks : All IsNarrowMark table.marks
    narrow-marks =
        All-weaker (λ (mark : Mark). IsAtomOf problem table.params mark.atom) IsNarrowMark (λ mark of. narrow-atom mark.atom of.0)
        table.marks is.atoms

    in-table : (mark : Mark) → Contains (marks_from 1 (rows_of table.proofs)) mark → Contains table.marks mark
    in-table mark has = subst (λ (marks : List Mark). Contains marks mark) (sym is.marks) has

    table-rows : length table.goal ≤ most_atoms
        → All IsSmallRow (rows_of table.proofs) × (length (rows_of table.proofs) ≡ length table.steps + 1)
    table-rows few =
        small-rows problem valid limits.operators.1 table.params 1 table.steps table.goal table.goal_variable_count (rows_of table.proofs) is.prove
        is.in_range.steps few (λ mark has. All-at IsNarrowMark table.marks mark narrow-marks (in-table mark has))

    pub small-table : length table.goal ≤ most_atoms → All IsSmallRow (rows_of table.proofs)
    small-table few = (table-rows few).0

    pub row-count : length table.goal ≤ most_atoms → length table.proofs ≡ length table.steps + 1
    row-count few = omega (arith, (table-rows few).1, length-map table.proofs (map derivation_of))

    -- ---- how many marks it has

    low-index : (mark : Mark) → IsNamed problem table.steps mark → mark.index < most_atoms
    low-index mark named = elim (none-or-more mark.column) [
      | inl none ↦
          let first = named.initial none in
          omega (arith, first)
      | inr more ↦
          let added = named.added more in
          let of = step-there problem table.params table.steps mark.column added.0 is.in_range.steps added.1 in
          let few = limits.operators.1 added.0.op no_schema of.op in
          let within = slice_get-within (adds problem added.0) mark.index mark.atom added.2 in
          omega (arith, within, length-map (schema_of problem added.0).add (substitute_atom added.0.args), few.add)
    ]

    ground-mark : table.params ≡ 0 → (mark : Mark) → Contains table.marks mark → IsGroundMark problem mark
    ground-mark none mark has =
        let named = All-at (IsNamed problem table.steps) table.marks mark is.named has in
        record {
          of = subst (λ (params : ℕ). IsAtomOf problem params mark.atom) none
              (All-at (λ (m : Mark). IsAtomOf problem table.params m.atom) table.marks mark is.atoms has);
          earlier = named.earlier;
          low = low-index mark named;
        }

pub plan-marks-few : (problem : Problem) (valid : IsValid problem) (limits : IsCertifiableProblem problem) (table : Table)
    → IsPlanTable problem table → length table.goal ≤ most_atoms → length table.marks ≤ most_marks problem
unfolding most_marks
plan-marks-few problem valid limits table is few =
    let rows = rows_of table.proofs in
    let count = (table-rows problem valid limits table is.table few).1 in
    let short = is.table.in_range.short in
    let all = ground-marks-few problem u32_max 1 rows
    (λ mark has. ground-mark problem valid limits table is.table is.no_params mark (in-table problem valid limits table is.table mark has))
    (omega (arith, count, short)) in
    let row = most_facts problem * (u32_max * most_atoms) in
    let most : length rows * row ≤ u32_max * row = mul-le-mul_right row (omega (arith, count, short)) in
    let same : length table.marks ≡ length (marks_from 1 rows) = ap length is.table.marks in
    omega (arith, all, most, same)

pub learned-marks-few : (problem : Problem) (valid : IsValid problem) (limits : IsCertifiableProblem problem) (table : Table)
    → IsLearnedTable problem table → length table.goal ≤ most_atoms → length table.marks ≤ most_marks problem
unfolding most_marks
learned-marks-few problem valid limits table is few =
    let rows = rows_of table.proofs in
    let count = (table-rows problem valid limits table is.table few).1 in
    let short : length table.steps ≤ most_steps = grind (arith, is.short) in
    let all = low-marks-few 1 rows (small-table problem valid limits table is.table few) (low-rows table is.low) in
    let most : length rows * most_row_places ≤ (most_steps + 1) * most_row_places =
    mul-le-mul_right most_row_places (omega (arith, count, short)) in
    let same : length table.marks ≡ length (marks_from 1 rows) = ap length is.table.marks in
    omega (arith, all, most, same)
