-- The moves that a search found have rows, and so a table.
use Rattle.std.specs.Prelude.{◌≡◌, ◌+◌, ℕ, List, [], ◌∷◌, ◌++◌, length, map, slice_get, All}
use Rattle.std.proofs.Common.{refl, sym, ap, subst, arith}
use Rattle.std.proofs.lemmas.List.Elements.{All-cons, All-head, All-nil, All-tail}
use Rattle.px_terms.specs.declared.atom.Atom.{Atom}
use Rattle.px_terms.specs.declared.clause.Clause.{Clause}
use Rattle.px_terms.specs.declared.clause.Lit.{Lit}
use Rattle.px_terms.specs.declared.instance.OpInst.{OpInst}
use Rattle.px_terms.specs.declared.problem.Problem.{Problem}
use Rattle.px_terms.specs.Language.{IsObject}
use Rattle.px_terms.specs.Operators.{precondition, results_of}
use Rattle.px_terms.specs.Validity.{IsAtomOf, IsValid}
use Rattle.px_proof.specs.declared.proof.Proof.{Proof}
use Rattle.px_proof.specs.Derivation.{Derivation, Derivations, fact, ancestor, step, gap, open_place, none, also, leaf_atoms, leaves_of}
use Rattle.px_proof.specs.LayerLaws.{HasNoOpenPlace, HaveNoOpenPlace, derivation_of-proof_of, proof_of}
use Rattle.px_proof.specs.Literals.{positive_of}
use Rattle.px_proof.specs.ProofTerm.{derivation_of}
use Rattle.px_proof.specs.Proves.{IsObjectOrParameter, Proves, ProvesEach, Rules, from_atoms, parts_of}
use Rattle.px_table.specs.declared.entry.Entry.{Entry}
use Rattle.px_table.specs.declared.entry.Entry.TheVariants.{Op, Macro}
use Rattle.px_table.specs.declared.entry.Move.{Move}
use Rattle.px_table.specs.declared.entry.Move.TheVariants.{Apply, Push}
use Rattle.px_table.specs.declared.table.Table.{Table}
use Rattle.px_table.specs.Supports.{ProvesEachOf, RowsProve}
use Rattle.px_table.specs.Tables.{rows_of, table_of_rows}
use Rattle.px_gaps.specs.declared.question.Obligation.{Obligation}
use Rattle.px_entries.specs.Entries.{IsEntry, effect_of, obligations_of, table_at}
use Rattle.px_entries.specs.Learned.{AreLearned}
use Rattle.px_totality.proofs.AnswerRows.{answers-support}
use Rattle.px_entries.proofs.RowSteps.{steps-count}
use Rattle.px_entries.proofs.RowTurns.{in_turn}
use Rattle.px_ends.specs.Made.{EntryRows, IsTableOfMoves, MovesRows}
use Rattle.px_ends.specs.Tasks.{Task, initial_node, steps_of}
use Rattle.px_support.specs.Asking.{AreTakeable, IsFindable}
use Rattle.px_support.specs.FoundMoves.{AreFoundMoves}
use Rattle.px_support.specs.MadeSupports.{AreSupport}
use Rattle.px_support.proofs.FoundByValue.{found_with_weight}
use Rattle.px_support.proofs.LearnedRows.{rows-count}
use Rattle.px_support.proofs.MacroTables.{macro-table}
use Rattle.px_support.proofs.Supporting.{moves_support}
use Rattle.px_totality.specs.FoundTables.{FoundHaveTables}
use Rattle.px_totality.proofs.MacroRows.{macro-rows, ready-from}
use Rattle.px_totality.proofs.Sources.{first-row}

-- ---- the rows of moves

module _ (problem : Problem) (tables : List Table) (learned : AreLearned problem tables) where
  entry-rows : (model : List Atom) (made : List OpInst) (entry : Entry) → IsEntry problem tables entry
      → All (IsFindable problem) (obligations_of problem tables model entry)
      → (rows : List (List Derivation)) × EntryRows problem tables model made entry rows
  entry-rows model made (Op inst) is findable =
      let needed : Obligation = record { formula = precondition problem inst; variable_count = 0; facts = model } in
      let row = first-row problem made model (precondition problem inst) 0 (All-head (IsFindable problem) needed [] findable) in
      (row.0 ∷ [], (row.0, row.1, refl))
  entry-rows model made (Macro number prefix sigma) is findable =
      let table = table_at tables number in
      let steps = effect_of tables (Macro number prefix sigma) in
      let m = macro-table problem tables learned number prefix sigma is in
      let count : length steps ≡ prefix = steps-count table sigma prefix m.1.within in
      let long = rows-count (IsObjectOrParameter problem.objects table.params) problem table.params table.goal_variable_count table.goal table.steps
      (rows_of table.proofs) m.0.prove in
      let each = subst (All (IsFindable problem)) (in_turn problem table sigma model steps) findable in
      let ready = ready-from problem table m.0 prefix sigma m.1 0 (rows_of table.proofs) steps model
      (λ k.
      let same : k ≡ 0 + k = omega arith in
      ap (slice_get (rows_of table.proofs)) same)
      (omega (arith, count, long, m.1.within)) (omega (arith, count)) each in
      macro-rows problem sigma (length made) (rows_of table.proofs) steps made model ready

module _ (task : Task) (learned : AreLearned task.problem task.tables) where
  moves-rows : (model : List Atom) (stack : List Entry) (made : List OpInst) (moves : List Move)
      → All (IsEntry task.problem task.tables) stack → AreTakeable task (record { model = model; stack = stack }) moves
      → (rows : List (List Derivation)) × MovesRows task (record { model = model; stack = stack }) made moves rows
  moves-rows model stack made [] entries takeable =
      let row = first-row task.problem made model task.goal task.variable_count takeable in
      (row.0 ∷ [], (row.0, row.1, refl))
  moves-rows model stack made (Push entry ∷ moves) entries takeable =
      moves-rows model (entry ∷ stack) made moves (All-cons (IsEntry task.problem task.tables) entry stack takeable.0 entries) takeable.1
  moves-rows model [] made (Apply ∷ moves) entries takeable = absurd (takeable.0.0 refl)
  moves-rows model (entry ∷ below) made (Apply ∷ moves) entries takeable =
      let first = entry-rows task.problem task.tables learned model made entry
      (All-head (IsEntry task.problem task.tables) entry below entries) takeable.0.1 in
      let rest = moves-rows (results_of task.problem model (effect_of task.tables entry)) below (made ++ effect_of task.tables entry) moves
      (All-tail (IsEntry task.problem task.tables) entry below entries) takeable.1 in
      (first.0 ++ rest.0, (first.0, rest.0, first.1, rest.1, refl))

-- ---- proof terms for the rows

mutual
  closed : (rules : Rules) (axioms : List Clause) → ¬ rules.IsOpen → (path : List Lit) (lit : Lit) (d : Derivation)
      → Proves rules axioms path lit d → HasNoOpenPlace d
  closed rules axioms never path lit (fact leaf) proves = tt
  closed rules axioms never path lit (ancestor i) proves = tt
  closed rules axioms never path lit (step number theta place parts) proves =
      all-closed rules axioms never (lit ∷ path) (parts_of proves.0.lits theta place) parts proves.2
  closed rules axioms never path lit (gap atom) proves = tt
  closed rules axioms never path lit open_place proves = never proves

  all-closed : (rules : Rules) (axioms : List Clause) → ¬ rules.IsOpen → (path lits : List Lit) (ds : Derivations)
      → ProvesEach rules axioms path lits ds → HaveNoOpenPlace ds
  all-closed rules axioms never path [] none proves = tt
  all-closed rules axioms never path [] (also d ds) proves = absurd proves
  all-closed rules axioms never path (lit ∷ lits) none proves = absurd proves
  all-closed rules axioms never path (lit ∷ lits) (also d ds) proves =
      (closed rules axioms never path lit d proves.0, all-closed rules axioms never path lits ds proves.1)

row-back : (axioms : List Clause) (atoms : List Atom) (row : List Derivation) → ProvesEachOf IsObject axioms atoms row
    → map derivation_of (map proof_of row) ≡ row
row-back axioms [] [] proves = refl
row-back axioms [] (d ∷ row) proves = absurd proves
row-back axioms (atom ∷ atoms) [] proves = absurd proves
row-back axioms (atom ∷ atoms) (d ∷ row) proves =
    let whole = closed (from_atoms IsObject (leaf_atoms (leaves_of d))) axioms (λ h. h) [] (positive_of atom) d proves.0.proves in
    let here = derivation_of-proof_of d whole in
    let rest = row-back axioms atoms row proves.1 in
    λ i. here i ∷ rest i

rows-back : (problem : Problem) (goal : List Atom) (variable_count : ℕ) (steps : List OpInst) (rows : List (List Derivation))
    → RowsProve IsObject problem 0 steps goal variable_count rows → rows_of (map (map proof_of) rows) ≡ rows
rows-back problem goal variable_count [] [] proves = absurd proves
rows-back problem goal variable_count [] (row ∷ []) proves =
    ap (λ (r : List Derivation). r ∷ []) (row-back problem.axioms _ row proves.2)
rows-back problem goal variable_count [] (row ∷ second ∷ rows) proves = absurd proves
rows-back problem goal variable_count (inst ∷ steps) [] proves = absurd proves
rows-back problem goal variable_count (inst ∷ steps) (row ∷ rows) proves =
    let here = row-back problem.axioms (precondition problem inst) row proves.0 in
    let rest = rows-back problem goal variable_count steps rows proves.1 in
    λ i. here i ∷ rest i

-- ---- the table

module _ (task : Task) (moves : List Move) (valid : IsValid task.problem) (goal_of : All (IsAtomOf task.problem task.variable_count) task.goal)
    (learned : AreLearned task.problem task.tables) (found : AreFoundMoves task moves) where
  rows-there : (rows : List (List Derivation)) × MovesRows task (initial_node task) [] moves rows
  rows-there =
      moves-rows task learned task.initial [] [] moves (All-nil (IsEntry task.problem task.tables)) found.takeable

  support : AreSupport task moves rows-there.0
  support =
      moves_support answers-support task moves rows-there.0 valid goal_of learned found.can rows-there.1

  abbrev proofs : List (List Proof)
  proofs = map (map proof_of) rows-there.0

  back : rows_of proofs ≡ rows-there.0
  back = rows-back task.problem task.goal task.variable_count (steps_of task.tables [] moves) rows-there.0 support.supports.prove

  pub table-there : (table : Table) × IsTableOfMoves task moves table
  table-there = (
    table_of_rows 0 [] (steps_of task.tables [] moves) task.goal task.variable_count proofs,
    record {
      params = refl;
      steps = refl;
      goal = refl;
      goal_variable_count = refl;
      rows = subst (MovesRows task (initial_node task) [] moves) (sym back) rows-there.1;
      marks = refl;
      param_sorts = refl;
    },
  )

pub found_have_tables : FoundHaveTables
found_have_tables task weight moves valid goal_of learned found =
    table-there task moves valid goal_of learned (found_with_weight task weight moves found)
