-- What is saved is read back: the law.
use Rattle.std.specs.Prelude.{Contains}
use Rattle.std.specs.Str.{chars}
use Rattle.std.proofs.lemmas.Str.{IsUtf8-append}
use Rattle.std.proofs.lemmas.Option.{slice_get-get_or}
use Rattle.px_names.specs.Lists.{AreNameLists, AreNames}
use Rattle.px_names.specs.NameLaws.{has_name-decides}
use Rattle.px_names.specs.declared.kind.Kind.{Kind}
use Rattle.px_names.specs.declared.kind.Kind.TheVariants as kind
use Rattle.px_printer.specs.Blocks.{block_text}
use Rattle.px_printer.specs.Texts.{HasName, name_text}
use Rattle.px_proof.specs.Derivation.{Derivation, derivations, height}
use Rattle.px_proof.specs.LayerLaws.{comes_back, proof_of}
use Rattle.px_proof.specs.ProofTerm.{derivation_of}
use Rattle.px_proof.specs.declared.proof.Proof.{Proof}
use Rattle.px_table.proofs.DecidingLaws.{tables_are_decided}
use Rattle.px_table.specs.declared.table.Table.{Table}
use Rattle.px_table.specs.Deciding.{rows_are_table}
use Rattle.px_table.specs.Marks.{marks_from, IsNamed}
use Rattle.px_table.specs.Tables.{IsTable, IsStepOf, rows_of}
use Rattle.px_table.specs.WellSorted.{sorts_by_places}
use Rattle.px_terms.specs.Operators.{no_schema}
use Rattle.px_terms.specs.Validity.{IsValid, IsAtomOf}
use Rattle.px_script.specs.Common.{OpInst}
use Rattle.px_script.specs.Content.{content_of}
use Rattle.px_script.specs.Declarations.{problem_here, problem_of, table_made}
use Rattle.px_script.specs.Stages.{stage_now}
use Rattle.px_script.specs.Ranges.{IsSavedTable, IsInRange}
use Rattle.px_script.specs.Scripts.{IsScript, Spells}
use Rattle.px_script.proofs.Common.{◌≡◌, ℕ, ◌+◌, ◌<◌, ◌≤◌, true, false, List, [], ◌∷◌, ◌++◌, map, length, refl, sym, ap, ◌∙◌, subst, arith, append_assoc, append-nil, Option, None, Some, All, AllByRecursion, and_parts, unwrap_or, flat_map, is_empty, has_name, IsUtf8, NameLists, Declared, Stage, PassAll, Atom, Problem, Term, IfSome, nothing_declared, lines_of, own_problem, Thing, Passes, length-append, Lexeme}
use Rattle.px_script.proofs.Kept.{declared-in-range, lines-kept, start-in-range}
use Rattle.px_script.proofs.Lists.{by_test}
use Rattle.px_script.specs.States.{AreInRange, IsBegun}
use Rattle.px_saved.specs.ReadBack.{IsReadyFor, SavedIsReadBack, with_saved}
use Rattle.px_saved.proofs.Between.{ended, inside, of_rows, of_steps, written}
use Rattle.px_saved.proofs.Block.{HasBlocks, table-passes, step-passes, goal-passes, row-passes, end-passes}
use Rattle.px_saved.proofs.Fits.{by-recursion, terms-fit, AtomFits, StepFits, ProofsFit, NoneWithout, rows-fit}
use Rattle.px_saved.proofs.Before as before
use Rattle.px_saved.proofs.Before.{IsBeforeBlock, AreTexts}
use Rattle.px_saved.proofs.Lines.{joined, lines-after}
use Rattle.px_saved.proofs.Printed.{block_lines, block-is-lines, joined-text, step_bytes, row_bytes, goal_bytes, table_bytes, end_bytes}
use Rattle.px_saved.proofs.Words.{Reads, is_in_line}
use Rattle.px_saved.proofs.Written.{IsText, table-line, step-line, goal-line, proof-line, end-line}
use Rattle.px_saved.proofs.Clean.{all-both, all-implied}
use Rattle.px_script.specs.Ranges as ranges

-- ---- names

texts-of : (kind : Kind) (names : List (List ℕ)) → AreNames kind names → AreTexts names
texts-of kind names are n below = subst (λ (o : Option (List ℕ)). IsText (unwrap_or o [])) (sym (slice_get-get_or names n [] below))
    (record { utf8 = are.texts n [] below; name = are.named n [] below })

-- ---- what the lines before leave

none-is-empty : {A : Type 0} (xs : List A) → xs ≡ [] → is_empty xs ≡ true
none-is-empty xs e = ap is_empty e

module _ (d : Declared) (r : AreInRange d) (range : IsInRange (content_of d)) (closed : d.block ≡ None) (version : 2 ≤ d.version)
    (commands : d.commands ≡ []) (objects_text : AreTexts d.names.objects) (predicates_text : AreTexts d.names.predicates)
    (operators_text : AreTexts d.names.operators) where
  arities-are : d.arities ≡ (problem_here d).arities
  arities-are = by d.things r.building
    where
      by : (things : Option (List Thing)) → IfSome things (IsBegun d.names.objects d.names.predicates d.names.operators d.arities)
          → d.arities ≡ (problem_of (own_problem d) things).arities
      by None begun = refl
      by (Some things) begun = begun.arities_are

  pub before-block : IsBeforeBlock d
  before-block = record {
    version = version;
    commands = none-is-empty d.commands commands;
    closed = closed;
    valid = range.problem.valid;
    objects = range.problem.objects;
    predicates = range.problem.predicates;
    operators = sym range.operators;
    arities = arities-are;
    short_lists = range.problem.short_lists;
    objects_apart = range.names.objects.distinct;
    predicates_apart = range.names.predicates.distinct;
    operators_apart = range.names.operators.distinct;
    objects_text = objects_text;
    predicates_text = predicates_text;
    operators_text = operators_text;
  }

-- ---- what a table within the limits has

module _ (problem : Problem) (valid : IsValid problem) (short_lists : All (ranges.HasShortLists 2) problem.schemas) (table : Table)
    (saved : IsSavedTable 2 problem table) where
  is-table : IsTable problem table
  is-table = (tables_are_decided problem table).0 saved.is_one

  -- with parameters of these sorts these rows make a table
  abbrev pub MakesTable : List ℕ → List (List Derivation) → Type 0
  MakesTable sorts rows = rows_are_table problem table.params sorts table.steps table.goal table.goal_variable_count rows ≡ true

  pub rows-made : MakesTable (sorts_by_places problem table.steps table.params) (rows_of table.proofs)
  rows-made = subst (λ sorts. MakesTable sorts (rows_of table.proofs)) saved.sorts (and_parts _ _ saved.is_one).0

  none-of : (ts : List Term) → length ts ≡ 0 → ts ≡ []
  none-of [] e = refl
  none-of (t ∷ ts) e = absurd (omega (arith, e))

  step-fits : (inst : OpInst) → IsStepOf problem table.params inst → StepFits problem table.params inst
  step-fits inst is = (
    is.op,
    terms-fit problem table.params table.params inst.args is.terms
        (λ none_there. none-of inst.args (is.count ∙ (valid.no_objects none_there).0 inst.op no_schema is.op)),
  )

  steps-of : (steps : List OpInst) → AllByRecursion (IsStepOf problem table.params) steps
      → AllByRecursion (StepFits problem table.params) steps
  steps-of [] all = tt
  steps-of (inst ∷ steps) all = (step-fits inst all.0, steps-of steps all.1)

  pub steps-fit : AllByRecursion (StepFits problem table.params) table.steps
  steps-fit = steps-of table.steps (by-recursion (IsStepOf problem table.params) table.steps is-table.in_range.steps)

  operators-of : (steps : List OpInst) → AllByRecursion (StepFits problem table.params) steps
      → AllByRecursion (λ (inst : OpInst). inst.op < length problem.schemas) steps
  operators-of [] all = tt
  operators-of (inst ∷ steps) all = (all.0.0, operators-of steps all.1)

  -- without objects no atom of the goal has arguments
  abbrev AreBare : List Atom → Type 0
  AreBare atoms = AllByRecursion (λ (atom : Atom). NoneWithout problem table.params atom.args) atoms

  bare-goal : AreBare table.goal
  bare-goal = each table.goal saved.no_objects
    where
      prefix-none : (xs ys : List Term) → xs ++ ys ≡ [] → (xs ≡ []) × (ys ≡ [])
      prefix-none [] ys e = (refl, e)
      prefix-none (x ∷ xs) ys e = absurd (cc)

      each : (atoms : List Atom) → (problem.objects ≡ 0 → flat_map (λ atom. atom.args) atoms ≡ []) → AreBare atoms
      each [] none_there = tt
      each (atom ∷ atoms) none_there = (
        λ e. (prefix-none atom.args (flat_map (λ y. y.args) atoms) (none_there e)).0,
        each atoms (λ e. (prefix-none atom.args (flat_map (λ y. y.args) atoms) (none_there e)).1),
      )

  goal-of : (atoms : List Atom) → AllByRecursion (IsAtomOf problem (table.params + table.goal_variable_count)) atoms → AreBare atoms
      → AllByRecursion (AtomFits problem table.params (table.params + table.goal_variable_count)) atoms
  goal-of [] all bare = tt
  goal-of (atom ∷ atoms) all bare = (
    (all.0.0, terms-fit problem table.params (table.params + table.goal_variable_count) atom.args all.0.1 bare.0),
    goal-of atoms all.1 bare.1,
  )

  pub goal-fits : AllByRecursion (AtomFits problem table.params (table.params + table.goal_variable_count)) table.goal
  goal-fits = goal-of table.goal
      (by-recursion (IsAtomOf problem (table.params + table.goal_variable_count)) table.goal is-table.in_range.goal) bare-goal

  pub all-rows-fit : AllByRecursion (λ (row : List Derivation). ProofsFit problem table.params (derivations row)) (rows_of table.proofs)
  all-rows-fit = rows-fit problem table.params valid short_lists table.steps table.goal table.goal_variable_count bare-goal 1 table.steps
      (rows_of table.proofs) is-table.prove (operators-of table.steps steps-fit)
      (subst (All (λ mark. IsAtomOf problem table.params mark.atom)) is-table.marks is-table.atoms)
      (subst (All (IsNamed problem table.steps)) is-table.marks is-table.named)
      saved.low (let short = saved.short in omega (arith, short))

  proofs-back : (row : List Proof) → map proof_of (map derivation_of row) ≡ row
  proofs-back [] = refl
  proofs-back (p ∷ row) = λ i. comes_back p i ∷ proofs-back row i

  rows-back : (rows : List (List Proof)) → map (map proof_of) (rows_of rows) ≡ rows
  rows-back [] = refl
  rows-back (row ∷ rows) = λ i. proofs-back row i ∷ rows-back rows i

  -- the table that its rows make is the table
  pub made-back : (d : Declared) → table_made problem (written d table (rows_of table.proofs)) ≡ table
  made-back d = let back = rows-back table.proofs in let marks = ap (λ rows. marks_from 1 (rows_of rows)) back ∙ sym is-table.marks in
      λ i. record {
        params = table.params;
        steps = table.steps;
        goal = table.goal;
        goal_variable_count = table.goal_variable_count;
        marks = marks i;
        proofs = back i;
        param_sorts = sym saved.sorts i;
      }

-- ---- all lines of a block

module _ (stage : Stage) (words : HasBlocks stage) (d : Declared) (rs : List (List ℕ)) (name : List ℕ) (table : Table) (g : IsBeforeBlock d)
    (saved : IsSavedTable 2 (problem_here d) table) (is_text : IsText name) (short : length name ≤ 64)
    (fresh : has_name name d.names.results ≡ false) (room : length d.saved + 1 ≤ 32) where
  abbrev few : table.params ≤ 9999
  few = saved.few_parameters

  abbrev names : NameLists
  names = record d.names { results = rs }

  abbrev params : ℕ
  params = table.params

  abbrev rows : List (List Derivation)
  rows = rows_of table.proofs

  -- the lines before, with the table last
  abbrev pub last : Declared
  last = ended d name table rows

  abbrev end_line : List (List ℕ)
  end_line = end_bytes names name params ∷ []

  rows-pass : (m n : ℕ) (so_far left : List (List Derivation)) → so_far ++ left ≡ rows
      → AllByRecursion (λ (row : List Derivation). ProofsFit (problem_here d) params (derivations row)) left
      → AllByRecursion (All (λ p. height p ≤ 56)) left
      → PassAll stage m (inside d name n (of_rows d table so_far)) (map chars (map (row_bytes names name params) left ++ end_line)) last
  rows-pass m n so_far [] whole fits low =
      let so_far_is : so_far ≡ rows = sym (append-nil so_far) ∙ whole in
      let now = subst (MakesTable (problem_here d) g.valid g.short_lists table saved
      (sorts_by_places (problem_here d) table.steps params)) (sym so_far_is)
      (rows-made (problem_here d) g.valid g.short_lists table saved) in
      let ends = end-passes stage words d rs name table g few m n so_far now in (
        last,
        subst (λ rs. Passes stage m (inside d name n (of_rows d table so_far)) (chars (end_bytes names name params))
            (ended d name table rs)) so_far_is ends,
        refl,
      )
  rows-pass m n so_far (row ∷ left) whole fits low = (
    inside d name n (of_rows d table (so_far ++ row ∷ [])),
    row-passes stage words d rs name table g few m n so_far row fits.0 low.0,
    rows-pass (m + 1) n (so_far ++ row ∷ []) left (append_assoc so_far (row ∷ []) left ∙ whole) fits.1 low.1,
  )

  steps-pass : (m n : ℕ) (so_far left : List OpInst) → so_far ++ left ≡ table.steps
      → AllByRecursion (StepFits (problem_here d) params) left
      → PassAll stage m (inside d name n (of_steps d table so_far))
      (map chars (map (step_bytes names name params) left
      ++ (goal_bytes names name params table.goal ∷ (map (row_bytes names name params) rows ++ end_line))))
      last
  steps-pass m n so_far [] whole fits =
      let so_far_is : so_far ≡ table.steps = sym (append-nil so_far) ∙ whole in
      let goal = goal-passes stage words d rs name table g few m n
      (goal-fits (problem_here d) g.valid g.short_lists table saved) saved.some saved.few_atoms saved.few_variables saved.last_occurs in (
        inside d name n (of_rows d table []),
        subst (λ steps. Passes stage m (inside d name n (of_steps d table steps)) (chars (goal_bytes names name params table.goal))
            (inside d name n (of_rows d table []))) (sym so_far_is) goal,
        rows-pass (m + 1) n [] rows refl (all-rows-fit (problem_here d) g.valid g.short_lists table saved)
            (by-recursion (All (λ (p : Derivation). height p ≤ 56)) rows saved.low),
      )
  steps-pass m n so_far (inst ∷ left) whole fits =
      let long : length so_far + 1 + length left ≡ length table.steps =
      let count = length-append so_far (inst ∷ left) in let same = ap length whole in omega (arith, count, same) in
      let most = saved.short in (
        inside d name n (of_steps d table (so_far ++ inst ∷ [])),
        step-passes stage words d rs name table g few m n so_far inst fits.0 (omega (arith, long, most)),
        steps-pass (m + 1) n (so_far ++ inst ∷ []) left (append_assoc so_far (inst ∷ []) left ∙ whole) fits.1,
      )

  pub block-passes : (m : ℕ) → PassAll stage m d (map chars (block_lines names name params table.steps table.goal rows)) last
  block-passes m = (
    inside d name m (of_steps d table []),
    table-passes stage words d rs name table g few is_text short fresh room m,
    steps-pass (m + 1) m [] table.steps refl (steps-fit (problem_here d) g.valid g.short_lists table saved),
  )

  -- ---- the lines are texts

  abbrev IsLineText : List ℕ → Type 0
  IsLineText bytes = IsUtf8 bytes × (is_in_line bytes ≡ true)

  of-reads : (bytes : List ℕ) (lexemes : List Lexeme) → Reads bytes lexemes → IsLineText bytes
  of-reads bytes lexemes reads = (reads.text, reads.inside)

  steps-text : (steps : List OpInst) → AllByRecursion (StepFits (problem_here d) params) steps
      → AllByRecursion IsLineText (map (step_bytes names name params) steps)
  steps-text [] all = tt
  steps-text (inst ∷ steps) all = (
    of-reads (step_bytes names name params inst) _ (step-line names params inst
        (before.step-text d rs name params g few 0 (of_steps d table []) (refl, refl) inst all.0)),
    steps-text steps all.1,
  )

  rows-text : (left : List (List Derivation))
      → AllByRecursion (λ (row : List Derivation). ProofsFit (problem_here d) params (derivations row)) left
      → AllByRecursion IsLineText (map (row_bytes names name params) left)
  rows-text [] all = tt
  rows-text (row ∷ left) all = (
    of-reads (row_bytes names name params row) _ (proof-line names params row
        (before.all-fine d rs name params g few 0 (of_rows d table []) (refl, refl) (derivations row) all.0).text),
    rows-text left all.1,
  )

  pub block-text : AllByRecursion IsLineText (block_lines names name params table.steps table.goal rows)
  block-text =
      let prefix = of-reads (table_bytes names name params) _ (table-line names params name is_text (omega (arith, few))) in
      let few_variables = saved.few_variables in
      let goal = of-reads (goal_bytes names name params table.goal) _ (goal-line names params table.goal
      (before.goal-text d rs name params g few 0 (of_steps d table []) (refl, refl)
      (params + table.goal_variable_count) (omega (arith, few_variables)) table.goal
      (goal-fits (problem_here d) g.valid g.short_lists table saved))) in
      let ends = of-reads (end_bytes names name params) _ (end-line names params) in (
        prefix,
        all-both IsLineText (map (step_bytes names name params) table.steps) _
            (steps-text table.steps (steps-fit (problem_here d) g.valid g.short_lists table saved)) (
              goal,
              all-both IsLineText (map (row_bytes names name params) rows) end_line
                  (rows-text rows (all-rows-fit (problem_here d) g.valid g.short_lists table saved)) (ends, tt),
            ),
      )

  -- ---- the bytes with the block

  pub spells-after : (bytes : List ℕ) → Spells stage (bytes ++ 10 ∷ []) d
      → Spells stage (bytes ++ 10 ∷ block_text names name params table.steps table.goal rows) last
  spells-after bytes spells =
      let lines = block_lines names name params table.steps table.goal rows in
      let text : IsUtf8 (joined lines) = joined-text lines (all-implied IsLineText IsUtf8 (λ line is. is.0) lines block-text) in
      let inside = all-implied IsLineText (λ line. is_in_line line ≡ true) (λ line is. is.1) lines block-text in
      let whole : IsUtf8 (bytes ++ 10 ∷ joined lines) = subst IsUtf8 (append_assoc bytes (10 ∷ []) (joined lines))
      (IsUtf8-append (bytes ++ 10 ∷ []) (joined lines) spells.text text) in
      subst (λ t. Spells stage (bytes ++ 10 ∷ t) last) (sym (block-is-lines names name params table.steps table.goal rows)) (record {
        text = whole;
        lines = lines-after stage bytes lines d last inside spells.lines block-passes;
        closed = g.closed;
      })

-- ---- the law

module _ (stage : Stage) (words : HasBlocks stage) (problem : Problem) (names : NameLists) (number : ℕ) (table : Table)
    (are : AreNameLists names) (has : HasName names kind.Result number) (short : length (name_text names kind.Result number) ≤ 64)
    (saved : IsSavedTable 2 problem table) where
  abbrev name : List ℕ
  name = name_text names kind.Result number

  pub read-back : (bytes : List ℕ) (d : Declared) → AreInRange d → IsInRange (content_of d) → Spells stage (bytes ++ 10 ∷ []) d
      → IsReadyFor problem names name (content_of d)
      → IsScript stage (bytes ++ 10 ∷ block_text names name table.params table.steps table.goal (rows_of table.proofs))
      (with_saved name table (content_of d))
  read-back bytes d r range spells ready =
      let here : IsSavedTable 2 (problem_here d) table = subst (λ p. IsSavedTable 2 p table) (sym ready.problem_is) saved in
      let objects_text = subst AreTexts (sym ready.objects) (texts-of kind.Object names.objects are.objects) in
      let predicates_text = subst AreTexts (sym ready.predicates) (texts-of kind.Predicate names.predicates are.predicates) in
      let operators_text = subst AreTexts (sym ready.operators) (texts-of kind.Operator names.operators are.operators) in
      let g = before-block d r range spells.closed ready.version ready.commands objects_text predicates_text operators_text in
      let is_text = texts-of kind.Result names.results are.results number has in
      let fresh = not-there name d.names.results ready.fresh in
      let some_room = ready.room in
      let after = spells-after stage words d names.results name table g here is_text short fresh
      (omega (arith, some_room)) bytes spells in
      let same_names : record d.names { results = names.results } ≡ names = λ i. record {
        objects = ready.objects i;
        predicates = ready.predicates i;
        operators = ready.operators i;
        results = names.results;
      } in
      let last_is = made-back (problem_here d) g.valid g.short_lists table here d in
      let last_declared : Declared = last stage words d names.results name table g here is_text
      short fresh (omega (arith, some_room)) in
      record {
        last = last_declared;
        spells = subst (λ ns. Spells stage (bytes ++ 10 ∷ block_text ns name table.params table.steps table.goal (rows_of table.proofs))
            last_declared) same_names after;
        is = λ i. record (content_of d) {
          names = record d.names { results = d.names.results ++ name ∷ [] };
          saved = d.saved ++ (length d.names.results, sym last_is i) ∷ [];
        };
      }
    where
      not-there : (n : List ℕ) (ns : List (List ℕ)) → ¬ Contains ns n → has_name n ns ≡ false
      not-there n ns none_there = by_test (has_name n ns) (λ e. absurd (none_there ((has_name-decides n ns).0 e))) (λ e. e)

words-now : HasBlocks stage_now
words-now = record { tables = refl; steps = refl; goals = refl; proofs = refl; ends = refl }

pub saved_is_read_back : SavedIsReadBack
saved_is_read_back problem names number table are has short saved = record {
  again = λ bytes script is ready.
      let name = name_text names kind.Result number in
      let text = block_text names name table.params table.steps table.goal (rows_of table.proofs) in
      let r = lines-kept stage_now 1 nothing_declared (lines_of (bytes ++ 10 ∷ [])) is.last start-in-range is.spells.lines in
      let range = declared-in-range is.last r is.spells.closed in
      subst (λ s. IsScript stage_now (bytes ++ 10 ∷ text) (with_saved name table s)) (sym is.is)
      (read-back stage_now words-now problem names number table are has short saved bytes is.last r range is.spells
      (subst (IsReadyFor problem names name) is.is ready));
}
