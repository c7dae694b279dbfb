-- Going through the steps of a MACROP.
use Rattle.std.specs.Prelude.{◌≡◌, ◌≤◌, ◌<◌, ◌+◌, not, ℕ, Option, Some, List, [], ◌∷◌, ◌++◌, length, map, filter, take, drop, slice_get, slice_index_or, unwrap_or, All, Result, Ok, Err, IfOk}
use Rattle.std.proofs.Common.{zero, suc, refl, sym, ap, ◌∙◌, subst, arith, append_assoc, length-append}
use Rattle.std.specs.List.{AllZip}
use Rattle.std.proofs.lemmas.List.{append-nil, length-map}
use Rattle.std.proofs.lemmas.List.Elements.{All-append, All-cons, All-head, All-nil, All-tail}
use Rattle.std.proofs.lemmas.Option.{slice_get_read, slice_get_within}
use Rattle.px_table.specs.Limits.{most_steps}
use Rattle.px_base.specs.Bounds.{u32_max}
use Rattle.px_base.specs.declared.no_memory.NoMemory.{NoMemory}
use Rattle.px_base.specs.ListLaws.{All-each}
use Rattle.px_terms.specs.declared.atom.Atom.{Atom}
use Rattle.px_terms.specs.declared.instance.OpInst.{OpInst}
use Rattle.px_terms.specs.declared.problem.Problem.{Problem}
use Rattle.px_terms.specs.declared.term.Term.{Term}
use Rattle.px_terms.specs.declared.term.Term.TheVariants.{Obj}
use Rattle.px_terms.specs.Operators.{deletes, result_of, results_of}
use Rattle.px_terms.specs.Validity.{IsGroundInstanceOf}
use Rattle.px_proof.specs.declared.proof.Proof.{Proof}
use Rattle.px_proof.specs.Derivation.{Derivation}
use Rattle.px_proof.specs.PlaceLaws.{slice_get-map}
use Rattle.px_proof.specs.ProofTerm.{derivation_of}
use Rattle.px_proof.specs.Proves.{IsObjectOrParameter}
use Rattle.px_proof.specs.Substitution.{derivation_under}
use Rattle.px_table.specs.declared.entry.Entry.TheVariants.{Macro}
use Rattle.px_table.specs.declared.table.Table.{Table}
use Rattle.px_table.specs.Kernels.{steps_under}
use Rattle.px_table.specs.Prefixes.{IsMacro}
use Rattle.px_table.specs.Tables.{IsTable, empty_table, rows_of}
use Rattle.px_entries.proofs.RowSteps.{steps-count, steps-ground}
use Rattle.px_entries.proofs.RowTurns.{in_turn, row_obligations}
use Rattle.px_entries.specs.Entries.{IsEntry, effect_of, initial_atoms, obligations_of, row_needs, table_at}
use Rattle.px_gaps.specs.declared.question.Obligation.{Obligation}
use Rattle.px_entries.specs.Learned.{AreLearned}
use Rattle.px_ends.specs.Made.{IsGraft, MacroRows}
use Rattle.px_support.specs.declared.macros.Learned.{Learned}
use Rattle.px_support.specs.declared.macros.Within.{Within}
use Rattle.px_support.specs.declared.walk.Walk.{Walk}
use Rattle.px_support.specs.Asking.{IsFindable}
use Rattle.px_support.specs.Going.{IsEntryApplied}
use Rattle.px_support.specs.Grafted.{IsGraftable}
use Rattle.px_support.specs.MacroSteps.{IsLearnedOf, IsMacroApplied, IsStepTaken, NeedsOfMacro, steps_in}
use Rattle.px_support.proofs.LearnedRows.{row-graftable, rows-count}
use Rattle.px_support.proofs.MacroTables.{macro-table}
use Rattle.px_support.proofs.RowSteps.{rows-push}

drop-at : {A : Type 0} (xs : List A) (k : ℕ) (x : A) → slice_get xs k ≡ Some x → drop k xs ≡ x ∷ drop (suc k) xs
drop-at [] k x at = absurd (cc)
drop-at (y ∷ xs) zero x at = let same : y ≡ x = cc in ap (λ z. z ∷ xs) same
drop-at (y ∷ xs) (suc k) x at = drop-at xs k x at

take-at : {A : Type 0} (n k : ℕ) (xs : List A) (x : A) → k < n → slice_get xs k ≡ Some x → slice_get (take n xs) k ≡ Some x
take-at zero k xs x below at = absurd (omega (arith, below))
take-at (suc n) k [] x below at = absurd (cc)
take-at (suc n) zero (y ∷ xs) x below at = at
take-at (suc n) (suc k) (y ∷ xs) x below at = take-at n k xs x (omega (arith, below)) at

drop-whole : {A : Type 0} (xs : List A) (k : ℕ) → length xs ≤ k → drop k xs ≡ []
drop-whole [] zero all = refl
drop-whole [] (suc k) all = refl
drop-whole (x ∷ xs) zero all = absurd (omega (arith, all))
drop-whole (x ∷ xs) (suc k) all = drop-whole xs k (omega (arith, all))

module _ (problem : Problem) (learned : Learned) where
  abbrev pub left_by : OpInst → List Atom → List Atom
  left_by inst facts = filter (λ atom. not (deletes problem inst atom)) facts

  -- the needs of the steps from a place on
  abbrev pub needs_from : ℕ → List Atom → List OpInst → Type 0
  needs_from place facts steps =
      All (IsFindable problem) (row_obligations problem learned.table.now learned.sigma.now facts (suc place) steps)

  -- as many steps as the number are taken
  pub record IsWithin (old : Walk) (place : ℕ) (within : Within) : Type 0 where
    pub stack : within.walk.stack.items ≡ old.stack.items
    pub steps : within.walk.steps.items ++ drop place (steps_in learned) ≡ old.steps.items ++ steps_in learned
    pub model : results_of problem within.walk.model.atoms (drop place (steps_in learned))
        ≡ results_of problem old.model.atoms (steps_in learned)
    pub first : List (List Derivation)
    pub rows : rows_of within.walk.rows.items ≡ rows_of old.rows.items ++ first
    pub made : (rest : List (List Derivation))
        → MacroRows problem learned.sigma.now learned.shift within.walk.steps.items within.facts.atoms
        (drop place (rows_of learned.table.now.proofs)) (drop place (steps_in learned)) rest
        → MacroRows problem learned.sigma.now learned.shift old.steps.items old.model.atoms (rows_of learned.table.now.proofs)
        (steps_in learned) (first ++ rest)
    pub findable : needs_from place within.facts.atoms (drop place (steps_in learned))
    pub all_ground : All (IsGroundInstanceOf problem) within.walk.steps.items
    pub count : length within.walk.steps.items ≡ length old.steps.items + place

module _ (problem : Problem) (learned : Learned) (is : IsLearnedOf problem learned) where
  pub within-none : (old : Walk) (within : Within) → within.walk ≡ old → within.facts.atoms ≡ old.model.atoms
      → NeedsOfMacro problem learned old.model.atoms (All (IsFindable problem)) → All (IsGroundInstanceOf problem) old.steps.items
      → IsWithin problem learned old 0 within
  within-none old within same facts findable all_ground = record {
    stack = ap (λ (w : Walk). w.stack.items) same;
    steps = ap (λ (w : Walk). w.steps.items ++ steps_in learned) same;
    model = ap (λ (w : Walk). results_of problem w.model.atoms (steps_in learned)) same;
    first = [];
    rows = ap (λ (w : Walk). rows_of w.rows.items) same ∙ sym (append-nil (rows_of old.rows.items));
    made = λ rest rows.
        subst (λ (made : List OpInst). MacroRows problem learned.sigma.now learned.shift made old.model.atoms
        (rows_of learned.table.now.proofs) (steps_in learned) rest) (ap (λ (w : Walk). w.steps.items) same)
        (subst (λ (atoms : List Atom). MacroRows problem learned.sigma.now learned.shift within.walk.steps.items atoms
        (rows_of learned.table.now.proofs) (steps_in learned) rest) facts rows);
    findable = subst (λ (atoms : List Atom). needs_from problem learned 0 atoms (steps_in learned)) (sym facts)
        (subst (All (IsFindable problem)) (in_turn problem learned.table.now learned.sigma.now old.model.atoms (steps_in learned))
        findable);
    all_ground = subst (λ (w : Walk). All (IsGroundInstanceOf problem) w.steps.items) (sym same) all_ground;
    count = ap (λ (w : Walk). length w.steps.items) same ∙ omega arith;
  }

  steps-long : length (steps_in learned) ≡ learned.prefix
  steps-long = steps-count learned.table.now learned.sigma.now learned.prefix is.is_macro.within

  step-left : (place : ℕ) (inst : OpInst) → place < learned.prefix
      → slice_get (steps_under learned.table.now learned.sigma.now) place ≡ Some inst
      → drop place (steps_in learned) ≡ inst ∷ drop (suc place) (steps_in learned)
  step-left place inst early at =
      drop-at (steps_in learned) place inst (take-at learned.prefix place (steps_under learned.table.now learned.sigma.now) inst early at)

  some-step : (place : ℕ) → place < learned.prefix
      → (inst : OpInst) × (drop place (steps_in learned) ≡ inst ∷ drop (suc place) (steps_in learned))
  some-step place early = by (steps_in learned) place (omega (arith, early, steps-long)) where
    by : (xs : List OpInst) (k : ℕ) → k < length xs → (x : OpInst) × (drop k xs ≡ x ∷ drop (suc k) xs)
    by [] k below = absurd (omega (arith, below))
    by (x ∷ xs) zero below = (x, refl)
    by (x ∷ xs) (suc k) below = by xs k (omega (arith, below))

  -- what the next step needs is found
  pub next-findable : (old : Walk) (place : ℕ) (within : Within) → place < learned.prefix → IsWithin problem learned old place within
      → IsFindable problem (record {
        formula = initial_atoms learned.table.now learned.sigma.now (place + 1);
        variable_count = 0;
        facts = within.facts.atoms;
      })
  next-findable old place within early going =
      let left = some-step place early in
      let all = subst (needs_from problem learned place within.facts.atoms) left.1 going.findable in
      let here =
      All-head (IsFindable problem) (record {
        formula = initial_atoms learned.table.now learned.sigma.now (suc place);
        variable_count = 0;
        facts = within.facts.atoms;
      })
      (row_obligations problem learned.table.now learned.sigma.now (left_by problem learned left.0 within.facts.atoms) (suc (suc place))
      (drop (suc place) (steps_in learned))) all in
      let number : suc place ≡ place + 1 = omega arith in
      subst (λ (n : ℕ). IsFindable problem (record {
        formula = initial_atoms learned.table.now learned.sigma.now n;
        variable_count = 0;
        facts = within.facts.atoms;
      })) number here

  pub within-next : (old : Walk) (place : ℕ) (within next : Within) → place < learned.prefix → IsWithin problem learned old place within
      → IsStepTaken problem learned place within next → IsWithin problem learned old (place + 1) next
  within-next old place within next early going taken =
      let left = step-left place taken.inst early taken.inst_at in
      let number : suc place ≡ place + 1 = omega arith in
      let row_left : drop place (rows_of learned.table.now.proofs) ≡ taken.row ∷ drop (suc place) (rows_of learned.table.now.proofs) =
      drop-at (rows_of learned.table.now.proofs) place taken.row taken.row_at in
      let needs =
      All-tail (IsFindable problem) (record {
        formula = initial_atoms learned.table.now learned.sigma.now (suc place);
        variable_count = 0;
        facts = within.facts.atoms;
      })
      (row_obligations problem learned.table.now learned.sigma.now (left_by problem learned taken.inst within.facts.atoms) (suc (suc place))
      (drop (suc place) (steps_in learned)))
      (subst (needs_from problem learned place within.facts.atoms) left going.findable) in
      let grounded =
      steps-ground problem learned.table.now learned.sigma.now place taken.inst is.table is.is_macro.count
      (omega (arith, early, is.is_macro.within)) taken.inst_at in
      subst (λ (n : ℕ). IsWithin problem learned old n next) number record {
        stack = taken.stack ∙ going.stack;
        steps =
            ap (λ (s : List OpInst). s ++ drop (suc place) (steps_in learned)) taken.steps
            ∙ append_assoc within.walk.steps.items (taken.inst ∷ []) (drop (suc place) (steps_in learned))
            ∙ ap (λ (s : List OpInst). within.walk.steps.items ++ s) (sym left) ∙ going.steps;
        model =
            ap (λ (a : List Atom). results_of problem a (drop (suc place) (steps_in learned))) taken.model
            ∙ ap (λ (s : List OpInst). results_of problem within.walk.model.atoms s) (sym left) ∙ going.model;
        first = going.first ++ taken.first ∷ [];
        rows =
            taken.rows ∙ ap (λ (rs : List (List Derivation)). rs ++ taken.first ∷ []) going.rows
            ∙ append_assoc (rows_of old.rows.items) going.first (taken.first ∷ []);
        made = λ rest rows.
            subst (MacroRows problem learned.sigma.now learned.shift old.steps.items old.model.atoms (rows_of learned.table.now.proofs)
            (steps_in learned)) (sym (append_assoc going.first (taken.first ∷ []) rest))
            (going.made (taken.first ∷ rest)
            (subst (λ (s : List OpInst). MacroRows problem learned.sigma.now learned.shift within.walk.steps.items within.facts.atoms
            (drop place (rows_of learned.table.now.proofs)) s (taken.first ∷ rest)) (sym left)
            (subst (λ (rs : List (List Derivation)). MacroRows problem learned.sigma.now learned.shift within.walk.steps.items
            within.facts.atoms rs (taken.inst ∷ drop (suc place) (steps_in learned)) (taken.first ∷ rest)) (sym row_left) (
              taken.made,
              subst (λ (made : List OpInst). MacroRows problem learned.sigma.now learned.shift made
                  (left_by problem learned taken.inst within.facts.atoms) (drop (suc place) (rows_of learned.table.now.proofs))
                  (drop (suc place) (steps_in learned)) rest) taken.steps
                  (subst (λ (a : List Atom). MacroRows problem learned.sigma.now learned.shift next.walk.steps.items a
                  (drop (suc place) (rows_of learned.table.now.proofs)) (drop (suc place) (steps_in learned)) rest) taken.facts rows),
            ))));
        findable =
            subst (λ (a : List Atom). needs_from problem learned (suc place) a (drop (suc place) (steps_in learned)))
            (sym taken.facts) needs;
        all_ground = subst (All (IsGroundInstanceOf problem)) (sym taken.steps)
            (All-append (IsGroundInstanceOf problem) within.walk.steps.items (taken.inst ∷ []) going.all_ground
            (All-cons (IsGroundInstanceOf problem) taken.inst [] grounded (All-nil (IsGroundInstanceOf problem))));
        count = ap length taken.steps ∙ length-append within.walk.steps.items (taken.inst ∷ []) ∙ omega (arith, going.count);
      }

  pub within-all : (old : Walk) (place : ℕ) (within : Within) → learned.prefix ≤ place → IsWithin problem learned old place within
      → IsMacroApplied problem learned old within.walk
  within-all old place within all going =
      let end : drop place (steps_in learned) ≡ [] = drop-whole (steps_in learned) place (omega (arith, all, steps-long)) in
      record {
        model = ap (results_of problem within.walk.model.atoms) (sym end) ∙ going.model;
        stack = going.stack;
        steps = sym (append-nil within.walk.steps.items) ∙ ap (λ (s : List OpInst). within.walk.steps.items ++ s) (sym end) ∙ going.steps;
        first = going.first;
        made =
            subst (MacroRows problem learned.sigma.now learned.shift old.steps.items old.model.atoms (rows_of learned.table.now.proofs)
            (steps_in learned)) (append-nil going.first)
            (going.made [] (nothing (drop place (rows_of learned.table.now.proofs)) within.walk.steps.items within.facts.atoms
            (drop place (steps_in learned)) end));
        rows = going.rows;
      }
    where
      nothing : (rows : List (List Derivation)) (made : List OpInst) (facts : List Atom) (steps : List OpInst) → steps ≡ []
          → MacroRows problem learned.sigma.now learned.shift made facts rows steps []
      nothing rows made facts steps e =
          subst (λ (s : List OpInst). MacroRows problem learned.sigma.now learned.shift made facts rows s []) (sym e) refl

-- ---- one step

-- the proofs of a row may be put onto first proofs
pub graftable-all : (problem : Problem) (learned : Learned) (is : IsLearnedOf problem learned) (place : ℕ) (proofs : List Proof)
    (formula : List Atom) → place < learned.prefix → slice_get learned.table.now.proofs place ≡ Some proofs
    → formula ≡ initial_atoms learned.table.now learned.sigma.now (place + 1)
    → All (IsGraftable formula learned.terms.now learned.shift) (map derivation_of proofs)
graftable-all problem learned is place proofs formula early at same =
    let table = learned.table.now in
    let sigma = learned.sigma.now in
    let number : suc place ≡ place + 1 = omega arith in
    rw (same, is.terms)
    (All-each (IsGraftable (initial_atoms table sigma (place + 1)) (map Obj sigma) learned.shift) (map derivation_of proofs) (λ d has.
    subst (λ (n : ℕ). IsGraftable (initial_atoms table sigma n) (map Obj sigma) learned.shift d) number
    (row-graftable problem table is.table learned.prefix sigma is.is_macro learned.shift is.room place early (map derivation_of proofs)
    (slice_get-map (map derivation_of) table.proofs place proofs at) d has)))

pub step-taken : (problem : Problem) (learned : Learned) (is : IsLearnedOf problem learned) (place : ℕ) (old new : Within) (inst : OpInst)
    (proofs row : List Proof) (given : List OpInst)
    → slice_get (steps_under learned.table.now learned.sigma.now) place ≡ Some inst → slice_get learned.table.now.proofs place ≡ Some proofs
    → given ≡ old.walk.steps.items
    → AllZip (IsGraft problem learned.shift given old.facts.atoms) (map (derivation_under learned.terms.now) (map derivation_of proofs))
    (map derivation_of row) → new.walk.rows.items ≡ old.walk.rows.items ++ row ∷ []
    → new.walk.steps.items ≡ old.walk.steps.items ++ inst ∷ [] → new.walk.model.atoms ≡ result_of problem old.walk.model.atoms inst
    → new.facts.atoms ≡ left_by problem learned inst old.facts.atoms
    → new.walk.stack.items ≡ old.walk.stack.items → IsStepTaken problem learned place old new
step-taken problem learned is place old new inst proofs row given inst_at proofs_at same grafts rows steps model facts stack = record {
  inst = inst;
  inst_at = inst_at;
  row = map derivation_of proofs;
  row_at = slice_get-map (map derivation_of) learned.table.now.proofs place proofs proofs_at;
  first = map derivation_of row;
  made =
      subst (λ (terms : List Term). AllZip (IsGraft problem learned.shift old.walk.steps.items old.facts.atoms)
      (map (derivation_under terms) (map derivation_of proofs)) (map derivation_of row)) is.terms
      (subst (λ (made : List OpInst). AllZip (IsGraft problem learned.shift made old.facts.atoms)
      (map (derivation_under learned.terms.now) (map derivation_of proofs)) (map derivation_of row)) same grafts);
  rows = rows-push old.walk.rows.items new.walk.rows.items row rows;
  steps = steps;
  model = model;
  facts = facts;
  stack = stack;
}

pub row-within : (problem : Problem) (learned : Learned) → IsLearnedOf problem learned → (place : ℕ) → place < learned.prefix
    → place < length learned.table.now.proofs
row-within problem learned is place early =
    let table = learned.table.now in
    let count =
    rows-count (IsObjectOrParameter problem.objects table.params) problem table.params table.goal_variable_count table.goal table.steps
    (rows_of table.proofs) is.table.prove in
    let long = length-map table.proofs (map derivation_of) in
    omega (arith, count, long, early, is.is_macro.within)

-- ---- the whole

module _ (problem : Problem) (tables : List Table) (all : AreLearned problem tables) (number prefix : ℕ) (sigma : List ℕ)
    (entry : IsEntry problem tables (Macro number prefix sigma)) (table : Table) (is : table ≡ slice_index_or tables number table) where
  found : table_at tables number ≡ table
  found =
      ap (λ (o : Option Table). unwrap_or o empty_table)
      (slice_get_read tables (length tables) number table refl (slice_get_within tables number entry.0 entry.1) is)

  pub table-learned : IsTable problem table × IsMacro problem table prefix sigma × (length table.steps ≤ most_steps)
  table-learned =
      subst (λ (t : Table). IsTable problem t × IsMacro problem t prefix sigma × (length t.steps ≤ most_steps)) found
      (macro-table problem tables all number prefix sigma entry)

  pub learned-is : (learned : Learned) → learned.table.now ≡ table → learned.prefix ≡ prefix → learned.sigma.now ≡ sigma
      → learned.terms.now ≡ map Obj sigma → learned.shift + most_steps ≤ u32_max → IsLearnedOf problem learned
  learned-is learned table_is prefix_is sigma_is terms room = record {
    table = subst (IsTable problem) (sym table_is) table-learned.0;
    is_macro = rw (table_is, prefix_is, sigma_is) table-learned.1;
    terms = terms ∙ ap (map Obj) (sym sigma_is);
    room = omega (arith, room, prefix_is, table-learned.1.within, table-learned.2);
  }

  pub learned-needs : (given : Table) (model : List Atom) (P : List Obligation → Type 0) → given ≡ table
      → P (obligations_of problem tables model (Macro number prefix sigma))
      → P (row_needs problem given sigma model (take prefix (steps_under given sigma)))
  learned-needs given model P same needs =
      subst (λ (t : Table). P (row_needs problem t sigma model (take prefix (steps_under t sigma)))) (found ∙ sym same) needs

  -- the steps are the entry's effect, and their rows the entry's
  entry-applied : (learned : Learned) (old new : Walk) → learned.table.now ≡ table → learned.prefix ≡ prefix → learned.sigma.now ≡ sigma
      → learned.shift ≡ length old.steps.items → IsMacroApplied problem learned old new
      → IsEntryApplied problem tables (Macro number prefix sigma) old new
  entry-applied learned old new table_is prefix_is sigma_is shift_is applied =
      let same : steps_in learned ≡ effect_of tables (Macro number prefix sigma) =
      (λ i. take (prefix_is i) (steps_under (table_is i) (sigma_is i)))
      ∙ ap (λ (t : Table). take prefix (steps_under t sigma)) (sym found) in
      record {
        model = applied.model ∙ ap (results_of problem old.model.atoms) same;
        stack = applied.stack;
        steps = applied.steps ∙ ap (λ (s : List OpInst). old.steps.items ++ s) same;
        first = applied.first;
        made =
            subst (λ (s : List OpInst). MacroRows problem sigma (length old.steps.items) old.steps.items old.model.atoms
            (rows_of (table_at tables number).proofs) s applied.first) same
            (subst (λ (t : Table). MacroRows problem sigma (length old.steps.items) old.steps.items old.model.atoms (rows_of t.proofs)
            (steps_in learned) applied.first) (table_is ∙ sym found)
            (subst (λ (n : ℕ). MacroRows problem sigma n old.steps.items old.model.atoms (rows_of learned.table.now.proofs)
            (steps_in learned) applied.first) shift_is
            (subst (λ (s : List ℕ). MacroRows problem s learned.shift old.steps.items old.model.atoms (rows_of learned.table.now.proofs)
            (steps_in learned) applied.first) sigma_is applied.made)));
        rows = applied.rows;
      }

  pub if_entry_applied : (learned : Learned) (old : Walk) (result : Result Walk NoMemory) → learned.table.now ≡ table
      → learned.prefix ≡ prefix → learned.sigma.now ≡ sigma → learned.shift ≡ length old.steps.items
      → IfOk result (IsMacroApplied problem learned old) → IfOk result (IsEntryApplied problem tables (Macro number prefix sigma) old)
  if_entry_applied learned old (Ok new) table_is prefix_is sigma_is shift_is applied =
      entry-applied learned old new table_is prefix_is sigma_is shift_is applied
  if_entry_applied learned old (Err e) table_is prefix_is sigma_is shift_is applied = tt
