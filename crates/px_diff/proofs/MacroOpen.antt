-- Whether a MACROP is open, by the facts. What the steps before a row delete is added by operators, and no axiom mentions it. So the
-- row is open where each of its atoms that no operator adds is provable from the whole model.
use Rattle.std.proofs.Common.{◌≡◌, ◌∙◌, ◌⊎◌, ◌+◌, ◌-◌, ◌<◌, ◌≤◌, ◌&&◌, ℕ, Bool, true, false, List, [], ◌∷◌, length, take, refl, ap, sym, subst, inl, inr, arith}
use Rattle.std.specs.List.{list_any, range_with_len}
use Rattle.std.specs.Prelude.{◌==◌, ◌↔◌, All, Any, Contains, IfOk, IfSome, MatchBool, Option, Result, Some, filter, not, slice_get}
use Rattle.std.proofs.lemmas.List.Elements.{All-cons, All-map, All-nil, All-take}
use Rattle.std.proofs.lemmas.List.Folds.{Any-from_list_any}
use Rattle.std.proofs.lemmas.List.FromFn.{get_or-range_with_len, length-range_with_len}
use Rattle.px_base.specs.ListLaws.{All-at, All-each, Contains-filter}
use Rattle.px_terms.specs.AtomSets.{IsAtomSet}
use Rattle.px_terms.specs.Instances.{is_instance}
use Rattle.px_terms.specs.Operators.{IsAddable, deletes, schema_of}
use Rattle.px_terms.specs.Substitution.{substitute_atom}
use Rattle.px_terms.specs.Validity.{IsAtomOf, IsValid}
use Rattle.px_terms.specs.ValidityLaws.{atom_of-is_ground}
use Rattle.px_terms.specs.declared.atom.Atom.{Atom}
use Rattle.px_terms.specs.declared.instance.OpInst.{OpInst}
use Rattle.px_terms.specs.declared.problem.Problem.{Problem}
use Rattle.px_terms.specs.declared.problem.Schema.{Schema}
use Rattle.px_proof.specs.Literals.{positive_of}
use Rattle.px_proof.specs.PlaceLaws.{Contains-mapped}
use Rattle.px_question.specs.Settings.{Setting, setting_of}
use Rattle.px_question.proofs.FewerFactsLaws.{fewer_facts-have_no_more}
use Rattle.px_table.specs.KernelLaws.{Contains-from_map}
use Rattle.px_table.specs.Kernels.{atom_under, instance_under, steps_under}
use Rattle.px_table.specs.Prefixes.{IsMacro}
use Rattle.px_table.specs.Tables.{IsTable}
use Rattle.px_table.specs.declared.entry.Entry.TheVariants.{Macro}
use Rattle.px_table.specs.declared.mark.Mark.{Mark}
use Rattle.px_table.specs.declared.table.Table.{Table}
use Rattle.px_entries.specs.Deciding.{DecideAlike, IsDeciding}
use Rattle.px_entries.specs.Entries.{initial_atoms, left_after, obligations_of, row_needs}
use Rattle.px_gaps.specs.Needs.{HasAnswer, IsOpen}
use Rattle.px_diff.specs.MacroOpen.{DeletesAddable, IsSettledMark, FactsSuffice}
use Rattle.px_entries.specs.Unlimited.{IsNeverLimited}
use Rattle.px_entries.specs.Plain.{AxiomsMentionAddable, IsSettled}
use Rattle.px_gaps.specs.Questions.{AreUnlimited}
use Rattle.px_gaps.specs.declared.question.Obligation.{Obligation}
use Rattle.px_gaps.specs.declared.question.Question.{Question}
use Rattle.px_gaps.specs.declared.question.Question.TheVariants.{FindingGaps, Proving}
use Rattle.px_entries.proofs.DecidingLaws.{all-regapped}
use Rattle.px_entries.proofs.RowTurns.{table_is}
use Rattle.px_gaps.proofs.GapAtoms.{literals-are}
use Rattle.px_gaps.proofs.Singles.{one_any}
use Rattle.px_base.proofs.Loops.{ok_map, some_map}
use Rattle.px_diff.proofs.ModelLaws.{IsOpenOne, answer-decided}
use Rattle.px_entries.proofs.RowSteps.{row-early, initial-are_of, steps-count}
use Rattle.px_entries.proofs.PlainLaws.{all-made, match-as, mentioned-fixed, plain-closed}
use Rattle.px_entries.proofs.OpenNeeds.{gaps-open}
use Rattle.px_gaps.proofs.Grows.{of-any}

-- ---- what steps delete

same-pred : (a b : ℕ) (rest : Bool) → ((a == b) && rest) ≡ true → a ≡ b
same-pred a b rest e = grind (arith, e)

addable-by : (problem : Problem) (a b : Atom) → a.pred ≡ b.pred → IsAddable problem a → IsAddable problem b
addable-by problem a b same =
    subst (λ (pred : ℕ). Any (λ (schema : Schema). Any (λ (added : Atom). added.pred ≡ pred) schema.add) problem.schemas) same

deleted-addable : (problem : Problem) (step : OpInst) (atom : Atom) → DeletesAddable problem step → deletes problem step atom ≡ true
    → IsAddable problem atom
deleted-addable problem step atom all is =
    let one =
    Any-from_list_any (λ (pattern : Atom). is_instance atom (substitute_atom step.args pattern)) (schema_of problem step).del is in
    let same : atom.pred ≡ one.1.pred = same-pred atom.pred one.1.pred _ one.4 in
    addable-by problem one.1 atom (sym same) (All-at (IsAddable problem) (schema_of problem step).del one.1 all (one.0, one.2, one.3))

not-so : (b : Bool) → (¬ (b ≡ true)) → not b ≡ true
not-so true never = absurd (never refl)
not-so false never = refl

-- they delete no atom that no operator adds
none-deleted : (problem : Problem) (steps : List OpInst) (atom : Atom) → All (DeletesAddable problem) steps → (¬ IsAddable problem atom)
    → not (list_any (λ (step : OpInst). deletes problem step atom) steps) ≡ true
none-deleted problem steps atom all fixed = not-so (list_any (λ (step : OpInst). deletes problem step atom) steps) (λ is.
    let one = Any-from_list_any (λ (step : OpInst). deletes problem step atom) steps is in
    fixed (deleted-addable problem one.1 atom (All-at (DeletesAddable problem) steps one.1 all (one.0, one.2, one.3)) one.4))

under-deletes : (problem : Problem) (table : Table) (sigma : List ℕ) (prefix row : ℕ) → All (DeletesAddable problem) table.steps
    → All (DeletesAddable problem) (take row (take prefix (steps_under table sigma)))
under-deletes problem table sigma prefix row all =
    All-take (DeletesAddable problem) row (take prefix (steps_under table sigma))
    (All-take (DeletesAddable problem) prefix (steps_under table sigma)
    (All-map (DeletesAddable problem) (instance_under sigma) table.steps all))

-- ---- one formula

module _ (problem : Problem) (valid : IsValid problem) (apart : ¬ AxiomsMentionAddable problem) (model : List Atom) where
  abbrev s : Setting
  s = setting_of problem model

  deciding-fixed : (atom : Atom) → IsDeciding problem atom → ¬ IsAddable problem atom
  deciding-fixed atom decides =
      elim decides [ inl fixed ↦ fixed | inr mentioned ↦ mentioned-fixed problem model apart (positive_of atom) mentioned ]

  module _ (steps : List OpInst) (deletes_addable : All (DeletesAddable problem) steps) where
    abbrev left : List Atom
    left = left_after problem steps model

    left-alike : DecideAlike problem model left
    left-alike atom decides =
        let here = Contains-filter (λ (a : Atom). not (list_any (λ (step : OpInst). deletes problem step a) steps)) model atom in (
          λ has. here.1 (has, none-deleted problem steps atom deletes_addable (deciding-fixed atom decides)),
          λ has. (here.0 has).0,
        )

    left-among : All (Contains model) left
    left-among =
        All-each (Contains model) left (λ atom has.
        ((Contains-filter (λ (a : Atom). not (list_any (λ (step : OpInst). deletes problem step a) steps)) model atom).0 has).0)

    -- what is provable from what is left is provable from the whole
    settled-whole : (q : Atom) → IsSettled problem left q → IsSettled problem model q
    settled-whole q settled fixed =
        let answer = settled fixed in (answer.0, _, fewer_facts-have_no_more.proofs s left (q ∷ []) 0 answer.0 answer.1 left-among answer.2)

    module _ (formula : List Atom) (of : All (IsAtomOf problem 0) formula) where
      abbrev needed : Obligation
      needed = record { formula = formula; variable_count = 0; facts = left }

      -- where all of its atoms are settled in the whole model, a formula is open from what is left
      settled-open : All (IsSettled problem model) formula → IsOpenOne problem needed
      settled-open settled =
          let all = all-made problem model apart valid.height.0 formula (λ k d below. atom_of-is_ground problem _ (of k d below)) settled in
          let literals = literals-are problem valid model formula 0 [] of refl (λ k d below. absurd (omega (arith, below))) in
          let there =
          all-regapped problem model left left-alike [] formula
          (λ k d below. atom_of-is_ground problem _ (literals k d below)) all.0 all.1 in
          gaps-open problem needed (answer-decided (setting_of problem left) formula) [] there.0
          (record {
            count = refl;
            below = λ k d below. absurd (omega (arith, below));
            proved = there.1;
            low = subst (λ (n : ℕ). n ≤ problem.height) (sym there.2) all.2;
          })

      -- where one of them isn't, it is not
      unsettled-closed : AreUnlimited problem (needed ∷ []) → (q : Atom) → Contains formula q → (¬ IsSettled problem model q)
          → ¬ IsOpenOne problem needed
      unsettled-closed unlimited q has never is_open =
          let closed =
          plain-closed problem valid left formula of apart unlimited
          (λ settled. never (settled-whole q (All-at (IsSettled problem left) formula q settled has))) in
          closed.0 (All-cons (IsOpenOne problem) needed [] is_open (All-nil (IsOpenOne problem)))

-- ---- the rows of a MACROP

row-among : (count row : ℕ) → 1 ≤ row → row ≤ count → Contains (range_with_len 1 count) row
row-among count row first early =
    let below : row - 1 < count = omega (arith, first, early) in
    let at : 1 + (row - 1) ≡ row = omega (arith, first) in (
      row - 1,
      subst (λ (n : ℕ). row - 1 < n) (sym (length-range_with_len 1 count)) below,
      get_or-range_with_len 1 count (row - 1) row below
          ∙ at,
    )

row-first : (count row : ℕ) → Contains (range_with_len 1 count) row → 1 ≤ row
row-first count row has =
    let below : has.0 < count = subst (λ (n : ℕ). has.0 < n) (length-range_with_len 1 count) has.1 in
    let is : row ≡ 1 + has.0 = sym has.2 ∙ get_or-range_with_len 1 count has.0 row below in
    omega (arith, is)

here-test : (mark : Mark) (row : ℕ) → mark.row ≡ row → mark.column ≡ 0 → ((mark.row == row) && (mark.column == 0)) ≡ true
here-test mark row same initial = rw (same, initial) (equal row) where
  equal : (n : ℕ) → ((n == n) && (0 == 0)) ≡ true
  equal n = grind (arith)

test-row : (mark : Mark) (row : ℕ) → ((mark.row == row) && (mark.column == 0)) ≡ true → mark.row ≡ row
test-row mark row e = grind (arith, e)

test-initial : (mark : Mark) (row : ℕ) → ((mark.row == row) && (mark.column == 0)) ≡ true → mark.column ≡ 0
test-initial mark row e = grind (arith, e)

module _ (problem : Problem) (valid : IsValid problem) (table : Table) (is : IsTable problem table) (prefix : ℕ) (sigma : List ℕ)
    (m : IsMacro problem table prefix sigma) (told : FactsSuffice problem table) (model : List Atom) where
  abbrev steps : List OpInst
  steps = take prefix (steps_under table sigma)

  abbrev needed_in : ℕ → Obligation
  needed_in row = record { formula = initial_atoms table sigma row; variable_count = 0; facts = left_after problem (take (row - 1) steps) model }

  abbrev rows : List ℕ
  rows = range_with_len 1 (length steps)

  abbrev needs : List Obligation
  needs = row_needs problem table sigma model steps

  abbrev Settled : Mark → Type 0
  Settled = IsSettledMark problem model prefix sigma

  before-deletes : (row : ℕ) → All (DeletesAddable problem) (take (row - 1) steps)
  before-deletes row = under-deletes problem table sigma prefix (row - 1) told.deletes

  row-low : (row : ℕ) → Contains rows row → row ≤ prefix
  row-low row has = subst (λ (n : ℕ). row ≤ n) (steps-count table sigma prefix m.within) (row-early (length steps) row has)

  settled-row : (row : ℕ) → Contains rows row → All Settled table.marks → All (IsSettled problem model) (initial_atoms table sigma row)
  settled-row row has all =
      let IsHere = λ (mark : Mark). (mark.row == row) && (mark.column == 0) in
      All-map (IsSettled problem model) (λ (mark : Mark). atom_under sigma mark.atom) (filter IsHere table.marks)
      (All-each (λ (mark : Mark). IsSettled problem model (atom_under sigma mark.atom)) (filter IsHere table.marks) (λ mark inside.
      let there = (Contains-filter IsHere table.marks mark).0 inside in
      let at = test-row mark row there.1 in
      All-at Settled table.marks mark all there.0 (record {
        from_first = subst (λ (n : ℕ). 1 ≤ n) (sym at) (row-first (length steps) row has);
        early = subst (λ (n : ℕ). n ≤ prefix) (sym at) (row-low row has);
        initial = test-initial mark row there.1;
      })))

  -- where each mark is settled, all rows are open
  marks-open : All Settled table.marks → IsOpen problem needs
  marks-open all = All-each (IsOpenOne problem) needs (λ needed has.
      let row = Contains-from_map needed_in rows needed has in
      subst (IsOpenOne problem) row.2
      (settled-open problem valid told.apart model (take (row.0 - 1) steps) (before-deletes row.0) (initial_atoms table sigma row.0)
      (initial-are_of problem table prefix sigma is m row.0 (row-low row.0 row.1)) (settled-row row.0 row.1 all)))

  abbrev IsAskedOf : Question → Obligation → Type 0
  IsAskedOf question other = (question ≡ Proving other) ⊎ ((¬ HasAnswer problem other) × (question ≡ FindingGaps other))

  module _ (unlimited : AreUnlimited problem needs) where
    one-unlimited : (needed : Obligation) → Contains needs needed → AreUnlimited problem (needed ∷ [])
    one-unlimited needed has question formula shapes asks =
        unlimited question formula shapes (of-any (IsAskedOf question) needs needed has (one_any (IsAskedOf question) needed asks))

    -- where all rows are open, each mark is settled
    open-settled : IsOpen problem needs → All Settled table.marks
    open-settled is_open = All-each Settled table.marks (λ mark has wanted fixed.
        let q = atom_under sigma mark.atom in
        elim (answer-decided (setting_of problem model) (q ∷ [])) [
          | inl proved ↦ proved
          | inr never ↦
              let among =
              row-among (length steps) mark.row wanted.from_first
              (subst (λ (n : ℕ). mark.row ≤ n) (sym (steps-count table sigma prefix m.within)) wanted.early) in
              let IsHere = λ (other : Mark). (other.row == mark.row) && (other.column == 0) in
              let inside = (Contains-filter IsHere table.marks mark).1 (has, here-test mark mark.row refl wanted.initial) in
              let there = Contains-mapped needed_in rows mark.row among in
              absurd (unsettled-closed problem valid told.apart model (take (mark.row - 1) steps) (before-deletes mark.row)
              (initial_atoms table sigma mark.row)
              (initial-are_of problem table prefix sigma is m mark.row wanted.early) (one-unlimited (needed_in mark.row) there)
              q (Contains-mapped (λ (other : Mark). atom_under sigma other.atom) (filter IsHere table.marks) mark inside)
              (λ settled. never (settled fixed))
              (All-at (IsOpenOne problem) needs (needed_in mark.row) is_open there))
        ])

-- a MACROP is open exactly where each mark is settled
pub macro-told : (problem : Problem) (valid : IsValid problem) (tables : List Table) (number : ℕ) (table : Table)
    → slice_get tables number ≡ Some table → (is : IsTable problem table) (prefix : ℕ) (sigma : List ℕ) → IsMacro problem table prefix sigma
    → FactsSuffice problem table → IsNeverLimited problem tables → (model : List Atom) → IsAtomSet model
    → All (IsSettledMark problem model prefix sigma) table.marks
    ↔ IsOpen problem (obligations_of problem tables model (Macro number prefix sigma))
macro-told problem valid tables number table at is prefix sigma m told never model ascends =
    let same : obligations_of problem tables model (Macro number prefix sigma)
    ≡ row_needs problem table sigma model (take prefix (steps_under table sigma)) =
    ap (λ (t : Table). row_needs problem t sigma model (take prefix (steps_under t sigma))) (table_is tables number table at) in
    let unlimited = subst (AreUnlimited problem) same (never model ascends (Macro number prefix sigma) (table, at, m)) in (
      λ settled. subst (IsOpen problem) (sym same) (marks-open problem valid table is prefix sigma m told model settled),
      λ is_open. open-settled problem valid table is prefix sigma m told model unlimited (subst (IsOpen problem) same is_open),
    )

-- a test decides the same fact said in other words
pub told-as : {E P Q : Type 0} (result : Result (Option Bool) E) → P ↔ Q
    → IfOk result (λ found. IfSome found (λ (b : Bool). MatchBool b P (¬ P)))
    → IfOk result (λ found. IfSome found (λ (b : Bool). MatchBool b Q (¬ Q)))
told-as {E} {P} {Q} result is =
    ok_map (λ (found : Option Bool). IfSome found (λ (b : Bool). MatchBool b P (¬ P)))
    (λ (found : Option Bool). IfSome found (λ (b : Bool). MatchBool b Q (¬ Q)))
    (λ found. some_map (λ (b : Bool). MatchBool b P (¬ P)) (λ (b : Bool). MatchBool b Q (¬ Q)) found (λ b. match-as {P = P} {Q = Q} b is))
    result
