-- In models with the same deciding facts the same entries are open, and the same may be pushed.
use Rattle.std.proofs.Common.{◌⊎◌, ◌-◌, ◌≤◌, ℕ, List, [], ◌∷◌, length, take, map, refl, sym, subst, inl, inr, arith}
use Rattle.std.specs.List.{list_any, range_with_len}
use Rattle.std.specs.Prelude.{All, Contains, not}
use Rattle.px_base.specs.ListLaws.{All-at, All-each, Contains-filter, Contains-first, Contains-none}
use Rattle.px_terms.specs.Operators.{deletes, precondition}
use Rattle.px_terms.specs.Validity.{IsAtomOf, IsValid}
use Rattle.px_terms.specs.ValidityLaws.{atom_of-is_ground, precondition-is_of}
use Rattle.px_terms.specs.declared.atom.Atom.{Atom}
use Rattle.px_terms.specs.declared.instance.OpInst.{OpInst}
use Rattle.px_terms.specs.declared.problem.Problem.{Problem}
use Rattle.px_proof.specs.PlaceLaws.{All-got, Contains-mapped}
use Rattle.px_proof.specs.Proves.{ProvesEach}
use Rattle.px_question.specs.Answers.{IsAnswer, literals_of}
use Rattle.px_question.specs.Settings.{Setting, proofs_in, setting_of}
use Rattle.px_question.proofs.Listed.{Decided}
use Rattle.px_question.proofs.ListedProofs.{AreProofs, finite-proofs, listed-proofs}
use Rattle.px_table.specs.declared.entry.Entry.{Entry}
use Rattle.px_table.specs.declared.entry.Entry.TheVariants.{Op, Macro}
use Rattle.px_table.specs.declared.table.Table.{Table}
use Rattle.px_table.specs.KernelLaws.{Contains-from_map}
use Rattle.px_table.specs.Kernels.{steps_under}
use Rattle.px_table.specs.Prefixes.{IsMacro}
use Rattle.px_table.specs.Tables.{IsTable}
use Rattle.px_entries.specs.Deciding.{DecideAlike}
use Rattle.px_entries.specs.Entries.{IsEntry, initial_atoms, left_after, obligations_of, row_needs, table_at}
use Rattle.px_gaps.specs.Needs.{HasAnswer, HasGap, IsOpen}
use Rattle.px_gaps.specs.declared.question.Obligation.{Obligation}
use Rattle.px_entries.specs.Learned.{AreLearned}
use Rattle.px_diff.specs.Models.{RelevanceOverModels}
use Rattle.px_entries.proofs.DecidingLaws.{all-regapped}
use Rattle.px_entries.proofs.RowTurns.{table_is}
use Rattle.px_gaps.proofs.GapAtoms.{literals-are}
use Rattle.px_entries.proofs.OpenNeeds.{one_open, open_one, gaps-open, open-gaps}
use Rattle.px_entries.proofs.RowSteps.{initial-are_of, steps-count, row-early}
use Rattle.std.proofs.lemmas.List.{nil_from_length}

-- ---- a formula without variables has an answer or none

first-or-none : {X : Type 0} (P : X → Type 0) (xs : List X) → ((x : X) → P x → Contains xs x) → ((x : X) → Contains xs x → P x)
    → ((x : X) × P x) ⊎ ((x : X) → ¬ P x)
first-or-none P [] all each = inr (λ x is. Contains-none x (all x is))
first-or-none P (x ∷ xs) all each = inl (x, each x (Contains-first x xs))

pub answer-decided : (s : Setting) (formula : List Atom) → Decided (IsAnswer s formula 0)
answer-decided s formula =
    let proofs = listed-proofs (proofs_in s) s.axioms s.objects (finite-proofs s) s.height [] (literals_of formula []) in
    elim (first-or-none (AreProofs (proofs_in s) s.axioms s.objects (finite-proofs s) s.height [] (literals_of formula [])) proofs.items
    proofs.all proofs.each) [
      | inl one ↦ inl (
        [],
        one.0,
        record {
          count = refl;
          below = λ k d within. absurd (omega (arith, within));
          proved = one.1.0;
          low = one.1.1;
        },
      )
      | inr never ↦ inr (λ answer. never answer.1 (
        subst (λ (objects : List ℕ). ProvesEach (proofs_in s) s.axioms [] (literals_of formula objects) answer.1)
            (nil_from_length answer.0 answer.2.count) answer.2.proved,
        answer.2.low,
      ))
    ]

-- ---- one formula

abbrev pub IsOpenOne : Problem → Obligation → Type 0
IsOpenOne problem needed = HasAnswer problem needed ⊎ ((gap : Atom) × HasGap problem needed gap)

abbrev needed_from : List Atom → List Atom → Obligation
needed_from formula facts = record { formula = formula; variable_count = 0; facts = facts }

module _ (problem : Problem) (valid : IsValid problem) where
  open-alike : (formula facts others : List Atom) → All (IsAtomOf problem 0) formula → DecideAlike problem facts others
      → IsOpenOne problem (needed_from formula facts) → IsOpenOne problem (needed_from formula others)
  open-alike formula facts others of alike is_open =
      let list = open-gaps problem (needed_from formula facts) is_open in
      let literals = literals-are problem valid facts formula 0 list.0 of list.2.count list.2.below in
      let made =
      all-regapped problem facts others alike list.0 formula
      (λ k d below. atom_of-is_ground problem _ (literals k d below)) list.1 list.2.proved in
      gaps-open problem (needed_from formula others) (answer-decided (setting_of problem others) formula) list.0 made.0
      (record {
        count = list.2.count;
        below = list.2.below;
        proved = made.1;
        low = subst (λ (n : ℕ). n ≤ problem.height) (sym made.2) list.2.low;
      })

  -- ---- MACROPs

  left-alike : (steps : List OpInst) (facts others : List Atom) → DecideAlike problem facts others
      → DecideAlike problem (left_after problem steps facts) (left_after problem steps others)
  left-alike steps facts others alike atom decides =
      let is_left = λ (a : Atom). not (list_any (λ step. deletes problem step a) steps) in
      let here = Contains-filter is_left facts atom in
      let there = Contains-filter is_left others atom in (
        λ has. let h = here.0 has in there.1 ((alike atom decides).0 h.0, h.1),
        λ has. let h = there.0 has in here.1 ((alike atom decides).1 h.0, h.1),
      )

  module _ (table : Table) (prefix : ℕ) (sigma : List ℕ) (is : IsTable problem table) (m : IsMacro problem table prefix sigma)
      (facts others : List Atom) (alike : DecideAlike problem facts others) where
    abbrev first_steps : List OpInst
    first_steps = take prefix (steps_under table sigma)

    abbrev needed_in : List Atom → ℕ → Obligation
    needed_in model row = needed_from (initial_atoms table sigma row) (left_after problem (take (row - 1) first_steps) model)

    rows-alike : IsOpen problem (row_needs problem table sigma facts first_steps)
        → IsOpen problem (row_needs problem table sigma others first_steps)
    rows-alike all =
        let rows = range_with_len 1 (length first_steps) in
        All-each (IsOpenOne problem) (map (needed_in others) rows) (λ needed has.
        let row = Contains-from_map (needed_in others) rows needed has in
        let early = subst (λ (n : ℕ). row.0 ≤ n) (steps-count table sigma prefix m.within) (row-early (length first_steps) row.0 row.1) in
        let before = take (row.0 - 1) first_steps in
        subst (IsOpenOne problem) row.2
        (open-alike (initial_atoms table sigma row.0) (left_after problem before facts) (left_after problem before others)
        (initial-are_of problem table prefix sigma is m row.0 early) (left-alike before facts others alike)
        (All-at (IsOpenOne problem) (map (needed_in facts) rows) (needed_in facts row.0) all
        (Contains-mapped (needed_in facts) rows row.0 row.1))))

  -- ---- entries

  pub entry-alike : (tables : List Table) (facts others : List Atom) (entry : Entry) → AreLearned problem tables
      → DecideAlike problem facts others → IsEntry problem tables entry
      → IsOpen problem (obligations_of problem tables facts entry) → IsOpen problem (obligations_of problem tables others entry)
  entry-alike tables facts others (Op inst) learned alike is_entry is_open =
      open_one problem others inst (open-alike (precondition problem inst) facts others
      (precondition-is_of problem inst valid is_entry.of) alike (one_open problem facts inst is_open))
  entry-alike tables facts others (Macro number prefix sigma) learned alike (table, at, m) is_open =
      let same = sym (table_is tables number table at) in
      rows-alike (table_at tables number) prefix sigma
      (subst (IsTable problem) same (All-got (IsTable problem) tables number table learned.each at))
      (subst (λ (t : Table). IsMacro problem t prefix sigma) same m) facts others alike is_open

-- ---- the law

alike-back : (problem : Problem) (facts others : List Atom) → DecideAlike problem facts others → DecideAlike problem others facts
alike-back problem facts others alike atom decides = ((alike atom decides).1, (alike atom decides).0)

pub relevance-over_models : RelevanceOverModels
relevance-over_models = record {
  opens = λ problem tables facts others entry are is_entry. (
    entry-alike problem are.valid tables facts others entry are.learned are.alike is_entry,
    entry-alike problem are.valid tables others facts entry are.learned (alike-back problem facts others are.alike) is_entry,
  );
  pushable = λ problem tables wanted stack facts others entry are. (
    λ p. record {
      relevant = p.relevant;
      open_entry = entry-alike problem are.valid tables facts others entry are.learned are.alike p.relevant.is_entry p.open_entry;
    },
    λ p. record {
      relevant = p.relevant;
      open_entry =
          entry-alike problem are.valid tables others facts entry are.learned
          (alike-back problem facts others are.alike) p.relevant.is_entry p.open_entry;
    },
  );
}
