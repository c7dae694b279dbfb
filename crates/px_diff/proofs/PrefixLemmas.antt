-- The rows of a MACROP, where what is asked of them with variables stays below the limit.
use Rattle.std.proofs.Common.{◌≡◌, ◌⊎◌, ◌+◌, ◌-◌, ◌<◌, ◌≤◌, ℕ, suc, List, [], ◌∷◌, length, take, get_or, ap, sym, subst, inl, inr, arith}
use Rattle.std.specs.Prelude.{All, Contains, filter, not}
use Rattle.std.proofs.lemmas.List.{get_or_default, length-take, length-map}
use Rattle.std.proofs.lemmas.List.Kept.{IsStrictlySortedBy-filter}
use Rattle.px_base.specs.ListLaws.{All-at, All-each, Contains-filter, Contains-cases, Contains-first, Contains-later, Contains-none}
use Rattle.px_question.specs.Settings.{setting_of}
use Rattle.px_table.specs.declared.table.Table.{Table}
use Rattle.px_table.specs.Kernels.{instance_under, steps_under}
use Rattle.px_terms.specs.AtomSets.{IsAtomSet}
use Rattle.px_terms.specs.Operators.{deletes}
use Rattle.px_terms.specs.Order.{atom_cmp}
use Rattle.px_terms.specs.declared.atom.Atom.{Atom}
use Rattle.px_terms.specs.declared.instance.OpInst.{OpInst}
use Rattle.px_terms.specs.declared.problem.Problem.{Problem}
use Rattle.px_terms.specs.declared.term.Term.{Term}
use Rattle.px_entries.specs.Entries.{initial_atoms}
use Rattle.px_gaps.specs.Needs.{HasAnswer, HasGap, IsOpen}
use Rattle.px_gaps.specs.Questions.{AreUnlimited, MeetsLimit}
use Rattle.px_gaps.specs.declared.question.Obligation.{Obligation}
use Rattle.px_gaps.specs.declared.question.Question.TheVariants.{FindingGaps, Proving}
use Rattle.px_diff.specs.RowQuestions.{FitsEach, FitsOne, IsInstanceKnown}
use Rattle.px_entries.proofs.RowTurns.{row_obligations}
use Rattle.px_diff.proofs.RowLemmas.{answer-fits, finding-unlimited, gap-fits, proving-unlimited}
use Rattle.px_gaps.proofs.Grows.{any-of}

-- what is needed for a row, from some of the model's atoms
pub record IsRowOf (table : Table) (sigma : List ℕ) (model : List Atom) (row : ℕ) (needed : Obligation) : Type 0 where
  pub facts : List Atom
  pub among : All (Contains model) facts
  pub set : IsAtomSet facts
  pub same : needed ≡ record { formula = initial_atoms table sigma row; variable_count = 0; facts = facts }

module _ (problem : Problem) (table : Table) (sigma : List ℕ) (model : List Atom) where
  abbrev left : OpInst → List Atom → List Atom
  left step facts = filter (λ atom. not (deletes problem step atom)) facts

  left-among : (step : OpInst) (facts : List Atom) → All (Contains model) facts → All (Contains model) (left step facts)
  left-among step facts among =
      All-each (Contains model) (left step facts) (λ q has. All-at (Contains model) facts q among
      ((Contains-filter (λ atom. not (deletes problem step atom)) facts q).0 has).0)

  left-set : (step : OpInst) (facts : List Atom) → IsAtomSet facts → IsAtomSet (left step facts)
  left-set step facts set = IsStrictlySortedBy-filter atom_cmp (λ atom. not (deletes problem step atom)) facts set

  -- each part is what a row needs
  pub part-row : (steps : List OpInst) (row : ℕ) (facts : List Atom) → All (Contains model) facts → IsAtomSet facts → (needed : Obligation)
      → Contains (row_obligations problem table sigma facts row steps) needed
      → (at : ℕ) × (row ≤ at) × (at < row + length steps) × IsRowOf table sigma model at needed
  part-row [] row facts among set needed has = absurd (Contains-none needed has)
  part-row (step ∷ steps) row facts among set needed has =
      elim (Contains-cases (record { formula = initial_atoms table sigma row; variable_count = 0; facts = facts })
      (row_obligations problem table sigma (left step facts) (suc row) steps) needed has) [
        | inl here ↦ (row, omega arith, omega arith, record { facts = facts; among = among; set = set; same = sym here })
        | inr later ↦
            let r = part-row steps (suc row) (left step facts) (left-among step facts among) (left-set step facts set) needed later in
            (r.0, omega (arith, r.1), omega (arith, r.2), r.3)
      ]

  -- and each row has a part
  pub row-part : (steps : List OpInst) (row : ℕ) (facts : List Atom) → All (Contains model) facts → IsAtomSet facts → (at : ℕ) → row ≤ at
      → at < row + length steps
      → (needed : Obligation) × Contains (row_obligations problem table sigma facts row steps) needed × IsRowOf table sigma model at needed
  row-part [] row facts among set at low high = absurd (omega (arith, low, high))
  row-part (step ∷ steps) row facts among set at low high = elim (first_or_later row at low) [
    | inl here ↦ (
      record { formula = initial_atoms table sigma row; variable_count = 0; facts = facts },
      Contains-first (record { formula = initial_atoms table sigma row; variable_count = 0; facts = facts })
          (row_obligations problem table sigma (left step facts) (suc row) steps),
      record {
        facts = facts;
        among = among;
        set = set;
        same = ap (λ (n : ℕ). record { formula = initial_atoms table sigma n; variable_count = 0; facts = facts }) here;
      },
    )
    | inr later ↦
        let r =
        row-part steps (suc row) (left step facts) (left-among step facts among) (left-set step facts set) at later
        (omega (arith, high)) in (
          r.0,
          Contains-later (record { formula = initial_atoms table sigma row; variable_count = 0; facts = facts })
              (row_obligations problem table sigma (left step facts) (suc row) steps) r.0 r.1,
          r.2,
        )
  ]
    where
      first_or_later : (row at : ℕ) → row ≤ at → (row ≡ at) ⊎ (suc row ≤ at)
      first_or_later row at low = grind (arith, low)

  module _ (set : IsAtomSet model) (prefix : ℕ) (within : prefix ≤ length table.steps) (rows : List (List (List Term)))
      (count : length rows ≡ prefix)
      (known : (k : ℕ) → k < prefix → IsInstanceKnown (setting_of problem model) table (k + 1) (get_or rows k []) sigma) where
    steps_long : length (take prefix (steps_under table sigma)) ≡ prefix
    steps_long = omega (arith, length-take prefix (steps_under table sigma), within, shorter)
      where
        shorter : length (steps_under table sigma) ≡ length table.steps
        shorter = length-map table.steps (instance_under sigma)

    all-among : All (Contains model) model
    all-among = All-each (Contains model) model (λ q has. has)

    abbrev needs : List Obligation
    needs = row_obligations problem table sigma model 1 (take prefix (steps_under table sigma))

    -- the row's choices
    row-known : (at : ℕ) → 1 ≤ at → at < 1 + prefix → IsInstanceKnown (setting_of problem model) table at (get_or rows (at - 1) []) sigma
    row-known at low high =
        let back : at - 1 + 1 ≡ at = omega (arith, low) in
        subst (λ (n : ℕ). IsInstanceKnown (setting_of problem model) table n (get_or rows (at - 1) []) sigma) back
        (known (at - 1) (omega (arith, low, high)))

    pub rows-unlimited : AreUnlimited problem (row_obligations problem table sigma model 1 (take prefix (steps_under table sigma)))
    rows-unlimited question formula shapes asks met =
        let one =
        any-of (λ (needed : Obligation). (question ≡ Proving needed) ⊎ ((¬ HasAnswer problem needed) × (question ≡ FindingGaps needed)))
        needs asks in
        let part = part-row (take prefix (steps_under table sigma)) 1 model all-among set one.0 one.1 in
        let row = row-known part.0 part.1 (omega (arith, part.2, steps_long)) in
        let choices = get_or rows (part.0 - 1) [] in
        let is = part.3 in
        elim one.2 [
          | inl proving ↦
              let here =
              subst (λ (needed : Obligation). MeetsLimit problem (Proving needed) formula shapes) is.same
              (subst (λ q. MeetsLimit problem q formula shapes) proving met) in
              proving-unlimited (setting_of problem model) is.facts is.among is.set table sigma part.0 choices row shapes here.1
          | inr finding ↦
              let here =
              subst (λ (needed : Obligation). MeetsLimit problem (FindingGaps needed) formula shapes) is.same
              (subst (λ q. MeetsLimit problem q formula shapes) finding.1 met) in
              finding-unlimited (setting_of problem model) is.facts is.among is.set table sigma part.0 choices row formula shapes here
        ]

    row-open : (needed : Obligation) → IsOpen problem needs → Contains needs needed
        → HasAnswer problem needed ⊎ ((gap : Atom) × HasGap problem needed gap)
    row-open needed is_open has =
        All-at (λ (n : Obligation). HasAnswer problem n ⊎ ((gap : Atom) × HasGap problem n gap)) needs needed is_open has

    row-fits : IsOpen problem (row_obligations problem table sigma model 1 (take prefix (steps_under table sigma))) → (k : ℕ) → k < prefix
        → FitsOne (get_or rows k []) sigma
    row-fits is_open k below =
        let part =
        row-part (take prefix (steps_under table sigma)) 1 model all-among set (k + 1) (omega arith)
        (omega (arith, below, steps_long)) in
        let row = known k below in
        let choices = get_or rows k [] in
        let is = part.2 in
        elim (subst (λ (n : Obligation). HasAnswer problem n ⊎ ((gap : Atom) × HasGap problem n gap)) is.same
        (row-open part.0 is_open part.1)) [
          | inl answer ↦ answer-fits (setting_of problem model) is.facts is.among is.set table sigma
              (k + 1) choices row answer.0 answer.1 answer.2
          | inr missing ↦ gap-fits (setting_of problem model) is.facts is.among is.set table sigma
              (k + 1) choices row missing.1.1.0 missing.1.1.1 missing.1.1.2
        ]

    pub rows-fit : IsOpen problem (row_obligations problem table sigma model 1 (take prefix (steps_under table sigma)))
        → FitsEach rows sigma
    rows-fit is_open k d below =
        subst (λ (l : List (List Term)). FitsOne l sigma) (get_or_default rows k [] d below)
        (row-fits is_open k (omega (arith, below, count)))
