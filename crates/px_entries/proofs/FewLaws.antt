-- Where what is asked of entries has few shapes, whatever the facts are, no question about an entry meets the limit.
use Rattle.std.proofs.Common.{◌≡◌, ◌⊎◌, ◌≤◌, ◌-◌, ℕ, List, [], ◌∷◌, length, map, refl, ap, sym, subst, inl, inr, arith}
use Rattle.std.specs.List.{list_any, range_with_len}
use Rattle.std.specs.Prelude.{◌==◌, ◌&&◌, All, Contains, filter, not, take}
use Rattle.std.proofs.lemmas.List.Elements.{Contains-append_cases}
use Rattle.std.proofs.lemmas.List.Kept.{IsStrictlySortedBy-filter}
use Rattle.px_base.specs.ListLaws.{All-at, Contains-none, Contains-one}
use Rattle.px_terms.specs.AtomSets.{IsAtomSet}
use Rattle.px_terms.specs.Operators.{deletes, no_schema, precondition, schema_of}
use Rattle.px_terms.specs.Order.{atom_cmp}
use Rattle.px_terms.specs.Validity.{IsInstanceOf}
use Rattle.px_terms.specs.declared.atom.Atom.{Atom}
use Rattle.px_terms.specs.declared.clause.Clause.{Clause}
use Rattle.px_terms.specs.declared.clause.Lit.{Lit}
use Rattle.px_terms.specs.declared.instance.OpInst.{OpInst}
use Rattle.px_terms.specs.declared.problem.Problem.{Problem}
use Rattle.px_terms.specs.declared.problem.Schema.{Schema}
use Rattle.px_proof.specs.PlaceLaws.{All-got}
use Rattle.px_proof.specs.declared.shape.Tick.{Tick}
use Rattle.px_proof.specs.Derivation.{Derivation, Derivations, fact, ancestor, step, gap, open_place, none, also}
use Rattle.px_proof.specs.Proves.{Proves, ProvesEach, Rules, parts_of}
use Rattle.px_question.specs.Answers.{literals_of}
use Rattle.px_question.specs.Gaps.{MeetsGapLimit, all_gaps_of, gaps_of}
use Rattle.px_question.specs.Limits.{IsLimited}
use Rattle.px_question.specs.Settings.{loose_gaps_in, setting_of}
use Rattle.px_table.specs.KernelLaws.{Contains-from_map}
use Rattle.px_table.specs.Kernels.{atom_under, steps_under}
use Rattle.px_table.specs.Prefixes.{IsMacro}
use Rattle.px_table.specs.declared.entry.Entry.TheVariants.{Op, Macro}
use Rattle.px_table.specs.declared.mark.Mark.{Mark}
use Rattle.px_table.specs.declared.table.Table.{Table}
use Rattle.px_gaps.specs.Bounds.{HasFewShapes}
use Rattle.px_entries.specs.Entries.{initial_atoms, left_after, obligations_of, row_needs}
use Rattle.px_gaps.specs.Needs.{HasAnswer}
use Rattle.px_entries.specs.Few.{EachHasFew, RowsHaveFew, HasFew}
use Rattle.px_entries.specs.Unlimited.{IsNeverLimited}
use Rattle.px_gaps.specs.Questions.{AreUnlimited, MeetsLimit}
use Rattle.px_gaps.specs.declared.question.Obligation.{Obligation}
use Rattle.px_gaps.specs.declared.question.Question.{Question}
use Rattle.px_gaps.specs.declared.question.Question.TheVariants.{Proving, FindingGaps}
use Rattle.px_gaps.proofs.AddableLaws.{addable-alike}
use Rattle.px_entries.proofs.RowTurns.{table_is}
use Rattle.px_entries.proofs.RowSteps.{row-early, steps-count}
use Rattle.px_gaps.proofs.Substituting.{preds-same}
use Rattle.px_question.proofs.DeterminedLaws.{few_or_limited}

-- ---- what gaps close is what the rules allow

module _ (rules : Rules) (axioms : List Clause) where
  mutual
    gap-allowed : (path : List Lit) (lit : Lit) (d : Derivation) (atom : Atom) → Proves rules axioms path lit d → Contains (gaps_of d) atom
        → rules.IsGap atom
    gap-allowed path lit (fact leaf) atom proved has = absurd (Contains-none atom has)
    gap-allowed path lit (ancestor i) atom proved has = absurd (Contains-none atom has)
    gap-allowed path lit (step number theta place parts) atom proved has =
        gaps-allowed (lit ∷ path) (parts_of proved.0.lits theta place) parts atom proved.2 has
    gap-allowed path lit (gap closed) atom proved has = subst rules.IsGap (Contains-one closed atom has) proved.1
    gap-allowed path lit open_place atom proved has = absurd (Contains-none atom has)

    gaps-allowed : (path lits : List Lit) (ds : Derivations) (atom : Atom) → ProvesEach rules axioms path lits ds
        → Contains (all_gaps_of ds) atom → rules.IsGap atom
    gaps-allowed path [] none atom each has = absurd (Contains-none atom has)
    gaps-allowed path (lit ∷ lits) (also d ds) atom each has = elim (Contains-append_cases (gaps_of d) (all_gaps_of ds) atom has) [
      | inl here ↦ gap-allowed path lit d atom each.0 here
      | inr later ↦ gaps-allowed path lits ds atom each.1 later
    ]
    gaps-allowed path [] (also d ds) atom each has = absurd each
    gaps-allowed path (lit ∷ lits) none atom each has = absurd each

-- ---- one formula without variables

module _ (problem : Problem) (adds : All (λ (schema : Schema). EachHasFew problem schema.add) problem.schemas) where
  -- an atom that some operator may add has few shapes by itself
  add-few : (facts : List Atom) (atom : Atom) → IsAtomSet facts → Contains (setting_of problem facts).added atom.pred
      → (shapes : List (List Tick)) → ¬ IsLimited (setting_of problem facts) (atom ∷ []) 0 shapes
  add-few facts atom ascends addable shapes limited =
      let from = (addable-alike problem facts atom).1 addable in
      let schema = from.1 in
      let few : EachHasFew problem schema.add =
      All-at (λ (s : Schema). EachHasFew problem s.add) problem.schemas schema adds (from.0, from.2, from.3) in
      let added = from.4 in
      let own : HasFew problem (added.1 ∷ []) =
      All-at (λ (a : Atom). HasFew problem (a ∷ [])) schema.add added.1 few (added.0, added.2, added.3) in
      few_or_limited.proofs_with_gaps (setting_of problem facts) (atom ∷ []) 0 shapes
      (own.few facts ascends (atom ∷ []) (ap (λ (p : ℕ). p ∷ []) (sym added.4))) limited

  one-unlimited : (needed : Obligation) → needed.variable_count ≡ 0 → IsAtomSet needed.facts → HasFew problem needed.formula
      → (question : Question) (formula : List Atom) (shapes : List (List Tick))
      → (question ≡ Proving needed) ⊎ ((¬ HasAnswer problem needed) × (question ≡ FindingGaps needed))
      → ¬ MeetsLimit problem question formula shapes
  one-unlimited needed variable_count ascends few question formula shapes asked met =
      let s = setting_of problem needed.facts in
      let shapes-few = few.few needed.facts ascends needed.formula refl in
      elim asked [
        | inl is ↦ few_or_limited.proofs_with_gaps s needed.formula 0 shapes shapes-few
            (subst (λ (n : ℕ). IsLimited s needed.formula n shapes) variable_count
            (subst (λ (q : Question). MeetsLimit problem q formula shapes) is met).1)
        | inr is ↦
            let found : MeetsGapLimit s needed.formula 0 formula shapes =
            subst (λ (n : ℕ). MeetsGapLimit s needed.formula n formula shapes) variable_count
            (subst (λ (q : Question). MeetsLimit problem q formula shapes) is.1 met) in
            elim found [
              | inl whole ↦ few_or_limited.gap_proofs s needed.formula 0 shapes shapes-few whole.1
              | inr one ↦
                  let loose = one.2 in
                  add-few needed.facts one.0 ascends
                  (gaps-allowed (loose_gaps_in s) problem.axioms []
                  (literals_of needed.formula loose.0) loose.1 one.0 loose.2.proved loose.3) shapes
                  (subst (λ (l : List Atom). IsLimited s l 0 shapes) one.1 one.3)
            ]
      ]

  all-unlimited : (needs : List Obligation)
      → ((needed : Obligation) → Contains needs needed → (needed.variable_count ≡ 0) × IsAtomSet needed.facts × HasFew problem needed.formula)
      → AreUnlimited problem needs
  all-unlimited needs each question formula shapes asks =
      let own = each asks.1 (asks.0, asks.2, asks.3) in
      one-unlimited asks.1 own.0 own.1 own.2 question formula shapes asks.4

  marks-same : (sigma : List ℕ) (marks : List Mark)
      → map (λ (atom : Atom). atom.pred) (map (λ (mark : Mark). atom_under sigma mark.atom) marks)
      ≡ map (λ (atom : Atom). atom.pred) (map (λ (mark : Mark). mark.atom) marks)
  marks-same sigma [] = refl
  marks-same sigma (mark ∷ marks) = ap (λ (l : List ℕ). mark.atom.pred ∷ l) (marks-same sigma marks)

  left-is_set : (steps : List OpInst) (facts : List Atom) → IsAtomSet facts → IsAtomSet (left_after problem steps facts)
  left-is_set steps facts = IsStrictlySortedBy-filter atom_cmp (λ atom. not (list_any (λ step. deletes problem step atom) steps)) facts

  module _ (preconditions : All (λ (schema : Schema). HasFew problem schema.pre) problem.schemas) where
    precondition-few : (inst : OpInst) → IsInstanceOf problem inst → HasFew problem (precondition problem inst)
    precondition-few inst is =
        let schema = schema_of problem inst in
        subst (HasFewShapes problem) (sym (preds-same inst.args schema.pre)) (preconditions inst.op no_schema is.op)

    rows-unlimited : (table : Table) (prefix : ℕ) (sigma : List ℕ) → IsMacro problem table prefix sigma → RowsHaveFew problem table
        → (facts : List Atom) → IsAtomSet facts
        → AreUnlimited problem (row_needs problem table sigma facts (take prefix (steps_under table sigma)))
    rows-unlimited table prefix sigma m few facts ascends =
        let steps = take prefix (steps_under table sigma) in
        let needed_in : ℕ → Obligation =
        λ row. record { formula = initial_atoms table sigma row; variable_count = 0; facts = left_after problem (take (row - 1) steps) facts } in
        all-unlimited (row_needs problem table sigma facts steps) (λ needed has.
        let row = Contains-from_map needed_in (range_with_len 1 (length steps)) needed has in
        let early = subst (λ (n : ℕ). row.0 ≤ n) (steps-count table sigma prefix m.within) (row-early (length steps) row.0 row.1) in
        subst (λ (o : Obligation). (o.variable_count ≡ 0) × IsAtomSet o.facts × HasFew problem o.formula) row.2 (
          refl,
          left-is_set (take (row.0 - 1) steps) facts ascends,
          subst (HasFewShapes problem) (sym (marks-same sigma
              (filter (λ (mark : Mark). (mark.row == row.0) && (mark.column == 0)) table.marks)))
              (few row.0 (omega (arith, early, m.within))),
        ))

    -- no question about an entry meets the limit
    pub never-limited : (tables : List Table) → All (RowsHaveFew problem) tables → IsNeverLimited problem tables
    never-limited tables rows facts ascends (Op inst) is =
        all-unlimited (obligations_of problem tables facts (Op inst)) (λ needed has.
        subst (λ (o : Obligation). (o.variable_count ≡ 0) × IsAtomSet o.facts × HasFew problem o.formula) (Contains-one _ needed has)
        (refl, ascends, precondition-few inst is.of))
    never-limited tables rows facts ascends (Macro number prefix sigma) (table, at, m) =
        subst (λ (t : Table). AreUnlimited problem (row_needs problem t sigma facts (take prefix (steps_under t sigma))))
        (sym (table_is tables number table at))
        (rows-unlimited table prefix sigma m (All-got (RowsHaveFew problem) tables number table rows at) facts ascends)
