-- The steps of a MACROP have rows, where what they need was found.
use Rattle.std.specs.Prelude.{◌≡◌, ◌<◌, ◌≤◌, ◌+◌, ℕ, not, Some, List, [], ◌∷◌, ◌++◌, length, map, filter, slice_get, All, Contains}
use Rattle.std.specs.List.{AllZip}
use Rattle.std.proofs.Common.{suc, refl, sym, ap, ◌∙◌, subst, inl, inr, arith}
use Rattle.std.proofs.lemmas.List.{nil_from_length}
use Rattle.std.proofs.lemmas.List.Elements.{All-head, All-tail}
use Rattle.px_base.specs.Bounds.{u32_max}
use Rattle.px_base.specs.ListLaws.{All-at, Contains-cases, Contains-none}
use Rattle.px_terms.specs.declared.atom.Atom.{Atom}
use Rattle.px_terms.specs.declared.instance.OpInst.{OpInst}
use Rattle.px_terms.specs.declared.problem.Problem.{Problem}
use Rattle.px_terms.specs.declared.term.Term.TheVariants.{Obj}
use Rattle.px_terms.specs.Operators.{deletes}
use Rattle.px_proof.specs.declared.proof.Leaf.{Leaf}
use Rattle.px_proof.specs.Derivation.{Derivation, Derivations, none, also, leaves_of}
use Rattle.px_proof.specs.Grafting.{first_leaves, grafted}
use Rattle.px_proof.specs.Substitution.{derivation_under}
use Rattle.px_question.specs.Answers.{IsFirst}
use Rattle.px_question.specs.FirstOfEach.{AreFirstProofs, IsFirstProof}
use Rattle.px_question.specs.Settings.{Setting, setting_of}
use Rattle.px_question.proofs.FirstOfEachLaws.{first-is_of_each}
use Rattle.px_table.specs.declared.table.Table.{Table}
use Rattle.px_table.specs.KernelLaws.{Contains-from_map}
use Rattle.px_table.specs.Prefixes.{IsMacro}
use Rattle.px_table.specs.Tables.{IsTable, rows_of}
use Rattle.px_gaps.specs.declared.question.Obligation.{Obligation}
use Rattle.px_entries.specs.Entries.{initial_atoms}
use Rattle.px_entries.proofs.RowTurns.{row_obligations}
use Rattle.px_ends.specs.Made.{IsGraft, IsPart, MacroRows}
use Rattle.px_support.specs.Asking.{IsFindable}
use Rattle.px_support.proofs.LearnedRows.{row-graftable}
use Rattle.px_totality.proofs.Sources.{first-there, sourced-there, zip-there}

-- ---- the first proof of each atom

proof-of : (s : Setting) (atoms : List Atom) (ds : Derivations) → AreFirstProofs s atoms ds → (atom : Atom) → Contains atoms atom
    → (d : Derivation) × IsFirstProof s atom d
proof-of s [] ds are atom has = absurd (Contains-none atom has)
proof-of s (first ∷ atoms) none are atom has = absurd are
proof-of s (first ∷ atoms) (also d ds) are atom has = elim (Contains-cases first atoms atom has) [
  | inl same ↦ (d, subst (λ (x : Atom). IsFirstProof s x d) same are.0)
  | inr later ↦ proof-of s atoms ds are.1 atom later
]

-- where atoms without variables were found, each has a first proof
pub each-proof : (problem : Problem) (facts formula : List Atom)
    → IsFindable problem (record { formula = formula; variable_count = 0; facts = facts }) → (atom : Atom) → Contains formula atom
    → (d : Derivation) × IsFirstProof (setting_of problem facts) atom d
each-proof problem facts formula is atom has =
    let first = first-there problem (record { formula = formula; variable_count = 0; facts = facts }) is in
    let empty : first.0 ≡ [] = nil_from_length first.0 first.2.finished.count in
    let whole = subst (λ (objects : List ℕ). IsFirst (setting_of problem facts) formula 0 objects first.1) empty first.2 in
    proof-of (setting_of problem facts) formula first.1 ((first-is_of_each (setting_of problem facts) formula first.1).0 whole) atom has

module _ (problem : Problem) (sigma : List ℕ) where
  abbrev under : Derivation → Derivation
  under = derivation_under (map Obj sigma)

  -- each of the row's leaves that come from the initial model has a first proof from the facts
  abbrev HasFirsts : List Atom → List Derivation → Type 0
  HasFirsts facts row = (d : Derivation) → Contains row d → (leaf : Leaf) → Contains (first_leaves (leaves_of (under d))) leaf
      → (first : Derivation) × IsFirstProof (setting_of problem facts) leaf.atom first

  -- so have those of each row, from what the steps before it leave of the facts
  abbrev Ready : List Atom → List (List Derivation) → List OpInst → Type 0
  Ready facts [] [] = Unit {0}
  Ready facts (row ∷ rows) [] = Unit {0}
  Ready facts [] (step ∷ steps) = ⊥
  Ready facts (row ∷ rows) (step ∷ steps) =
      HasFirsts facts row × Ready (filter (λ atom. not (deletes problem step atom)) facts) rows steps

  module _ (shift : ℕ) where
    graft : (made : List OpInst) (facts : List Atom) (row : List Derivation) → HasFirsts facts row → (e d : Derivation) → Contains row d
        → under d ≡ e → (new : Derivation) × IsGraft problem shift made facts e new
    graft made facts row firsts e d has same =
        let parts = zip-there (IsPart problem made facts) (first_leaves (leaves_of e)) (λ leaf inside.
        let first = firsts d has leaf (subst (λ (x : Derivation). Contains (first_leaves (leaves_of x)) leaf) (sym same) inside) in
        let new = sourced-there problem made first.0 in
        (new.0, (first.0, first.1, new.1))) in
        (grafted shift parts.0 e, (parts.0, parts.1, refl))

    graft-row : (made : List OpInst) (facts : List Atom) (row : List Derivation) → HasFirsts facts row
        → (new : List Derivation) × AllZip (IsGraft problem shift made facts) (map under row) new
    graft-row made facts row firsts = zip-there (IsGraft problem shift made facts) (map under row) (λ e has.
        let from = Contains-from_map under row e has in
        graft made facts row firsts e from.0 from.1 from.2)

    pub macro-rows : (rows : List (List Derivation)) (steps made : List OpInst) (facts : List Atom) → Ready facts rows steps
        → (new : List (List Derivation)) × MacroRows problem sigma shift made facts rows steps new
    macro-rows [] [] made facts ready = ([], refl)
    macro-rows (row ∷ rows) [] made facts ready = ([], refl)
    macro-rows [] (step ∷ steps) made facts ready = absurd ready
    macro-rows (row ∷ rows) (step ∷ steps) made facts ready =
        let first = graft-row made facts row ready.0 in
        let rest = macro-rows rows steps (made ++ step ∷ []) (filter (λ atom. not (deletes problem step atom)) facts) ready.1 in
        (first.0 ∷ rest.0, (first.1, rest.1))

-- ---- what a MACROP's steps need

module _ (problem : Problem) (table : Table) (is : IsTable problem table) (prefix : ℕ) (sigma : List ℕ)
    (m : IsMacro problem table prefix sigma) where
  room : 0 + prefix ≤ u32_max
  room = omega (arith, m.within, is.in_range.short)

  firsts-at : (place : ℕ) → place < prefix → (row : List Derivation) → slice_get (rows_of table.proofs) place ≡ Some row
      → (facts : List Atom)
      → IsFindable problem (record { formula = initial_atoms table sigma (suc place); variable_count = 0; facts = facts }) → HasFirsts problem sigma facts row
  firsts-at place early row at facts findable d has leaf inside =
      let graftable = row-graftable problem table is prefix sigma m 0 room place early row at d has in
      each-proof problem facts (initial_atoms table sigma (suc place)) findable leaf.atom
      (All-at (λ (l : Leaf). Contains (initial_atoms table sigma (suc place)) l.atom)
      (first_leaves (leaves_of (derivation_under (map Obj sigma) d))) leaf graftable.given inside)

  pub ready-from : (place : ℕ) (rows : List (List Derivation)) (steps : List OpInst) (facts : List Atom)
      → ((k : ℕ) → slice_get rows k ≡ slice_get (rows_of table.proofs) (place + k)) → length steps ≤ length rows
      → place + length steps ≤ prefix → All (IsFindable problem) (row_obligations problem table sigma facts (suc place) steps)
      → Ready problem sigma facts rows steps
  ready-from place [] [] facts at long within findable = tt
  ready-from place (row ∷ rows) [] facts at long within findable = tt
  ready-from place [] (step ∷ steps) facts at long within findable = absurd (omega (arith, long))
  ready-from place (row ∷ rows) (step ∷ steps) facts at long within findable =
      let same : place ≡ place + 0 = omega arith in
      let here : slice_get (rows_of table.proofs) place ≡ Some row =
      ap (slice_get (rows_of table.proofs)) same ∙ sym (at 0) in
      let left = filter (λ atom. not (deletes problem step atom)) facts in
      let later = row_obligations problem table sigma left (suc (suc place)) steps in
      let head : Obligation = record { formula = initial_atoms table sigma (suc place); variable_count = 0; facts = facts } in (
        firsts-at place (omega (arith, within)) row here facts (All-head (IsFindable problem) head later findable),
        ready-from (suc place) rows steps left
            (λ k.
            let next : place + suc k ≡ suc place + k = omega arith in
            at (suc k) ∙ ap (slice_get (rows_of table.proofs)) next)
            (omega (arith, long)) (omega (arith, within)) (All-tail (IsFindable problem) head later findable),
      )
