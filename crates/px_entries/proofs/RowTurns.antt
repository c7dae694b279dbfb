-- What the first steps of a table need, row after row: each row from what is left of the facts of the row before it.
use Rattle.std.proofs.Common.{◌≡◌, ◌+◌, ◌-◌, ◌++◌, ◌||◌, Bool, true, false, ℕ, suc, List, [], ◌∷◌, length, take, refl, sym, ap, ◌∙◌, arith, append_assoc, length-append, Some, slice_get}
use Rattle.std.specs.List.{list_any, range_with_len}
use Rattle.std.specs.Prelude.{filter, map, not, unwrap_or}
use Rattle.std.proofs.Math.Seq.{take-append_seam}
use Rattle.std.proofs.lemmas.List.Folds.{list_any-append}
use Rattle.px_table.specs.declared.table.Table.{Table}
use Rattle.px_table.specs.Tables.{empty_table}
use Rattle.px_terms.specs.Operators.{deletes}
use Rattle.px_terms.specs.declared.atom.Atom.{Atom}
use Rattle.px_terms.specs.declared.instance.OpInst.{OpInst}
use Rattle.px_terms.specs.declared.problem.Problem.{Problem}
use Rattle.px_entries.specs.Entries.{initial_atoms, left_after, row_needs, table_at}
use Rattle.px_gaps.specs.declared.question.Obligation.{Obligation}

-- from a row on, with the facts that are left there: the row's atoms from these facts, and the rest from what its step leaves
abbrev pub row_obligations : Problem → Table → List ℕ → List Atom → ℕ → List OpInst → List Obligation
row_obligations problem table sigma facts row [] = []
row_obligations problem table sigma facts row (step ∷ steps) =
    record { formula = initial_atoms table sigma row; variable_count = 0; facts = facts }
    ∷ row_obligations problem table sigma (filter (λ atom. not (deletes problem step atom)) facts) (suc row) steps

-- a filter by one test and then by another
filter-both : {X : Type 0} (f g h : X → Bool) → ((x : X) → h x ≡ (f x || g x)) → (xs : List X)
    → filter (λ x. not (h x)) xs ≡ filter (λ x. not (g x)) (filter (λ x. not (f x)) xs)
filter-both f g h is [] = refl
filter-both f g h is (x ∷ xs) = by (f x) (g x) refl refl (filter-both f g h is xs) where
  by : (a b : Bool) → f x ≡ a → g x ≡ b → filter (λ y. not (h y)) xs ≡ filter (λ y. not (g y)) (filter (λ y. not (f y)) xs)
      → filter (λ y. not (h y)) (x ∷ xs) ≡ filter (λ y. not (g y)) (filter (λ y. not (f y)) (x ∷ xs))
  by true b fx gx rest = rw (is x, fx) rest
  by false true fx gx rest = rw (is x, fx, gx) rest
  by false false fx gx rest = rw (is x, fx, gx) (ap (λ l. x ∷ l) rest)

module _ (problem : Problem) (table : Table) (sigma : List ℕ) (model : List Atom) where
  -- what one more step leaves
  left_after-next : (steps : List OpInst) (step : OpInst)
      → left_after problem (steps ++ step ∷ []) model ≡ filter (λ atom. not (deletes problem step atom)) (left_after problem steps model)
  left_after-next steps step = filter-both
      (λ (atom : Atom). list_any (λ (s : OpInst). deletes problem s atom) steps)
      (λ (atom : Atom). deletes problem step atom)
      (λ (atom : Atom). list_any (λ (s : OpInst). deletes problem s atom) (steps ++ step ∷ []))
      (λ atom. list_any-append (λ (s : OpInst). deletes problem s atom) steps (step ∷ [])
      ∙ ap (λ b. list_any (λ (s : OpInst). deletes problem s atom) steps || b) (or-false (deletes problem step atom)))
      model
    where
      or-false : (b : Bool) → (b || false) ≡ b
      or-false true = refl
      or-false false = refl

  abbrev needed : List OpInst → ℕ → Obligation
  needed steps row = record { formula = initial_atoms table sigma row; variable_count = 0; facts = left_after problem (take (row - 1) steps) model }

  -- the rows after some first steps
  rows-after : (first rest all : List OpInst) (row : ℕ) → first ++ rest ≡ all → row ≡ suc (length first)
      → map (needed all) (range_with_len row (length rest)) ≡ row_obligations problem table sigma (left_after problem first model) row rest
  rows-after first [] all row is at = refl
  rows-after first (step ∷ rest) all row is at =
      let count : row - 1 ≡ length first = omega (arith, at) in
      let before : take (row - 1) all ≡ first =
      ap (λ n. take n all) count ∙ ap (take (length first)) (sym is) ∙ take-append_seam first (step ∷ rest) in
      let here : needed all row ≡ record { formula = initial_atoms table sigma row; variable_count = 0; facts = left_after problem first model } =
      ap (λ (l : List OpInst). record { formula = initial_atoms table sigma row; variable_count = 0; facts = left_after problem l model }) before in
      let later =
      rows-after (first ++ step ∷ []) rest all (suc row) (append_assoc first (step ∷ []) rest ∙ is)
      (omega (arith, at, length-append first (step ∷ []))) in
      let number : row + 1 ≡ suc row = omega arith in
      ap (λ (n : ℕ). needed all row ∷ map (needed all) (range_with_len n (length rest))) number
      ∙ ap (λ (o : Obligation). o ∷ map (needed all) (range_with_len (suc row) (length rest))) here
      ∙ ap (λ (l : List Obligation). record { formula = initial_atoms table sigma row; variable_count = 0; facts = left_after problem first model }
      ∷ l)
      (later ∙ ap (λ (facts : List Atom). row_obligations problem table sigma facts (suc row) rest) (left_after-next first step))

  -- nothing is deleted by no step
  left_after-none : left_after problem [] model ≡ model
  left_after-none = all model where
    all : (atoms : List Atom) → left_after problem [] atoms ≡ atoms
    all [] = refl
    all (atom ∷ atoms) = ap (λ l. atom ∷ l) (all atoms)

  -- what a MACROP's steps need, row after row
  pub in_turn : (steps : List OpInst) → row_needs problem table sigma model steps ≡ row_obligations problem table sigma model 1 steps
  in_turn steps =
      rows-after [] steps steps 1 refl refl ∙ ap (λ (facts : List Atom). row_obligations problem table sigma facts 1 steps) left_after-none

pub table_is : (tables : List Table) (number : ℕ) (table : Table) → slice_get tables number ≡ Some table → table_at tables number ≡ table
table_is tables number table at =
    ap (λ o. unwrap_or o empty_table) at
