-- What the rows of a table's first steps lack, summed row after row.
use Rattle.std.proofs.Common.{◌≡◌, ◌+◌, ◌<◌, ◌≤◌, ℕ, suc, List, [], ◌∷◌, length, take, drop, get_or, sym, ap, ◌∙◌, arith}
use Rattle.std.specs.List.{sum_by}
use Rattle.std.specs.Prelude.{not, filter}
use Rattle.std.proofs.Math.Seq.{drop-cons}
use Rattle.std.proofs.lemmas.List.{drop_all}
use Rattle.std.proofs.lemmas.List.Sums.{sum_by-cons}
use Rattle.px_terms.specs.Operators.{deletes}
use Rattle.px_terms.specs.declared.atom.Atom.{Atom}
use Rattle.px_terms.specs.declared.instance.OpInst.{OpInst}
use Rattle.px_terms.specs.declared.problem.Problem.{Problem}
use Rattle.px_table.specs.declared.table.Table.{Table}
use Rattle.px_ends.specs.Lacks.{lacks_of}
use Rattle.px_entries.specs.Entries.{initial_atoms, row_needs}
use Rattle.px_entries.proofs.RowTurns.{in_turn, row_obligations}
use Rattle.px_gaps.specs.declared.question.Obligation.{Obligation}

module _ (problem : Problem) (table : Table) (sigma : List ℕ) (steps : List OpInst) (model : List Atom) where
  -- what all rows lack
  abbrev pub whole : ℕ
  whole = sum_by lacks_of (row_needs problem table sigma model steps)

  abbrev rest_from : ℕ → List Atom → ℕ
  rest_from place facts = sum_by lacks_of (row_obligations problem table sigma facts (suc place) (drop place steps))

  -- the first rows are counted, and the rest is what the steps after them lack in these facts
  pub record AreCounted (place : ℕ) (facts : List Atom) (count : ℕ) : Type 0 where
    pub sum : whole ≡ count + rest_from place facts

  pub none-counted : (facts : List Atom) → facts ≡ model → AreCounted 0 facts 0
  none-counted facts same =
      let all : whole ≡ rest_from 0 facts = rw same (ap (sum_by lacks_of) (in_turn problem table sigma model steps)) in
      record { sum = omega (arith, all) }

  -- one more row
  pub next-counted : (place : ℕ) (facts left formula : List Atom) (count row sum next : ℕ) (step : OpInst)
      → place < length steps → step ≡ get_or steps place step → AreCounted place facts count
      → row ≡ lacks_of (record { formula = formula; variable_count = 0; facts = facts }) → formula ≡ initial_atoms table sigma (suc place)
      → sum ≡ count + row → left ≡ filter (λ atom. not (deletes problem step atom)) facts → next ≡ suc place
      → AreCounted next left sum
  next-counted place facts left formula count row sum next step below is before row_is formula_is sum_is left_is next_is =
      let here : Obligation = record { formula = initial_atoms table sigma (suc place); variable_count = 0; facts = facts } in
      let others : List Obligation =
      row_obligations problem table sigma (filter (λ atom. not (deletes problem step atom)) facts) (suc (suc place))
      (drop (suc place) steps) in
      let parts : rest_from place facts ≡ lacks_of here + sum_by lacks_of others =
      ap (λ (l : List OpInst). sum_by lacks_of (row_obligations problem table sigma facts (suc place) l))
      (drop-cons steps place step below ∙ ap (λ (s : OpInst). s ∷ drop (suc place) steps) (sym is))
      ∙ sum_by-cons lacks_of here others in
      let row_here : row ≡ lacks_of here =
      row_is ∙ ap (λ (l : List Atom). lacks_of (record { formula = l; variable_count = 0; facts = facts })) formula_is in
      rw (left_is, next_is) (record { sum = omega (arith, before.sum, parts, row_here, sum_is) })

  -- all rows
  pub all-counted : (place : ℕ) (facts : List Atom) (count : ℕ) → length steps ≤ place → AreCounted place facts count → count ≡ whole
  all-counted place facts count end are =
      let none : rest_from place facts ≡ 0 =
      ap (λ (l : List OpInst). sum_by lacks_of (row_obligations problem table sigma facts (suc place) l)) (drop_all place steps end) in
      omega (arith, are.sum, none)
