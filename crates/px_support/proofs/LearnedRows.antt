-- The rows of a MACROP's table can be put onto proofs: what stands in them, and where their leaves' facts come from.
use Rattle.std.specs.Prelude.{◌≡◌, ◌≤◌, ◌<◌, ◌+◌, ◌==◌, ◌&&◌, true, not, ℕ, Some, List, [], ◌∷◌, length, map, filter, slice_get, All, Contains}
use Rattle.std.proofs.Common.{zero, suc, refl, sym, ap, ◌∙◌, subst, inl, inr, arith}
use Rattle.std.proofs.lemmas.List.{length-map}
use Rattle.std.proofs.lemmas.List.Elements.{Contains-append_left, Contains-append_right}
use Rattle.px_base.specs.Bounds.{u32_max}
use Rattle.px_base.specs.ListLaws.{All-at, All-each, Contains-cases, Contains-filter, Contains-none}
use Rattle.px_terms.specs.declared.atom.Atom.{Atom}
use Rattle.px_terms.specs.declared.instance.OpInst.{OpInst}
use Rattle.px_terms.specs.declared.problem.Problem.{Problem}
use Rattle.px_terms.specs.declared.term.Term.{Term}
use Rattle.px_terms.specs.declared.term.Term.TheVariants.{Obj, Var, Any}
use Rattle.px_terms.specs.Language.{IsVariableBelow}
use Rattle.px_terms.specs.Operators.{precondition}
use Rattle.px_proof.specs.declared.proof.Leaf.{Leaf}
use Rattle.px_proof.specs.Derivation.{Derivation, leaf_atoms, leaves_of, terms_of}
use Rattle.px_proof.specs.Grafting.{first_leaves, later_leaves}
use Rattle.px_proof.specs.Literals.{positive_of}
use Rattle.px_base.specs.Answers.{some_same}
use Rattle.px_proof.specs.PlaceLaws.{Contains-mapped}
use Rattle.px_proof.specs.Proves.{IsObjectOrParameter}
use Rattle.px_proof.specs.ProvesLaws.{terms_from}
use Rattle.px_proof.specs.Substitution.{derivation_under, leaf_under}
use Rattle.px_proof.specs.SubstitutionLaws.{leaves-under}
use Rattle.px_table.specs.declared.mark.Mark.{Mark}
use Rattle.px_table.specs.declared.table.Table.{Table}
use Rattle.px_table.specs.Kernels.{atom_under}
use Rattle.px_table.specs.Marks.{IsNamed, mark_of, row_leaves}
use Rattle.px_table.specs.Prefixes.{IsMacro}
use Rattle.px_table.specs.RowLaws.{leaf_marked}
use Rattle.px_table.specs.Supports.{ProvesEachOf, RowsProve}
use Rattle.px_table.specs.Tables.{IsTable, rows_of}
use Rattle.px_entries.specs.Entries.{initial_atoms}
use Rattle.px_support.specs.Grafted.{IsGraftable}
use Rattle.px_support.proofs.Lists.{each-mapped}

-- ---- rows that prove

module _ (IsTerm : Term → Type 0) (problem : Problem) (params variable_count : ℕ) (goal : List Atom) where
  -- there is a row for each step, and one for the goal
  pub rows-count : (steps : List OpInst) (rows : List (List Derivation)) → RowsProve IsTerm problem params steps goal variable_count rows
      → length rows ≡ suc (length steps)
  rows-count [] [] proves = absurd proves
  rows-count [] (row ∷ []) proves = refl
  rows-count [] (row ∷ second ∷ rows) proves = absurd proves
  rows-count (inst ∷ steps) [] proves = absurd proves
  rows-count (inst ∷ steps) (row ∷ rows) proves = ap suc (rows-count steps rows proves.1)

  -- the row of a step proves what it needs
  row-proves : (steps : List OpInst) (rows : List (List Derivation)) (k : ℕ) (row : List Derivation) → k < length steps
      → slice_get rows k ≡ Some row → RowsProve IsTerm problem params steps goal variable_count rows
      → (inst : OpInst) × ProvesEachOf IsTerm problem.axioms (precondition problem inst) row
  row-proves [] rows k row below at proves = absurd (omega (arith, below))
  row-proves (inst ∷ steps) [] k row below at proves = absurd proves
  row-proves (inst ∷ steps) (first ∷ rows) zero row below at proves =
      (inst, subst (ProvesEachOf IsTerm problem.axioms (precondition problem inst)) (some_same at) proves.0)
  row-proves (inst ∷ steps) (first ∷ rows) (suc k) row below at proves = row-proves steps rows k row (omega (arith, below)) at proves.1

  -- each of its proofs has only such terms
  proofs-terms : (atoms : List Atom) (row : List Derivation) → ProvesEachOf IsTerm problem.axioms atoms row → (d : Derivation)
      → Contains row d → All IsTerm (terms_of d)
  proofs-terms [] [] proves d has = absurd (Contains-none d has)
  proofs-terms [] (e ∷ row) proves d has = absurd proves
  proofs-terms (atom ∷ atoms) [] proves d has = absurd proves
  proofs-terms (atom ∷ atoms) (e ∷ row) proves d has = elim (Contains-cases e row d has) [
    | inl same ↦ subst (λ (x : Derivation). All IsTerm (terms_of x)) same
        (terms_from IsTerm problem.axioms (leaf_atoms (leaves_of e)) [] (positive_of atom) e proves.0.proves)
    | inr later ↦ proofs-terms atoms row proves.1 d later
  ]

  pub row-terms : (steps : List OpInst) (rows : List (List Derivation)) (k : ℕ) (row : List Derivation) → k < length steps
      → slice_get rows k ≡ Some row → RowsProve IsTerm problem params steps goal variable_count rows
      → (d : Derivation) → Contains row d → All IsTerm (terms_of d)
  row-terms steps rows k row below at proves =
      let r = row-proves steps rows k row below at proves in
      proofs-terms (precondition problem r.0) row r.1

leaves-in : (row : List Derivation) (d : Derivation) → Contains row d → (leaf : Leaf) → Contains (leaves_of d) leaf
    → Contains (row_leaves row) leaf
leaves-in [] d has leaf inside = absurd (Contains-none d has)
leaves-in (e ∷ row) d has leaf inside = elim (Contains-cases e row d has) [
  | inl same ↦ Contains-append_left (leaves_of e) (row_leaves row) leaf
      (subst (λ (x : Derivation). Contains (leaves_of x) leaf) (sym same) inside)
  | inr later ↦ Contains-append_right (leaves_of e) (row_leaves row) leaf (leaves-in row d later leaf inside)
]

-- ---- the rows of a MACROP

name-variable : (objects params : ℕ) (t : Term) → IsObjectOrParameter objects params t → IsVariableBelow params t
name-variable objects params (Obj n) h = tt
name-variable objects params (Var v) h = h
name-variable objects params Any h = absurd h

is-here : (mark : Mark) (row : ℕ) → mark.row ≡ row → (mark.column == 0) ≡ true → ((mark.row == row) && (mark.column == 0)) ≡ true
is-here mark row same first = grind (arith, same, first)

module _ (problem : Problem) (table : Table) (is : IsTable problem table) (prefix : ℕ) (sigma : List ℕ)
    (m : IsMacro problem table prefix sigma) (shift : ℕ) (room : shift + prefix ≤ u32_max)
    (place : ℕ) (early : place < prefix) (row : List Derivation) (at : slice_get (rows_of table.proofs) place ≡ Some row) (d : Derivation)
    (has : Contains row d) where
  marked : (leaf : Leaf) → Contains (leaves_of d) leaf → Contains table.marks (mark_of (suc place) leaf)
  marked leaf inside =
      subst (λ (marks : List Mark). Contains marks (mark_of (suc place) leaf)) (sym is.marks)
      (leaf_marked 1 place (suc place) (rows_of table.proofs) row leaf (omega arith) at (leaves-in row d has leaf inside))

  variables : All (IsVariableBelow (length (map Obj sigma))) (terms_of d)
  variables =
      All-each (IsVariableBelow (length (map Obj sigma))) (terms_of d) (λ t inside.
      subst (λ (n : ℕ). IsVariableBelow n t) (sym (length-map sigma Obj ∙ m.count))
      (name-variable problem.objects table.params t
      (All-at (IsObjectOrParameter problem.objects table.params) (terms_of d) t
      (row-terms (IsObjectOrParameter problem.objects table.params) problem table.params table.goal_variable_count table.goal table.steps
      (rows_of table.proofs) place row (omega (arith, early, m.within)) at is.prove d has) inside)))

  initial : (leaf : Leaf) → Contains (leaves_of d) leaf → (leaf.column == 0) ≡ true
      → Contains (initial_atoms table sigma (suc place)) (atom_under sigma leaf.atom)
  initial leaf inside first =
      let IsHere = λ (mark : Mark). (mark.row == suc place) && (mark.column == 0) in
      Contains-mapped (λ (mark : Mark). atom_under sigma mark.atom) (filter IsHere table.marks) (mark_of (suc place) leaf)
      ((Contains-filter IsHere table.marks (mark_of (suc place) leaf)).1
      (marked leaf inside, is-here (mark_of (suc place) leaf) (suc place) refl first))

  each-leaf : (P : Leaf → Type 0) → ((leaf : Leaf) → Contains (leaves_of d) leaf → P (leaf_under (map Obj sigma) leaf)) → (leaf : Leaf)
      → Contains (leaves_of (derivation_under (map Obj sigma) d)) leaf → P leaf
  each-leaf P each leaf inside =
      each-mapped P (leaf_under (map Obj sigma)) (leaves_of d) each leaf
      (subst (λ (ls : List Leaf). Contains ls leaf) (leaves-under (map Obj sigma) d) inside)

  column-early : (leaf : Leaf) → Contains (leaves_of d) leaf → leaf.column + shift ≤ u32_max
  column-early leaf inside =
      let named = All-at (IsNamed problem table.steps) table.marks (mark_of (suc place) leaf) is.named (marked leaf inside) in
      omega (arith, named.earlier, early, room)

  pub row-graftable : IsGraftable (initial_atoms table sigma (suc place)) (map Obj sigma) shift d
  row-graftable = record {
    variables = variables;
    given =
        All-each (λ (leaf : Leaf). Contains (initial_atoms table sigma (suc place)) leaf.atom)
        (first_leaves (leaves_of (derivation_under (map Obj sigma) d))) (λ leaf inside.
        let both = (Contains-filter (λ (l : Leaf). l.column == 0) (leaves_of (derivation_under (map Obj sigma) d)) leaf).0 inside in
        each-leaf (λ (l : Leaf). (l.column == 0) ≡ true → Contains (initial_atoms table sigma (suc place)) l.atom) initial leaf both.0
        both.1);
    columns =
        All-each (λ (leaf : Leaf). leaf.column + shift ≤ u32_max) (later_leaves (leaves_of (derivation_under (map Obj sigma) d)))
        (λ leaf inside.
        let both = (Contains-filter (λ (l : Leaf). not (l.column == 0)) (leaves_of (derivation_under (map Obj sigma) d)) leaf).0 inside in
        each-leaf (λ (l : Leaf). l.column + shift ≤ u32_max) column-early leaf both.0);
  }
