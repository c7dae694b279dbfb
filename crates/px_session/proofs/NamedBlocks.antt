-- Each number that a table's block prints as a name has one.
use Rattle.std.specs.Prelude.{ℕ, ◌+◌, List, [], ◌∷◌, ◌++◌, map, All, Contains}
use Rattle.std.proofs.Common.{suc, sym, subst}
use Rattle.std.proofs.lemmas.List.Elements.{All-cons, All-nil, Contains-append_left, Contains-append_right}
use Rattle.px_base.specs.ListLaws.{All-at, All-each, Contains-first}
use Rattle.px_names.specs.Lists.{NameLists}
use Rattle.px_terms.specs.declared.atom.Atom.{Atom}
use Rattle.px_terms.specs.declared.clause.Lit.{Lit}
use Rattle.px_terms.specs.declared.instance.OpInst.{OpInst}
use Rattle.px_terms.specs.declared.problem.Problem.{Problem}
use Rattle.px_terms.specs.declared.term.Term.{Term}
use Rattle.px_terms.specs.declared.term.Term.TheVariants.{Obj, Var, Any}
use Rattle.px_terms.specs.Operators.{precondition}
use Rattle.px_terms.specs.Substitution.{substitute_atom}
use Rattle.px_terms.specs.Validity.{IsAtomOf, IsTermOf}
use Rattle.px_proof.specs.declared.proof.Leaf.{Leaf}
use Rattle.px_proof.specs.declared.proof.Proof.{Proof}
use Rattle.px_proof.specs.Derivation.{Derivation, Derivations, fact, ancestor, step, gap, open_place, none, also, all_leaves_of, derivations, leaf_atoms, leaves_of}
use Rattle.px_proof.specs.Literals.{positive_of}
use Rattle.px_proof.specs.ProofTerm.{derivation_of}
use Rattle.px_proof.specs.Proves.{IsObjectOrParameter, Proves, ProvesEach, from_atoms, parts_of}
use Rattle.px_table.specs.declared.mark.Mark.{Mark}
use Rattle.px_table.specs.declared.table.Table.{Table}
use Rattle.px_table.specs.Marks.{mark_of, marks_from, row_leaves, row_marks}
use Rattle.px_table.specs.RowLaws.{first_row}
use Rattle.px_table.specs.Supports.{ProvesEachOf, RowsProve, variables}
use Rattle.px_table.specs.Tables.{IsTable, rows_of}
use Rattle.px_printer.specs.Blocks.{AreNamedProofs, IsNamedBlock, IsNamedProof}
use Rattle.px_printer.specs.Texts.{IsNamedAtom, IsNamedTerm}
use Rattle.px_session.specs.Named.{AreNamesOfProblem}
use Rattle.px_session.proofs.NamedTerms.{named-atom, named-atoms, named-steps, named-term}

module _ (problem : Problem) (names : NameLists) (all : AreNamesOfProblem problem names) (params : ℕ) where
  abbrev Is : Term → Type 0
  Is = IsObjectOrParameter problem.objects params

  own-term : (t : Term) → Is t → IsTermOf problem params t
  own-term (Obj n) is = is
  own-term (Var v) is = is
  own-term Any is = elim is [ ]

  named-choices : (terms : List Term) → All Is terms → All (IsNamedTerm names) terms
  named-choices terms are =
      All-each (IsNamedTerm names) terms (λ t has. named-term problem names all params t (own-term t (All-at Is terms t are has)))

  -- the atoms of these leaves have their names
  abbrev Named : List Leaf → Type 0
  Named leaves = (leaf : Leaf) → Contains leaves leaf → IsNamedAtom names leaf.atom

  mutual
    named-proof : (atoms : List Atom) (path : List Lit) (lit : Lit) (d : Derivation)
        → Proves (from_atoms Is atoms) problem.axioms path lit d → Named (leaves_of d) → IsNamedProof names d
    named-proof atoms path lit (fact leaf) proves named = named leaf (Contains-first leaf [])
    named-proof atoms path lit (ancestor i) proves named = tt
    named-proof atoms path lit (step number theta place parts) proves named = (
      named-choices theta proves.1.choices,
      named-proofs atoms (lit ∷ path) (parts_of proves.0.lits theta place) parts proves.2 named,
    )
    named-proof atoms path lit (gap atom) proves named = tt
    named-proof atoms path lit open_place proves named = tt

    named-proofs : (atoms : List Atom) (path lits : List Lit) (ds : Derivations)
        → ProvesEach (from_atoms Is atoms) problem.axioms path lits ds → Named (all_leaves_of ds) → AreNamedProofs names ds
    named-proofs atoms path [] none proves named = tt
    named-proofs atoms path [] (also d ds) proves named = absurd proves
    named-proofs atoms path (lit ∷ lits) none proves named = absurd proves
    named-proofs atoms path (lit ∷ lits) (also d ds) proves named = (
      named-proof atoms path lit d proves.0 (λ leaf has. named leaf (Contains-append_left (leaves_of d) (all_leaves_of ds) leaf has)),
      named-proofs atoms path lits ds proves.1 (λ leaf has. named leaf (Contains-append_right (leaves_of d) (all_leaves_of ds) leaf has)),
    )

  named-row : (atoms : List Atom) (row : List Derivation) → ProvesEachOf Is problem.axioms atoms row → Named (row_leaves row)
      → AreNamedProofs names (derivations row)
  named-row [] [] proves named = tt
  named-row [] (d ∷ row) proves named = absurd proves
  named-row (atom ∷ atoms) [] proves named = absurd proves
  named-row (atom ∷ atoms) (d ∷ row) proves named = (
    named-proof (leaf_atoms (leaves_of d)) [] (positive_of atom) d proves.0.proves
        (λ leaf has. named leaf (Contains-append_left (leaves_of d) (row_leaves row) leaf has)),
    named-row atoms row proves.1 (λ leaf has. named leaf (Contains-append_right (leaves_of d) (row_leaves row) leaf has)),
  )

  -- the atoms of these marks have their names
  abbrev Marked : List Mark → Type 0
  Marked marks = (mark : Mark) → Contains marks mark → IsNamedAtom names mark.atom

  in-row : (first : ℕ) (row : List Derivation) (rows : List (List Derivation)) → Marked (marks_from first (row ∷ rows)) → Named (row_leaves row)
  in-row first row rows marked leaf has = marked (mark_of first leaf) (first_row first row rows leaf has)

  abbrev IsNamedRow : List Proof → Type 0
  IsNamedRow row = AreNamedProofs names (derivations (map derivation_of row))

  named-rows : (first : ℕ) (steps : List OpInst) (goal : List Atom) (goal_variable_count : ℕ) (rows : List (List Proof))
      → RowsProve Is problem params steps goal goal_variable_count (rows_of rows) → Marked (marks_from first (rows_of rows)) → All IsNamedRow rows
  named-rows first [] goal goal_variable_count [] proves marked = absurd proves
  named-rows first [] goal goal_variable_count (row ∷ []) proves marked =
      All-cons IsNamedRow row []
      (named-row (map (substitute_atom (variables params ++ proves.0)) goal) (map derivation_of row) proves.2
      (in-row first (map derivation_of row) [] marked)) (All-nil IsNamedRow)
  named-rows first [] goal goal_variable_count (row ∷ second ∷ rows) proves marked = absurd proves
  named-rows first (inst ∷ steps) goal goal_variable_count [] proves marked = absurd proves
  named-rows first (inst ∷ steps) goal goal_variable_count (row ∷ rows) proves marked =
      All-cons IsNamedRow row rows
      (named-row (precondition problem inst) (map derivation_of row) proves.0 (in-row first (map derivation_of row) (rows_of rows) marked))
      (named-rows (suc first) steps goal goal_variable_count rows proves.1
      (λ mark has. marked mark (Contains-append_right (row_marks first (map derivation_of row)) (marks_from (suc first) (rows_of rows)) mark has)))

pub named-block : (problem : Problem) (names : NameLists) → AreNamesOfProblem problem names → (table : Table) → IsTable problem table
    → IsNamedBlock names table
named-block problem names all table is = record {
  steps = named-steps problem names all table.params table.steps is.in_range.steps;
  goal = named-atoms problem names all (table.params + table.goal_variable_count) table.goal is.in_range.goal;
  rows = named-rows problem names all table.params 1 table.steps table.goal table.goal_variable_count table.proofs is.prove
      (λ mark has. named-atom problem names all table.params mark.atom
      (All-at (λ (m : Mark). IsAtomOf problem table.params m.atom) table.marks mark is.atoms
      (subst (λ (marks : List Mark). Contains marks mark) (sym is.marks) has)));
}
