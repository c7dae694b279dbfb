-- The pairs of a replay have no other variables than its literals and its proofs.
use Rattle.std.specs.Prelude.{ℕ, List, [], ◌∷◌, length, flat_map, remove, slice_index_or, All}
use Rattle.std.proofs.Common.{zero, suc, sym, subst}
use Rattle.std.proofs.lemmas.List.Elements.{All-nil, All-cons, All-head, All-tail, All-append, All-map}
use Rattle.px_terms.specs.Clauses.{ArePlainBelow, IsArena, IsClause}
use Rattle.px_terms.specs.declared.atom.Atom.{Atom}
use Rattle.px_terms.specs.declared.clause.Clause.{Clause}
use Rattle.px_terms.specs.declared.clause.Lit.{Lit}
use Rattle.px_terms.specs.declared.instance.OpInst.{OpInst}
use Rattle.px_terms.specs.declared.problem.Problem.{Problem}
use Rattle.px_terms.specs.declared.term.Term.{Term}
use Rattle.px_terms.specs.Language.{IsPlainBelow}
use Rattle.px_terms.specs.Operators.{precondition}
use Rattle.px_proof.specs.Derivation.{Derivation, Derivations, fact, ancestor, step, gap, open_place, none, also, terms_of, all_terms_of}
use Rattle.px_proof.specs.Literals.{complement_of, positive_of, substitute_literal}
use Rattle.px_proof.specs.PlaceLaws.{All-back, All-prefix, All-got}
use Rattle.px_proof.specs.Proves.{instance_of, parts_of}
use Rattle.px_replay.specs.Opened.{row_pairs, rows_pairs}
use Rattle.px_replay.specs.Replay.{HasForm, HaveForms, all_pairs_of, atom_at, pairs_of}
use Rattle.px_replay.specs.Replaying.{ArePlainAtoms, PlanForms, RowForms}
use Rattle.px_replay.proofs.Replaying.{atom_at-is, literals_at-is}
use Rattle.px_replay.proofs.ReplaySteps.{args_below}

-- both atoms have no wild card, and variables below the limit alone
abbrev pub IsPlainPair : ℕ → Atom × Atom → Type 0
IsPlainPair n pair = All (IsPlainBelow n) pair.0.args × All (IsPlainBelow n) pair.1.args

All-remove : {X : Type 0} (P : X → Type 0) (xs : List X) (place : ℕ) → All P xs → All P (remove xs place)
All-remove P [] zero all = all
All-remove P [] (suc place) all = all
All-remove P (x ∷ xs) zero all = All-tail P x xs all
All-remove P (x ∷ xs) (suc place) all =
    All-cons P x (remove xs place) (All-head P x xs all) (All-remove P xs place (All-tail P x xs all))

module _ (n : ℕ) (axioms : List Clause) (arena : IsArena axioms) where
  abbrev IsPlainLiteral : Lit → Type 0
  IsPlainLiteral lit = All (IsPlainBelow n) lit.atom.args

  -- the literals of a clause under terms
  instance-plain : (theta : List Term) (lits : List Lit) → All (IsPlainBelow n) theta → ArePlainBelow (length theta) lits
      → All IsPlainLiteral (instance_of lits theta)
  instance-plain theta lits below plain =
      All-map IsPlainLiteral (substitute_literal theta) lits
      (λ k d inside. args_below n theta below (slice_index_or lits k d).atom (plain k d inside))

  parts-plain : (theta : List Term) (lits : List Lit) (place : ℕ) → All (IsPlainBelow n) theta → ArePlainBelow (length theta) lits
      → All IsPlainLiteral (parts_of lits theta place)
  parts-plain theta lits place below plain =
      All-map IsPlainLiteral complement_of (remove (instance_of lits theta) place)
      (All-remove IsPlainLiteral (instance_of lits theta) place (instance-plain theta lits below plain))

  mutual
    pairs-plain : (path : List Lit) (lit : Lit) (d : Derivation) → HasForm axioms path lit d → ArePlainBelow n path → IsPlainLiteral lit
        → All (IsPlainBelow n) (terms_of d) → All (IsPlainPair n) (pairs_of axioms path lit d)
    pairs-plain path lit (fact leaf) form above here below =
        All-cons (IsPlainPair n) (lit.atom, leaf.atom) [] (here, below) (All-nil (IsPlainPair n))
    pairs-plain path lit (ancestor i) form above here below =
        let found : All (IsPlainBelow n) (atom_at path i).args =
        subst (λ (a : Atom). All (IsPlainBelow n) a.args) (sym (atom_at-is path i form.0 form.1))
        (All-got IsPlainLiteral path i form.0 above form.1) in
        All-cons (IsPlainPair n) (lit.atom, atom_at path i) [] (here, found) (All-nil (IsPlainPair n))
    pairs-plain path lit (step number theta place parts) form above here below =
        let clause = form.0 in
        let terms_below = All-prefix (IsPlainBelow n) theta (all_terms_of parts) below in
        let plain : ArePlainBelow (length theta) clause.lits =
        subst (λ (k : ℕ). ArePlainBelow k clause.lits) (sym form.2) (All-got IsClause axioms number clause arena.each form.1).plain in
        let head : All (IsPlainBelow n) (atom_at (instance_of clause.lits theta) place).args =
        subst (λ (a : Atom). All (IsPlainBelow n) a.args) (sym (atom_at-is (instance_of clause.lits theta) place form.3.0 form.3.1))
        (All-got IsPlainLiteral (instance_of clause.lits theta) place form.3.0 (instance-plain theta clause.lits terms_below plain)
        form.3.1) in
        let rest =
        all-pairs-plain (lit ∷ path) (parts_of clause.lits theta place) parts form.4 (All-cons IsPlainLiteral lit path here above)
        (parts-plain theta clause.lits place terms_below plain) (All-back (IsPlainBelow n) theta (all_terms_of parts) below) in
        subst (λ (ls : List Lit). All (IsPlainPair n) ((lit.atom, atom_at (instance_of ls theta) place)
        ∷ all_pairs_of axioms (lit ∷ path) (parts_of ls theta place) parts)) (sym (literals_at-is axioms number clause form.1))
        (All-cons (IsPlainPair n) _ _ (here, head) rest)
    pairs-plain path lit (gap atom) form above here below = absurd form
    pairs-plain path lit open_place form above here below = absurd form

    all-pairs-plain : (path lits : List Lit) (ds : Derivations) → HaveForms axioms path lits ds → ArePlainBelow n path
        → All IsPlainLiteral lits → All (IsPlainBelow n) (all_terms_of ds) → All (IsPlainPair n) (all_pairs_of axioms path lits ds)
    all-pairs-plain path [] none forms above here below = All-nil (IsPlainPair n)
    all-pairs-plain path [] (also d ds) forms above here below = absurd forms
    all-pairs-plain path (lit ∷ lits) none forms above here below = absurd forms
    all-pairs-plain path (lit ∷ lits) (also d ds) forms above here below =
        All-append (IsPlainPair n) (pairs_of axioms path lit d) (all_pairs_of axioms path lits ds)
        (pairs-plain path lit d forms.0 above (All-head IsPlainLiteral lit lits here)
        (All-prefix (IsPlainBelow n) (terms_of d) (all_terms_of ds) below))
        (all-pairs-plain path lits ds forms.1 above (All-tail IsPlainLiteral lit lits here)
        (All-back (IsPlainBelow n) (terms_of d) (all_terms_of ds) below))

  row-plain : (atoms : List Atom) (row : List Derivation) → RowForms axioms atoms row → ArePlainAtoms n atoms
      → All (IsPlainBelow n) (flat_map terms_of row) → All (IsPlainPair n) (row_pairs axioms atoms row)
  row-plain [] [] forms here below = All-nil (IsPlainPair n)
  row-plain [] (d ∷ row) forms here below = absurd forms
  row-plain (atom ∷ atoms) [] forms here below = absurd forms
  row-plain (atom ∷ atoms) (d ∷ row) forms here below =
      All-append (IsPlainPair n) (pairs_of axioms [] (positive_of atom) d) (row_pairs axioms atoms row)
      (pairs-plain [] (positive_of atom) d forms.0 (All-nil IsPlainLiteral)
      (All-head (λ (a : Atom). All (IsPlainBelow n) a.args) atom atoms here)
      (All-prefix (IsPlainBelow n) (terms_of d) (flat_map terms_of row) below))
      (row-plain atoms row forms.1 (All-tail (λ (a : Atom). All (IsPlainBelow n) a.args) atom atoms here)
      (All-back (IsPlainBelow n) (terms_of d) (flat_map terms_of row) below))

pub rows-plain : (n : ℕ) (problem : Problem) (arena : IsArena problem.axioms) (steps : List OpInst) (goal : List Atom)
    (rows : List (List Derivation)) → PlanForms problem steps goal rows → All (λ inst. ArePlainAtoms n (precondition problem inst)) steps
    → ArePlainAtoms n goal → All (IsPlainBelow n) (flat_map (flat_map terms_of) rows)
    → All (IsPlainPair n) (rows_pairs problem steps goal rows)
rows-plain n problem arena [] goal [] forms needs goal_below below = absurd forms
rows-plain n problem arena [] goal (row ∷ []) forms needs goal_below below =
    row-plain n problem.axioms arena goal row forms goal_below
    (All-prefix (IsPlainBelow n) (flat_map terms_of row) [] below)
rows-plain n problem arena [] goal (row ∷ second ∷ rows) forms needs goal_below below = absurd forms
rows-plain n problem arena (inst ∷ steps) goal [] forms needs goal_below below = absurd forms
rows-plain n problem arena (inst ∷ steps) goal (row ∷ rows) forms needs goal_below below =
    let Needs : OpInst → Type 0 = λ (o : OpInst). ArePlainAtoms n (precondition problem o) in
    All-append (IsPlainPair n) (row_pairs problem.axioms (precondition problem inst) row) (rows_pairs problem steps goal rows)
    (row-plain n problem.axioms arena (precondition problem inst) row forms.0 (All-head Needs inst steps needs)
    (All-prefix (IsPlainBelow n) (flat_map terms_of row) (flat_map (flat_map terms_of) rows) below))
    (rows-plain n problem arena steps goal rows forms.1 (All-tail Needs inst steps needs) goal_below
    (All-back (IsPlainBelow n) (flat_map terms_of row) (flat_map (flat_map terms_of) rows) below))
