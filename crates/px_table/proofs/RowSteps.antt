-- Steps over the rows of a table and over the proofs of a row.
use Rattle.std.proofs.Common.{◌≡◌, ◌↔◌, ℕ, zero, suc, ◌+◌, ◌<◌, List, [], ◌∷◌, length, map, drop, get_or, slice_get, refl, sym, ap, ◌∙◌, subst, arith, add-one, Some}
use Rattle.std.proofs.lemmas.List.{get_or-map, length-map}
use Rattle.std.proofs.lemmas.Option.{get_or_from_slice_get}
use Rattle.px_terms.specs.declared.atom.Atom.{Atom}
use Rattle.px_terms.specs.declared.clause.Clause.{Clause}
use Rattle.px_terms.specs.declared.instance.OpInst.{OpInst}
use Rattle.px_terms.specs.declared.problem.Problem.{Problem}
use Rattle.px_terms.specs.declared.term.Term.{Term}
use Rattle.px_terms.specs.Operators.{precondition}
use Rattle.px_proof.specs.declared.proof.Proof.{Proof}
use Rattle.px_proof.specs.Derivation.{Derivation}
use Rattle.px_proof.specs.PlaceLaws.{slice_get-within}
use Rattle.px_proof.specs.ProofTerm.{derivation_of}
use Rattle.px_table.specs.Supports.{IsProofOf, ProvesEachOf, ProvesGoal, RowsProve}
use Rattle.px_table.specs.Tables.{rows_of}
use Rattle.px_table.proofs.Loops.{zip_from, zip_onto}

module _ (IsTerm : Term → Type 0) (axioms : List Clause) where
  -- the proofs from one on are that one and those after it
  pub row_step : (atoms : List Atom) (row : List Proof) (k : ℕ) (atom : Atom) (proof : Proof) → slice_get atoms k ≡ Some atom
      → proof ≡ get_or row k proof → k < length row
      → ProvesEachOf IsTerm axioms (drop k atoms) (drop k (map derivation_of row))
      ↔ (IsProofOf IsTerm axioms atom (derivation_of proof)
      × ProvesEachOf IsTerm axioms (drop (k + 1) atoms) (drop (k + 1) (map derivation_of row)))
  row_step atoms row k atom proof at is below =
      let within = slice_get-within atoms k atom at in
      let within' : k < length (map derivation_of row) = omega (arith, below, length-map row derivation_of) in
      let same_atom : get_or atoms k atom ≡ atom = get_or_from_slice_get atoms k atom atom at in
      let same_proof : get_or (map derivation_of row) k (derivation_of proof) ≡ derivation_of proof =
      get_or-map derivation_of row k proof (derivation_of proof) below ∙ ap derivation_of (sym is) in
      rw (add-one k) (
        λ h.
            let split = zip_from (IsProofOf IsTerm axioms) atoms (map derivation_of row) k atom (derivation_of proof) within within' h in (
              subst (λ a. IsProofOf IsTerm axioms a (derivation_of proof)) same_atom
                  (subst (IsProofOf IsTerm axioms (get_or atoms k atom)) same_proof split.0),
              split.1,
            ),
        λ h.
            zip_onto (IsProofOf IsTerm axioms) atoms (map derivation_of row) k atom (derivation_of proof) within within'
            (subst (IsProofOf IsTerm axioms (get_or atoms k atom)) (sym same_proof)
            (subst (λ a. IsProofOf IsTerm axioms a (derivation_of proof)) (sym same_atom) h.0)) h.1,
      )

module _ (IsTerm : Term → Type 0) (problem : Problem) (params : ℕ) (goal : List Atom) (goal_variable_count : ℕ) where
  -- there is a row for each step, and one for the goal
  pub rows_length : (steps : List OpInst) (rows : List (List Derivation)) → RowsProve IsTerm problem params steps goal goal_variable_count rows
      → length rows ≡ suc (length steps)
  rows_length [] [] h = absurd h
  rows_length [] (row ∷ []) h = refl
  rows_length [] (row ∷ second ∷ rows) h = absurd h
  rows_length (inst ∷ steps) [] h = absurd h
  rows_length (inst ∷ steps) (row ∷ rows) h = ap suc (rows_length steps rows h.1)

  first_and_rest : (steps : List OpInst) (rows : List (List Derivation)) (k : ℕ) (inst : OpInst) (row : List Derivation)
      → inst ≡ get_or steps k inst → get_or rows k row ≡ row → k < length steps → k < length rows
      → RowsProve IsTerm problem params (drop k steps) goal goal_variable_count (drop k rows)
      ↔ (ProvesEachOf IsTerm problem.axioms (precondition problem inst) row
      × RowsProve IsTerm problem params (drop (suc k) steps) goal goal_variable_count (drop (suc k) rows))
  first_and_rest [] rows k inst row is is' below below' = absurd (omega (arith, below))
  first_and_rest (s ∷ steps) [] k inst row is is' below below' = absurd (omega (arith, below'))
  first_and_rest (s ∷ steps) (r ∷ rows) zero inst row is is' below below' = rw (is, sym is') (λ h. h, λ h. h)
  first_and_rest (s ∷ steps) (r ∷ rows) (suc k) inst row is is' below below' =
      first_and_rest steps rows k inst row is is' (omega (arith, below)) (omega (arith, below'))

  -- the rows from one on are that one and those after it
  pub rows_step : (steps : List OpInst) (proofs : List (List Proof)) (k : ℕ) (inst : OpInst) (row : List Proof) → inst ≡ get_or steps k inst
      → row ≡ get_or proofs k row → k < length steps → k < length proofs
      → RowsProve IsTerm problem params (drop k steps) goal goal_variable_count (drop k (rows_of proofs))
      ↔ (ProvesEachOf IsTerm problem.axioms (precondition problem inst) (map derivation_of row)
      × RowsProve IsTerm problem params (drop (k + 1) steps) goal goal_variable_count (drop (k + 1) (rows_of proofs)))
  rows_step steps proofs k inst row is is' below below' =
      rw (add-one k)
      (first_and_rest steps (rows_of proofs) k inst (map derivation_of row) is
      (get_or-map (map derivation_of) proofs k row (map derivation_of row) below' ∙ ap (map derivation_of) (sym is')) below
      (omega (arith, below', length-map proofs (map derivation_of))))

  last_of_all : (steps : List OpInst) (rows : List (List Derivation)) (k : ℕ) (row : List Derivation) → get_or rows k row ≡ row
      → k ≡ length steps → length rows ≡ suc k
      → RowsProve IsTerm problem params (drop k steps) goal goal_variable_count (drop k rows)
      ↔ ProvesGoal IsTerm problem.axioms params goal goal_variable_count row
  last_of_all [] [] k row is end long = absurd (omega (arith, long))
  last_of_all [] (r ∷ []) zero row is end long = rw (sym is) (λ h. h, λ h. h)
  last_of_all [] (r ∷ second ∷ rows) zero row is end long = absurd (omega (arith, long))
  last_of_all [] (r ∷ rows) (suc k) row is end long = absurd (omega (arith, end))
  last_of_all (s ∷ steps) [] k row is end long = absurd (omega (arith, long))
  last_of_all (s ∷ steps) (r ∷ rows) zero row is end long = absurd (omega (arith, end))
  last_of_all (s ∷ steps) (r ∷ rows) (suc k) row is end long = last_of_all steps rows k row is (omega (arith, end)) (omega (arith, long))

  -- behind the steps the goal's row is left
  pub rows_last : (steps : List OpInst) (proofs : List (List Proof)) (k : ℕ) (row : List Proof) → row ≡ get_or proofs k row
      → k ≡ length steps → length proofs ≡ suc k
      → RowsProve IsTerm problem params (drop k steps) goal goal_variable_count (drop k (rows_of proofs))
      ↔ ProvesGoal IsTerm problem.axioms params goal goal_variable_count (map derivation_of row)
  rows_last steps proofs k row is end long =
      last_of_all steps (rows_of proofs) k (map derivation_of row)
      (get_or-map (map derivation_of) proofs k row (map derivation_of row) (omega (arith, long)) ∙ ap (map derivation_of) (sym is)) end
      (length-map proofs (map derivation_of) ∙ long)
