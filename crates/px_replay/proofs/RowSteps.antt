-- The replay of rows, step by step.
use Rattle.std.specs.Prelude.{◌≡◌, ◌≤◌, ◌+◌, ℕ, Some, List, [], ◌∷◌, drop, length, flat_map, slice_get, All}
use Rattle.std.proofs.Common.{suc, refl, sym, ap, ◌∙◌, subst, arith}
use Rattle.std.proofs.lemmas.List.Elements.{All-head, All-tail, All-nil}
use Rattle.std.proofs.lemmas.List.{drop_all}
use Rattle.px_terms.specs.declared.atom.Atom.{Atom}
use Rattle.px_terms.specs.declared.clause.Clause.{Clause}
use Rattle.px_terms.specs.declared.clause.Lit.{Lit}
use Rattle.px_terms.specs.declared.instance.OpInst.{OpInst}
use Rattle.px_terms.specs.declared.problem.Problem.{Problem}
use Rattle.px_terms.specs.Language.{IsPlainBelow}
use Rattle.px_terms.specs.Operators.{precondition}
use Rattle.px_unify.specs.declared.change.Change.{Change}
use Rattle.px_unify.specs.Changes.{Binds, MakesPairEqual, variables_of}
use Rattle.px_unify.specs.ChangeLaws.{Binds-itself, Binds-trans}
use Rattle.px_proof.specs.Derivation.{Derivation, terms_of}
use Rattle.px_proof.specs.Literals.{positive_of}
use Rattle.px_proof.specs.PlaceLaws.{All-prefix, All-back}
use Rattle.px_replay.specs.Opened.{row_pairs, rows_pairs}
use Rattle.px_replay.specs.Replay.{pairs_of}
use Rattle.px_replay.specs.Replaying.{ArePlainAtoms, CanReplay, CanReplayRow, CanReplayRows, IsReplayOf, PlanForms, RowForms}
use Rattle.px_replay.proofs.ReplaySteps.{drop-at, none_replayed, then_replayed}

-- ---- one row

pub record GoesRow (axioms : List Clause) (atoms : List Atom) (row : List Derivation) (start now : List Change) (k : ℕ) : Type 0 where
  pub can : CanReplayRow axioms (drop k atoms) (drop k row) now
  pub grows : Binds start now
  pub whole : (new : List Change) → IsReplayOf now new (row_pairs axioms (drop k atoms) (drop k row))
      → IsReplayOf start new (row_pairs axioms atoms row)

pub row-first : (axioms : List Clause) (atoms : List Atom) (row : List Derivation) (start : List Change)
    → CanReplayRow axioms atoms row start → GoesRow axioms atoms row start start 0
row-first axioms atoms row start can = record { can = can; grows = Binds-itself start; whole = λ new is. is }

pub row_forms-length : (axioms : List Clause) (atoms : List Atom) (row : List Derivation) → RowForms axioms atoms row
    → length row ≡ length atoms
row_forms-length axioms [] [] forms = refl
row_forms-length axioms [] (d ∷ row) forms = absurd forms
row_forms-length axioms (a ∷ atoms) [] forms = absurd forms
row_forms-length axioms (a ∷ atoms) (d ∷ row) forms = ap suc (row_forms-length axioms atoms row forms.1)

module _ (axioms : List Clause) (atoms : List Atom) (row : List Derivation) (start now : List Change) (k : ℕ) (atom : Atom) (d : Derivation)
    (at_atom : slice_get atoms k ≡ Some atom) (at_d : slice_get row k ≡ Some d) (goes : GoesRow axioms atoms row start now k) where
  row_here : CanReplayRow axioms (atom ∷ drop (suc k) atoms) (d ∷ drop (suc k) row) now
  row_here = subst (λ (l : List Derivation). CanReplayRow axioms (atom ∷ drop (suc k) atoms) l now) (drop-at row k d at_d)
      (subst (λ (l : List Atom). CanReplayRow axioms l (drop k row) now) (drop-at atoms k atom at_atom) goes.can)

  pub proof_can : CanReplay axioms [] (positive_of atom) d now
  proof_can = record {
    form = row_here.forms.0;
    path_below = All-nil (λ (l : Lit). All (IsPlainBelow (variables_of now)) l.atom.args);
    lit_below = All-head (λ (a : Atom). All (IsPlainBelow (variables_of now)) a.args) atom (drop (suc k) atoms) row_here.atoms_below;
    terms_below = All-prefix (IsPlainBelow (variables_of now)) (terms_of d) (flat_map terms_of (drop (suc k) row)) row_here.terms_below;
    solved = (
      row_here.solved.0,
      row_here.solved.1,
      All-prefix (MakesPairEqual row_here.solved.0) (pairs_of axioms [] (positive_of atom) d)
          (row_pairs axioms (drop (suc k) atoms) (drop (suc k) row)) row_here.solved.2,
    );
  }

  pub row-on : (next : List Change) → IsReplayOf now next (pairs_of axioms [] (positive_of atom) d)
      → GoesRow axioms atoms row start next (k + 1)
  row-on next is =
      let same : variables_of now ≡ variables_of next = sym is.grows.variables in
      let sigma = row_here.solved.0 in
      let rest_atoms = drop (suc k) atoms in
      let rest = drop (suc k) row in
      let later : GoesRow axioms atoms row start next (suc k) = record {
        can = record {
          forms = row_here.forms.1;
          atoms_below =
              subst (λ (n : ℕ). ArePlainAtoms n rest_atoms) same
              (All-tail (λ (a : Atom). All (IsPlainBelow (variables_of now)) a.args) atom rest_atoms row_here.atoms_below);
          terms_below =
              subst (λ (n : ℕ). All (IsPlainBelow n) (flat_map terms_of rest)) same
              (All-back (IsPlainBelow (variables_of now)) (terms_of d) (flat_map terms_of rest) row_here.terms_below);
          solved = (
            sigma,
            (is.narrowed sigma).1 (
              row_here.solved.1,
              All-prefix (MakesPairEqual sigma) (pairs_of axioms [] (positive_of atom) d)
                  (row_pairs axioms rest_atoms rest) row_here.solved.2,
            ),
            All-back (MakesPairEqual sigma) (pairs_of axioms [] (positive_of atom) d) (row_pairs axioms rest_atoms rest) row_here.solved.2,
          );
          solvable = is.solvable;
        };
        grows = Binds-trans start now next goes.grows is.grows;
        whole = λ new last. goes.whole new
            (subst (λ (l : List Atom). IsReplayOf now new (row_pairs axioms l (drop k row))) (sym (drop-at atoms k atom at_atom))
            (subst (λ (l : List Derivation). IsReplayOf now new (row_pairs axioms (atom ∷ rest_atoms) l)) (sym (drop-at row k d at_d))
            (then_replayed now next new (pairs_of axioms [] (positive_of atom) d) (row_pairs axioms rest_atoms rest) is last)));
      } in
      subst (GoesRow axioms atoms row start next) (omega arith) later

pub row-last : (axioms : List Clause) (atoms : List Atom) (row : List Derivation) (start now : List Change) (k : ℕ)
    → GoesRow axioms atoms row start now k → length row ≤ k → IsReplayOf start now (row_pairs axioms atoms row)
row-last axioms atoms row start now k goes past = goes.whole now (at_end (drop k atoms) (drop k row) (drop_all k row past) goes.can.forms)
  where
    at_end : (left : List Atom) (ds : List Derivation) → ds ≡ [] → RowForms axioms left ds → IsReplayOf now now (row_pairs axioms left ds)
    at_end [] [] is forms = none_replayed now goes.can.solvable
    at_end [] (d ∷ ds) is forms = absurd forms
    at_end (a ∷ left) [] is forms = absurd forms
    at_end (a ∷ left) (d ∷ ds) is forms = absurd (cc)

-- ---- all rows

pub record GoesRows (problem : Problem) (steps : List OpInst) (goal : List Atom) (rows : List (List Derivation)) (start now : List Change)
    (k : ℕ) : Type 0 where
  pub can : CanReplayRows problem (drop k steps) goal (drop k rows) now
  pub grows : Binds start now
  pub whole : (new : List Change) → IsReplayOf now new (rows_pairs problem (drop k steps) goal (drop k rows))
      → IsReplayOf start new (rows_pairs problem steps goal rows)

pub rows-first : (problem : Problem) (steps : List OpInst) (goal : List Atom) (rows : List (List Derivation)) (start : List Change)
    → CanReplayRows problem steps goal rows start → GoesRows problem steps goal rows start start 0
rows-first problem steps goal rows start can = record { can = can; grows = Binds-itself start; whole = λ new is. is }

pub plan_forms-length : (problem : Problem) (steps : List OpInst) (goal : List Atom) (rows : List (List Derivation))
    → PlanForms problem steps goal rows → length rows ≡ suc (length steps)
plan_forms-length problem [] goal [] forms = absurd forms
plan_forms-length problem [] goal (row ∷ []) forms = refl
plan_forms-length problem [] goal (row ∷ second ∷ rows) forms = absurd forms
plan_forms-length problem (s ∷ steps) goal [] forms = absurd forms
plan_forms-length problem (s ∷ steps) goal (row ∷ rows) forms = ap suc (plan_forms-length problem steps goal rows forms.1)

module _ (problem : Problem) (steps : List OpInst) (goal : List Atom) (rows : List (List Derivation)) (start now : List Change) (k : ℕ)
    (inst : OpInst) (row : List Derivation)
    (at_step : slice_get steps k ≡ Some inst) (at_row : slice_get rows k ≡ Some row)
    (goes : GoesRows problem steps goal rows start now k) where
  rows_here : CanReplayRows problem (inst ∷ drop (suc k) steps) goal (row ∷ drop (suc k) rows) now
  rows_here =
      subst (λ (l : List (List Derivation)). CanReplayRows problem (inst ∷ drop (suc k) steps) goal l now) (drop-at rows k row at_row)
      (subst (λ (l : List OpInst). CanReplayRows problem l goal (drop k rows) now) (drop-at steps k inst at_step) goes.can)

  pub row_can : CanReplayRow problem.axioms (precondition problem inst) row now
  row_can = record {
    forms = rows_here.forms.0;
    atoms_below = All-head (λ o. ArePlainAtoms (variables_of now) (precondition problem o)) inst (drop (suc k) steps) rows_here.needs_below;
    terms_below =
        All-prefix (IsPlainBelow (variables_of now)) (flat_map terms_of row)
        (flat_map (flat_map terms_of) (drop (suc k) rows)) rows_here.terms_below;
    solved = (
      rows_here.solved.0,
      rows_here.solved.1,
      All-prefix (MakesPairEqual rows_here.solved.0) (row_pairs problem.axioms (precondition problem inst) row)
          (rows_pairs problem (drop (suc k) steps) goal (drop (suc k) rows)) rows_here.solved.2,
    );
    solvable = rows_here.solvable;
  }

  pub rows-on : (next : List Change) → IsReplayOf now next (row_pairs problem.axioms (precondition problem inst) row)
      → GoesRows problem steps goal rows start next (k + 1)
  rows-on next is =
      let same : variables_of now ≡ variables_of next = sym is.grows.variables in
      let sigma = rows_here.solved.0 in
      let rest_steps = drop (suc k) steps in
      let rest = drop (suc k) rows in
      let own = row_pairs problem.axioms (precondition problem inst) row in
      let later : GoesRows problem steps goal rows start next (suc k) = record {
        can = record {
          forms = rows_here.forms.1;
          needs_below =
              subst (λ (n : ℕ). All (λ o. ArePlainAtoms n (precondition problem o)) rest_steps) same
              (All-tail (λ o. ArePlainAtoms (variables_of now) (precondition problem o)) inst rest_steps rows_here.needs_below);
          goal_below = subst (λ (n : ℕ). ArePlainAtoms n goal) same rows_here.goal_below;
          terms_below =
              subst (λ (n : ℕ). All (IsPlainBelow n) (flat_map (flat_map terms_of) rest)) same
              (All-back (IsPlainBelow (variables_of now)) (flat_map terms_of row)
              (flat_map (flat_map terms_of) rest) rows_here.terms_below);
          solved = (
            sigma,
            (is.narrowed sigma).1 (
              rows_here.solved.1,
              All-prefix (MakesPairEqual sigma) own (rows_pairs problem rest_steps goal rest) rows_here.solved.2,
            ),
            All-back (MakesPairEqual sigma) own (rows_pairs problem rest_steps goal rest) rows_here.solved.2,
          );
          solvable = is.solvable;
        };
        grows = Binds-trans start now next goes.grows is.grows;
        whole = λ new last. goes.whole new
            (subst (λ (l : List OpInst). IsReplayOf now new (rows_pairs problem l goal (drop k rows))) (sym (drop-at steps k inst at_step))
            (subst (λ (l : List (List Derivation)). IsReplayOf now new (rows_pairs problem (inst ∷ rest_steps) goal l))
            (sym (drop-at rows k row at_row))
            (then_replayed now next new own (rows_pairs problem rest_steps goal rest) is last)));
      } in
      subst (GoesRows problem steps goal rows start next) (omega arith) later

-- after the steps the goal's row is left
module _ (problem : Problem) (steps : List OpInst) (goal : List Atom) (rows : List (List Derivation)) (start now : List Change) (k : ℕ)
    (row : List Derivation)
    (past : k ≡ length steps) (at_row : slice_get rows k ≡ Some row) (long : length rows ≡ suc (length steps))
    (goes : GoesRows problem steps goal rows start now k) where
  last_row : drop k rows ≡ row ∷ []
  last_row = drop-at rows k row at_row ∙ ap (λ l. row ∷ l) (drop_all (suc k) rows (omega (arith, past, long)))

  at_last : CanReplayRows problem [] goal (row ∷ []) now
  at_last = subst (λ (l : List (List Derivation)). CanReplayRows problem [] goal l now) last_row
      (subst (λ (l : List OpInst). CanReplayRows problem l goal (drop k rows) now) (drop_all k steps (omega (arith, past))) goes.can)

  pub last_can : CanReplayRow problem.axioms goal row now
  last_can = record {
    forms = at_last.forms;
    atoms_below = at_last.goal_below;
    terms_below = All-prefix (IsPlainBelow (variables_of now)) (flat_map terms_of row) [] at_last.terms_below;
    solved = at_last.solved;
    solvable = at_last.solvable;
  }

  pub rows-last : (new : List Change) → IsReplayOf now new (row_pairs problem.axioms goal row)
      → IsReplayOf start new (rows_pairs problem steps goal rows)
  rows-last new is = goes.whole new
      (subst (λ (l : List OpInst). IsReplayOf now new (rows_pairs problem l goal (drop k rows)))
      (sym (drop_all k steps (omega (arith, past))))
      (subst (λ (l : List (List Derivation)). IsReplayOf now new (rows_pairs problem [] goal l)) (sym last_row) is))
