-- Derivations that have the forms of proofs are those of proof terms, whatever terms their variables get.
use Rattle.std.specs.Prelude.{◌≡◌, List, [], ◌∷◌, map}
use Rattle.std.proofs.Common.{refl, ap}
use Rattle.px_terms.specs.declared.atom.Atom.{Atom}
use Rattle.px_terms.specs.declared.clause.Clause.{Clause}
use Rattle.px_terms.specs.declared.clause.Lit.{Lit}
use Rattle.px_terms.specs.declared.instance.OpInst.{OpInst}
use Rattle.px_terms.specs.declared.problem.Problem.{Problem}
use Rattle.px_terms.specs.declared.term.Term.{Term}
use Rattle.px_terms.specs.Operators.{precondition}
use Rattle.px_proof.specs.Derivation.{Derivation, Derivations, fact, ancestor, step, gap, open_place, none, also}
use Rattle.px_proof.specs.LayerLaws.{HasNoOpenPlace, HaveNoOpenPlace, derivation_of-proof_of, proof_of}
use Rattle.px_proof.specs.Literals.{positive_of}
use Rattle.px_proof.specs.ProofTerm.{derivation_of}
use Rattle.px_proof.specs.Proves.{parts_of}
use Rattle.px_proof.specs.Substitution.{derivation_under, derivations_under}
use Rattle.px_table.specs.Tables.{rows_of}
use Rattle.px_replay.specs.Replay.{HasForm, HaveForms}
use Rattle.px_replay.specs.Replaying.{PlanForms, RowForms}

module _ (names : List Term) where
  module _ (axioms : List Clause) where
    mutual
      closed-under : (path : List Lit) (lit : Lit) (d : Derivation) → HasForm axioms path lit d → HasNoOpenPlace (derivation_under names d)
      closed-under path lit (fact leaf) form = tt
      closed-under path lit (ancestor i) form = tt
      closed-under path lit (step number theta place parts) form =
          all-closed-under (lit ∷ path) (parts_of form.0.lits theta place) parts form.4
      closed-under path lit (gap atom) form = absurd form
      closed-under path lit open_place form = absurd form

      all-closed-under : (path lits : List Lit) (ds : Derivations) → HaveForms axioms path lits ds
          → HaveNoOpenPlace (derivations_under names ds)
      all-closed-under path [] none forms = tt
      all-closed-under path [] (also d ds) forms = absurd forms
      all-closed-under path (lit ∷ lits) none forms = absurd forms
      all-closed-under path (lit ∷ lits) (also d ds) forms = (closed-under path lit d forms.0, all-closed-under path lits ds forms.1)

    row-back : (atoms : List Atom) (row : List Derivation) → RowForms axioms atoms row
        → map derivation_of (map proof_of (map (derivation_under names) row)) ≡ map (derivation_under names) row
    row-back [] [] forms = refl
    row-back [] (d ∷ row) forms = absurd forms
    row-back (atom ∷ atoms) [] forms = absurd forms
    row-back (atom ∷ atoms) (d ∷ row) forms =
        let here = derivation_of-proof_of (derivation_under names d) (closed-under [] (positive_of atom) d forms.0) in
        let rest = row-back atoms row forms.1 in
        λ i. here i ∷ rest i

  pub rows-back : (problem : Problem) (steps : List OpInst) (goal : List Atom) (rows : List (List Derivation))
      → PlanForms problem steps goal rows
      → rows_of (map (map proof_of) (map (map (derivation_under names)) rows)) ≡ map (map (derivation_under names)) rows
  rows-back problem [] goal [] forms = absurd forms
  rows-back problem [] goal (row ∷ []) forms = ap (λ (r : List Derivation). r ∷ []) (row-back problem.axioms goal row forms)
  rows-back problem [] goal (row ∷ second ∷ rows) forms = absurd forms
  rows-back problem (inst ∷ steps) goal [] forms = absurd forms
  rows-back problem (inst ∷ steps) goal (row ∷ rows) forms =
      let here = row-back problem.axioms (precondition problem inst) row forms.0 in
      let rest = rows-back problem steps goal rows forms.1 in
      λ i. here i ∷ rest i
