-- A proof over terms is one over those of them that stand in it; and with other names for its parameters it is a proof again.
use Rattle.std.specs.Prelude.{◌≡◌, ℕ, List, [], ◌∷◌, ◌++◌, map, length, flat_map, All, Contains}
use Rattle.std.proofs.Common.{suc, refl, sym, ap, ◌∙◌, subst, arith}
use Rattle.px_base.specs.ListLaws.{All-each, All-at}
use Rattle.px_terms.specs.declared.atom.Atom.{Atom}
use Rattle.px_terms.specs.declared.clause.Clause.{Clause}
use Rattle.px_terms.specs.declared.clause.Lit.{Lit}
use Rattle.px_terms.specs.declared.instance.OpInst.{OpInst}
use Rattle.px_terms.specs.declared.problem.Problem.{Problem}
use Rattle.px_terms.specs.declared.term.Term.{Term}
use Rattle.px_terms.specs.Language.{substitute}
use Rattle.px_terms.specs.Operators.{precondition}
use Rattle.px_terms.specs.Substitution.{substitute_atom, substitute_instance}
use Rattle.px_terms.specs.Validity.{IsAtomOf, IsTermOf, IsValid}
use Rattle.px_proof.specs.declared.proof.Leaf.{Leaf}
use Rattle.px_proof.specs.Derivation.{Derivation, Derivations, fact, ancestor, step, gap, open_place, none, also, leaves_of, leaf_atoms, terms_of, all_terms_of}
use Rattle.px_proof.specs.Literals.{positive_of}
use Rattle.px_proof.specs.PlaceLaws.{All-prefix, All-back, Contains-mapped}
use Rattle.px_proof.specs.Proves.{Proves, ProvesEach, IsObjectOrParameter, from_atoms, parts_of}
use Rattle.px_proof.specs.ProvesLaws.{name_of_term, term_of_name}
use Rattle.px_proof.specs.Substitution.{derivation_under}
use Rattle.px_proof.specs.SubstitutionLaws.{each_choice, leaf_atoms-under, proves_under}
use Rattle.px_table.specs.Parameters.{row_terms}
use Rattle.px_table.specs.Supports.{IsProofOf, ProvesEachOf, ProvesGoal, RowsProve, variables}
use Rattle.px_table.specs.Tables.{IsStepOf}
use Rattle.px_table.specs.UnderLaws.{precondition-under}
use Rattle.px_edit.proofs.StepAtoms.{own-goal, precondition-of_step}

abbrev pub IsBoth : (Term → Type 0) → (Term → Type 0) → Term → Type 0
IsBoth Is Left t = Is t × Left t

module _ (Is Left : Term → Type 0) (axioms : List Clause) (atoms : List Atom) where
  both-all : (ts : List Term) → All Is ts → All Left ts → All (IsBoth Is Left) ts
  both-all ts one other = λ k d below. (one k d below, other k d below)

  mutual
    pub restricted : (path : List Lit) (lit : Lit) (d : Derivation) → All Left (terms_of d)
        → Proves (from_atoms Is atoms) axioms path lit d → Proves (from_atoms (IsBoth Is Left) atoms) axioms path lit d
    restricted path lit (fact leaf) left p = (p.0, (p.1.0, both-all leaf.atom.args p.1.1 left))
    restricted path lit (ancestor i) left p = p
    restricted path lit (step number theta place parts) left p = (
      p.0,
      record {
        axiom_at = p.1.axiom_at;
        terms = p.1.terms;
        choices = both-all theta p.1.choices (All-prefix Left theta (all_terms_of parts) left);
        literal_at = p.1.literal_at;
      },
      each_restricted (lit ∷ path) (parts_of p.0.lits theta place) parts (All-back Left theta (all_terms_of parts) left) p.2,
    )
    restricted path lit (gap atom) left p = p
    restricted path lit open_place left p = p

    each_restricted : (path lits : List Lit) (ds : Derivations) → All Left (all_terms_of ds)
        → ProvesEach (from_atoms Is atoms) axioms path lits ds → ProvesEach (from_atoms (IsBoth Is Left) atoms) axioms path lits ds
    each_restricted path [] none left p = tt
    each_restricted path [] (also d ds) left p = absurd p
    each_restricted path (lit ∷ lits) none left p = absurd p
    each_restricted path (lit ∷ lits) (also d ds) left p = (
      restricted path lit d (All-prefix Left (terms_of d) (all_terms_of ds) left) p.0,
      each_restricted path lits ds (All-back Left (terms_of d) (all_terms_of ds) left) p.1,
    )

module _ (problem : Problem) (valid : IsValid problem) (params new : ℕ) (names : List Term) (Left : Term → Type 0)
    (goes : (t : Term) → Left t → IsTermOf problem params t → IsTermOf problem new (substitute names t)) where
  abbrev Old : Term → Type 0
  Old = IsObjectOrParameter problem.objects params

  abbrev New : Term → Type 0
  New = IsObjectOrParameter problem.objects new

  old-term : (t : Term) → Old t → IsTermOf problem params t
  old-term = term_of_name problem params

  chosen : (t : Term) → IsBoth Old Left t → New (substitute names t)
  chosen t h = name_of_term problem new (substitute names t) (goes t h.1 (old-term t h.0))

  pub proof-named : (atom : Atom) (d : Derivation) → IsProofOf Old problem.axioms atom d → All Left (terms_of d)
      → All New (substitute_atom names atom).args → IsProofOf New problem.axioms (substitute_atom names atom) (derivation_under names d)
  proof-named atom d is left args = record {
    proves = proves_under problem.axioms names (from_atoms (IsBoth Old Left) (leaf_atoms (leaves_of d)))
        (from_atoms New (leaf_atoms (leaves_of (derivation_under names d))))
        record {
          choices = chosen;
          facts = λ leaf from. (
            subst (λ (atoms : List Atom). Contains atoms (substitute_atom names leaf.atom)) (sym (leaf_atoms-under names d))
                (Contains-mapped (substitute_atom names) (leaf_atoms (leaves_of d)) leaf.atom from.0),
            each_choice names (IsBoth Old Left) New chosen leaf.atom.args from.1,
          );
          gaps = λ atom h. h;
          opens = λ h. h;
        }
        [] (positive_of atom) d (restricted Old Left problem.axioms (leaf_atoms (leaves_of d)) [] (positive_of atom) d left is.proves);
    terms = args;
  }

  atom-names : (atom : Atom) → IsAtomOf problem new atom → All New atom.args
  atom-names atom is = λ k d below. name_of_term problem new _ (is.1 k d below)

  pub row-named : (atoms : List Atom) (row : List Derivation) → ProvesEachOf Old problem.axioms atoms row
      → All Left (flat_map terms_of row) → All (IsAtomOf problem new) (map (substitute_atom names) atoms)
      → ProvesEachOf New problem.axioms (map (substitute_atom names) atoms) (map (derivation_under names) row)
  row-named [] [] p left are = tt
  row-named [] (d ∷ row) p left are = absurd p
  row-named (atom ∷ atoms) [] p left are = absurd p
  row-named (atom ∷ atoms) (d ∷ row) p left are = (
    proof-named atom d p.0 (All-prefix Left (terms_of d) (flat_map terms_of row) left)
        (atom-names (substitute_atom names atom) (are 0 (substitute_atom names atom) (omega arith))),
    row-named atoms row p.1 (All-back Left (terms_of d) (flat_map terms_of row) left)
        (λ k e below. are (suc k) e (omega (arith, below))),
  )

  no-terms : (ts : List Term) → length ts ≡ 0 → ts ≡ []
  no-terms [] e = refl
  no-terms (t ∷ ts) e = absurd (omega (arith, e))

  goal-named : (goal : List Atom) (row : List Derivation) → All (IsAtomOf problem params) goal
      → All (IsAtomOf problem new) (map (substitute_atom names) goal) → All Left (flat_map terms_of row)
      → ProvesGoal Old problem.axioms params goal 0 row
      → ProvesGoal New problem.axioms new (map (substitute_atom names) goal) 0 (map (derivation_under names) row)
  goal-named goal row old are left p = (
    [],
    refl,
    subst (λ (g : List Atom). ProvesEachOf New problem.axioms g (map (derivation_under names) row))
        (sym (own-goal problem new (map (substitute_atom names) goal) are))
        (row-named goal row (subst (λ (g : List Atom). ProvesEachOf Old problem.axioms g row)
        (ap (λ (c : List Term). map (substitute_atom (variables params ++ c)) goal) (no-terms p.0 p.1) ∙ own-goal problem params goal old)
        p.2) left are),
  )

  pub rows-named : (steps : List OpInst) (goal : List Atom) (rows : List (List Derivation)) → All (IsAtomOf problem params) goal
      → All (IsStepOf problem new) (map (substitute_instance names) steps) → All (IsAtomOf problem new) (map (substitute_atom names) goal)
      → All Left (row_terms rows) → RowsProve Old problem params steps goal 0 rows
      → RowsProve New problem new (map (substitute_instance names) steps) (map (substitute_atom names) goal) 0
      (map (map (derivation_under names)) rows)
  rows-named [] goal [] old steps_are goal_are left p = absurd p
  rows-named [] goal (row ∷ []) old steps_are goal_are left p =
      goal-named goal row old goal_are (All-prefix Left (flat_map terms_of row) [] left) p
  rows-named [] goal (row ∷ second ∷ rows) old steps_are goal_are left p = absurd p
  rows-named (s ∷ steps) goal [] old steps_are goal_are left p = absurd p
  rows-named (s ∷ steps) goal (row ∷ rows) old steps_are goal_are left p = (
    subst (λ (atoms : List Atom). ProvesEachOf New problem.axioms atoms (map (derivation_under names) row))
        (sym (precondition-under problem names s))
        (row-named (precondition problem s) row p.0 (All-prefix Left (flat_map terms_of row) (row_terms rows) left)
        (subst (All (IsAtomOf problem new)) (precondition-under problem names s)
        (precondition-of_step problem valid new (substitute_instance names s) (steps_are 0 (substitute_instance names s) (omega arith))))),
    rows-named steps goal rows old (λ k d below. steps_are (suc k) d (omega (arith, below))) goal_are
        (All-back Left (flat_map terms_of row) (row_terms rows) left) p.1,
  )
