-- The atoms of the leaves of a proof are atoms of literals: of the one that it proves, or of the axioms' instances.
use Rattle.std.specs.Prelude.{ℕ, List, [], ◌∷◌, length, remove, All}
use Rattle.std.proofs.Common.{sym, subst, ◌∙◌, zero, suc}
use Rattle.std.proofs.lemmas.List.{length-map, map-append}
use Rattle.std.proofs.lemmas.List.Elements.{All-nil, All-cons, All-head, All-tail, All-append, All-map}
use Rattle.px_base.specs.ListLaws.{All-at}
use Rattle.px_terms.specs.declared.atom.Atom.{Atom}
use Rattle.px_terms.specs.declared.clause.Clause.{Clause}
use Rattle.px_terms.specs.declared.clause.Lit.{Lit}
use Rattle.px_terms.specs.declared.problem.Problem.{Problem}
use Rattle.px_terms.specs.declared.term.Term.{Term}
use Rattle.px_terms.specs.declared.term.Term.TheVariants.{Obj, Var, Any}
use Rattle.px_terms.specs.Language.{substitute}
use Rattle.px_terms.specs.Validity.{IsAtomOf, IsAxiomOf, IsTermOf}
use Rattle.px_proof.specs.declared.proof.Leaf.{Leaf}
use Rattle.px_proof.specs.Derivation.{Derivation, Derivations, fact, ancestor, step, gap, open_place, none, also, leaves_of, all_leaves_of, leaf_atoms, terms_of}
use Rattle.px_proof.specs.Literals.{substitute_literal, complement_of}
use Rattle.px_proof.specs.PlaceLaws.{All-got, Contains-mapped}
use Rattle.px_proof.specs.Proves.{Rules, Proves, ProvesEach, UsesClause, instance_of, parts_of, from_places}
use Rattle.px_proof.specs.ProvesLaws.{proves_by, only_terms}
use Rattle.px_proof.specs.Range.{LeavesAreOfProblem}
use Rattle.px_proof.specs.SubstitutionLaws.{each_choice}

All-without : {X : Type 0} (P : X → Type 0) (xs : List X) (i : ℕ) → All P xs → All P (remove xs i)
All-without P [] zero all = all
All-without P [] (suc i) all = all
All-without P (x ∷ xs) zero all = All-tail P x xs all
All-without P (x ∷ xs) (suc i) all = All-cons P x (remove xs i) (All-head P x xs all) (All-without P xs i (All-tail P x xs all))

-- what holds of the literal's atom and of the atoms of the axioms' instances holds of the leaves' atoms
module _ (Q : Atom → Type 0) (rules : Rules) (axioms : List Clause)
    (instances : (lit : Lit) (number : ℕ) (theta : List Term) (place : ℕ) (clause : Clause)
    → UsesClause rules.IsChoice axioms lit number theta place clause → All (λ l. Q l.atom) (instance_of clause.lits theta)) where
  mutual
    pub leaves_in : (path : List Lit) (lit : Lit) (d : Derivation) → Q lit.atom → Proves rules axioms path lit d
        → All Q (leaf_atoms (leaves_of d))
    leaves_in path lit (fact leaf) here proved = All-cons Q leaf.atom [] (subst (λ (l : Lit). Q l.atom) proved.0 here) (All-nil Q)
    leaves_in path lit (ancestor i) here proved = All-nil Q
    leaves_in path lit (step number theta place parts) here proved =
        each_in (lit ∷ path) (parts_of proved.0.lits theta place) parts
        (All-map (λ (l : Lit). Q l.atom) complement_of (remove (instance_of proved.0.lits theta) place)
        (All-without (λ (l : Lit). Q l.atom) (instance_of proved.0.lits theta) place (instances lit number theta place proved.0 proved.1)))
        proved.2
    leaves_in path lit (gap atom) here proved = All-nil Q
    leaves_in path lit open_place here proved = All-nil Q

    pub each_in : (path lits : List Lit) (ds : Derivations) → All (λ l. Q l.atom) lits → ProvesEach rules axioms path lits ds
        → All Q (leaf_atoms (all_leaves_of ds))
    each_in path [] none all each = All-nil Q
    each_in path (lit ∷ lits) (also d ds) all each =
        subst (All Q) (sym (map-append (λ (l : Leaf). l.atom) (leaves_of d) (all_leaves_of ds)))
        (All-append Q (leaf_atoms (leaves_of d)) (leaf_atoms (all_leaves_of ds))
        (leaves_in path lit d (All-head (λ (l : Lit). Q l.atom) lit lits all) each.0)
        (each_in path lits ds (All-tail (λ (l : Lit). Q l.atom) lit lits all) each.1))
    each_in path [] (also d ds) all each = absurd each
    each_in path (lit ∷ lits) none all each = absurd each

-- where the steps choose terms of the problem
module _ (problem : Problem) (params : ℕ) (valid_axioms : All (IsAxiomOf problem) problem.axioms) (rules : Rules)
    (choices : (t : Term) → rules.IsChoice t → IsTermOf problem params t) where
  chosen_term : (theta : List Term) → All rules.IsChoice theta → (t : Term) → IsTermOf problem (length theta) t
      → IsTermOf problem params (substitute theta t)
  chosen_term theta all (Obj n) h = h
  chosen_term theta all (Var v) h = choices _ (all v Any h)
  chosen_term theta all Any h = h

  literals_of_problem : (theta : List Term) → All rules.IsChoice theta → (lits : List Lit)
      → All (λ lit. IsAtomOf problem (length theta) lit.atom) lits
      → All (λ lit. IsAtomOf problem params lit.atom) (instance_of lits theta)
  literals_of_problem theta all lits are =
      All-map (λ (l : Lit). IsAtomOf problem params l.atom) (substitute_literal theta) lits (λ k d below. (
        ((are k d below).0.0, length-map _ (substitute theta) ∙ (are k d below).0.1),
        each_choice theta (IsTermOf problem (length theta)) (IsTermOf problem params) (chosen_term theta all) _ (are k d below).1,
      ))

  instance_of_problem : (lit : Lit) (number : ℕ) (theta : List Term) (place : ℕ) (clause : Clause)
      → UsesClause rules.IsChoice problem.axioms lit number theta place clause
      → All (λ l. IsAtomOf problem params l.atom) (instance_of clause.lits theta)
  instance_of_problem lit number theta place clause uses =
      literals_of_problem theta uses.choices clause.lits
      (subst (λ n. All (λ (l : Lit). IsAtomOf problem n l.atom) clause.lits) (sym uses.terms)
      (All-got (IsAxiomOf problem) problem.axioms number clause valid_axioms uses.axiom_at).lits)

  pub leaves_of_problem : (path : List Lit) (lit : Lit) (d : Derivation) → IsAtomOf problem params lit.atom
      → Proves rules problem.axioms path lit d → All (IsAtomOf problem params) (leaf_atoms (leaves_of d))
  leaves_of_problem = leaves_in (IsAtomOf problem params) rules problem.axioms instance_of_problem

  -- and if the gaps have only terms of the problem, so has the whole proof
  pub terms_of_problem : ((atom : Atom) → rules.IsGap atom → All (IsTermOf problem params) atom.args)
      → (path : List Lit) (lit : Lit) (d : Derivation)
      → IsAtomOf problem params lit.atom → Proves rules problem.axioms path lit d → All (IsTermOf problem params) (terms_of d)
  terms_of_problem gaps path lit d here proved =
      let in_range : Rules = record {
        IsChoice = IsTermOf problem params;
        IsFact = λ leaf. All (IsTermOf problem params) leaf.atom.args;
        IsGap = λ atom. All (IsTermOf problem params) atom.args;
        IsOpen = Unit {0};
      }
      in
      let all = leaves_of_problem path lit d here proved in
      only_terms problem.axioms (IsTermOf problem params) in_range (record { choices = λ t h. h; facts = λ leaf h. h; gaps = λ atom h. h })
      path lit d
      (proves_by problem.axioms rules in_range (record { choices = choices; gaps = gaps; opens = λ h. tt }) path lit d
      (λ leaf has h. (All-at (IsAtomOf problem params) (leaf_atoms (leaves_of d)) leaf.atom all
      (Contains-mapped (λ (l : Leaf). l.atom) (leaves_of d) leaf has)).1) proved)

pub leaves_are_of_problem : LeavesAreOfProblem
leaves_are_of_problem problem params atoms path lit d valid_axioms here proved = record {
  leaves = leaves_of_problem problem params valid_axioms (from_places (IsTermOf problem params) atoms) (λ t h. h) path lit d here proved;
  terms = terms_of_problem problem params valid_axioms (from_places (IsTermOf problem params) atoms) (λ t h. h) (λ atom h. absurd h) path
      lit d here proved;
}
