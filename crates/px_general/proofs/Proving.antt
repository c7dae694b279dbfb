-- Terms that make all pairs of a form equal make it a proof.
use Rattle.std.specs.Prelude.{◌≡◌, ℕ, Some, List, [], ◌∷◌, map, length, slice_get, All, Contains}
use Rattle.std.proofs.Common.{sym, ap, ◌∙◌, subst, arith}
use Rattle.std.proofs.lemmas.List.{length-map}
use Rattle.std.proofs.lemmas.List.Elements.{All-head, All-tail, All-map, Contains-append_left, Contains-append_right}
use Rattle.px_base.specs.ListLaws.{Contains-first}
use Rattle.px_terms.specs.declared.atom.Atom.{Atom}
use Rattle.px_terms.specs.declared.clause.Clause.{Clause}
use Rattle.px_terms.specs.declared.clause.Lit.{Lit}
use Rattle.px_terms.specs.declared.problem.Problem.{Problem}
use Rattle.px_terms.specs.declared.term.Term.{Term}
use Rattle.px_terms.specs.declared.term.Term.TheVariants.{Obj, Var, Any as WildCard}
use Rattle.px_terms.specs.Language.{substitute}
use Rattle.px_terms.specs.Substitution.{substitute_atom}
use Rattle.px_terms.specs.Validity.{IsAtomOf, IsAxiomOf, IsTermOf, IsValid}
use Rattle.px_unify.specs.Changes.{MakesPairEqual, MakesEachEqual}
use Rattle.px_proof.specs.declared.proof.Leaf.{Leaf}
use Rattle.px_proof.specs.Derivation.{Derivation, Derivations, fact, ancestor, step, gap, open_place, none, also, leaves_of, all_leaves_of, terms_of, all_terms_of}
use Rattle.px_proof.specs.Literals.{complement_of, positive_of, substitute_literal}
use Rattle.px_proof.specs.PlaceLaws.{slice_get-map, All-prefix, All-back, All-got}
use Rattle.px_proof.specs.Proves.{Proves, ProvesEach, IsObjectOrParameter, from_atoms, instance_of, parts_of}
use Rattle.px_proof.specs.Substitution.{derivation_under, derivations_under}
use Rattle.px_proof.specs.SubstitutionLaws.{instance_twice, parts_under}
use Rattle.px_table.specs.UnderLaws.{from_map}
use Rattle.px_replay.specs.Replay.{atom_at, pairs_of, all_pairs_of, HasForm, HaveForms}
use Rattle.px_replay.proofs.Replaying.{atom_at-is, literals_at-is}

same_literal : (lit other : Lit) → lit.positive ≡ other.positive → lit.atom ≡ other.atom → lit ≡ other
same_literal lit other e f = λ i. record { positive = e i; atom = f i }

module _ (Is : Term → Type 0) (axioms : List Clause) (atoms : List Atom) (terms : List Term) where
  -- under the terms it is one of the terms
  abbrev pub IsUnder : Term → Type 0
  IsUnder t = Is (substitute terms t)

  are-under : (ts : List Term) → All IsUnder ts → All Is (map (substitute terms) ts)
  are-under ts all = All-map Is (substitute terms) ts all

  mutual
    pub proves-from_pairs : (path : List Lit) (lit : Lit) (d : Derivation) → HasForm axioms path lit d
        → MakesEachEqual (pairs_of axioms path lit d) terms → All IsUnder (terms_of d)
        → ((leaf : Leaf) → Contains (leaves_of d) leaf → Contains atoms (substitute_atom terms leaf.atom))
        → Proves (from_atoms Is atoms) axioms (map (substitute_literal terms) path) (substitute_literal terms lit)
        (derivation_under terms d)
    proves-from_pairs path lit (fact leaf) form equal are given = (
      same_literal (substitute_literal terms lit) (positive_of (substitute_atom terms leaf.atom)) form
          (All-head (MakesPairEqual terms) (lit.atom, leaf.atom) [] equal),
      (given leaf (Contains-first leaf []), are-under leaf.atom.args are),
    )
    proves-from_pairs path lit (ancestor i) form equal are given =
        let here = All-head (MakesPairEqual terms) (lit.atom, atom_at path i) [] equal in
        slice_get-map (substitute_literal terms) path i form.0 form.1
        ∙ ap Some (same_literal (substitute_literal terms form.0) (complement_of (substitute_literal terms lit)) form.2
        (ap (substitute_atom terms) (sym (atom_at-is path i form.0 form.1)) ∙ sym here))
    proves-from_pairs path lit (step number theta place parts) form equal are given =
        let clause = form.0 in
        let found = form.3.0 in
        let moved : MakesEachEqual ((lit.atom, atom_at (instance_of clause.lits theta) place)
        ∷ all_pairs_of axioms (lit ∷ path) (parts_of clause.lits theta place) parts) terms =
        subst (λ (ls : List Lit). MakesEachEqual ((lit.atom, atom_at (instance_of ls theta) place)
        ∷ all_pairs_of axioms (lit ∷ path) (parts_of ls theta place) parts) terms) (literals_at-is axioms number clause form.1) equal in
        let head : substitute_atom terms lit.atom ≡ substitute_atom terms (atom_at (instance_of clause.lits theta) place) =
        All-head (MakesPairEqual terms) _ _ moved in
        let same : substitute_literal terms found ≡ substitute_literal terms lit =
        same_literal (substitute_literal terms found) (substitute_literal terms lit) form.3.2
        (ap (substitute_atom terms) (sym (atom_at-is (instance_of clause.lits theta) place found form.3.1)) ∙ sym head) in (
          clause,
          record {
            axiom_at = form.1;
            terms = length-map theta (substitute terms) ∙ form.2;
            choices = are-under theta (All-prefix IsUnder theta (all_terms_of parts) are);
            literal_at =
                ap (λ (ls : List Lit). slice_get ls place) (sym (instance_twice terms theta clause.lits))
                ∙ slice_get-map (substitute_literal terms) (instance_of clause.lits theta) place found form.3.1 ∙ ap Some same;
          },
          subst (λ (ls : List Lit). ProvesEach (from_atoms Is atoms) axioms
              (substitute_literal terms lit ∷ map (substitute_literal terms) path) ls (derivations_under terms parts))
              (parts_under terms theta clause.lits place)
              (each-from_pairs (lit ∷ path) (parts_of clause.lits theta place) parts form.4 (All-tail (MakesPairEqual terms) _ _ moved)
              (All-back IsUnder theta (all_terms_of parts) are) given),
        )
    proves-from_pairs path lit (gap atom) form equal are given = absurd form
    proves-from_pairs path lit open_place form equal are given = absurd form

    each-from_pairs : (path lits : List Lit) (ds : Derivations) → HaveForms axioms path lits ds
        → MakesEachEqual (all_pairs_of axioms path lits ds) terms → All IsUnder (all_terms_of ds)
        → ((leaf : Leaf) → Contains (all_leaves_of ds) leaf → Contains atoms (substitute_atom terms leaf.atom))
        → ProvesEach (from_atoms Is atoms) axioms (map (substitute_literal terms) path) (map (substitute_literal terms) lits)
        (derivations_under terms ds)
    each-from_pairs path [] none forms equal are given = tt
    each-from_pairs path [] (also d ds) forms equal are given = absurd forms
    each-from_pairs path (lit ∷ lits) none forms equal are given = absurd forms
    each-from_pairs path (lit ∷ lits) (also d ds) forms equal are given = (
      proves-from_pairs path lit d forms.0 (All-prefix (MakesPairEqual terms) (pairs_of axioms path lit d)
          (all_pairs_of axioms path lits ds) equal) (All-prefix IsUnder (terms_of d) (all_terms_of ds) are)
          (λ leaf has. given leaf (Contains-append_left (leaves_of d) (all_leaves_of ds) leaf has)),
      each-from_pairs path lits ds forms.1 (All-back (MakesPairEqual terms) (pairs_of axioms path lit d)
          (all_pairs_of axioms path lits ds) equal) (All-back IsUnder (terms_of d) (all_terms_of ds) are)
          (λ leaf has. given leaf (Contains-append_right (leaves_of d) (all_leaves_of ds) leaf has)),
    )

-- ---- what is proved over names is over names

module _ (problem : Problem) (valid : IsValid problem) (params : ℕ) (atoms : List Atom) where
  literal_terms : (variable_count : ℕ) (theta : List Term) → length theta ≡ variable_count → All (IsObjectOrParameter problem.objects params) theta → (t : Term)
      → IsTermOf problem variable_count t → IsObjectOrParameter problem.objects params (substitute theta t)
  literal_terms variable_count theta long names (Obj n) is = is
  literal_terms variable_count theta long names (Var v) is = names v WildCard (omega (arith, long, is))
  literal_terms variable_count theta long names WildCard is = absurd is

  pub conclusion-names : (lit : Lit) (d : Derivation)
      → Proves (from_atoms (IsObjectOrParameter problem.objects params) atoms) problem.axioms [] lit d
      → All (IsObjectOrParameter problem.objects params) lit.atom.args
  conclusion-names lit (fact leaf) p = subst (λ (l : Lit). All (IsObjectOrParameter problem.objects params) l.atom.args) (sym p.0) p.1.1
  conclusion-names lit (ancestor i) p = absurd (nothing i p)
    where
      nothing : (i : ℕ) → ¬ (slice_get [] i ≡ Some (complement_of lit))
      nothing i e = cc
  conclusion-names lit (step number theta place parts) p =
      let from = from_map (substitute_literal theta) p.0.lits place lit p.1.literal_at in
      let is_axiom : IsAxiomOf problem p.0 = All-got (IsAxiomOf problem) problem.axioms number p.0 valid.axioms p.1.axiom_at in
      let of_clause : IsAtomOf problem p.0.variable_count from.0.atom =
      All-got (λ (l : Lit). IsAtomOf problem p.0.variable_count l.atom) p.0.lits place from.0 is_axiom.lits from.1 in
      subst (λ (l : Lit). All (IsObjectOrParameter problem.objects params) l.atom.args) from.2
      (All-map (IsObjectOrParameter problem.objects params) (substitute theta) from.0.atom.args
      (λ k d below. literal_terms p.0.variable_count theta p.1.terms p.1.choices _ (of_clause.1 k d below)))
  conclusion-names lit (gap atom) p = absurd p.1
  conclusion-names lit open_place p = absurd p
