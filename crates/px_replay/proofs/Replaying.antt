-- Terms make all pairs of a derivation's form equal exactly where it proves its literal under them.
use Rattle.std.specs.Prelude.{◌≡◌, ℕ, Option, Some, None, List, [], ◌∷◌, map, slice_get}
use Rattle.std.proofs.Common.{sym, ap, ◌∙◌, subst}
use Rattle.std.proofs.lemmas.List.Elements.{All-nil, All-cons, All-append}
use Rattle.px_terms.specs.declared.clause.Clause.{Clause}
use Rattle.px_terms.specs.declared.clause.Lit.{Lit}
use Rattle.px_terms.specs.declared.term.Term.{Term}
use Rattle.px_terms.specs.Language.{substitute}
use Rattle.px_terms.specs.Substitution.{substitute_atom}
use Rattle.px_unify.specs.Changes.{MakesPairEqual, MakesEachEqual}
use Rattle.px_proof.specs.Derivation.{Derivation, Derivations, fact, ancestor, step, gap, open_place, none, also, no_atom}
use Rattle.px_proof.specs.Literals.{complement_of, substitute_literal}
use Rattle.px_base.specs.Answers.{some_same}
use Rattle.px_proof.specs.PlaceLaws.{slice_get-map}
use Rattle.px_proof.specs.Proves.{Rules, Proves, ProvesEach, instance_of, parts_of}
use Rattle.px_proof.specs.Substitution.{derivation_under, derivations_under}
use Rattle.px_proof.specs.SubstitutionLaws.{instance_twice, parts_under}
use Rattle.px_replay.specs.Replay.{atom_at, literals_at, pairs_of, all_pairs_of, HasForm, HaveForms}

pub atom_at-is : (lits : List Lit) (k : ℕ) (lit : Lit) → slice_get lits k ≡ Some lit → atom_at lits k ≡ lit.atom
atom_at-is lits k lit at = ap (λ (o : Option Lit). elim o [ None ↦ no_atom | Some l ↦ l.atom ]) at

pub literals_at-is : (axioms : List Clause) (number : ℕ) (clause : Clause) → slice_get axioms number ≡ Some clause
    → literals_at axioms number ≡ clause.lits
literals_at-is axioms number clause at = ap (λ (o : Option Clause). elim o [ None ↦ [] | Some c ↦ c.lits ]) at

module _ (rules : Rules) (axioms : List Clause) (terms : List Term) where
  mutual
    -- where it proves its literal under the terms, they make all pairs equal
    pub pairs-equal : (path : List Lit) (lit : Lit) (d : Derivation) → HasForm axioms path lit d
        → Proves rules axioms (map (substitute_literal terms) path) (substitute_literal terms lit) (derivation_under terms d)
        → MakesEachEqual (pairs_of axioms path lit d) terms
    pairs-equal path lit (fact leaf) form proved =
        All-cons (MakesPairEqual terms) _ [] (ap (λ (l : Lit). l.atom) proved.0) (All-nil (MakesPairEqual terms))
    pairs-equal path lit (ancestor i) form proved =
        let there : slice_get (map (substitute_literal terms) path) i ≡ Some (substitute_literal terms form.0) =
        slice_get-map (substitute_literal terms) path i form.0 form.1 in
        let same : complement_of (substitute_literal terms lit) ≡ substitute_literal terms form.0 = some_same (sym proved ∙ there) in
        All-cons (MakesPairEqual terms) _ [] (ap (λ (l : Lit). l.atom) same
        ∙ sym (ap (substitute_atom terms) (atom_at-is path i form.0 form.1))) (All-nil (MakesPairEqual terms))
    pairs-equal path lit (step number theta place parts) form proved =
        let clause = form.0 in
        let same_clause : proved.0 ≡ clause = some_same (sym proved.1.axiom_at ∙ form.1) in
        let found = form.3.0 in
        let here : slice_get (instance_of clause.lits (map (substitute terms) theta)) place ≡ Some (substitute_literal terms lit) =
        subst (λ (c : Clause). slice_get (instance_of c.lits (map (substitute terms) theta)) place ≡ Some (substitute_literal terms lit))
        same_clause proved.1.literal_at in
        let there : slice_get (instance_of clause.lits (map (substitute terms) theta)) place ≡ Some (substitute_literal terms found) =
        ap (λ (ls : List Lit). slice_get ls place) (sym (instance_twice terms theta clause.lits))
        ∙ slice_get-map (substitute_literal terms) (instance_of clause.lits theta) place found form.3.1 in
        let same : substitute_literal terms lit ≡ substitute_literal terms found = some_same (sym here ∙ there) in
        let head : substitute_atom terms lit.atom ≡ substitute_atom terms (atom_at (instance_of clause.lits theta) place) =
        ap (λ (l : Lit). l.atom) same
        ∙ sym (ap (substitute_atom terms) (atom_at-is (instance_of clause.lits theta) place found form.3.1)) in
        let below : ProvesEach rules axioms (substitute_literal terms lit ∷ map (substitute_literal terms) path)
        (map (substitute_literal terms) (parts_of clause.lits theta place)) (derivations_under terms parts) =
        subst (λ (ls : List Lit). ProvesEach rules axioms (substitute_literal terms lit ∷ map (substitute_literal terms) path) ls
        (derivations_under terms parts))
        (ap (λ (c : Clause). parts_of c.lits (map (substitute terms) theta) place) same_clause
        ∙ sym (parts_under terms theta clause.lits place)) proved.2 in
        subst (λ (ls : List Lit). MakesEachEqual ((lit.atom, atom_at (instance_of ls theta) place)
        ∷ all_pairs_of axioms (lit ∷ path) (parts_of ls theta place) parts) terms)
        (sym (literals_at-is axioms number clause form.1))
        (All-cons (MakesPairEqual terms) _ _ head (all_pairs-equal (lit ∷ path) (parts_of clause.lits theta place) parts form.4 below))
    pairs-equal path lit (gap atom) form proved = absurd form
    pairs-equal path lit open_place form proved = absurd form

    all_pairs-equal : (path lits : List Lit) (ds : Derivations) → HaveForms axioms path lits ds
        → ProvesEach rules axioms (map (substitute_literal terms) path) (map (substitute_literal terms) lits) (derivations_under terms ds)
        → MakesEachEqual (all_pairs_of axioms path lits ds) terms
    all_pairs-equal path [] none forms proved = All-nil (MakesPairEqual terms)
    all_pairs-equal path [] (also d ds) forms proved = absurd forms
    all_pairs-equal path (lit ∷ lits) none forms proved = absurd forms
    all_pairs-equal path (lit ∷ lits) (also d ds) forms proved =
        All-append (MakesPairEqual terms) (pairs_of axioms path lit d) (all_pairs_of axioms path lits ds)
        (pairs-equal path lit d forms.0 proved.0) (all_pairs-equal path lits ds forms.1 proved.1)
