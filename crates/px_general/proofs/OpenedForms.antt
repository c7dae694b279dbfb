-- The opened derivation has the form of the one that it opens, and each derivation of the form gives terms that make its pairs equal.
use Rattle.std.specs.Prelude.{◌≡◌, ◌+◌, ℕ, Some, List, [], ◌∷◌, not, length, slice_get, All}
use Rattle.std.proofs.Common.{zero, suc, refl, sym, ap, ◌∙◌, subst}
use Rattle.std.specs.List.{AllZip}
use Rattle.px_terms.specs.declared.atom.Atom.{Atom}
use Rattle.px_terms.specs.declared.clause.Clause.{Clause}
use Rattle.px_terms.specs.declared.clause.Lit.{Lit}
use Rattle.px_terms.specs.declared.term.Term.{Term}
use Rattle.px_unify.specs.Changes.{MakesEachEqual}
use Rattle.px_proof.specs.Derivation.{Derivation, Derivations, fact, ancestor, step, gap, open_place, none, also, leaves_of, skeleton}
use Rattle.px_proof.specs.Literals.{complement_of, substitute_literal}
use Rattle.px_base.specs.Answers.{some_same}
use Rattle.px_proof.specs.PlaceLaws.{slice_get-map}
use Rattle.px_proof.specs.Proves.{Proves, ProvesEach, from_atoms}
use Rattle.px_proof.specs.Substitution.{derivation_under}
use Rattle.px_terms.specs.Substitution.{variables_from}
use Rattle.px_table.specs.UnderLaws.{from_map}
use Rattle.px_terms.proofs.VariableLemmas.{length-variables}
use Rattle.px_replay.specs.FreshVariables.{fresh_in}
use Rattle.px_replay.specs.Replay.{pairs_of, HasForm, HaveForms, opened, all_opened, own_terms}
use Rattle.px_general.proofs.Matching.{IsAlike, alike_parts, Matches, matches_from}
use Rattle.px_general.proofs.Opening.{HasFrom, IsNamedAdd, opened-is}
use Rattle.px_replay.proofs.Replaying.{pairs-equal}

alike_at : (path path' : List Lit) (i : ℕ) (lit : Lit) → AllZip IsAlike path path' → slice_get path i ≡ Some lit
    → (other : Lit) × (slice_get path' i ≡ Some other) × IsAlike lit other
alike_at [] path' i lit h e = absurd (cc)
alike_at (k ∷ path) [] i lit h e = absurd h
alike_at (k ∷ path) (m ∷ path') zero lit h e = (m, refl, subst (λ (x : Lit). IsAlike x m) (some_same e) h.0)
alike_at (k ∷ path) (m ∷ path') (suc i) lit h e = alike_at path path' i lit h.1 e

module _ (Is : Term → Type 0) (axioms : List Clause) (atoms : List Atom) (named : ℕ → ℕ → Atom) where
  mutual
    pub form-opened : (first : ℕ) (path path' : List Lit) (lit lit' : Lit) (d : Derivation) → AllZip IsAlike path path' → IsAlike lit lit'
        → Proves (from_atoms Is atoms) axioms path lit d
        → HasForm axioms path' lit' (opened named first d)
    form-opened first path path' lit lit' (fact leaf) paths alike p = sym alike.sign ∙ ap (λ (l : Lit). l.positive) p.0
    form-opened first path path' lit lit' (ancestor i) paths alike p =
        let r = alike_at path path' i (complement_of lit) paths p in
        (r.0, r.1, sym r.2.sign ∙ ap not alike.sign)
    form-opened first path path' lit lit' (step number theta place parts) paths alike p =
        let found = from_map (substitute_literal theta) p.0.lits place lit p.1.literal_at in (
          p.0,
          p.1.axiom_at,
          length-variables first (length theta) ∙ p.1.terms,
          (
            substitute_literal (variables_from first (length theta)) found.0,
            slice_get-map (substitute_literal (variables_from first (length theta))) p.0.lits place found.0 found.1,
            ap (λ (l : Lit). l.positive) found.2 ∙ alike.sign,
          ),
          forms-opened (first + length theta) (lit ∷ path) (lit' ∷ path') _ _ parts (alike, paths)
              (alike_parts theta (variables_from first (length theta)) p.0.lits place) p.2,
        )
    form-opened first path path' lit lit' (gap a) paths alike p = absurd p.1
    form-opened first path path' lit lit' open_place paths alike p = absurd p

    forms-opened : (first : ℕ) (path path' lits lits' : List Lit) (ds : Derivations) → AllZip IsAlike path path' → AllZip IsAlike lits lits'
        → ProvesEach (from_atoms Is atoms) axioms path lits ds
        → HaveForms axioms path' lits' (all_opened named first ds)
    forms-opened first path path' [] [] none paths alike p = tt
    forms-opened first path path' [] [] (also d ds) paths alike p = absurd p
    forms-opened first path path' [] (m ∷ lits') ds paths alike p = absurd alike
    forms-opened first path path' (l ∷ lits) [] ds paths alike p = absurd alike
    forms-opened first path path' (l ∷ lits) (m ∷ lits') none paths alike p = absurd p
    forms-opened first path path' (l ∷ lits) (m ∷ lits') (also d ds) paths alike p =
        (form-opened first path path' l m d paths alike.0 p.0, forms-opened (first + fresh_in d) path path' lits lits' ds paths alike.1 p.1)

  module _ (Other : Term → Type 0) (others : List Atom) (terms : List Term) where
    -- the terms of another derivation of the form make all pairs of the opened one equal, and the opened one under them is that derivation
    pub own_terms-unify : (first : ℕ) (lit opens other : Lit) (d e : Derivation) → Proves (from_atoms Is atoms) axioms [] lit d
        → Proves (from_atoms Other others) axioms [] other e → skeleton d ≡ skeleton e
        → IsAlike lit other → IsAlike lit opens → substitute_literal terms opens ≡ other → HasFrom terms first (own_terms e)
        → All (IsNamedAdd named terms) (leaves_of e)
        → Matches d e × (derivation_under terms (opened named first d) ≡ e)
        × MakesEachEqual (pairs_of axioms [] opens (opened named first d)) terms
    own_terms-unify first lit opens other d e proved proved' form alike alike_open same has names =
        let matches = matches_from Is Other axioms atoms others [] [] lit other d e alike proved proved' form in
        let is = opened-is named terms first d e matches has names in
        let here : Proves (from_atoms Other others) axioms [] (substitute_literal terms opens)
        (derivation_under terms (opened named first d)) =
        subst (λ (l : Lit). Proves (from_atoms Other others) axioms [] l (derivation_under terms (opened named first d))) (sym same)
        (subst (λ (x : Derivation). Proves (from_atoms Other others) axioms [] other x) (sym is) proved') in (
          matches,
          is,
          pairs-equal (from_atoms Other others) axioms terms [] opens (opened named first d)
              (form-opened first [] [] lit opens d tt alike_open proved) here,
        )
