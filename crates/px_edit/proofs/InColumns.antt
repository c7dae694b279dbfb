-- Derivations with their leaves in other columns: they prove the same, from the same atoms.
use Rattle.std.specs.Prelude.{◌≡◌, ◌+◌, ℕ, max, List, [], ◌∷◌, ◌++◌, map, flat_map}
use Rattle.std.proofs.Common.{refl, sym, ap, ◌∙◌, subst}
use Rattle.std.proofs.lemmas.List.{map-append}
use Rattle.px_terms.specs.declared.atom.Atom.{Atom}
use Rattle.px_terms.specs.declared.clause.Clause.{Clause}
use Rattle.px_terms.specs.declared.clause.Lit.{Lit}
use Rattle.px_terms.specs.declared.term.Term.{Term}
use Rattle.px_proof.specs.declared.proof.Leaf.{Leaf}
use Rattle.px_proof.specs.Derivation.{Derivation, Derivations, fact, ancestor, step, gap, open_place, none, also, leaves_of, all_leaves_of, leaf_atoms, terms_of, all_terms_of, height, greatest_height}
use Rattle.px_proof.specs.Literals.{positive_of}
use Rattle.px_proof.specs.Proves.{Proves, ProvesEach, from_atoms, parts_of}
use Rattle.px_table.specs.Marks.{row_leaves}
use Rattle.px_table.specs.Supports.{IsProofOf, ProvesEachOf}
use Rattle.px_edit.specs.Editing.{all_in_columns, in_columns, leaf_in_column}

module _ (f : ℕ → ℕ) where
  mutual
    pub leaves-columns : (d : Derivation) → leaves_of (in_columns f d) ≡ map (leaf_in_column f) (leaves_of d)
    leaves-columns (fact leaf) = refl
    leaves-columns (ancestor i) = refl
    leaves-columns (step number theta place parts) = all_leaves-columns parts
    leaves-columns (gap atom) = refl
    leaves-columns open_place = refl

    all_leaves-columns : (ds : Derivations) → all_leaves_of (all_in_columns f ds) ≡ map (leaf_in_column f) (all_leaves_of ds)
    all_leaves-columns none = refl
    all_leaves-columns (also d ds) =
        ap (λ l. l ++ all_leaves_of (all_in_columns f ds)) (leaves-columns d)
        ∙ ap (λ l. map (leaf_in_column f) (leaves_of d) ++ l) (all_leaves-columns ds)
        ∙ sym (map-append (leaf_in_column f) (leaves_of d) (all_leaves_of ds))

  pub row_leaves-columns : (row : List Derivation) → row_leaves (map (in_columns f) row) ≡ map (leaf_in_column f) (row_leaves row)
  row_leaves-columns [] = refl
  row_leaves-columns (d ∷ row) =
      ap (λ l. l ++ row_leaves (map (in_columns f) row)) (leaves-columns d)
      ∙ ap (λ l. map (leaf_in_column f) (leaves_of d) ++ l) (row_leaves-columns row)
      ∙ sym (map-append (leaf_in_column f) (leaves_of d) (row_leaves row))

  mutual
    pub terms-columns : (d : Derivation) → terms_of (in_columns f d) ≡ terms_of d
    terms-columns (fact leaf) = refl
    terms-columns (ancestor i) = refl
    terms-columns (step number theta place parts) = ap (λ l. theta ++ l) (all_terms-columns parts)
    terms-columns (gap atom) = refl
    terms-columns open_place = refl

    all_terms-columns : (ds : Derivations) → all_terms_of (all_in_columns f ds) ≡ all_terms_of ds
    all_terms-columns none = refl
    all_terms-columns (also d ds) =
        ap (λ l. l ++ all_terms_of (all_in_columns f ds)) (terms-columns d) ∙ ap (λ l. terms_of d ++ l) (all_terms-columns ds)

  mutual
    pub height-columns : (d : Derivation) → height (in_columns f d) ≡ height d
    height-columns (fact leaf) = refl
    height-columns (ancestor i) = refl
    height-columns (step number theta place parts) = ap (λ n. 1 + n) (heights-columns parts)
    height-columns (gap atom) = refl
    height-columns open_place = refl

    heights-columns : (ds : Derivations) → greatest_height (all_in_columns f ds) ≡ greatest_height ds
    heights-columns none = refl
    heights-columns (also d ds) =
        ap (λ n. max n (greatest_height (all_in_columns f ds))) (height-columns d) ∙ ap (max (height d)) (heights-columns ds)

  leaf_atoms-of : (leaves : List Leaf) → leaf_atoms (map (leaf_in_column f) leaves) ≡ leaf_atoms leaves
  leaf_atoms-of [] = refl
  leaf_atoms-of (leaf ∷ leaves) = ap (λ l. leaf.atom ∷ l) (leaf_atoms-of leaves)

  pub leaf_atoms-columns : (d : Derivation) → leaf_atoms (leaves_of (in_columns f d)) ≡ leaf_atoms (leaves_of d)
  leaf_atoms-columns d = ap leaf_atoms (leaves-columns d) ∙ leaf_atoms-of (leaves_of d)

  module _ (Is : Term → Type 0) (axioms : List Clause) where
    module _ (atoms : List Atom) where
      mutual
        proves-columns : (path : List Lit) (lit : Lit) (d : Derivation) → Proves (from_atoms Is atoms) axioms path lit d
            → Proves (from_atoms Is atoms) axioms path lit (in_columns f d)
        proves-columns path lit (fact leaf) p = p
        proves-columns path lit (ancestor i) p = p
        proves-columns path lit (step number theta place parts) p =
            (p.0, p.1, each-columns (lit ∷ path) (parts_of p.0.lits theta place) parts p.2)
        proves-columns path lit (gap atom) p = p
        proves-columns path lit open_place p = p

        each-columns : (path lits : List Lit) (ds : Derivations) → ProvesEach (from_atoms Is atoms) axioms path lits ds
            → ProvesEach (from_atoms Is atoms) axioms path lits (all_in_columns f ds)
        each-columns path [] none p = p
        each-columns path [] (also d ds) p = absurd p
        each-columns path (lit ∷ lits) none p = absurd p
        each-columns path (lit ∷ lits) (also d ds) p = (proves-columns path lit d p.0, each-columns path lits ds p.1)

    pub proof-columns : (atom : Atom) (d : Derivation) → IsProofOf Is axioms atom d → IsProofOf Is axioms atom (in_columns f d)
    proof-columns atom d is = record {
      proves = subst (λ (atoms : List Atom). Proves (from_atoms Is atoms) axioms [] (positive_of atom) (in_columns f d))
          (sym (leaf_atoms-columns d)) (proves-columns (leaf_atoms (leaves_of d)) [] (positive_of atom) d is.proves);
      terms = is.terms;
    }

    pub row-columns : (atoms : List Atom) (row : List Derivation) → ProvesEachOf Is axioms atoms row
        → ProvesEachOf Is axioms atoms (map (in_columns f) row)
    row-columns [] [] p = p
    row-columns [] (d ∷ row) p = absurd p
    row-columns (atom ∷ atoms) [] p = absurd p
    row-columns (atom ∷ atoms) (d ∷ row) p = (proof-columns atom d p.0, row-columns atoms row p.1)
