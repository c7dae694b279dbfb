-- Where the numbers in the leaves and terms of a proof have their names, the proof has them.
use Rattle.std.specs.Prelude.{[], All}
use Rattle.std.proofs.Common.{subst}
use Rattle.std.proofs.lemmas.List.{map-append}
use Rattle.std.proofs.lemmas.List.Elements.{All-head}
use Rattle.px_names.specs.Lists.{NameLists}
use Rattle.px_proof.specs.declared.proof.Leaf.{Leaf}
use Rattle.px_proof.specs.Derivation.{Derivation, Derivations, fact, ancestor, step, gap, open_place, none, also, leaf_atoms, leaves_of, all_leaves_of, terms_of, all_terms_of}
use Rattle.px_proof.specs.PlaceLaws.{All-back, All-prefix}
use Rattle.px_printer.specs.Blocks.{AreNamedProofs, IsNamedProof}
use Rattle.px_printer.specs.Texts.{IsNamedAtom, IsNamedTerm}

module _ (names : NameLists) where
  mutual
    pub named_proof : (d : Derivation) → All (IsNamedAtom names) (leaf_atoms (leaves_of d)) → All (IsNamedTerm names) (terms_of d)
        → IsNamedProof names d
    named_proof (fact leaf) atoms terms = All-head (IsNamedAtom names) leaf.atom [] atoms
    named_proof (ancestor i) atoms terms = tt
    named_proof (step number theta place parts) atoms terms = (
      All-prefix (IsNamedTerm names) theta (all_terms_of parts) terms,
      named_proofs parts atoms (All-back (IsNamedTerm names) theta (all_terms_of parts) terms),
    )
    named_proof (gap atom) atoms terms = tt
    named_proof open_place atoms terms = tt

    pub named_proofs : (ds : Derivations) → All (IsNamedAtom names) (leaf_atoms (all_leaves_of ds))
        → All (IsNamedTerm names) (all_terms_of ds)
        → AreNamedProofs names ds
    named_proofs none atoms terms = tt
    named_proofs (also d ds) atoms terms =
        let both = subst (All (IsNamedAtom names)) (map-append (λ (leaf : Leaf). leaf.atom) (leaves_of d) (all_leaves_of ds)) atoms in (
          named_proof d (All-prefix (IsNamedAtom names) (leaf_atoms (leaves_of d)) (leaf_atoms (all_leaves_of ds)) both)
              (All-prefix (IsNamedTerm names) (terms_of d) (all_terms_of ds) terms),
          named_proofs ds (All-back (IsNamedAtom names) (leaf_atoms (leaves_of d)) (leaf_atoms (all_leaves_of ds)) both)
              (All-back (IsNamedTerm names) (terms_of d) (all_terms_of ds) terms),
        )
