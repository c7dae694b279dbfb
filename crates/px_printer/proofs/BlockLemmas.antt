-- The words of a step, which come before those of its parts.
use Rattle.std.proofs.Common.{◌≡◌, ◌++◌, ◌∙◌, ℕ, List, [], ◌∷◌, ap, codes, length, map, refl, suc, sym}
use Rattle.std.specs.Fmt.{decimal}
use Rattle.std.proofs.lemmas.List.{append_assoc}
use Rattle.std.proofs.lemmas.List.Concat.{flat_map-append}
use Rattle.px_names.specs.Lists.{NameLists}
use Rattle.px_proof.specs.declared.proof.Proof.{Proof}
use Rattle.px_proof.specs.Derivation.{Derivation, derivations, step}
use Rattle.px_proof.specs.ProofTerm.{derivation_of}
use Rattle.px_terms.specs.declared.term.Term.{Term}
use Rattle.px_printer.specs.Blocks.{all_proof_words, count_of, proof_words, terms_text}
use Rattle.px_printer.specs.Texts.{after_spaces}
use Rattle.px_printer.specs.declared.spelling.Spelling.{Spelling}

count-derivations : (ps : List Proof) → count_of (derivations (map derivation_of ps)) ≡ length ps
count-derivations [] = refl
count-derivations (p ∷ ps) = ap suc (count-derivations ps)

module _ (names : NameLists) (spelling : Spelling) (number place : ℕ) (theta : List Term) (subs : List Proof) where
  -- the words of a step with these terms and this number of parts, but for those of its parts
  abbrev own_words : List Term → ℕ → List (List ℕ)
  own_words terms count = codes "s" ∷ decimal number ∷ decimal place ∷ decimal count ∷ terms_text names spelling terms ∷ []

  abbrev part_words : List Proof → List (List ℕ)
  part_words parts = all_proof_words names spelling (derivations (map derivation_of parts))

  step-words : after_spaces (own_words theta (length subs)) ++ after_spaces (part_words subs)
      ≡ after_spaces (proof_words names spelling (step number theta place (derivations (map derivation_of subs))))
  step-words = sym (flat_map-append (λ (word : List ℕ). codes " " ++ word) (own_words theta (length subs)) (part_words subs))
      ∙ ap (λ (n : ℕ). after_spaces (own_words theta n ++ part_words subs)) (sym (count-derivations subs))

  -- where a text grows by the words of a step, and then by those of its parts, it grows by the words of the proof
  pub step-written : (terms : List Term) (parts : List Proof) (d : Derivation) (old mid new : List ℕ) → terms ≡ theta → parts ≡ subs
      → d ≡ step number theta place (derivations (map derivation_of subs))
      → mid ≡ old ++ after_spaces (own_words terms (length parts)) → new ≡ mid ++ after_spaces (part_words parts)
      → new ≡ old ++ after_spaces (proof_words names spelling d)
  step-written terms parts d old mid new terms_are parts_are d_is first then =
      then ∙ ap (λ (text : List ℕ). text ++ after_spaces (part_words parts)) first
      ∙ append_assoc old (after_spaces (own_words terms (length parts))) (after_spaces (part_words parts))
      ∙ (λ i. old ++ (after_spaces (own_words (terms_are i) (length (parts_are i))) ++ after_spaces (part_words (parts_are i))))
      ∙ ap (λ (text : List ℕ). old ++ text) step-words
      ∙ ap (λ (x : Derivation). old ++ after_spaces (proof_words names spelling x)) (sym d_is)
