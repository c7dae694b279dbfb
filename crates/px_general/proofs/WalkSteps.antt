-- Lists of terms that are collected one item after the other.
use Rattle.std.specs.Prelude.{◌≡◌, ◌<◌, ◌≤◌, ◌+◌, ℕ, List, [], ◌∷◌, ◌++◌, map, take, length, flat_map}
use Rattle.std.proofs.Common.{refl, sym, ap, ◌∙◌, append_assoc, get_or}
use Rattle.std.proofs.lemmas.List.{flat_map_more}
use Rattle.px_base.proofs.Loops.{take_next, whole_taken}
use Rattle.px_terms.specs.declared.term.Term.{Term}
use Rattle.px_proof.specs.declared.proof.Leaf.{Leaf}
use Rattle.px_proof.specs.declared.proof.Proof.{Proof}
use Rattle.px_proof.specs.Derivation.{all_terms_of, derivations, leaves_of, terms_of}
use Rattle.px_proof.specs.ProofTerm.{derivation_of}
use Rattle.px_table.specs.Marks.{row_leaves}
use Rattle.px_table.specs.Tables.{rows_of}
use Rattle.px_general.specs.General.{row_terms}
use Rattle.px_general.specs.Naming.{args_of_leaves, leaf_terms}

-- one item more
pub collected : {X A : Type 0} (f : X → List A) (xs : List X) (k : ℕ) (x : X) (start now after : List A) → k < length xs → x ≡ get_or xs k x
    → now ≡ start ++ flat_map f (take k xs) → after ≡ now ++ f x → after ≡ start ++ flat_map f (take (k + 1) xs)
collected f xs k x start now after below is now_is after_is =
    after_is ∙ ap (λ l. l ++ f x) now_is ∙ flat_map_more f start (take k xs) x
    ∙ ap (λ l. start ++ flat_map f l) (sym (take_next xs k x below is))

-- all items
pub collected_all : {X A : Type 0} (f : X → List A) (xs : List X) (k : ℕ) (start now : List A) → length xs ≤ k
    → now ≡ start ++ flat_map f (take k xs) → now ≡ start ++ flat_map f xs
collected_all f xs k start now past now_is = now_is ∙ ap (λ l. start ++ flat_map f l) (whole_taken xs (take k xs) k refl past)

-- ---- the terms of proofs

abbrev pub proof_terms : Proof → List Term
proof_terms p = terms_of (derivation_of p)

pub each-terms : (proofs : List Proof) → all_terms_of (derivations (map derivation_of proofs)) ≡ flat_map proof_terms proofs
each-terms [] = refl
each-terms (p ∷ proofs) = ap (λ l. proof_terms p ++ l) (each-terms proofs)

abbrev pub row_terms_of : List Proof → List Term
row_terms_of row = all_terms_of (derivations (map derivation_of row))

each-row : (row : List Proof) → row_terms_of row ≡ flat_map terms_of (map derivation_of row)
each-row [] = refl
each-row (p ∷ row) = ap (λ l. proof_terms p ++ l) (each-row row)

pub rows-terms : (rows : List (List Proof)) → flat_map row_terms_of rows ≡ row_terms (rows_of rows)
rows-terms [] = refl
rows-terms (row ∷ rows) =
    ap (λ l. l ++ flat_map row_terms_of rows) (each-row row) ∙ ap (λ l. flat_map terms_of (map derivation_of row) ++ l) (rows-terms rows)

-- ---- the terms of leaves

abbrev pub proof_leaf_terms : Proof → List Term
proof_leaf_terms p = args_of_leaves (leaves_of (derivation_of p))

args-append : (xs ys : List Leaf) → args_of_leaves (xs ++ ys) ≡ args_of_leaves xs ++ args_of_leaves ys
args-append [] ys = refl
args-append (x ∷ xs) ys =
    ap (λ l. x.atom.args ++ l) (args-append xs ys) ∙ sym (append_assoc x.atom.args (args_of_leaves xs) (args_of_leaves ys))

pub row-leaf_terms : (row : List Proof) → flat_map proof_leaf_terms row ≡ args_of_leaves (row_leaves (map derivation_of row))
row-leaf_terms [] = refl
row-leaf_terms (p ∷ row) =
    ap (λ l. proof_leaf_terms p ++ l) (row-leaf_terms row)
    ∙ sym (args-append (leaves_of (derivation_of p)) (row_leaves (map derivation_of row)))

abbrev pub row_leaf_terms_of : List Proof → List Term
row_leaf_terms_of row = args_of_leaves (row_leaves (map derivation_of row))

pub rows-leaf_terms : (rows : List (List Proof)) → flat_map row_leaf_terms_of rows ≡ leaf_terms (rows_of rows)
rows-leaf_terms [] = refl
rows-leaf_terms (row ∷ rows) = ap (λ l. row_leaf_terms_of row ++ l) (rows-leaf_terms rows)

-- ---- the four parts

pub four_parts : (leaves steps goal proofs : List Term) → ((leaves ++ steps) ++ goal) ++ proofs ≡ leaves ++ (steps ++ (goal ++ proofs))
four_parts leaves steps goal proofs = append_assoc (leaves ++ steps) goal proofs ∙ append_assoc leaves steps (goal ++ proofs)
