-- Lists that are made item by item of other lists, and what holds of the terms of each item.
use Rattle.std.specs.Prelude.{◌≡◌, ◌<◌, ◌≤◌, ◌+◌, ℕ, List, [], ◌∷◌, ◌++◌, map, take, length, flat_map, slice_index_or, All}
use Rattle.std.proofs.Common.{zero, suc, refl, sym, ap, ◌∙◌, subst, arith, get_or, append_assoc}
use Rattle.std.proofs.lemmas.List.{flat_map_more, map-append, take_more}
use Rattle.px_base.proofs.Loops.{take_next, whole_taken}
use Rattle.px_terms.specs.declared.atom.Atom.{Atom}
use Rattle.px_terms.specs.declared.problem.Problem.{Problem}
use Rattle.px_terms.specs.declared.term.Term.{Term}
use Rattle.px_proof.specs.declared.proof.Proof.{Proof}
use Rattle.px_proof.specs.Derivation.{Derivation, also, all_terms_of, derivations, fact, no_atom, terms_of}
use Rattle.px_proof.specs.PlaceLaws.{All-prefix, All-back}
use Rattle.px_proof.specs.ProofTerm.{derivation_of}
use Rattle.px_table.specs.declared.table.Table.{Table}
use Rattle.px_table.specs.Parameters.{row_terms}
use Rattle.px_table.specs.Tables.{rows_of}
use Rattle.px_edit.specs.Editing.{all_in_columns, in_columns, new_number, wanted_atom, wanted_atoms, wanted_fact}
use Rattle.px_edit.proofs.Lists.{read-map}

-- ---- the terms of an item

pub part-within : {X A : Type 0} (f : X → List A) (P : A → Type 0) (xs : List X) (k : ℕ) (x : X) → k < length xs → x ≡ get_or xs k x
    → All P (flat_map f xs) → All P (f x)
part-within f P [] k x below is all = absurd (omega (arith, below))
part-within f P (y ∷ ys) zero x below is all = subst (λ z. All P (f z)) (sym is) (All-prefix P (f y) (flat_map f ys) all)
part-within f P (y ∷ ys) (suc k) x below is all = part-within f P ys k x (omega (arith, below)) is (All-back P (f y) (flat_map f ys) all)

pub part-within_map : {X Y A : Type 0} (g : X → Y) (f : Y → List A) (P : A → Type 0) (xs : List X) (k : ℕ) (x : X) → k < length xs
    → x ≡ get_or xs k x → All P (flat_map f (map g xs)) → All P (f (g x))
part-within_map g f P [] k x below is all = absurd (omega (arith, below))
part-within_map g f P (y ∷ ys) zero x below is all =
    subst (λ z. All P (f (g z))) (sym is) (All-prefix P (f (g y)) (flat_map f (map g ys)) all)
part-within_map g f P (y ∷ ys) (suc k) x below is all =
    part-within_map g f P ys k x (omega (arith, below)) is (All-back P (f (g y)) (flat_map f (map g ys)) all)

-- ---- lists that are made item by item

-- one item more, by its place
pub mapped-at : {X Y : Type 0} (f : X → Y) (xs : List X) (k : ℕ) (d : X) (made after : List Y) (y : Y) → k < length xs
    → made ≡ map f (take k xs) → after ≡ made ++ y ∷ [] → y ≡ f (get_or xs k d) → after ≡ map f (take (k + 1) xs)
mapped-at f xs k d made after y below made_is after_is y_is =
    after_is ∙ ap (λ l. l ++ y ∷ []) made_is ∙ ap (λ z. map f (take k xs) ++ z ∷ []) y_is
    ∙ sym (ap (map f) (take_more xs k d below) ∙ map-append f (take k xs) (get_or xs k d ∷ []))

-- the same of what is seen of the items
pub made-at : {X Z W : Type 0} (view : Z → W) (f : X → W) (xs : List X) (k : ℕ) (d : X) (made after : List Z) (z : Z) → k < length xs
    → map view made ≡ map f (take k xs) → after ≡ made ++ z ∷ [] → view z ≡ f (get_or xs k d) → map view after ≡ map f (take (k + 1) xs)
made-at view f xs k d made after z below made_is after_is z_is =
    mapped-at f xs k d (map view made) (map view after) (view z) below made_is (ap (map view) after_is ∙ map-append view made (z ∷ [])) z_is

pub map_twice : {X Y Z : Type 0} (f : Y → Z) (g : X → Y) (xs : List X) → map (λ x. f (g x)) xs ≡ map f (map g xs)
map_twice f g [] = refl
map_twice f g (x ∷ xs) = ap (λ l. f (g x) ∷ l) (map_twice f g xs)

-- all items
pub mapped_all : {X Y : Type 0} (f : X → Y) (xs : List X) (k : ℕ) (made : List Y) → length xs ≤ k → made ≡ map f (take k xs)
    → made ≡ map f xs
mapped_all f xs k made past made_is = made_is ∙ ap (map f) (whole_taken xs (take k xs) k refl past)

pub in_columns-each : (f : ℕ → ℕ) (ds : List Derivation) → derivations (map (in_columns f) ds) ≡ all_in_columns f (derivations ds)
in_columns-each f [] = refl
in_columns-each f (d ∷ ds) = λ i. also (in_columns f d) (in_columns-each f ds i)

-- ---- lists that are collected one item after the other

pub collected : {X A : Type 0} (f : X → List A) (xs : List X) (k : ℕ) (x : X) (start now after : List A) → k < length xs → x ≡ get_or xs k x
    → now ≡ start ++ flat_map f (take k xs) → after ≡ now ++ f x → after ≡ start ++ flat_map f (take (k + 1) xs)
collected f xs k x start now after below is now_is after_is =
    after_is ∙ ap (λ l. l ++ f x) now_is ∙ flat_map_more f start (take k xs) x
    ∙ ap (λ l. start ++ flat_map f l) (sym (take_next xs k x below is))

pub collected_all : {X A : Type 0} (f : X → List A) (xs : List X) (k : ℕ) (start now : List A) → length xs ≤ k
    → now ≡ start ++ flat_map f (take k xs) → now ≡ start ++ flat_map f xs
collected_all f xs k start now past now_is = now_is ∙ ap (λ l. start ++ flat_map f l) (whole_taken xs (take k xs) k refl past)

abbrev pub proof_terms : Proof → List Term
proof_terms p = terms_of (derivation_of p)

pub each-terms : (proofs : List Proof) → all_terms_of (derivations (map derivation_of proofs)) ≡ flat_map proof_terms proofs
each-terms [] = refl
each-terms (p ∷ proofs) = ap (λ l. proof_terms p ++ l) (each-terms proofs)

abbrev pub row_terms_of : List Proof → List Term
row_terms_of row = all_terms_of (derivations (map derivation_of row))

each-row : (row : List Proof) → row_terms_of row ≡ flat_map terms_of (map derivation_of row)
each-row [] = refl
each-row (p ∷ row) = ap (λ l. proof_terms p ++ l) (each-row row)

pub rows-terms : (rows : List (List Proof)) → flat_map row_terms_of rows ≡ row_terms (rows_of rows)
rows-terms [] = refl
rows-terms (row ∷ rows) =
    ap (λ l. l ++ flat_map row_terms_of rows) (each-row row) ∙ ap (λ l. flat_map terms_of (map derivation_of row) ++ l) (rows-terms rows)

pub four_parts : (marks steps goal rows : List Term) → ((marks ++ steps) ++ goal) ++ rows ≡ marks ++ (steps ++ (goal ++ rows))
four_parts marks steps goal rows = append_assoc (marks ++ steps) goal rows ∙ append_assoc marks steps (goal ++ rows)

-- ---- the parts of the kept steps

-- the row at a place as derivations
pub row-at : (rows : List (List Proof)) (k : ℕ) → slice_index_or (rows_of rows) k [] ≡ map derivation_of (slice_index_or rows k [])
row-at [] k = refl
row-at (row ∷ rows) zero = refl
row-at (row ∷ rows) (suc k) = row-at rows k

-- a wanted fact is that of the goal's atom at its place
pub fact-at : (problem : Problem) (table : Table) (wanted : List (ℕ × ℕ)) (kept : List ℕ) (goal : List Atom) (place : ℕ)
    → place < length wanted → goal ≡ wanted_atoms problem table wanted
    → fact (record {
      column = new_number kept (slice_index_or wanted place (0, 0)).0;
      index = (slice_index_or wanted place (0, 0)).1;
      atom = slice_index_or goal place no_atom;
    }) ≡ wanted_fact problem table kept (slice_index_or wanted place (0, 0))
fact-at problem table wanted kept goal place below is =
    ap (λ (atom : Atom). fact (record {
      column = new_number kept (slice_index_or wanted place (0, 0)).0;
      index = (slice_index_or wanted place (0, 0)).1;
      atom = atom;
    }))
    (ap (λ (l : List Atom). slice_index_or l place no_atom) is
    ∙ read-map (wanted_atom problem table) wanted place (0, 0) no_atom below)
