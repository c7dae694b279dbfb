-- Grafted derivations, leaf by leaf and proof by proof.
use Rattle.std.proofs.Common.{◌≡◌, ℕ, zero, suc, ◌+◌, ◌<◌, ◌≤◌, Bool, true, false, List, [], ◌∷◌, ◌++◌, length, map, drop, get_or, refl, sym, ap, ◌∙◌, subst, arith, length-append, add-one}
use borrow.Author.Tests.{eqb-true}
use Rattle.std.specs.Prelude.{◌==◌, not, cond, All, slice_index_or}
use Rattle.std.proofs.lemmas.List.{append-nil}
use Rattle.std.proofs.lemmas.List.Elements.{filter-append}
use Rattle.px_proof.specs.declared.proof.Leaf.{Leaf}
use Rattle.px_proof.specs.declared.proof.Proof.{Proof}
use Rattle.px_proof.specs.declared.proof.Proof.TheVariants.{Fact}
use Rattle.px_proof.specs.Derivation.{Derivation, fact, open_place, also, derivations, leaves_of, all_leaves_of}
use Rattle.px_proof.specs.Grafting.{first_leaves, later_leaves, raised, in_place_of, grafted, all_grafted}
use Rattle.px_proof.specs.LayerLaws.{derivation_of-fact}
use Rattle.px_proof.specs.PlaceLaws.{All-prefix, All-back}
use Rattle.px_proof.specs.ProofTerm.{derivation_of}

-- ---- one leaf

cond_true : {X : Type 0} (b : Bool) (x y : X) → b ≡ true → cond b x y ≡ x
cond_true b x y is = ap (λ c. cond c x y) is

cond_false : {X : Type 0} (b : Bool) (x y : X) → b ≡ false → cond b x y ≡ y
cond_false b x y is = ap (λ c. cond c x y) is

part_at : (parts : List Proof) (used : ℕ) (part : Proof) → used < length parts
    → slice_index_or (drop used (map derivation_of parts)) 0 open_place ≡ derivation_of (get_or parts used part)
part_at [] used part below = absurd (omega (arith, below))
part_at (p ∷ parts) zero part below = refl
part_at (p ∷ parts) (suc used) part below = part_at parts used part (omega (arith, below))

is_first : (n : ℕ) → n ≡ 0 → (n == 0) ≡ true
is_first n is = ap (λ k. k == 0) is

is_later : (n : ℕ) → (¬ (n ≡ 0)) → (n == 0) ≡ false
is_later n later = elim (n == 0) as (λ b. (n == 0) ≡ b → b ≡ false) [
  | true ↦ λ yes. absurd (later (eqb-true n 0 yes))
  | false ↦ λ _. refl
] refl

-- the part that is next
pub place_first : (shift : ℕ) (parts : List Proof) (used : ℕ) (leaf : Leaf) (part : Proof) → leaf.column ≡ 0 → used < length parts
    → part ≡ get_or parts used part
    → derivation_of part ≡ in_place_of shift (drop used (map derivation_of parts)) leaf
place_first shift parts used leaf part first below is =
    ap derivation_of is ∙ sym (part_at parts used part below)
    ∙ sym (cond_true (leaf.column == 0) (slice_index_or (drop used (map derivation_of parts)) 0 open_place) (fact (raised shift leaf))
    (is_first leaf.column first))

-- where there is one
pub one_left : (leaf : Leaf) (used count : ℕ) → leaf.column ≡ 0 → used + length (first_leaves (leaf ∷ [])) ≤ count → used < count
one_left leaf used count first enough =
    let one : length (first_leaves (leaf ∷ [])) ≡ 1 =
    ap length (cond_true (leaf.column == 0) (leaf ∷ []) [] (is_first leaf.column first)) in
    omega (arith, one, enough)

-- the leaf in a higher column
pub place_later : (shift : ℕ) (parts : List Derivation) (leaf : Leaf) → (¬ (leaf.column ≡ 0))
    → derivation_of (Fact (raised shift leaf)) ≡ in_place_of shift parts leaf
place_later shift parts leaf later =
    derivation_of-fact (raised shift leaf)
    ∙ sym (cond_false (leaf.column == 0) (slice_index_or parts 0 open_place) (fact (raised shift leaf)) (is_later leaf.column later))

-- ---- proof by proof

-- how many parts the derivation takes
abbrev pub takes : Derivation → ℕ
takes d = length (first_leaves (leaves_of d))

abbrev pub all_take : List Derivation → ℕ
all_take ds = length (first_leaves (all_leaves_of (derivations ds)))

abbrev pub each_grafted : ℕ → List Derivation → List Derivation → List Derivation
each_grafted shift parts [] = []
each_grafted shift parts (d ∷ ds) = grafted shift parts d ∷ each_grafted shift (drop (takes d) parts) ds

pub grafted_each : (shift : ℕ) (parts ds : List Derivation)
    → all_grafted shift parts (derivations ds) ≡ derivations (each_grafted shift parts ds)
grafted_each shift parts [] = refl
grafted_each shift parts (d ∷ ds) = ap (λ rest. also (grafted shift parts d) rest) (grafted_each shift (drop (takes d) parts) ds)

drop_suc : (proofs : List Proof) (k : ℕ) (p : Proof) → p ≡ get_or proofs k p → k < length proofs → drop k proofs ≡ p ∷ drop (suc k) proofs
drop_suc [] k p is below = absurd (omega (arith, below))
drop_suc (q ∷ proofs) zero p is below = λ i. sym is i ∷ proofs
drop_suc (q ∷ proofs) (suc k) p is below = drop_suc proofs k p is (omega (arith, below))

drop_next : (proofs : List Proof) (k : ℕ) (p : Proof) → p ≡ get_or proofs k p → k < length proofs → drop k proofs ≡ p ∷ drop (k + 1) proofs
drop_next proofs k p is below = drop_suc proofs k p is below ∙ ap (λ n. p ∷ drop n proofs) (sym (add-one k))

module _ (proofs : List Proof) (k : ℕ) (p : Proof) (is : p ≡ get_or proofs k p) (below : k < length proofs) where
  -- it takes its parts, and the others theirs
  pub take_next : all_take (map derivation_of (drop k proofs))
      ≡ takes (derivation_of p) + all_take (map derivation_of (drop (k + 1) proofs))
  take_next =
      ap (λ ps. all_take (map derivation_of ps)) (drop_next proofs k p is below)
      ∙ ap length (filter-append (λ (leaf : Leaf). leaf.column == 0) (leaves_of (derivation_of p))
      (all_leaves_of (derivations (map derivation_of (drop (k + 1) proofs)))))
      ∙ length-append (first_leaves (leaves_of (derivation_of p)))
      (first_leaves (all_leaves_of (derivations (map derivation_of (drop (k + 1) proofs)))))

later_both : (P : Leaf → Type 0) (xs ys : List Leaf) → All P (later_leaves (xs ++ ys)) → All P (later_leaves xs) × All P (later_leaves ys)
later_both P xs ys all =
    let both = subst (All P) (filter-append (λ (leaf : Leaf). not (leaf.column == 0)) xs ys) all in
    (All-prefix P (later_leaves xs) (later_leaves ys) both, All-back P (later_leaves xs) (later_leaves ys) both)

-- what holds of the leaves of all in later columns holds of those of one
pub later_of_one : (P : Leaf → Type 0) (proofs : List Proof) (k : ℕ) (p : Proof) → k < length proofs
    → All P (later_leaves (all_leaves_of (derivations (map derivation_of proofs))))
    → All P (later_leaves (leaves_of (derivation_of (get_or proofs k p))))
later_of_one P [] k p below all = absurd (omega (arith, below))
later_of_one P (q ∷ proofs) zero p below all =
    (later_both P (leaves_of (derivation_of q)) (all_leaves_of (derivations (map derivation_of proofs))) all).0
later_of_one P (q ∷ proofs) (suc k) p below all =
    later_of_one P proofs k p (omega (arith, below))
    (later_both P (leaves_of (derivation_of q)) (all_leaves_of (derivations (map derivation_of proofs))) all).1

-- where none is left, what is made is what all make
pub all_made : (shift : ℕ) (parts ds left : List Derivation) (made : List Derivation) (rest : List Derivation) → left ≡ []
    → made ++ each_grafted shift rest left ≡ each_grafted shift parts ds
    → derivations made ≡ all_grafted shift parts (derivations ds)
all_made shift parts ds left made rest none_left invariant =
    ap derivations (sym (append-nil made) ∙ ap (λ (ls : List Derivation). made ++ each_grafted shift rest ls) (sym none_left) ∙ invariant)
    ∙ sym (grafted_each shift parts ds)
