-- What is true of several proof terms, and of each.
use Rattle.std.proofs.Common.{◌≡◌, ℕ, zero, suc, ◌<◌, ◌≤◌, List, [], ◌∷◌, length, map, get_or, sym, ap, ◌∙◌, refl, arith}
use Rattle.std.specs.Prelude.{All}
use Rattle.std.proofs.Math.Nat.{max-le, le-max_left, le-max_right}
use Rattle.px_terms.specs.declared.term.Term.{Term}
use Rattle.px_proof.specs.declared.proof.Proof.{Proof}
use Rattle.px_proof.specs.Derivation.{Derivation, Derivations, none, also, derivations, height, greatest_height, terms_of, all_terms_of, skeletons}
use Rattle.px_proof.specs.PlaceLaws.{All-prefix, All-back}
use Rattle.px_proof.specs.ProofTerm.{derivation_of}
use Rattle.px_proof.specs.Substitution.{derivation_under, derivations_under}

abbrev of_all : List Proof → Derivations
of_all proofs = derivations (map derivation_of proofs)

pub highest : (proofs : List Proof) (k : ℕ) (d : Proof) → k < length proofs
    → height (derivation_of (get_or proofs k d)) ≤ greatest_height (of_all proofs)
highest [] k d below = absurd (omega (arith, below))
highest (p ∷ ps) zero d below = le-max_left (height (derivation_of p)) (greatest_height (of_all ps))
highest (p ∷ ps) (suc k) d below =
    let rest = highest ps k d (omega (arith, below)) in
    let most = le-max_right (height (derivation_of p)) (greatest_height (of_all ps)) in
    omega (arith, rest, most)

pub none_higher : (proofs : List Proof) (limit : ℕ)
    → ((k : ℕ) (d : Proof) → k < length proofs → height (derivation_of (get_or proofs k d)) ≤ limit)
    → greatest_height (of_all proofs) ≤ limit
none_higher [] limit each = omega arith
none_higher (p ∷ ps) limit each =
    max-le (each 0 p (omega arith)) (none_higher ps limit (λ k d below. each (suc k) d (omega (arith, below))))

pub terms_of_one : (P : Term → Type 0) (proofs : List Proof) (k : ℕ) (d : Proof) → k < length proofs → All P (all_terms_of (of_all proofs))
    → All P (terms_of (derivation_of (get_or proofs k d)))
terms_of_one P [] k d below all = absurd (omega (arith, below))
terms_of_one P (p ∷ ps) zero d below all = All-prefix P (terms_of (derivation_of p)) (all_terms_of (of_all ps)) all
terms_of_one P (p ∷ ps) (suc k) d below all =
    terms_of_one P ps k d (omega (arith, below)) (All-back P (terms_of (derivation_of p)) (all_terms_of (of_all ps)) all)

pub under_each : (terms : List Term) (ds : List Derivation)
    → derivations_under terms (derivations ds) ≡ derivations (map (derivation_under terms) ds)
under_each terms [] = refl
under_each terms (d ∷ ds) = ap (λ rest. also (derivation_under terms d) rest) (under_each terms ds)

count : Derivations → ℕ
count none = 0
count (also d ds) = suc (count ds)

count-skeletons : (proofs : List Proof) → count (skeletons (of_all proofs)) ≡ length proofs
unfolding count
count-skeletons [] = refl
count-skeletons (p ∷ ps) = ap suc (count-skeletons ps)

-- proofs of the same shapes are as many
pub as_many : (a b : List Proof) → skeletons (of_all a) ≡ skeletons (of_all b) → length a ≡ length b
as_many a b same = sym (count-skeletons a) ∙ ap count same ∙ count-skeletons b
