-- The opened list, one proof more.
use Rattle.std.specs.Prelude.{◌≡◌, ◌<◌, ◌+◌, ℕ, List, [], ◌∷◌, ◌++◌, map, take, length, sum_by}
use Rattle.std.proofs.Common.{zero, suc, refl, ap, ◌∙◌, arith, get_or}
use Rattle.std.proofs.lemmas.List.Sums.{sum_by-cons}
use Rattle.px_terms.specs.declared.atom.Atom.{Atom}
use Rattle.px_terms.specs.declared.term.Term.TheVariants.{Var}
use Rattle.px_terms.specs.declared.instance.OpInst.{OpInst}
use Rattle.px_table.specs.Tables.{rows_of}
use Rattle.px_proof.specs.declared.proof.Proof.{Proof}
use Rattle.px_proof.specs.Derivation.{Derivation, derivations, also}
use Rattle.px_proof.specs.ProofTerm.{derivation_of}
use Rattle.px_terms.specs.Substitution.{variables_from}
use Rattle.px_replay.specs.FreshOf.{fresh_of_proof, row_fresh}
use Rattle.px_replay.specs.FreshVariables.{all_fresh_in, fresh_in}
use Rattle.px_replay.specs.Opened.{atom_in, opened_row, opened_rows, opened_steps, step_variables}
use Rattle.px_replay.specs.Replay.{all_opened, opened}

pub variables_from-push : (first count : ℕ) → variables_from first (count + 1) ≡ variables_from first count ++ Var (first + count) ∷ []
variables_from-push first zero =
    let a : zero + 1 ≡ suc zero = omega arith in
    let b : first ≡ first + zero = omega arith in
    ap (variables_from first) a ∙ ap (λ k. Var k ∷ []) b
variables_from-push first (suc count) =
    let a : suc count + 1 ≡ suc (count + 1) = omega arith in
    let b : suc first + count ≡ first + suc count = omega arith in
    ap (variables_from first) a ∙ ap (λ l. Var first ∷ l)
    (variables_from-push (suc first) count ∙ ap (λ k. variables_from (suc first) count ++ Var k ∷ []) b)

pub all_fresh-sum : (proofs : List Proof) → all_fresh_in (derivations (map derivation_of proofs)) ≡ sum_by fresh_of_proof proofs
all_fresh-sum [] = refl
all_fresh-sum (p ∷ proofs) = omega (arith, all_fresh-sum proofs, sum_by-cons fresh_of_proof p proofs)

pub derivations-opened : (named : ℕ → ℕ → Atom) (first : ℕ) (ds : List Derivation)
    → derivations (opened_row named first ds) ≡ all_opened named first (derivations ds)
derivations-opened named first [] = refl
derivations-opened named first (d ∷ ds) = ap (also (opened named first d)) (derivations-opened named (first + fresh_in d) ds)

-- one proof more, as at a step of a loop
pub opened_row-more : (named : ℕ → ℕ → Atom) (first k : ℕ) (proofs : List Proof) (d : Proof) → k < length proofs
    → opened_row named first (map derivation_of (take (k + 1) proofs))
    ≡ opened_row named first (map derivation_of (take k proofs))
    ++ opened named (first + sum_by fresh_of_proof (take k proofs)) (derivation_of (get_or proofs k d)) ∷ []
opened_row-more named first k [] d below = absurd (omega (arith, below))
opened_row-more named first zero (p ∷ proofs) d below =
    let a : zero + 1 ≡ suc zero = omega arith in
    let b : first ≡ first + sum_by fresh_of_proof [] = omega arith in
    ap (λ n. opened_row named first (map derivation_of (take n (p ∷ proofs)))) a ∙ ap (λ n. opened named n (derivation_of p) ∷ []) b
opened_row-more named first (suc k) (p ∷ proofs) d below =
    let a : suc k + 1 ≡ suc (k + 1) = omega arith in
    let b : first + fresh_of_proof p + sum_by fresh_of_proof (take k proofs) ≡ first + sum_by fresh_of_proof (p ∷ take k proofs) =
    omega (arith, sum_by-cons fresh_of_proof p (take k proofs)) in
    ap (λ n. opened_row named first (map derivation_of (take n (p ∷ proofs)))) a
    ∙ ap (λ l. opened named first (derivation_of p) ∷ l) (opened_row-more named (first + fresh_of_proof p) k proofs d (omega (arith, below))
    ∙ ap (λ n. opened_row named (first + fresh_of_proof p) (map derivation_of (take k proofs))
    ++ opened named n (derivation_of (get_or proofs k d)) ∷ []) b)

-- ---- the add of a step

pub read-any : {X : Type 0} (xs : List X) (k : ℕ) (d e : X) → k < length xs → get_or xs k d ≡ get_or xs k e
read-any [] k d e below = absurd (omega (arith, below))
read-any (x ∷ xs) zero d e below = refl
read-any (x ∷ xs) (suc k) d e below = read-any xs k d e (omega (arith, below))

pub atom_in-map : (f : Atom → Atom) (atoms : List Atom) (k : ℕ) (d : Atom) → k < length atoms
    → f (get_or atoms k d) ≡ atom_in (map f atoms) k
atom_in-map f [] k d below = absurd (omega (arith, below))
atom_in-map f (a ∷ atoms) zero d below = refl
atom_in-map f (a ∷ atoms) (suc k) d below = atom_in-map f atoms k d (omega (arith, below))

-- ---- rows and steps

pub fresh-sum : (proofs : List Proof) → sum_by fresh_in (map derivation_of proofs) ≡ row_fresh proofs
fresh-sum [] = refl
fresh-sum (p ∷ proofs) =
    omega (arith, fresh-sum proofs, sum_by-cons fresh_of_proof p proofs, sum_by-cons fresh_in (derivation_of p) (map derivation_of proofs))

pub opened_rows-more : (named : ℕ → ℕ → Atom) (first k : ℕ) (rows : List (List Proof)) (d : List Proof) → k < length rows
    → opened_rows named first (rows_of (take (k + 1) rows))
    ≡ opened_rows named first (rows_of (take k rows))
    ++ opened_row named (first + sum_by row_fresh (take k rows)) (map derivation_of (get_or rows k d)) ∷ []
opened_rows-more named first k [] d below = absurd (omega (arith, below))
opened_rows-more named first zero (r ∷ rows) d below =
    let a : zero + 1 ≡ suc zero = omega arith in
    let b : first ≡ first + sum_by row_fresh [] = omega arith in
    ap (λ n. opened_rows named first (rows_of (take n (r ∷ rows)))) a ∙ ap (λ n. opened_row named n (map derivation_of r) ∷ []) b
opened_rows-more named first (suc k) (r ∷ rows) d below =
    let a : suc k + 1 ≡ suc (k + 1) = omega arith in
    let own : ℕ = sum_by fresh_in (map derivation_of r) in
    let b : first + own + sum_by row_fresh (take k rows) ≡ first + sum_by row_fresh (r ∷ take k rows) =
    omega (arith, fresh-sum r, sum_by-cons row_fresh r (take k rows)) in
    ap (λ n. opened_rows named first (rows_of (take n (r ∷ rows)))) a
    ∙ ap (λ l. opened_row named first (map derivation_of r) ∷ l) (opened_rows-more named (first + own) k rows d (omega (arith, below))
    ∙ ap (λ n. opened_rows named (first + own) (rows_of (take k rows)) ++ opened_row named n (map derivation_of (get_or rows k d)) ∷ []) b)

pub opened_steps-more : (first k : ℕ) (steps : List OpInst) (d : OpInst) → k < length steps
    → opened_steps first (take (k + 1) steps)
    ≡ opened_steps first (take k steps)
    ++ record {
      op = (get_or steps k d).op;
      args = variables_from (first + step_variables (take k steps)) (length ((get_or steps k d).args));
    } ∷ []
opened_steps-more first k [] d below = absurd (omega (arith, below))
opened_steps-more first zero (s ∷ steps) d below =
    let a : zero + 1 ≡ suc zero = omega arith in
    let b : first ≡ first + step_variables [] = omega arith in
    ap (λ n. opened_steps first (take n (s ∷ steps))) a ∙ ap (λ n. record { op = s.op; args = variables_from n (length s.args) } ∷ []) b
opened_steps-more first (suc k) (s ∷ steps) d below =
    let a : suc k + 1 ≡ suc (k + 1) = omega arith in
    let b : first + length s.args + step_variables (take k steps) ≡ first + step_variables (s ∷ take k steps) =
    omega (arith, sum_by-cons (λ (inst : OpInst). length inst.args) s (take k steps)) in
    ap (λ n. opened_steps first (take n (s ∷ steps))) a
    ∙ ap (λ l. record { op = s.op; args = variables_from first (length s.args) } ∷ l)
    (opened_steps-more (first + length s.args) k steps d (omega (arith, below))
    ∙ ap (λ n. opened_steps (first + length s.args) (take k steps)
    ++ record { op = (get_or steps k d).op; args = variables_from n (length ((get_or steps k d).args)) } ∷ []) b)
