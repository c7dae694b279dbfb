-- Attempts over a range.
use Rattle.std.proofs.Common.{◌≡◌, ℕ, suc, ◌<◌, ◌≤◌, Bool, true, false, IfOk, Result, Ok, Err, List, length, get_or, sym, ◌∙◌, arith, inl, inr}
use Rattle.std.proofs.lemmas.Bool.{cases_lt}
use Rattle.std.specs.Prelude.{All}
use Rattle.px_base.specs.Answers.{some_same}
use Rattle.px_proof.specs.PlaceLaws.{slice_get-read}
use Rattle.px_terms.specs.declared.term.Term.{Term}
use Rattle.px_terms.specs.declared.term.Term.TheVariants.{Obj, Var, Any}
use Rattle.px_terms.specs.Language.{IsPlainBelow, IsObjectBelow}
use Rattle.px_proof_state.specs.States.{ProofStateValue}
use Rattle.px_terms.specs.declared.atom.Atom.{Atom}
use Rattle.px_proof_state.specs.declared.open.OpenGoal.{OpenGoal}
use Rattle.px_proof_state.specs.Ranges.{TriesRange, TriesFact, NeverFact, ComesFact}

object-below : (objects n : ℕ) (t : Term) → IsObjectBelow objects t → IsPlainBelow n t
object-below objects n (Obj o) within = tt
object-below objects n (Var v) within = absurd within
object-below objects n Any within = within

pub objects-below : (objects n : ℕ) (ts : List Term) → All (IsObjectBelow objects) ts → All (IsPlainBelow n) ts
objects-below objects n ts all = λ k d within. object-below objects n _ (all k d within)

-- one more number at which nothing comes
pub never-next : (Never : ℕ → Type 0) (from k : ℕ) → ((j : ℕ) → from ≤ j → j < k → Never j) → Never k → (j : ℕ) → from ≤ j → j < suc k
    → Never j
never-next Never from k before here j after less =
    elim (cases_lt j k) [ inl h ↦ before j after h | inr last ↦ let e : j ≡ k = omega (arith, last, less) in rw e here ]

pub range-found : (Never : ℕ → Type 0) (Comes : ℕ → ProofStateValue → Type 0) (from to : ℕ) (old new : ProofStateValue) (k : ℕ) → from ≤ k
    → k < to → Comes k new → ((j : ℕ) → from ≤ j → j < k → Never j) → TriesRange Never Comes from to old new true
range-found Never Comes from to old new k after within comes never =
    record { least = λ is_found. (k, after, within, comes, never); no_more = λ is_not. absurd (cc) }

pub range-none : (Never : ℕ → Type 0) (Comes : ℕ → ProofStateValue → Type 0) (from to end : ℕ) (old new : ProofStateValue) → new ≡ old
    → ((j : ℕ) → from ≤ j → j < end → Never j) → to ≤ end → TriesRange Never Comes from to old new false
range-none Never Comes from to end old new same never past =
    record { least = λ is_found. absurd (cc); no_more = λ is_not. (same, λ j after within. never j after (omega (arith, within, past))) }

module _ (objects : ℕ) (facts : List Atom) (goal : OpenGoal) (from k : ℕ) (d : Atom) (old mid new : ProofStateValue) (found : Bool)
    (within : k < length facts) (same : mid ≡ old) (tried : TriesFact mid new objects k (get_or facts k d) goal found) where
  pub fact-comes : found ≡ true → from ≤ k → ((j : ℕ) → from ≤ j → j < k → NeverFact objects facts old goal j)
      → TriesRange (NeverFact objects facts old goal) (ComesFact objects facts old goal) from (length facts) old new true
  fact-comes is_found after never =
      let comes = rw same at (tried.comes is_found) in
      range-found (NeverFact objects facts old goal) (ComesFact objects facts old goal) from (length facts) old new k after within
      (get_or facts k d, slice_get-read facts k d within, comes.0, comes.1) never

  pub fact-never : found ≡ false → (j_next : ℕ) → j_next ≡ suc k → ((j : ℕ) → from ≤ j → j < k → NeverFact objects facts old goal j)
      → (new ≡ old) × ((j : ℕ) → from ≤ j → j < j_next → NeverFact objects facts old goal j)
  fact-never is_not j_next next never =
      let none = rw same at (tried.never is_not) in (
        none.0,
        rw next (never-next (NeverFact objects facts old goal) from k never
            (λ fact is below. let e : get_or facts k d ≡ fact = some_same (sym (slice_get-read facts k d within) ∙ is) in
            (rw e at none.1) below)),
      )

-- what follows where an attempt wasn't without memory
pub if_ok : {E : Type 0} (r : Result Bool E) (P Q : Bool → Type 0) → ((x : Bool) → P x → Q x) → IfOk r P → IfOk r Q
if_ok (Ok x) P Q f h = f x h
if_ok (Err e) P Q f h = tt
