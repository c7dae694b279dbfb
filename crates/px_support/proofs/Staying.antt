-- A fact that holds after steps, none of which since a number adds it: none of these deletes it either, and if none adds it at all, it
-- held at first.
use Rattle.std.specs.Prelude.{◌≡◌, ◌<◌, ℕ, Some, List, [], ◌∷◌, ◌++◌, All, Contains}
use Rattle.std.proofs.Common.{zero, suc, refl, subst, inl, inr, arith}
use Rattle.std.proofs.lemmas.List.Elements.{All-head, All-tail}
use Rattle.px_terms.specs.declared.atom.Atom.{Atom}
use Rattle.px_terms.specs.declared.instance.OpInst.{OpInst}
use Rattle.px_terms.specs.declared.problem.Problem.{Problem}
use Rattle.px_terms.specs.Instances.{IsGround}
use Rattle.px_terms.specs.Operators.{IsDeleted, adds, result_of, results_of, schema_of}
use Rattle.px_terms.specs.Validity.{IsGroundInstanceOf, IsValid}
use Rattle.px_terms.specs.ValidityLaws.{result_of-is_result}
use Rattle.px_table.specs.Marks.{step_at}

pub results-more : (problem : Problem) (atoms : List Atom) (steps more : List OpInst)
    → results_of problem atoms (steps ++ more) ≡ results_of problem (results_of problem atoms steps) more
results-more problem atoms [] more = refl
results-more problem atoms (s ∷ steps) more = results-more problem (result_of problem atoms s) steps more

module _ (problem : Problem) (valid : IsValid problem) (atom : Atom) (is_ground : IsGround atom) where
  -- no step of a number above adds it
  abbrev pub NotAddedSince : List OpInst → ℕ → Type 0
  NotAddedSince steps since = (k : ℕ) (inst : OpInst) → since < k → step_at steps k ≡ Some inst → ¬ Contains (adds problem inst) atom

  -- no step of a number above deletes it, and since the beginning means that it held then
  pub record Stays (atoms : List Atom) (steps : List OpInst) (since : ℕ) : Type 0 where
    pub kept : (k : ℕ) (inst : OpInst) → since < k → step_at steps k ≡ Some inst → ¬ IsDeleted (schema_of problem inst) inst atom
    pub given : since ≡ 0 → Contains atoms atom

  -- it held before the step, which doesn't delete it
  stays-one : (atoms : List Atom) (s : OpInst) → IsGroundInstanceOf problem s → Contains (result_of problem atoms s) atom
      → ¬ Contains (adds problem s) atom
      → Contains atoms atom × ¬ IsDeleted (schema_of problem s) s atom
  stays-one atoms s is has never = elim ((result_of-is_result problem s atoms valid is atom is_ground).0 has) [
    | inl old ↦ old
    | inr added ↦ absurd (never added)
  ]

  pub stays : (atoms : List Atom) (steps : List OpInst) (since : ℕ) → All (IsGroundInstanceOf problem) steps
      → Contains (results_of problem atoms steps) atom → NotAddedSince steps since → Stays atoms steps since
  stays atoms [] since are has never = record { kept = λ k inst less at. none k inst at; given = λ e. has } where
    none : (k : ℕ) (inst : OpInst) → step_at [] k ≡ Some inst → ¬ IsDeleted (schema_of problem inst) inst atom
    none zero inst at = absurd (cc)
    none (suc k) inst at = absurd (cc)
  stays atoms (s ∷ steps) zero are has never =
      let rest =
      stays (result_of problem atoms s) steps zero (All-tail (IsGroundInstanceOf problem) s steps are) has
      (λ k inst less at. later k inst less at) in
      let one = stays-one atoms s (All-head (IsGroundInstanceOf problem) s steps are) (rest.given refl) (never 1 s (omega arith) refl) in
      record { kept = λ k inst less at. by rest one k inst less at; given = λ e. one.0 }
    where
      later : (k : ℕ) (inst : OpInst) → zero < k → step_at steps k ≡ Some inst → ¬ Contains (adds problem inst) atom
      later zero inst less at = absurd (omega (arith, less))
      later (suc k) inst less at = never (suc (suc k)) inst (omega arith) at

      by : Stays (result_of problem atoms s) steps zero → Contains atoms atom × ¬ IsDeleted (schema_of problem s) s atom
          → (k : ℕ) (inst : OpInst) → zero < k → step_at (s ∷ steps) k ≡ Some inst → ¬ IsDeleted (schema_of problem inst) inst atom
      by rest one zero inst less at = absurd (omega (arith, less))
      by rest one (suc zero) inst less at =
          let same : s ≡ inst = cc in
          subst (λ (x : OpInst). ¬ IsDeleted (schema_of problem x) x atom) same one.1
      by rest one (suc (suc k)) inst less at = rest.kept (suc k) inst (omega arith) at
  stays atoms (s ∷ steps) (suc since) are has never =
      let rest =
      stays (result_of problem atoms s) steps since (All-tail (IsGroundInstanceOf problem) s steps are) has
      (λ k inst less at. later k inst less at) in
      record { kept = λ k inst less at. by rest k inst less at; given = λ e. absurd (omega (arith, e)) }
    where
      later : (k : ℕ) (inst : OpInst) → since < k → step_at steps k ≡ Some inst → ¬ Contains (adds problem inst) atom
      later zero inst less at = absurd (omega (arith, less))
      later (suc k) inst less at = never (suc (suc k)) inst (omega (arith, less)) at

      by : Stays (result_of problem atoms s) steps since → (k : ℕ) (inst : OpInst) → suc since < k → step_at (s ∷ steps) k ≡ Some inst
          → ¬ IsDeleted (schema_of problem inst) inst atom
      by rest zero inst less at = absurd (omega (arith, less))
      by rest (suc zero) inst less at = absurd (omega (arith, less))
      by rest (suc (suc k)) inst less at = rest.kept (suc k) inst (omega (arith, less)) at
