-- What gap proofs of a formula without variables say, atom by atom.
use Rattle.std.specs.Prelude.{◌≡◌, ◌↔◌, ℕ, List, [], ◌∷◌, All, Contains}
use Rattle.px_proof.specs.Derivation.{Derivations}
use Rattle.px_proof.specs.declared.shape.Tick.{Tick}
use Rattle.px_question.specs.Answers.{IsList}
use Rattle.px_question.specs.Gaps.{IsGapOf, IsLooseGap, MeetsGapLimit, all_gaps_of, gaps_in}
use Rattle.px_question.specs.Limits.{IsLimited}
use Rattle.px_question.specs.Settings.{Setting, loose_gaps_in}
use Rattle.px_terms.specs.declared.atom.Atom.{Atom}
use Rattle.px_gaps.specs.Bounds.{IsBoundFor, IsListShape}
use Rattle.px_gaps.specs.Closings.{OneOf}
use Rattle.px_gaps.specs.declared.bounds.Bound.{Bound}

-- the atom has a gap proof
abbrev pub HasGapProof : Setting → Atom → Type 0
HasGapProof s atom = (objects : List ℕ) × (ds : Derivations) × IsList (gaps_in s) s (atom ∷ []) 0 objects ds

-- in some gap proof of the first atom a gap closes the second
abbrev pub IsGapFor : Setting → Atom → Atom → Type 0
IsGapFor s atom gap =
    (objects : List ℕ) × (ds : Derivations) × IsList (gaps_in s) s (atom ∷ []) 0 objects ds × Contains (all_gaps_of ds) gap

-- proving an atom that a loose gap proof of this one closes never meets the limit
abbrev pub IsUnlimitedFor : Setting → Atom → Type 0
IsUnlimitedFor s atom = (gap : Atom) (shapes : List (List Tick)) → IsLooseGap s (atom ∷ []) 0 gap → ¬ IsLimited s (gap ∷ []) 0 shapes

-- These are the gaps of the atoms together, or none where one of them has no gap proof. Proving none of the atoms that their loose gap
-- proofs close meets the limit.
pub record AreGapsTogether (s : Setting) (formula gaps : List Atom) : Type 0 where
  pub exact : (gap : Atom) → Contains gaps gap ↔ (All (HasGapProof s) formula × OneOf formula (λ atom. IsGapFor s atom gap))
  pub unlimited : All (IsUnlimitedFor s) formula

-- these are the gaps of the formula, and finding them doesn't meet the limit
pub record AreGapsOf (s : Setting) (formula gaps : List Atom) : Type 0 where
  pub exact : (gap : Atom) → Contains gaps gap ↔ IsGapOf s formula 0 gap
  pub unlimited : (kept : List Atom) (shapes : List (List Tick)) → ¬ MeetsGapLimit s formula 0 kept shapes

-- the bound counts all shapes of lists of loose gap proofs of the atoms; there is no finished list where it counts none
pub record IsBoundOfAtoms (s : Setting) (atoms : List Atom) (bound : Bound) : Type 0 where
  pub shapes : IsBoundFor (IsListShape s s.height [] atoms) bound
  pub none : bound.finished ≡ 0 → (objects : List ℕ) (ds : Derivations) → ¬ IsList (loose_gaps_in s) s atoms 0 objects ds
