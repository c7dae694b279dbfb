-- Gaps: what is missing for an answer, and where finding it meets the limit (the difference of Fikes and Nilsson 1971, as an
-- unfinished proof).
use Rattle.std.specs.Prelude.{◌≡◌, ◌⊎◌, ◌↔◌, ℕ, List, [], ◌∷◌, ◌++◌, Contains}
use Rattle.std.specs.Cmp.Lexicographic.{slice_cmp}
use Rattle.std.specs.List.Sorted.{IsStrictlySortedBy}
use Rattle.std.specs.Ordering.{nat_cmp, on, then_cmp}
use Rattle.std.specs.declared.cmp.Ordering.{Ordering}
use Rattle.px_terms.specs.AtomSets.{IsAtomSet}
use Rattle.px_terms.specs.Order.{atom_cmp}
use Rattle.px_terms.specs.declared.atom.Atom.{Atom}
use Rattle.px_proof.specs.declared.shape.Tick.{Tick}
use Rattle.px_proof.specs.Derivation.{Derivation, Derivations, fact, ancestor, step, gap, open_place, none, also}
use Rattle.px_proof.specs.Proves.{Rules, with_gaps}
use Rattle.px_question.specs.declared.gap_list.GapList.{GapList}
use Rattle.px_question.specs.Answers.{IsAnswer, IsList, IsProvable}
use Rattle.px_question.specs.Limits.{AreFewGapShapes, IsGapLimited, IsLimited, StaysBelowLimit}
use Rattle.px_question.specs.Settings.{Setting, IsAddableIn, loose_gaps_in, proofs_in}

-- the atoms that are closed by a gap
abbrev mutual
  pub gaps_of : Derivation → List Atom
  gaps_of (fact leaf) = []
  gaps_of (ancestor i) = []
  gaps_of (step number theta place parts) = all_gaps_of parts
  gaps_of (gap atom) = atom ∷ []
  gaps_of open_place = []

  pub all_gaps_of : Derivations → List Atom
  all_gaps_of none = []
  all_gaps_of (also d ds) = gaps_of d ++ all_gaps_of ds

-- gap proofs: a gap closes an atom that some operator adds and that isn't provable
abbrev pub gaps_in : Setting → Rules
gaps_in s = with_gaps (λ atom. IsAddableIn s atom × (¬ IsProvable s atom)) (proofs_in s)

-- the formula has no answer, and in some list of gap proofs of it a gap closes the atom
abbrev pub IsGapOf : Setting → List Atom → ℕ → Atom → Type 0
IsGapOf s formula variable_count atom =
    (¬ IsAnswer s formula variable_count)
    × ((objects : List ℕ) × (ds : Derivations) × IsList (gaps_in s) s formula variable_count objects ds × Contains (all_gaps_of ds) atom)

-- under these objects, a gap closes exactly these atoms in some list of loose gap proofs
abbrev pub IsGapList : Setting → List Atom → ℕ → List ℕ → List Atom → Type 0
IsGapList s formula variable_count objects gaps =
    (ds : Derivations) × IsList (loose_gaps_in s) s formula variable_count objects ds
    × ((atom : Atom) → Contains gaps atom ↔ Contains (all_gaps_of ds) atom)

-- the order of gap lists: by objects, then by atoms
abbrev pub gap_list_cmp : GapList → GapList → Ordering
gap_list_cmp = then_cmp (on (λ (list : GapList). list.objects) (slice_cmp nat_cmp))
    (on (λ (list : GapList). list.gaps) (slice_cmp atom_cmp))

-- all gap lists of the formula whose atoms are sets, ascending, each once
pub record AreGapLists (s : Setting) (formula : List Atom) (variable_count : ℕ) (lists : List GapList) : Type 0 where
  pub ascending : IsStrictlySortedBy gap_list_cmp lists
  pub members : (list : GapList) → Contains lists list ↔ (IsGapList s formula variable_count list.objects list.gaps × IsAtomSet list.gaps)

-- in some list of loose gap proofs of the formula a gap closes the atom
abbrev pub IsLooseGap : Setting → List Atom → ℕ → Atom → Type 0
IsLooseGap s formula variable_count atom =
    (objects : List ℕ) × (ds : Derivations) × IsList (loose_gaps_in s) s formula variable_count objects ds × Contains (all_gaps_of ds) atom

-- Finding the gaps of the formula meets the limit at the formula `kept`, by these shapes: at the formula itself, by the shapes of its
-- unfinished gap proofs, or where one atom that a loose gap proof of it closes is to be proved.
abbrev pub MeetsGapLimit : Setting → List Atom → ℕ → List Atom → List (List Tick) → Type 0
MeetsGapLimit s formula variable_count kept shapes =
    ((kept ≡ formula) × IsGapLimited s formula variable_count shapes)
    ⊎ ((atom : Atom) × (kept ≡ atom ∷ []) × IsLooseGap s formula variable_count atom × IsLimited s kept 0 shapes)

-- Finding the gaps of the formula stays below the limit: fewer shapes of unfinished gap proofs exist, and proving each atom that a loose
-- gap proof of it closes stays below the limit, too.
pub record StaysBelowGapLimit (s : Setting) (formula : List Atom) (variable_count : ℕ) : Type 0 where
  pub shapes : AreFewGapShapes s formula variable_count
  pub atoms : (atom : Atom) → IsLooseGap s formula variable_count atom → StaysBelowLimit s (atom ∷ []) 0
