-- What gap lists say of answers and gaps.
use Rattle.std.specs.Prelude.{◌≡◌, ◌↔◌, ℕ, List, [], ◌∷◌, Contains}
use Rattle.std.proofs.Common.{refl, subst, sym}
use Rattle.px_base.specs.ListLaws.{Contains-none, Contains-first}
use Rattle.px_base.specs.SetLaws.{set_of-is_sorted, set_of-members}
use Rattle.px_terms.specs.declared.atom.Atom.{Atom}
use Rattle.px_terms.specs.AtomSets.{IsAtomSet, atom_set}
use Rattle.px_terms.specs.Order.{atom_cmp}
use Rattle.px_terms.specs.OrderLaws.{atom_cmp-total, atom_cmp-same}
use Rattle.px_proof.specs.Derivation.{Derivations}
use Rattle.px_proof.specs.Proves.{Rules, or_open}
use Rattle.px_question.specs.declared.gap_list.GapList.{GapList}
use Rattle.px_question.specs.Answers.{IsAnswer, IsList, IsProvable, literals_of}
use Rattle.px_question.specs.Gaps.{AreGapLists, IsGapOf, IsLooseGap, all_gaps_of, gaps_in}
use Rattle.px_question.specs.Settings.{Setting, loose_gaps_in, proofs_in}
use Rattle.px_gaps.proofs.ClosedLists.{AreClosedLists, all-closed}
use Rattle.px_gaps.proofs.Regaps.{AllowsBesideGaps, each_by_own_gaps, each_gap_allowed}
use Rattle.px_question.specs.Limits.{IsPartialShape}
use Rattle.px_proof.specs.declared.shape.Tick.{Tick}

-- lists of derivations by other rules
pub list_by : (s : Setting) (formula : List Atom) (variable_count : ℕ) (objects : List ℕ) (ds : Derivations) (old new : Rules)
    → AllowsBesideGaps old new → ((atom : Atom) → Contains (all_gaps_of ds) atom → old.IsGap atom → new.IsGap atom)
    → IsList old s formula variable_count objects ds → IsList new s formula variable_count objects ds
list_by s formula variable_count objects ds old new allows gaps list = record {
  count = list.count;
  below = list.below;
  proved = each_by_own_gaps s.axioms old new allows [] (literals_of formula objects) ds gaps list.proved;
  low = list.low;
}

-- an unfinished list of proofs is one of loose gap proofs
pub partial-loose : (s : Setting) (formula : List Atom) (variable_count : ℕ) (shape : List Tick) → IsPartialShape (proofs_in s) s formula variable_count shape
    → IsPartialShape (loose_gaps_in s) s formula variable_count shape
partial-loose s formula variable_count shape partial = (
  partial.0,
  (
    partial.1.0,
    partial.1.1,
    list_by s formula variable_count partial.1.0 partial.1.1 (or_open (proofs_in s)) (or_open (loose_gaps_in s))
        (record { choices = λ t h. h; facts = λ leaf h. h; opens = λ h. h }) (λ atom has h. absurd h) partial.1.2,
    partial.1.3,
  ),
)

pub gaps_allowed : (s : Setting) (formula : List Atom) (variable_count : ℕ) (objects : List ℕ) (ds : Derivations) (rules : Rules) (atom : Atom)
    → IsList rules s formula variable_count objects ds → Contains (all_gaps_of ds) atom → rules.IsGap atom
gaps_allowed s formula variable_count objects ds rules atom list has =
    each_gap_allowed rules s.axioms [] (literals_of formula objects) ds atom list.proved has

no_members : (atoms : List Atom) → ((atom : Atom) → ¬ Contains atoms atom) → atoms ≡ []
no_members [] never = refl
no_members (atom ∷ atoms) never = absurd (never atom (Contains-first atom atoms))

-- the gap list of a list of derivations
abbrev pub list_of : List ℕ → Derivations → GapList
list_of objects ds = record { objects = objects; gaps = atom_set (all_gaps_of ds) }

list_of-set : (objects : List ℕ) (ds : Derivations) → IsAtomSet (list_of objects ds).gaps
list_of-set objects ds = set_of-is_sorted atom_cmp atom_cmp-total atom_cmp-same (all_gaps_of ds)

pub list_of-members : (objects : List ℕ) (ds : Derivations) (atom : Atom) → Contains (list_of objects ds).gaps atom
    ↔ Contains (all_gaps_of ds) atom
list_of-members objects ds atom = set_of-members atom_cmp atom_cmp-total atom_cmp-same (all_gaps_of ds) atom

module _ (s : Setting) (formula : List Atom) (variable_count : ℕ) (lists : List GapList) (are : AreGapLists s formula variable_count lists) where
  -- each list of loose gap proofs has its gap list among them
  pub loose_listed : (objects : List ℕ) (ds : Derivations) → IsList (loose_gaps_in s) s formula variable_count objects ds
      → Contains lists (list_of objects ds)
  loose_listed objects ds list = (are.members (list_of objects ds)).1 ((ds, list, list_of-members objects ds), list_of-set objects ds)

  -- an answer is a list without gaps
  pub answer_listed : (objects : List ℕ) (ds : Derivations) → IsList (proofs_in s) s formula variable_count objects ds
      → (list : GapList) × Contains lists list × (list.objects ≡ objects) × (list.gaps ≡ [])
  answer_listed objects ds list =
      let none : (atom : Atom) → ¬ Contains (all_gaps_of ds) atom =
      λ atom has. gaps_allowed s formula variable_count objects ds (proofs_in s) atom list has in (
        list_of objects ds,
        loose_listed objects ds (list_by s formula variable_count objects ds (proofs_in s) (loose_gaps_in s)
            (record { choices = λ t h. h; facts = λ leaf h. h; opens = λ h. h }) (λ atom has h. absurd h) list),
        refl,
        no_members (list_of objects ds).gaps (λ atom has. none atom ((list_of-members objects ds atom).0 has)),
      )

  -- and a list without gaps is one of an answer
  pub listed_answer : (list : GapList) → Contains lists list → list.gaps ≡ []
      → (ds : Derivations) × IsList (proofs_in s) s formula variable_count list.objects ds
  listed_answer list has empty =
      let known = ((are.members list).0 has).0 in (
        known.0,
        list_by s formula variable_count list.objects known.0 (loose_gaps_in s) (proofs_in s)
            (record { choices = λ t h. h; facts = λ leaf h. h; opens = λ h. h })
            (λ atom closed _. absurd (Contains-none atom (subst (λ (l : List Atom). Contains l atom) empty ((known.2 atom).1 closed))))
            known.1,
      )

  -- a list of gap proofs has its gap list among them, and no atom of it is provable
  pub gap_listed : (objects : List ℕ) (ds : Derivations) → IsList (gaps_in s) s formula variable_count objects ds
      → Contains lists (list_of objects ds) × ((atom : Atom) → Contains (list_of objects ds).gaps atom → ¬ IsProvable s atom)
  gap_listed objects ds list = (
    loose_listed objects ds (list_by s formula variable_count objects ds (gaps_in s) (loose_gaps_in s)
        (record { choices = λ t h. h; facts = λ leaf h. h; opens = λ h. h }) (λ atom has h. h.0) list),
    λ atom has. (gaps_allowed s formula variable_count objects ds (gaps_in s) atom list ((list_of-members objects ds atom).0 has)).1,
  )

  -- and a gap list of which no atom is provable is one of gap proofs
  pub listed_gap : (list : GapList) → Contains lists list → ((atom : Atom) → Contains list.gaps atom → ¬ IsProvable s atom)
      → (ds : Derivations) × IsList (gaps_in s) s formula variable_count list.objects ds
      × ((atom : Atom) → Contains list.gaps atom → Contains (all_gaps_of ds) atom)
  listed_gap list has none =
      let known = ((are.members list).0 has).0 in (
        known.0,
        list_by s formula variable_count list.objects known.0 (loose_gaps_in s) (gaps_in s)
            (record { choices = λ t h. h; facts = λ leaf h. h; opens = λ h. h })
            (λ atom closed h. (h, none atom ((known.2 atom).1 closed))) known.1,
        λ atom. (known.2 atom).0,
      )

-- ---- lists whose objects don't matter

module _ (s : Setting) (formula : List Atom) (variable_count : ℕ) (lists : List GapList) (are : AreClosedLists s formula variable_count lists) where
  -- the atoms of a list of loose gap proofs are those of a list
  pub closed_listed : (objects : List ℕ) (ds : Derivations) → IsList (loose_gaps_in s) s formula variable_count objects ds
      → (list : GapList) × Contains lists list × ((atom : Atom) → Contains list.gaps atom ↔ Contains (all_gaps_of ds) atom)
  closed_listed objects ds list =
      let found = are.each objects (list_of objects ds).gaps (ds, list, list_of-members objects ds) (list_of-set objects ds) in (
        found.0,
        found.1,
        λ atom. subst (λ (gaps : List Atom). Contains gaps atom ↔ Contains (all_gaps_of ds) atom) (sym found.2)
            (list_of-members objects ds atom),
      )

  -- where the formula has no answer, its gaps are the atoms of the lists of which no atom is provable
  pub gap_is : (atom : Atom) → (¬ IsAnswer s formula variable_count) → IsGapOf s formula variable_count atom
      ↔ ((list : GapList) × Contains lists list × Contains list.gaps atom
      × ((other : Atom) → Contains list.gaps other → ¬ IsProvable s other))
  gap_is atom no_answer = (
    λ (none, (objects, ds, proofs, has)).
        let found =
        closed_listed objects ds
        (list_by s formula variable_count objects ds (gaps_in s) (loose_gaps_in s)
        (record { choices = λ t h. h; facts = λ leaf h. h; opens = λ h. h }) (λ atom has h. h.0) proofs) in (
          found.0,
          found.1,
          (found.2 atom).1 has,
          λ other there. (gaps_allowed s formula variable_count objects ds (gaps_in s) other proofs ((found.2 other).0 there)).1,
        ),
    λ (list, has, there, none).
        let known = are.from list has in
        let ds = known.1.0 in (
          no_answer,
          (
            known.0,
            ds,
            list_by s formula variable_count known.0 ds (loose_gaps_in s) (gaps_in s)
                (record { choices = λ t h. h; facts = λ leaf h. h; opens = λ h. h })
                (λ atom closed h. (h, none atom ((known.1.2 atom).1 closed))) known.1.1,
            (known.1.2 atom).0 there,
          ),
        ),
  )

  -- an atom that a loose gap proof closes stands in one of them
  pub closed_is : (atom : Atom) → IsLooseGap s formula variable_count atom ↔ ((list : GapList) × Contains lists list × Contains list.gaps atom)
  closed_is atom = (
    λ (objects, ds, proofs, has).
        let found = closed_listed objects ds proofs in (found.0, found.1, (found.2 atom).1 has),
    λ (list, has, there).
        let known = are.from list has in (known.0, known.1.0, known.1.1, (known.1.2 atom).0 there),
  )

pub loose_is : (s : Setting) (formula : List Atom) (variable_count : ℕ) (lists : List GapList) → AreGapLists s formula variable_count lists → (atom : Atom)
    → IsLooseGap s formula variable_count atom ↔ ((list : GapList) × Contains lists list × Contains list.gaps atom)
loose_is s formula variable_count lists are = closed_is s formula variable_count lists (all-closed s formula variable_count lists are)
