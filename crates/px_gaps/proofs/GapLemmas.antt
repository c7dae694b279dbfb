-- The gaps of a formula, by what one question of gaps says of it.
use Rattle.std.specs.Prelude.{◌↔◌, ℕ, List, All, Any, Contains}
use Rattle.std.proofs.Common.{sym, subst, inl, inr}
use Rattle.px_base.specs.ListLaws.{All-at}
use Rattle.px_terms.specs.declared.atom.Atom.{Atom}
use Rattle.px_terms.specs.declared.problem.Problem.{Problem}
use Rattle.px_terms.specs.Validity.{IsValid, IsAtomOf}
use Rattle.px_proof.specs.declared.shape.Tick.{Tick}
use Rattle.px_prover.specs.PatternLists.{lists_of}
use Rattle.px_prover.specs.declared.pattern.GapPattern.{GapPattern}
use Rattle.px_question.specs.declared.gap_list.GapList.{GapList}
use Rattle.px_question.specs.Answers.{IsAnswer, IsProvable}
use Rattle.px_question.specs.Gaps.{AreGapLists, IsGapOf, MeetsGapLimit}
use Rattle.px_question.specs.Limits.{IsLimited}
use Rattle.px_question.specs.Settings.{Setting, setting_of}
use Rattle.px_gaps.specs.Closings.{IsClosedIn, IsMissingIn}
use Rattle.px_gaps.specs.GapAnswers.{IsClosingAnswer, IsGapAnswer}
use Rattle.px_gaps.specs.Provable.{LimitsOne}
use Rattle.px_gaps.proofs.ClosedLists.{AreClosedLists, all-closed, closings-closed}
use Rattle.px_gaps.proofs.GapAtoms.{listed-are}
use Rattle.px_gaps.proofs.GapLists.{closed_is, gap_is}
use Rattle.px_question.proofs.DeterminedLaws.{few_or_limited}

-- what gap lists of a formula of the problem close are atoms of the problem
pub closed-are : (problem : Problem) (facts formula : List Atom) (variable_count : ℕ) (lists : List GapList) → IsValid problem
    → All (IsAtomOf problem variable_count) formula → AreGapLists (setting_of problem facts) formula variable_count lists → (atom : Atom)
    → IsClosedIn lists atom → IsAtomOf problem 0 atom
closed-are problem facts formula variable_count lists valid of are atom closed =
    All-at (IsAtomOf problem 0) closed.0.gaps atom
    (listed-are problem valid facts formula variable_count lists of (all-closed (setting_of problem facts) formula variable_count lists are) closed.0 closed.1)
    closed.2

-- where proving an atom that they close meets the limit, finding the gaps does
pub atom_limited : (s : Setting) (formula : List Atom) (variable_count : ℕ) (lists : List GapList) → AreClosedLists s formula variable_count lists
    → (kept : List Atom) (shapes : List (List Tick)) → LimitsOne s (IsClosedIn lists) kept shapes → MeetsGapLimit s formula variable_count kept shapes
atom_limited s formula variable_count lists are kept shapes (atom, closed, is, limited) =
    inr (
      atom,
      is,
      (closed_is s formula variable_count lists are atom).1 closed,
      subst (λ (l : List Atom). IsLimited s l 0 shapes) (sym is) limited,
    )

-- the list closes a provable atom, or none
pub none-among : (s : Setting) (lists : List GapList) (provable : List Atom)
    → ((atom : Atom) → Contains provable atom ↔ (IsClosedIn lists atom × IsProvable s atom)) → (list : GapList) → Contains lists list
    → (¬ Any (Contains provable) list.gaps) ↔ ((other : Atom) → Contains list.gaps other → ¬ IsProvable s other)
none-among s lists provable provable_are list has = (
  λ none other there proved. none (there.0, other, there.1, there.2, (provable_are other).1 ((list, has, there), proved)),
  λ none any. none any.1 (any.0, any.2, any.3) ((provable_are any.1).0 any.4).1,
)

pub none-provable : (s : Setting) (formula : List Atom) (variable_count : ℕ) (patterns : List GapPattern) (provable : List Atom)
    → IsGapAnswer s formula variable_count patterns provable → (list : GapList) → Contains (lists_of s.objects patterns) list
    → (¬ Any (Contains provable) list.gaps) ↔ ((other : Atom) → Contains list.gaps other → ¬ IsProvable s other)
none-provable s formula variable_count patterns provable is = none-among s (lists_of s.objects patterns) provable is.provable_are

module _ (s : Setting) (formula : List Atom) (variable_count : ℕ) (closings : List GapPattern) (provable : List Atom)
    (is : IsClosingAnswer s formula variable_count closings provable) where
  lists_are : AreClosedLists s formula variable_count (lists_of s.objects closings)
  lists_are = closings-closed s formula variable_count closings is.all

  pub missing-is_gap : (¬ IsAnswer s formula variable_count) → (atom : Atom) → IsMissingIn (lists_of s.objects closings) provable atom
      ↔ IsGapOf s formula variable_count atom
  missing-is_gap no_answer atom =
      let gap = gap_is s formula variable_count (lists_of s.objects closings) lists_are atom no_answer in
      let none = none-among s (lists_of s.objects closings) provable is.provable_are in (
        λ m. gap.1 (m.0, m.1, m.2.0, (none m.0 m.1).0 m.2.1),
        λ g. let h = gap.0 g in (h.0, h.1, (h.2, (none h.0 h.1).1 h.3)),
      )

  pub not_limited : (kept : List Atom) (shapes : List (List Tick)) → ¬ MeetsGapLimit s formula variable_count kept shapes
  not_limited kept shapes (inl whole) = few_or_limited.gap_proofs s formula variable_count shapes is.few whole.1
  not_limited kept shapes (inr (atom, alone, loose, limited)) =
      is.unlimited atom shapes ((closed_is s formula variable_count (lists_of s.objects closings) lists_are atom).0 loose)
      (subst (λ (l : List Atom). IsLimited s l 0 shapes) alone limited)
