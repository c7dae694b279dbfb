-- Lists of the atoms that gaps of a formula close together, whatever their objects.
use Rattle.std.proofs.Common.{◌≡◌, ℕ, List, [], ◌∷◌, length, map, refl, ap, sym, subst, arith}
use Rattle.std.specs.Prelude.{All, Contains}
use Rattle.px_base.specs.ListLaws.{All-at}
use Rattle.px_prover.proofs.PatternLists.{described-is, lists-from, lists-have, patterns-are, under-members}
use Rattle.px_prover.specs.PatternLists.{list_under, lists_of}
use Rattle.px_prover.specs.Patterns.{AreGapClosings, AreGapPatterns, IsPattern, object_under, objects_under}
use Rattle.px_prover.specs.declared.pattern.GapPattern.{GapPattern}
use Rattle.px_question.specs.Gaps.{AreGapLists, IsGapList}
use Rattle.px_question.specs.Settings.{Setting}
use Rattle.px_question.specs.declared.gap_list.GapList.{GapList}
use Rattle.px_terms.specs.AtomSets.{IsAtomSet}
use Rattle.px_terms.specs.declared.atom.Atom.{Atom}
use Rattle.px_terms.specs.declared.term.Term.{Term}

-- each list has the atoms of a gap list, and the atoms of each gap list are those of a list
pub record AreClosedLists (s : Setting) (formula : List Atom) (variable_count : ℕ) (lists : List GapList) : Type 0 where
  pub from : (list : GapList) → Contains lists list → (objects : List ℕ) × IsGapList s formula variable_count objects list.gaps
  pub each : (objects : List ℕ) (gaps : List Atom) → IsGapList s formula variable_count objects gaps → IsAtomSet gaps
      → (list : GapList) × Contains lists list × (list.gaps ≡ gaps)

module _ (s : Setting) (formula : List Atom) (variable_count : ℕ) where
  pub all-closed : (lists : List GapList) → AreGapLists s formula variable_count lists → AreClosedLists s formula variable_count lists
  all-closed lists are = record {
    from = λ list has. (list.objects, ((are.members list).0 has).0);
    each = λ objects gaps is is_set.
        let list : GapList = record { objects = objects; gaps = gaps } in (list, (are.members list).1 (is, is_set), refl);
  }

  pub patterns-closed : (patterns : List GapPattern) → AreGapPatterns s formula variable_count patterns
      → AreClosedLists s formula variable_count (lists_of s.objects patterns)
  patterns-closed patterns are = all-closed (lists_of s.objects patterns) (patterns-are s formula variable_count patterns are)

  pub closings-closed : (closings : List GapPattern) → AreGapClosings s formula variable_count closings
      → AreClosedLists s formula variable_count (lists_of s.objects closings)
  closings-closed closings are = record {
    from = λ list has.
        let one = lists-from s.objects closings list has in
        let pattern = one.0 in
        let values = one.2.0 in
        let form : IsPattern s.objects 0 pattern = All-at (IsPattern s.objects 0) closings pattern are.form one.1 in
        let is =
        (are.exact (list_under pattern values).gaps).1 (
          pattern,
          one.1,
          record {
            values = values;
            chosen = one.2.1;
            objects_are = none (object_under values) pattern.terms form.count;
            same = under-members pattern values;
          },
        ) in
        (is.0, subst (λ (l : GapList). IsGapList s formula variable_count is.0 l.gaps) one.2.2 is.1);
    each = λ objects gaps is is_set.
        let offered = (are.exact gaps).0 (objects, is) in
        let list : GapList = record { objects = []; gaps = gaps } in (
          list,
          subst (Contains (lists_of s.objects closings)) (described-is s.objects offered.0 list offered.2 is_set)
              (lists-have s.objects closings offered.0 offered.2.values offered.1 offered.2.chosen),
          refl,
        );
  }
    where
      none : (f : Term → ℕ) (ts : List Term) → length ts ≡ 0 → [] ≡ map f ts
      none f [] empty = refl
      none f (t ∷ ts) empty = absurd (omega (arith, empty))
