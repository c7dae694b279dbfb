-- All pushes for several wanted atoms, joined from those for each.
use Rattle.std.proofs.Common.{◌≡◌, ◌∙◌, ◌-◌, ◌++◌, ℕ, List, [], ◌∷◌, map, length, take, drop, length-drop, take-append-drop, refl, sym, ap, subst, arith, inl, inr}
use Rattle.std.proofs.lemmas.List.{take_all}
use Rattle.std.specs.List.Sorted.{IsStrictlySortedBy}
use Rattle.std.proofs.lemmas.List.Elements.{Contains-append_left, Contains-append_right, Contains-append_cases}
use Rattle.px_terms.specs.declared.atom.Atom.{Atom}
use Rattle.px_table.specs.declared.entry.Move.TheVariants.{Push}
use Rattle.px_table.specs.EntryOrder.{order_of_entries}
use Rattle.px_numbers.specs.Numbers.{Kept, KeepsAll}
use Rattle.px_ends.specs.Tasks.{Task}
use Rattle.px_search.specs.Offers.{AreJoined, ArePushes, AreWhole, IsOfferedWhole}
use Rattle.px_search.specs.declared.step.Step.{Step}
use Rattle.px_search.proofs.OfferLaws.{whole-more, whole-none}
use Rattle.px_search.proofs.StepLaws.{steps-grow}

none-sorted : IsStrictlySortedBy order_of_entries []
unfolding IsStrictlySortedBy
none-sorted = tt

pub whole-start : (task : Task) (kept : Kept) (facts : List Atom) → IsOfferedWhole task kept facts [] []
whole-start task kept facts = record { entries = []; whole = whole-none task facts; ordered = none-sorted; steps_are = tt }

pub whole-nothing : (task : Task) (kept : Kept) (facts wanted : List Atom) (steps : List Step) → length wanted ≡ 0 → steps ≡ []
    → IsOfferedWhole task kept facts wanted steps
whole-nothing task kept facts [] steps none is = subst (IsOfferedWhole task kept facts []) (sym is) (whole-start task kept facts)
whole-nothing task kept facts (a ∷ l) steps none is = absurd (omega (arith, none))

pub rest-is : (place : ℕ) (atoms : List Atom) → take (length atoms - place) (drop place atoms) ≡ drop place atoms
rest-is place atoms = take_all (length atoms - place) (drop place atoms) (omega (arith, length-drop place atoms))

-- a list is what stands before a place in it, and what stands from there on
pub two-parts : (place : ℕ) (atoms : List Atom) → take place atoms ++ take (length atoms - place) (drop place atoms) ≡ atoms
two-parts place atoms = ap (λ (l : List Atom). take place atoms ++ l) (rest-is place atoms) ∙ take-append-drop place atoms

pub whole-grows : (task : Task) (old new : Kept) (facts wanted : List Atom) (steps : List Step) → KeepsAll old new
    → IsOfferedWhole task old facts wanted steps → IsOfferedWhole task new facts wanted steps
whole-grows task old new facts wanted steps keeps w =
    record {
      entries = w.entries;
      whole = w.whole;
      ordered = w.ordered;
      steps_are = steps-grow old new steps (map Push w.entries) keeps w.steps_are;
    }

pub whole-pushes : (task : Task) (kept : Kept) (facts wanted : List Atom) (steps : List Step)
    → (w : IsOfferedWhole task kept facts wanted steps) → ArePushes kept w.entries steps
whole-pushes task kept facts wanted steps w = record { ordered = w.ordered; steps_are = w.steps_are }

module _ (task : Task) (kept : Kept) (facts ws vs : List Atom) (ss ts us : List Step) (a : IsOfferedWhole task kept facts ws ss)
    (b : IsOfferedWhole task kept facts vs ts) where
  both : AreWhole task facts (ws ++ vs) (a.entries ++ b.entries)
  both = whole-more task facts ws vs a.entries b.entries (a.entries ++ b.entries) a.whole b.whole refl

  pub whole-joined : AreJoined kept a.entries b.entries us → IsOfferedWhole task kept facts (ws ++ vs) us
  whole-joined j = record {
    entries = j.entries;
    whole = record {
      exact = λ entry. (
        λ has. (both.exact entry).0 (elim ((j.members entry).0 has) [
          | inl left ↦ Contains-append_left a.entries b.entries entry left
          | inr right ↦ Contains-append_right a.entries b.entries entry right
        ]),
        λ pushable. (j.members entry).1 (Contains-append_cases a.entries b.entries entry ((both.exact entry).1 pushable)),
      );
      unlimited = both.unlimited;
    };
    ordered = j.pushes.ordered;
    steps_are = j.pushes.steps_are;
  }
