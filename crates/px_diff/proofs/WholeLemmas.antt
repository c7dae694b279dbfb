-- All entries that may be pushed: the instances of operators, and the MACROPs.
use Rattle.std.proofs.Common.{◌≡◌, ◌⊎◌, List, [], map, refl, sym, subst, inl, inr}
use Rattle.std.specs.Prelude.{◌↔◌, Contains}
use Rattle.std.specs.List.{dedup}
use Rattle.std.specs.List.Sorted.{IsStrictlySortedBy, IsSorted, IsPermutation}
use Rattle.std.specs.declared.cmp.Ordering.{Ordering}
use Rattle.std.proofs.lemmas.List.Kept.{IsStrictlySortedBy-dedup}
use Rattle.px_table.specs.contracts.entry.EntryOrd.TheImpl.Laws as entry_order
use Rattle.px_table.specs.EntryLaws.{entry_cmp-is, entry_eq-decides}
use Rattle.px_table.specs.EntryOrder.{entry_cmp, entry_eq, order_of_entries}
use Rattle.px_base.specs.ListLaws.{Contains-none}
use Rattle.px_proof.specs.PlaceLaws.{Contains-mapped}
use Rattle.px_table.specs.declared.entry.Entry.{Entry}
use Rattle.px_table.specs.declared.entry.Entry.TheVariants.{Op, Macro}
use Rattle.px_table.specs.declared.table.Table.{Table}
use Rattle.px_terms.specs.Operators.{adds}
use Rattle.px_terms.specs.declared.atom.Atom.{Atom}
use Rattle.px_terms.specs.declared.instance.OpInst.{OpInst}
use Rattle.px_terms.specs.declared.problem.Problem.{Problem}
use Rattle.px_gaps.specs.Closings.{OneOf}
use Rattle.px_entries.specs.Entries.{obligations_of}
use Rattle.px_diff.specs.Gathering.{Gathers}
use Rattle.px_entries.specs.Instances.{Covers, IsCovered}
use Rattle.px_diff.specs.Macros.{GathersEntries, IsMacroEntry, IsOperatorEntry}
use Rattle.px_diff.specs.Pushes.{IsPushable, IsRelevant}
use Rattle.px_gaps.specs.Questions.{AreUnlimited}
use Rattle.px_entries.specs.declared.partial.PartialInstance.{PartialInstance}
use Rattle.px_diff.proofs.EntryLemmas.{entries_part}
use Rattle.px_gaps.proofs.Ordered.{sorted_members}
use Rattle.px_table.specs.KernelLaws.{Contains-from_map}

module _ (problem : Problem) (tables : List Table) (wanted : List Atom) (stack : List Entry) (model : List Atom) where
  -- a relevant instance adds a wanted atom
  pub operator_adds : (inst : OpInst) → IsRelevant problem tables wanted stack (Op inst) → OneOf wanted (Contains (adds problem inst))
  operator_adds inst relevant = (relevant.atom, relevant.is_wanted, elim relevant.added [ inl now ↦ now.0 | inr never ↦ absurd never ])

  pub operators_gather : (matches : List PartialInstance) (found : List OpInst)
      → Covers problem (λ full. OneOf wanted (Contains (adds problem full))) [] matches
      → Gathers problem tables wanted stack model (IsCovered problem matches) [] found
      → GathersEntries problem tables wanted stack model IsOperatorEntry [] (map Op found)
  operators_gather matches found covers gathers = record {
    kept = λ entry there. absurd (Contains-none entry there);
    only = λ entry there.
        let from = Contains-from_map Op found entry there in
        elim (gathers.only from.0 from.1) [
          | inl never ↦ absurd (Contains-none from.0 never)
          | inr p ↦ inr
              (subst (IsPushable problem tables wanted stack model) from.2 p)
        ];
    all = λ entry (inst, same) p.
        let here = subst (IsPushable problem tables wanted stack model) (sym same) p in
        subst (Contains (map Op found)) same (Contains-mapped Op found inst
        (gathers.all inst (covers.all inst here.relevant.is_entry.of (operator_adds inst here.relevant)) here));
    unlimited = λ entry (inst, same) relevant.
        let here = subst (IsRelevant problem tables wanted stack) (sym same) relevant in
        subst (λ (e : Entry). AreUnlimited problem (obligations_of problem tables model e)) same
        (gathers.unlimited inst (covers.all inst here.is_entry.of (operator_adds inst here)) here);
  }

  pub either : (entry : Entry) → IsOperatorEntry entry ⊎ IsMacroEntry entry
  either (Op inst) = inl (inst, refl)
  either (Macro number prefix sigma) = inr (number, (prefix, (sigma, refl)))

  module _ (made new : List Entry) (operators : GathersEntries problem tables wanted stack model IsOperatorEntry [] made)
      (macros : GathersEntries problem tables wanted stack model IsMacroEntry made new) where
    abbrev Whole : Entry → Type 0
    Whole entry = IsOperatorEntry entry ⊎ IsMacroEntry entry

    whole : GathersEntries problem tables wanted stack model Whole [] new
    whole = entries_part problem tables wanted stack model IsOperatorEntry IsMacroEntry Whole [] made new (λ entry w. w) operators macros

    pub whole-exact : (entry : Entry) → Contains new entry ↔ IsPushable problem tables wanted stack model entry
    whole-exact entry = (
      λ there. elim (whole.only entry there) [ inl never ↦ absurd (Contains-none entry never) | inr p ↦ p ],
      λ p. whole.all entry (either entry) p,
    )

    pub whole-unlimited : (entry : Entry) → IsRelevant problem tables wanted stack entry
        → AreUnlimited problem (obligations_of problem tables model entry)
    whole-unlimited entry relevant = whole.unlimited entry (either entry) relevant

-- ---- in order, each once

pub entries-members : (old sorted new : List Entry) → IsPermutation old sorted → new ≡ dedup entry_eq sorted → (entry : Entry)
    → Contains old entry ↔ Contains new entry
entries-members old sorted new permuted is = sorted_members entry_eq entry_eq-decides old sorted new permuted is

pub entries-ascend : (sorted new : List Entry) → IsSorted entry_cmp sorted → new ≡ dedup entry_eq sorted
    → IsStrictlySortedBy order_of_entries new
entries-ascend sorted new ascends is =
    subst (λ (R : Entry → Entry → Ordering). IsStrictlySortedBy R new) same
    (subst (IsStrictlySortedBy entry_cmp) (sym is)
    (IsStrictlySortedBy-dedup entry_order.total-law entry_order.matches_eq-law sorted ascends))
  where
    same : entry_cmp ≡ order_of_entries
    same = λ i first second. entry_cmp-is first second i
