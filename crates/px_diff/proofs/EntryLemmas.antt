-- Gathering the entries that may be pushed, part by part.
use Rattle.std.proofs.Common.{◌≡◌, ◌∙◌, ◌⊎◌, ℕ, Some, List, [], ◌∷◌, ◌++◌, take, slice_get, ap, sym, subst, inl, inr}
use Rattle.std.specs.Prelude.{◌↔◌, Contains}
use Rattle.px_terms.specs.declared.atom.Atom.{Atom}
use Rattle.px_terms.specs.declared.problem.Problem.{Problem}
use Rattle.px_table.specs.declared.entry.Entry.{Entry}
use Rattle.px_table.specs.declared.entry.Entry.TheVariants.{Macro}
use Rattle.px_table.specs.declared.table.Table.{Table}
use Rattle.px_table.specs.Kernels.{steps_under}
use Rattle.px_table.specs.Prefixes.{IsMacro}
use Rattle.px_entries.specs.Entries.{IsEntry, effect_of, obligations_of, row_needs}
use Rattle.px_gaps.specs.Needs.{IsOpen}
use Rattle.px_entries.proofs.RowTurns.{in_turn, row_obligations, table_is}
use Rattle.px_gaps.specs.Known.{LimitsNeeds}
use Rattle.px_gaps.specs.declared.question.MetLimit.{MetLimit}
use Rattle.px_diff.specs.Macros.{GathersEntries}
use Rattle.px_diff.specs.Pushes.{IsPushable, IsRelevant, LimitsRelevant}
use Rattle.px_gaps.specs.Questions.{AreUnlimited}
use Rattle.px_base.proofs.Loops.{Contains-pushed}

module _ (problem : Problem) (tables : List Table) (wanted : List Atom) (stack : List Entry) (model : List Atom) where
  abbrev pub Gathering : (Entry → Type 0) → List Entry → List Entry → Type 0
  Gathering = GathersEntries problem tables wanted stack model

  pub entries_less : (V W : Entry → Type 0) (old new : List Entry) → ((entry : Entry) → W entry → V entry) → Gathering V old new
      → Gathering W old new
  entries_less V W old new f g =
      record {
        kept = g.kept;
        only = g.only;
        all = λ entry w p. g.all entry (f entry w) p;
        unlimited = λ entry w r. g.unlimited entry (f entry w) r;
      }

  -- it is enough to look at what is relevant
  pub entries_relevant : (V W : Entry → Type 0) (old new : List Entry)
      → ((entry : Entry) → IsRelevant problem tables wanted stack entry → W entry → V entry) → Gathering V old new → Gathering W old new
  entries_relevant V W old new f g =
      record {
        kept = g.kept;
        only = g.only;
        all = λ entry w p. g.all entry (f entry p.relevant w) p;
        unlimited = λ entry w r. g.unlimited entry (f entry r w) r;
      }

  -- the same entries in another order
  pub entries_reordered : (V : Entry → Type 0) (old made new : List Entry) → ((entry : Entry) → Contains new entry ↔ Contains made entry)
      → Gathering V old made → Gathering V old new
  entries_reordered V old made new members g = record {
    kept = λ entry there. (members entry).1 (g.kept entry there);
    only = λ entry there. g.only entry ((members entry).0 there);
    all = λ entry v p. (members entry).1 (g.all entry v p);
    unlimited = g.unlimited;
  }

  -- what was there before in another order
  pub entries_since : (V : Entry → Type 0) (old made new : List Entry) → ((entry : Entry) → Contains made entry ↔ Contains old entry)
      → Gathering V made new → Gathering V old new
  entries_since V old made new members g = record {
    kept = λ entry there. g.kept entry ((members entry).1 there);
    only = λ entry there. elim (g.only entry there) [ inl before ↦ inl ((members entry).0 before) | inr p ↦ inr p ];
    all = g.all;
    unlimited = g.unlimited;
  }

  -- one more part
  pub entries_part : (V U W : Entry → Type 0) (old made new : List Entry) → ((entry : Entry) → W entry → V entry ⊎ U entry)
      → Gathering V old made → Gathering U made new → Gathering W old new
  entries_part V U W old made new f g h = record {
    kept = λ entry there. h.kept entry (g.kept entry there);
    only = λ entry there. elim (h.only entry there) [ inl before ↦ g.only entry before | inr p ↦ inr p ];
    all = λ entry w p. elim (f entry w) [ inl v ↦ h.kept entry (g.all entry v p) | inr u ↦ h.all entry u p ];
    unlimited = λ entry w r. elim (f entry w) [ inl v ↦ g.unlimited entry v r | inr u ↦ h.unlimited entry u r ];
  }

  -- a part that has nothing relevant
  pub entries_none : (W : Entry → Type 0) (found : List Entry)
      → ((entry : Entry) → IsRelevant problem tables wanted stack entry → ¬ W entry) → Gathering W found found
  entries_none W found never = record {
    kept = λ entry there. there;
    only = λ entry there. inl there;
    all = λ entry w p. absurd (never entry p.relevant w);
    unlimited = λ entry w r. absurd (never entry r w);
  }

  -- one entry that may be pushed
  pub entries_one : (one : Entry) (old new : List Entry) → new ≡ old ++ one ∷ [] → IsRelevant problem tables wanted stack one
      → IsOpen problem (obligations_of problem tables model one) → AreUnlimited problem (obligations_of problem tables model one)
      → Gathering (λ other. one ≡ other) old new
  entries_one one old new is relevant open_one unlimited = subst (Gathering (λ other. one ≡ other) old) (sym is) (record {
    kept = λ entry there. (Contains-pushed old one entry).1 (inl there);
    only = λ entry there. elim ((Contains-pushed old one entry).0 there) [
      | inl before ↦ inl before
      | inr same ↦ inr (subst (IsPushable problem tables wanted stack model) same (record { relevant = relevant; open_entry = open_one }))
    ];
    all = λ entry same p. (Contains-pushed old one entry).1 (inr same);
    unlimited = λ entry same r. subst (λ (e : Entry). AreUnlimited problem (obligations_of problem tables model e)) same unlimited;
  })

  -- and one that isn't open
  pub entries_closed : (one : Entry) (found : List Entry) → (¬ IsOpen problem (obligations_of problem tables model one))
      → AreUnlimited problem (obligations_of problem tables model one) → Gathering (λ other. one ≡ other) found found
  entries_closed one found closed unlimited = record {
    kept = λ entry there. there;
    only = λ entry there. inl there;
    all = λ entry same p. absurd (closed (subst (λ (e : Entry). IsOpen problem (obligations_of problem tables model e))
        (sym same) p.open_entry));
    unlimited = λ entry same r. subst (λ (e : Entry). AreUnlimited problem (obligations_of problem tables model e)) same unlimited;
  }

-- what meets the limit for what an entry needs does so for the request
pub limits_entry : (problem : Problem) (tables : List Table) (wanted : List Atom) (stack : List Entry) (model : List Atom) (entry : Entry)
    (limit : MetLimit) → IsRelevant problem tables wanted stack entry
    → LimitsNeeds problem (obligations_of problem tables model entry) limit → LimitsRelevant problem tables wanted stack model limit
limits_entry problem tables wanted stack model entry limit relevant limits =
    record { entry = entry; relevant = relevant; asked = limits.asked; met = limits.met }

-- ---- MACROPs

module _ (problem : Problem) (tables : List Table) (number prefix : ℕ) (table : Table) (at : slice_get tables number ≡ Some table)
    (sigma : List ℕ) where
  pub effect_is : effect_of tables (Macro number prefix sigma) ≡ take prefix (steps_under table sigma)
  effect_is = ap (λ (t : Table). take prefix (steps_under t sigma)) (table_is tables number table at)

  pub needs_are : (model : List Atom)
      → obligations_of problem tables model (Macro number prefix sigma)
      ≡ row_obligations problem table sigma model 1 (take prefix (steps_under table sigma))
  needs_are model =
      ap (λ (t : Table). row_needs problem t sigma model (take prefix (steps_under t sigma))) (table_is tables number table at)
      ∙ in_turn problem table sigma model (take prefix (steps_under table sigma))

  pub entry_macro : IsEntry problem tables (Macro number prefix sigma) → IsMacro problem table prefix sigma
  entry_macro entry = subst (λ (t : Table). IsMacro problem t prefix sigma) (same entry.0 entry.1) entry.2
    where
      same : (t : Table) → slice_get tables number ≡ Some t → t ≡ table
      same t here = let both : Some t ≡ Some table = sym here ∙ at in cc

  pub macro_entry : IsMacro problem table prefix sigma → IsEntry problem tables (Macro number prefix sigma)
  macro_entry is = (table, at, is)

  pub relevant_macro : (wanted : List Atom) (stack : List Entry) → IsRelevant problem tables wanted stack (Macro number prefix sigma)
      → IsMacro problem table prefix sigma
  relevant_macro wanted stack relevant = entry_macro relevant.is_entry
