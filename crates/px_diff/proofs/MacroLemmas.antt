-- MACROPs whose objects are chosen one after the other, part by part.
use Rattle.std.proofs.Common.{◌≡◌, ◌∙◌, ◌⊎◌, ◌+◌, ◌<◌, ◌≤◌, ℕ, Some, List, [], length, map, set, take, slice_get, ap, sym, subst, inl, inr, arith}
use Rattle.std.specs.Prelude.{All, Contains, slice_index}
use Rattle.std.proofs.lemmas.List.{take-map}
use Rattle.std.proofs.lemmas.Option.{slice_get_within}
use Rattle.px_base.specs.ListLaws.{All-at, All-each}
use Rattle.px_table.specs.declared.entry.Entry.{Entry}
use Rattle.px_table.specs.declared.entry.Entry.TheVariants.{Macro}
use Rattle.px_table.specs.declared.mark.Mark.{Mark}
use Rattle.px_table.specs.declared.table.Table.{Table}
use Rattle.px_table.specs.Kernels.{instance_under, steps_under}
use Rattle.px_table.specs.Prefixes.{IsMacro}
use Rattle.px_table.specs.Tables.{IsTable}
use Rattle.px_terms.specs.Operators.{IsAdded}
use Rattle.px_terms.specs.Validity.{IsAtomOf}
use Rattle.px_terms.specs.declared.atom.Atom.{Atom}
use Rattle.px_terms.specs.declared.instance.OpInst.{OpInst}
use Rattle.px_terms.specs.declared.problem.Problem.{Problem}
use Rattle.px_terms.specs.declared.term.Term.{Term}
use Rattle.px_terms.specs.declared.term.Term.TheVariants.{Obj, Var}
use Rattle.px_gaps.specs.Bindings.{ExtendsTerms, IsPlain, first_values}
use Rattle.px_gaps.specs.Closings.{OneOf}
use Rattle.px_diff.specs.Macros.{IsMacroBefore, IsMacroBy, IsOfPrefix}
use Rattle.px_entries.specs.Parameters.{AreFirstTerms, Matches}
use Rattle.px_diff.specs.Pushes.{IsRelevant}
use Rattle.px_gaps.proofs.Choosing.{bound-extends}
use Rattle.px_gaps.proofs.Describing.{atom-plain}
use Rattle.px_diff.proofs.EntryLemmas.{effect_is, macro_entry, relevant_macro}
use Rattle.px_base.proofs.Loops.{level_or_below}
use Rattle.px_entries.proofs.ParameterLemmas.{first-extends, zero-values}

-- ---- the objects of one parameter, one after the other

module _ (limit number prefix : ℕ) (terms : List Term) (v : ℕ) (is_open : slice_get terms v ≡ Some (Var v)) where
  pub macro_before-next : (object : ℕ) (passed : List Term) → passed ≡ set terms v (Obj object) → (entry : Entry)
      → IsMacroBefore limit number prefix terms v (object + 1) entry
      → IsMacroBefore limit number prefix terms v object entry ⊎ IsMacroBy limit number prefix passed entry
  macro_before-next object passed is entry w = elim (level_or_below (slice_index w.0 v) object w.2) [
    | inl earlier ↦ inl (w.0, w.1, earlier, w.3)
    | inr level ↦ inr (
      w.0,
      subst (λ (ts : List Term). ExtendsTerms limit ts w.0) (sym is)
          (bound-extends limit terms v is_open object w.0 w.1 level),
      w.3,
    )
  ]

  pub macro_before-all : (object : ℕ) → limit ≤ object → (entry : Entry) → IsMacroBy limit number prefix terms entry
      → IsMacroBefore limit number prefix terms v object entry
  macro_before-all object past entry w =
      let within : v < length terms = slice_get_within terms v (Var v) is_open in
      let below : slice_index w.0 v < limit = w.1.below v 0 (omega (arith, within, w.1.count)) in
      (w.0, w.1, omega (arith, below, past), w.2)

  pub macro_before-none : (entry : Entry) → ¬ IsMacroBefore limit number prefix terms v 0 entry
  macro_before-none entry w = omega (arith, w.2)

-- the marks' atoms have parameters for variables
pub marks-plain : (problem : Problem) (table : Table) (terms : List Term) → IsTable problem table → length terms ≡ table.params
    → All (λ (mark : Mark). IsPlain (length terms) mark.atom) table.marks
marks-plain problem table terms is_table long = All-each (λ (mark : Mark). IsPlain (length terms) mark.atom) table.marks (λ mark has.
    subst (λ (n : ℕ). IsPlain n mark.atom) (sym long)
    (atom-plain problem table.params mark.atom (All-at
    (λ (m : Mark). IsAtomOf problem table.params m.atom) table.marks mark is_table.atoms has)))

-- ---- parts of the entries of first steps

module _ (problem : Problem) (tables : List Table) (wanted : List Atom) (stack : List Entry) (number prefix : ℕ) (table : Table)
    (at : slice_get tables number ≡ Some table) (is_table : IsTable problem table) where
  -- a MACROP is relevant where it isn't on the stack and its steps add a wanted atom
  pub relevance_macro : (sigma : List ℕ) → IsMacro problem table prefix sigma → (¬ Contains stack (Macro number prefix sigma))
      → OneOf wanted (IsAdded problem (take prefix (steps_under table sigma)))
      → IsRelevant problem tables wanted stack (Macro number prefix sigma)
  relevance_macro sigma is fresh one = record {
    is_entry = macro_entry problem tables number prefix table at sigma is;
    fresh = fresh;
    atom = one.0;
    is_wanted = one.1;
    added = subst (λ (l : List OpInst). IsAdded problem l one.0) (sym (effect_is problem tables number prefix table at sigma)) one.2;
  }

  pub macro_adds : (sigma : List ℕ) → IsRelevant problem tables wanted stack (Macro number prefix sigma)
      → OneOf wanted (IsAdded problem (take prefix (steps_under table sigma)))
  macro_adds sigma relevant = (
    relevant.atom,
    relevant.is_wanted,
    subst (λ (l : List OpInst). IsAdded problem l relevant.atom) (effect_is problem tables number prefix table at sigma) relevant.added,
  )

  -- what is relevant of the first steps is of the matches
  module _ (start : List Term) (first : AreFirstTerms table prefix start) where
    pub of_matches : (matches : List (List Term)) → 0 < problem.objects
        → Matches problem.objects (length start) start
        (λ sigma. OneOf wanted (IsAdded problem (map (instance_under sigma) (take prefix table.steps)))) [] matches
        → (entry : Entry) → IsRelevant problem tables wanted stack entry → IsOfPrefix number prefix entry
        → OneOf matches (λ (terms : List Term). IsMacroBy problem.objects number prefix terms entry)
    of_matches matches some matched entry relevant (sigma, same) =
        let here = subst (IsRelevant problem tables wanted stack) (sym same) relevant in
        let is = relevant_macro problem tables number prefix table at sigma wanted stack here in
        let extends = first-extends problem table prefix start first sigma is some in
        let adds_one = macro_adds sigma here in
        let one =
        matched.all sigma extends (
          adds_one.0,
          adds_one.1,
          subst (λ (l : List OpInst). IsAdded problem l adds_one.0) (take-map (instance_under sigma) prefix table.steps) adds_one.2,
        ) in
        (one.0, one.1, (sigma, one.2, same))

    -- without objects there is one at most
    pub of_zeros : problem.objects ≡ 0 → (entry : Entry) → IsRelevant problem tables wanted stack entry → IsOfPrefix number prefix entry
        → Macro number prefix (first_values start) ≡ entry
    of_zeros none entry relevant (sigma, same) =
        let is =
        relevant_macro problem tables number prefix table at sigma wanted stack
        (subst (IsRelevant problem tables wanted stack) (sym same) relevant) in
        ap (λ (l : List ℕ). Macro number prefix l) (sym (zero-values problem table prefix start first sigma is none)) ∙ same

  pub prefix-range : (entry : Entry) → IsRelevant problem tables wanted stack entry → IsOfPrefix number prefix entry
      → (2 ≤ prefix) × (prefix ≤ length table.steps)
  prefix-range entry relevant (sigma, same) =
      let is =
      relevant_macro problem tables number prefix table at sigma wanted stack
      (subst (IsRelevant problem tables wanted stack) (sym same) relevant) in
      (is.several, is.within)
