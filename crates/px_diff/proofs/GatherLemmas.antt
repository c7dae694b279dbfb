-- Gathering MACROPs, where the parts are what objects for parameters make.
use Rattle.std.proofs.Common.{◌≡◌, ◌∙◌, ◌⊎◌, ◌+◌, ◌<◌, ◌≤◌, ℕ, Some, List, [], ◌∷◌, length, take, set, slice_get, get_or, ap, sym, subst, inl, inr, arith, map}
use Rattle.std.specs.Prelude.{All, Contains}
use Rattle.std.proofs.lemmas.List.{take_all}
use Rattle.std.proofs.lemmas.List.Elements.{All-cons, All-nil}
use Rattle.std.proofs.lemmas.Option.{slice_get_within}
use Rattle.px_base.specs.ListLaws.{All-at}
use Rattle.px_question.specs.FewerShapes.{Contains-at}
use Rattle.px_table.specs.declared.entry.Entry.{Entry}
use Rattle.px_table.specs.declared.entry.Entry.TheVariants.{Macro}
use Rattle.px_table.specs.declared.table.Table.{Table}
use Rattle.px_question.specs.Settings.{setting_of}
use Rattle.px_table.specs.Prefixes.{IsMacro}
use Rattle.px_table.specs.Tables.{IsTable}
use Rattle.px_terms.specs.AtomSets.{IsAtomSet}
use Rattle.px_table.specs.Kernels.{instance_under}
use Rattle.px_terms.specs.Operators.{IsAdded}
use Rattle.px_terms.specs.declared.instance.OpInst.{OpInst}
use Rattle.px_terms.specs.declared.atom.Atom.{Atom}
use Rattle.px_terms.specs.declared.problem.Problem.{Problem}
use Rattle.px_terms.specs.declared.term.Term.{Term}
use Rattle.px_terms.specs.declared.term.Term.TheVariants.{Obj, Var}
use Rattle.px_terms.specs.Language.{IsObject}
use Rattle.px_gaps.specs.Bindings.{AreUnbound, ExtendsTerms, first_values}
use Rattle.px_gaps.specs.Closings.{OneOf}
use Rattle.px_entries.specs.Entries.{IsEntry, obligations_of}
use Rattle.px_gaps.specs.Needs.{IsOpen}
use Rattle.px_entries.specs.Learned.{AreLearned}
use Rattle.px_diff.specs.Macros.{GathersEntries, IsMacroPrefix, IsMacroBefore, IsMacroBy, IsMacroEntry, IsMacroTold, IsOfPrefix, IsOfTable}
use Rattle.px_entries.specs.Parameters.{AreFirstTerms, Matches}
use Rattle.px_diff.specs.Pushes.{IsPushable, IsRelevant}
use Rattle.px_gaps.specs.Questions.{AreUnlimited}
use Rattle.px_diff.specs.RowQuestions.{AreRowsKnown, FitsEach, FitsOne, IsInstanceKnown}
use Rattle.px_diff.specs.declared.prefix.Prefix.{Prefix}
use Rattle.px_diff.proofs.EntryLemmas.{entries_less, entries_none, entries_part, entries_relevant, needs_are, relevant_macro}
use Rattle.px_gaps.proofs.Grows.{one_next, one_none}
use Rattle.px_base.proofs.Loops.{level_or_below}
use Rattle.px_diff.proofs.MacroLemmas.{prefix-range, macro_before-all, macro_before-next, macro_before-none, of_matches}
use Rattle.px_entries.proofs.ParameterLemmas.{closed-values, first-extends}
use Rattle.px_diff.proofs.PrefixLemmas.{rows-fit, rows-unlimited}
use Rattle.px_diff.proofs.RowSplitting.{limited_or_known}
use Rattle.px_proof.specs.PlaceLaws.{slice_get-read}

-- ---- tables and choices

pub learned-table : (problem : Problem) (tables : List Table) (number : ℕ) (table : Table) → AreLearned problem tables
    → slice_get tables number ≡ Some table → IsTable problem table
learned-table problem tables number table learned at =
    All-at (IsTable problem) tables table learned.each (Contains-at tables number table at)

pub learned-at : (problem : Problem) (tables : List Table) (number : ℕ) (d : Table) → AreLearned problem tables → number < length tables
    → IsTable problem (get_or tables number d)
learned-at problem tables number d learned within =
    learned-table problem tables number (get_or tables number d) learned (slice_get-read tables number d within)

pub prefix-table : (front : Prefix) → IsMacroPrefix front → IsTable front.request.problem.now front.table.now
prefix-table front is = learned-table front.request.problem.now front.request.tables.now front.number front.table.now is.tables is.table

-- ---- parts

module _ (problem : Problem) (tables : List Table) (wanted : List Atom) (stack : List Entry) (model : List Atom) (number prefix : ℕ) where
  abbrev pub Gathered : (Entry → Type 0) → List Entry → List Entry → Type 0
  Gathered = GathersEntries problem tables wanted stack model

  -- no object is before the first
  pub objects-none : (terms : List Term) (v : ℕ) (found : List Entry) → slice_get terms v ≡ Some (Var v)
      → Gathered (IsMacroBefore problem.objects number prefix terms v 0) found found
  objects-none terms v found open_here =
      entries_none problem tables wanted stack model (IsMacroBefore problem.objects number prefix terms v 0) found
      (λ entry relevant w. macro_before-none problem.objects number prefix terms v open_here entry w)

  pub objects-next : (terms passed : List Term) (v object : ℕ) (old made new : List Entry) → slice_get terms v ≡ Some (Var v)
      → passed ≡ set terms v (Obj object)
      → Gathered (IsMacroBefore problem.objects number prefix terms v object) old made
      → Gathered (IsMacroBy problem.objects number prefix passed) made new
      → Gathered (IsMacroBefore problem.objects number prefix terms v (object + 1)) old new
  objects-next terms passed v object old made new open_here is first second =
      entries_part problem tables wanted stack model (IsMacroBefore problem.objects number prefix terms v object)
      (IsMacroBy problem.objects number prefix passed) (IsMacroBefore problem.objects number prefix terms v (object + 1)) old made new
      (macro_before-next problem.objects number prefix terms v open_here object passed is) first second

  pub objects-all : (terms : List Term) (v object : ℕ) (old new : List Entry) → slice_get terms v ≡ Some (Var v) → problem.objects ≤ object
      → Gathered (IsMacroBefore problem.objects number prefix terms v object) old new
      → Gathered (IsMacroBy problem.objects number prefix terms) old new
  objects-all terms v object old new open_here past gathered =
      entries_less problem tables wanted stack model (IsMacroBefore problem.objects number prefix terms v object)
      (IsMacroBy problem.objects number prefix terms) old new
      (macro_before-all problem.objects number prefix terms v open_here object past) gathered

  -- where each parameter has an object there is one entry
  pub objects-closed : (terms : List Term) (sigma : List ℕ) (old new : List Entry) → All IsObject terms → sigma ≡ first_values terms
      → Gathered (λ other. Macro number prefix sigma ≡ other) old new → Gathered (IsMacroBy problem.objects number prefix terms) old new
  objects-closed terms sigma old new closed is gathered =
      entries_less problem tables wanted stack model (λ other. Macro number prefix sigma ≡ other)
      (IsMacroBy problem.objects number prefix terms) old new
      (λ entry (values, extends, same). ap (λ (l : List ℕ). Macro number prefix l)
      (is ∙ sym (closed-values problem.objects terms values closed extends)) ∙ same) gathered

  -- match by match
  module _ {X : Type 0} (IsPart : X → Entry → Type 0) where
    abbrev pub IsMatched : List X → Entry → Type 0
    IsMatched matches entry = OneOf matches (λ (x : X). IsPart x entry)

    pub matched-none : (found : List Entry) → Gathered (IsMatched []) found found
    matched-none found =
        entries_none problem tables wanted stack model (IsMatched []) found (λ entry relevant one. one_none (λ (x : X). IsPart x entry) one)

    pub matched-next : (matches : List X) (i : ℕ) (terms : X) (old made new : List Entry) → i < length matches
        → terms ≡ get_or matches i terms
        → Gathered (IsMatched (take i matches)) old made → Gathered (IsPart terms) made new
        → Gathered (IsMatched (take (i + 1) matches)) old new
    matched-next matches i terms old made new below is first second =
        entries_part problem tables wanted stack model (IsMatched (take i matches)) (IsPart terms)
        (IsMatched (take (i + 1) matches)) old made new
        (λ entry w. (one_next (λ (x : X). IsPart x entry) matches i terms below is).0 w) first second

    pub matched-all : (matches : List X) (i : ℕ) (old new : List Entry) → length matches ≤ i → Gathered (IsMatched (take i matches)) old new
        → Gathered (IsMatched matches) old new
    matched-all matches i old new end gathered = subst (λ (l : List X). Gathered (IsMatched l) old new) (take_all i matches end) gathered

  -- an entry that is none, or isn't relevant
  pub irrelevant-none : (sigma : List ℕ) (found : List Entry) → (¬ IsRelevant problem tables wanted stack (Macro number prefix sigma))
      → Gathered (λ other. Macro number prefix sigma ≡ other) found found
  irrelevant-none sigma found never =
      entries_none problem tables wanted stack model (λ other. Macro number prefix sigma ≡ other) found
      (λ entry relevant same. never (subst (IsRelevant problem tables wanted stack) (sym same) relevant))

-- ---- what is wanted of the first steps

abbrev pub AreMatches : Problem → List Atom → ℕ → List Term → List OpInst → List (List Term) → Type 0
AreMatches problem wanted count start steps matches =
    Matches problem.objects (length start) start (λ sigma. OneOf wanted (IsAdded problem (map (instance_under sigma) (take count steps))))
    [] matches

pub matches-as : (problem : Problem) (wanted : List Atom) (count : ℕ) (start : List Term) (steps all : List OpInst)
    (matches : List (List Term)) → steps ≡ all → AreMatches problem wanted count start steps matches
    → AreMatches problem wanted count start all matches
matches-as problem wanted count start steps all matches same_steps are =
    subst (λ (l : List OpInst). AreMatches problem wanted count start l matches) same_steps are

-- ---- the rows of a whole table

-- terms without objects are extended by whatever objects there are
wide-extends : (limit count : ℕ) (wide start : List Term) (sigma : List ℕ) → AreUnbound count wide → length start ≡ count
    → ExtendsTerms limit start sigma → ExtendsTerms limit wide sigma
wide-extends limit count wide start sigma unbound long extends = record {
  count = extends.count ∙ long ∙ sym unbound.count;
  below = extends.below;
  same = λ v n at. let never : Obj n ≡ Var v = unbound.each v (Obj n) at in absurd (cc);
}

-- objects that fit one of the row's choices fit one of each row, where there is but this row
fits-alone : (row : List (List Term)) (sigma : List ℕ) → FitsOne row sigma → FitsEach (row ∷ []) sigma
fits-alone row sigma fit =
    All-cons (λ (choices : List (List Term)). FitsOne choices sigma) row [] fit
    (All-nil (λ (choices : List (List Term)). FitsOne choices sigma))

module _ (problem : Problem) (tables : List Table) (wanted : List Atom) (stack : List Entry) (number prefix : ℕ) (table : Table)
    (at : slice_get tables number ≡ Some table) (is_table : IsTable problem table) (model : List Atom) (ascends : IsAtomSet model)
    (wide : List Term) (unbound : AreUnbound table.params wide) (some : 0 < problem.objects) (rows limited : List (List (List Term)))
    (known : AreRowsKnown (setting_of problem model) table wide prefix rows limited) (start : List Term)
    (first : AreFirstTerms table prefix start) (matches : List (List Term))
    (matched : AreMatches problem wanted prefix start table.steps matches) where
  abbrev IsKnownFor : List ℕ → Type 0
  IsKnownFor sigma = (k : ℕ) → k < prefix → IsInstanceKnown (setting_of problem model) table (k + 1) (get_or rows k []) sigma

  -- its objects fit one of the terms at which some row meets the limit, or each row is known with them
  limited_or_told : (sigma : List ℕ) → IsMacro problem table prefix sigma
      → OneOf limited (λ (row : List (List Term)). FitsOne row sigma) ⊎ IsKnownFor sigma
  limited_or_told sigma is =
      limited_or_known (setting_of problem model) table wide prefix rows limited known sigma
      (wide-extends problem.objects table.params wide start sigma unbound first.count
      (first-extends problem table prefix start first sigma is some))

  limited-part : (terms : List Term) → Contains matches terms → (sigma : List ℕ) → ExtendsTerms problem.objects terms sigma
      → OneOf limited (λ (row : List (List Term)). FitsOne row sigma) → (entry : Entry) → Macro number prefix sigma ≡ entry
      → OneOf matches (λ (ts : List Term). IsMacroTold problem.objects number prefix rows limited ts entry)
  limited-part terms has sigma extends one entry same =
      (terms, has, inl (one.0, one.1, (sigma, extends, fits-alone one.0 sigma one.2, same)))

  pub wide-gather : (old new : List Entry)
      → GathersEntries problem tables wanted stack model
      (λ entry. OneOf matches (λ (terms : List Term). IsMacroTold problem.objects number prefix rows limited terms entry)) old new
      → GathersEntries problem tables wanted stack model (IsOfPrefix number prefix) old new
  wide-gather old new gathers = record {
    kept = gathers.kept;
    only = gathers.only;
    all = λ entry of pushable.
        let one =
        of_matches problem tables wanted stack number prefix table at is_table start first matches some matched entry pushable.relevant
        of in
        let sigma = one.2.0 in
        let here = subst (IsPushable problem tables wanted stack model) (sym one.2.2) pushable in
        let is = relevant_macro problem tables number prefix table at sigma wanted stack here.relevant in
        let is_open = subst (IsOpen problem) (needs_are problem tables number prefix table at sigma model) here.open_entry in
        gathers.all entry (elim (limited_or_told sigma is) [
          | inl one_limited ↦ limited-part one.0 one.1 sigma one.2.1 one_limited entry one.2.2
          | inr told ↦ (
            one.0,
            one.1,
            inr (sigma, one.2.1, rows-fit problem table sigma model ascends prefix is.within rows known.count told is_open, one.2.2),
          )
        ]) pushable;
    unlimited = λ entry of relevant.
        let one =
        of_matches problem tables wanted stack number prefix table at is_table start first matches some matched entry relevant of in
        let sigma = one.2.0 in
        let is =
        relevant_macro problem tables number prefix table at sigma wanted stack
        (subst (IsRelevant problem tables wanted stack) (sym one.2.2) relevant) in
        elim (limited_or_told sigma is) [
          | inl one_limited ↦ gathers.unlimited entry (limited-part one.0 one.1 sigma one.2.1 one_limited entry one.2.2) relevant
          | inr told ↦
              let unlimited = rows-unlimited problem table sigma model ascends prefix is.within rows known.count told in
              subst (λ (e : Entry). AreUnlimited problem (obligations_of problem tables model e)) one.2.2
              (subst (AreUnlimited problem) (sym (needs_are problem tables number prefix table at sigma model)) unlimited)
        ];
  }

-- the same of borrowed lists
pub told-same : (problem : Problem) (tables : List Table) (wanted : List Atom) (stack : List Entry) (model : List Atom) (number count : ℕ)
    (lent matches : List (List Term)) (lent_rows rows lent_limited limited : List (List (List Term))) (old new : List Entry)
    → lent ≡ matches → lent_rows ≡ rows → lent_limited ≡ limited
    → GathersEntries problem tables wanted stack model
    (λ entry. OneOf lent (λ (terms : List Term). IsMacroTold problem.objects number count (take count lent_rows)
    (take count lent_limited) terms entry)) old new
    → GathersEntries problem tables wanted stack model
    (λ entry. OneOf matches (λ (terms : List Term). IsMacroTold problem.objects number count (take count rows)
    (take count limited) terms entry)) old new
told-same problem tables wanted stack model number count lent matches lent_rows rows lent_limited limited old new same same_rows
    same_limited gathers =
    subst (λ (l : List (List Term)). GathersEntries problem tables wanted stack model
    (λ entry. OneOf l (λ (terms : List Term). IsMacroTold problem.objects number count (take count rows)
    (take count limited) terms entry)) old new) same
    (subst (λ (l : List (List (List Term))). GathersEntries problem tables wanted stack model
    (λ entry. OneOf lent (λ (terms : List Term). IsMacroTold problem.objects number count (take count l)
    (take count limited) terms entry)) old new) same_rows
    (subst (λ (l : List (List (List Term))). GathersEntries problem tables wanted stack model
    (λ entry. OneOf lent (λ (terms : List Term). IsMacroTold problem.objects number count (take count lent_rows)
    (take count l) terms entry)) old new) same_limited gathers))

-- ---- tables, one after the other, and their first steps

module _ (problem : Problem) (tables : List Table) (wanted : List Atom) (stack : List Entry) (model : List Atom) where
  abbrev pub IsShorter : ℕ → ℕ → Entry → Type 0
  IsShorter number count entry = (prefix : ℕ) × (prefix < count) × IsOfPrefix number prefix entry

  abbrev pub IsEarlier : ℕ → Entry → Type 0
  IsEarlier number entry = (table : ℕ) × (table < number) × IsOfTable table entry

  pub shorter-next : (number count : ℕ) (old made new : List Entry)
      → GathersEntries problem tables wanted stack model (IsShorter number count) old made
      → GathersEntries problem tables wanted stack model (IsOfPrefix number count) made new
      → GathersEntries problem tables wanted stack model (IsShorter number (count + 1)) old new
  shorter-next number count old made new first second =
      entries_part problem tables wanted stack model (IsShorter number count) (IsOfPrefix number count)
      (IsShorter number (count + 1)) old made new
      (λ entry (prefix, less, of). elim (level_or_below prefix count less)
      [ inl before ↦ inl (prefix, before, of) | inr level ↦ inr (subst (λ (n : ℕ). IsOfPrefix number n entry) level of) ]) first second

  pub earlier-next : (number : ℕ) (old made new : List Entry) → GathersEntries problem tables wanted stack model (IsEarlier number) old made
      → GathersEntries problem tables wanted stack model (IsOfTable number) made new
      → GathersEntries problem tables wanted stack model (IsEarlier (number + 1)) old new
  earlier-next number old made new first second =
      entries_part problem tables wanted stack model (IsEarlier number) (IsOfTable number) (IsEarlier (number + 1)) old made new
      (λ entry (table, less, of). elim (level_or_below table number less)
      [ inl before ↦ inl (table, before, of) | inr level ↦ inr (subst (λ (n : ℕ). IsOfTable n entry) level of) ]) first second

  -- no number of steps is below 0
  pub shorter-zero : (number : ℕ) (found : List Entry) → GathersEntries problem tables wanted stack model (IsShorter number 0) found found
  shorter-zero number found =
      entries_none problem tables wanted stack model (IsShorter number 0) found (λ entry relevant (prefix, less, of). omega (arith, less))

  pub shorter-none : (number : ℕ) (table : Table) (found : List Entry) → slice_get tables number ≡ Some table → IsTable problem table
      → GathersEntries problem tables wanted stack model (IsShorter number 2) found found
  shorter-none number table found at is_table =
      entries_none problem tables wanted stack model (IsShorter number 2) found (λ entry relevant (prefix, less, of).
      let range = prefix-range problem tables wanted stack number prefix table at is_table entry relevant of in
      omega (arith, less, range.0))

  pub shorter-all : (number count : ℕ) (table : Table) (old new : List Entry) → slice_get tables number ≡ Some table → IsTable problem table
      → length table.steps < count
      → GathersEntries problem tables wanted stack model (IsShorter number count) old new
      → GathersEntries problem tables wanted stack model (IsOfTable number) old new
  shorter-all number count table old new at is_table past gathered =
      entries_relevant problem tables wanted stack model (IsShorter number count) (IsOfTable number) old new (λ entry relevant (prefix, of).
      let range = prefix-range problem tables wanted stack number prefix table at is_table entry relevant of in
      (prefix, omega (arith, range.1, past), of)) gathered

  pub earlier-none : (found : List Entry) → GathersEntries problem tables wanted stack model (IsEarlier 0) found found
  earlier-none found =
      entries_none problem tables wanted stack model (IsEarlier 0) found (λ entry relevant (table, less, of). omega (arith, less))

  pub earlier-all : (number : ℕ) (old new : List Entry) → length tables ≤ number
      → GathersEntries problem tables wanted stack model (IsEarlier number) old new
      → GathersEntries problem tables wanted stack model IsMacroEntry old new
  earlier-all number old new past gathered =
      entries_relevant problem tables wanted stack model (IsEarlier number) IsMacroEntry old new (λ entry relevant (table, of).
      let inside : table < length tables = entry-within entry table of relevant.is_entry in
      (table, omega (arith, inside, past), of)) gathered
    where
      entry-within : (entry : Entry) (table : ℕ) → IsOfTable table entry → IsEntry problem tables entry → table < length tables
      entry-within entry table (prefix, (sigma, same)) is =
          let here = subst (IsEntry problem tables) (sym same) is in
          slice_get_within tables table here.0 here.1
