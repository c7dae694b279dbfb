-- What is asked of a row with variables, from the whole model, says of the row with objects from fewer facts.
use Rattle.std.proofs.Common.{◌≡◌, ◌∙◌, ◌<◌, ℕ, Bool, List, [], ◌∷◌, ◌++◌, length, map, refl, ap, sym, subst, inl, inr, arith}
use Rattle.std.specs.Prelude.{All, Contains, filter, ◌==◌, ◌&&◌}
use Rattle.std.proofs.lemmas.List.Elements.{All-filter, All-head, All-tail}
use Rattle.px_terms.specs.AtomSets.{IsAtomSet}
use Rattle.px_terms.specs.Language.{IsPlainBelow, substitute}
use Rattle.px_terms.specs.Substitution.{substitute_atom}
use Rattle.px_terms.specs.declared.atom.Atom.{Atom}
use Rattle.px_terms.specs.declared.term.Term.{Term}
use Rattle.px_terms.specs.declared.term.Term.TheVariants.{Obj, Var, Any as Wild}
use Rattle.px_proof.specs.declared.shape.Tick.{Tick}
use Rattle.px_proof.specs.Derivation.{Derivation, Derivations, fact, ancestor, step, gap, open_place, none, also}
use Rattle.px_proof.specs.Literals.{positive_of}
use Rattle.px_proof.specs.Proves.{Rules, ProvesEach, or_open}
use Rattle.px_question.proofs.FewerFactsLaws.{fewer_facts-have_no_more}
use Rattle.px_question.specs.Answers.{IsList, literals_of, object_terms}
use Rattle.px_question.specs.FewerFacts.{all_placed_in, placed_in, with_facts}
use Rattle.px_question.specs.Gaps.{MeetsGapLimit, all_gaps_of, gaps_in, gaps_of}
use Rattle.px_question.specs.Limits.{AreFewGapShapes, IsLimited}
use Rattle.px_question.specs.Settings.{Setting, loose_gaps_in, proofs_in}
use Rattle.px_table.specs.declared.mark.Mark.{Mark}
use Rattle.px_table.specs.declared.table.Table.{Table}
use Rattle.px_table.specs.Kernels.{atom_under}
use Rattle.px_gaps.specs.Bindings.{ExtendsTerms, IsBinding, IsPlain}
use Rattle.px_entries.specs.Entries.{initial_atoms}
use Rattle.px_diff.specs.RowQuestions.{FitsOne, IsInstanceKnown}
use Rattle.px_entries.specs.Parameters.{row_formula}
use Rattle.px_gaps.proofs.Choosing.{atom-under, term-at}
use Rattle.px_gaps.proofs.GapLists.{list_by}
use Rattle.px_question.proofs.DeterminedLaws.{few_or_limited}
use Rattle.std.proofs.lemmas.List.{nil_from_length}

-- ---- gaps stay where leaves name other places

mutual
  placed-gaps : (atoms : List Atom) (d : Derivation) → gaps_of (placed_in atoms d) ≡ gaps_of d
  placed-gaps atoms (fact leaf) = refl
  placed-gaps atoms (ancestor i) = refl
  placed-gaps atoms (step number theta place parts) = all_placed-gaps atoms parts
  placed-gaps atoms (gap atom) = refl
  placed-gaps atoms open_place = refl

  all_placed-gaps : (atoms : List Atom) (ds : Derivations) → all_gaps_of (all_placed_in atoms ds) ≡ all_gaps_of ds
  all_placed-gaps atoms none = refl
  all_placed-gaps atoms (also d ds) = λ i. placed-gaps atoms d i ++ all_placed-gaps atoms ds i

-- ---- a formula with variables, and with objects

-- the mark comes from the initial model, in that row
abbrev in_row : ℕ → Mark → Bool
in_row row mark = (mark.row == row) && (mark.column == 0)

module _ (s : Setting) (variable_count : ℕ) (wide full : List Atom) (sigma : List ℕ) (count : length sigma ≡ variable_count)
    (below : All (λ n. n < s.objects) sigma) (same : literals_of wide sigma ≡ literals_of full []) where
  pub list-wide : (rules : Rules) (nothing : List ℕ) (ds : Derivations) → IsList rules s full 0 nothing ds
      → IsList rules s wide variable_count sigma ds
  list-wide rules nothing ds list = record {
    count = count;
    below = below;
    proved =
        subst (λ l. ProvesEach rules s.axioms [] l ds) (ap (literals_of full) (nil_from_length nothing list.count) ∙ sym same) list.proved;
    low = list.low;
  }

  pub few-full : AreFewGapShapes s wide variable_count → AreFewGapShapes s full 0
  few-full few = record {
    seen = few.seen;
    fewer = few.fewer;
    all = λ shape partly. few.all shape (
      partly.0,
      (sigma, partly.1.1, list-wide (or_open (loose_gaps_in s)) partly.1.0 partly.1.1 partly.1.2, partly.1.3),
    );
  }

module _ (limit : ℕ) (terms : List Term) (binding : IsBinding limit terms) (sigma : List ℕ) (extends : ExtendsTerms limit terms sigma) where
  closed-term : (t : Term) → IsPlainBelow (length terms) t
      → substitute (object_terms sigma) t ≡ substitute [] (substitute (object_terms sigma) t)
  closed-term (Obj n) plain = refl
  closed-term (Var v) plain = let at = term-at sigma v (omega (arith, plain, extends.count)) in at ∙ sym (ap (substitute []) at)
  closed-term Wild plain = absurd plain

  closed-terms : (ts : List Term) → All (IsPlainBelow (length terms)) ts
      → map (substitute (object_terms sigma)) ts ≡ map (substitute []) (map (substitute (object_terms sigma)) ts)
  closed-terms [] plain = refl
  closed-terms (t ∷ ts) plain =
      let here = closed-term t (All-head (IsPlainBelow (length terms)) t ts plain) in
      let rest = closed-terms ts (All-tail (IsPlainBelow (length terms)) t ts plain) in
      λ i. here i ∷ rest i

  literal-same : (atom : Atom) → IsPlain (length terms) atom
      → positive_of (substitute_atom (object_terms sigma) (substitute_atom terms atom))
      ≡ positive_of (substitute_atom [] (atom_under sigma atom))
  literal-same atom plain =
      ap positive_of (atom-under limit terms binding sigma extends atom plain)
      ∙ (let args = closed-terms atom.args plain in λ i. positive_of (record { pred = atom.pred; args = args i }))

  marks-same : (marks : List Mark) → All (λ (mark : Mark). IsPlain (length terms) mark.atom) marks
      → literals_of (map (λ (mark : Mark). substitute_atom terms mark.atom) marks) sigma
      ≡ literals_of (map (λ (mark : Mark). atom_under sigma mark.atom) marks) []
  marks-same [] plain = refl
  marks-same (mark ∷ marks) plain =
      let here = literal-same mark.atom (All-head (λ (m : Mark). IsPlain (length terms) m.atom) mark marks plain) in
      let rest = marks-same marks (All-tail (λ (m : Mark). IsPlain (length terms) m.atom) mark marks plain) in
      λ i. here i ∷ rest i

  pub row-same : (table : Table) (row : ℕ) → All (λ (mark : Mark). IsPlain (length terms) mark.atom) table.marks
      → literals_of (row_formula table terms row) sigma ≡ literals_of (initial_atoms table sigma row) []
  row-same table row plain =
      marks-same (filter (in_row row) table.marks) (All-filter (in_row row)
      (λ (mark : Mark). IsPlain (length terms) mark.atom) table.marks plain)

-- ---- from fewer facts

module _ (s : Setting) (fewer : List Atom) (among : All (Contains s.facts) fewer) (set : IsAtomSet fewer) where
  atom-unlimited : (atom : Atom) (shapes : List (List Tick)) → AreFewGapShapes s (atom ∷ []) 0
      → ¬ IsLimited (with_facts s fewer) (atom ∷ []) 0 shapes
  atom-unlimited atom shapes few =
      few_or_limited.proofs_with_gaps (with_facts s fewer) (atom ∷ []) 0 shapes
      (fewer_facts-have_no_more.gap_shapes s fewer (atom ∷ []) 0 among set few)

  loose-more : (formula : List Atom) (objects : List ℕ) (ds : Derivations)
      → IsList (loose_gaps_in (with_facts s fewer)) (with_facts s fewer) formula 0 objects ds
      → IsList (loose_gaps_in s) s formula 0 objects (all_placed_in s.facts ds)
  loose-more formula objects ds list = fewer_facts-have_no_more.gap_proofs s fewer formula 0 objects ds among list

  module _ (table : Table) (sigma : List ℕ) (row : ℕ) (choices : List (List Term)) (known : IsInstanceKnown s table row choices sigma) where
    few-here : AreFewGapShapes (with_facts s fewer) (initial_atoms table sigma row) 0
    few-here = fewer_facts-have_no_more.gap_shapes s fewer (initial_atoms table sigma row) 0 among set known.few

    pub proving-unlimited : (shapes : List (List Tick)) → ¬ IsLimited (with_facts s fewer) (initial_atoms table sigma row) 0 shapes
    proving-unlimited shapes = few_or_limited.proofs_with_gaps (with_facts s fewer) (initial_atoms table sigma row) 0 shapes few-here

    pub finding-unlimited : (kept : List Atom) (shapes : List (List Tick))
        → ¬ MeetsGapLimit (with_facts s fewer) (initial_atoms table sigma row) 0 kept shapes
    finding-unlimited kept shapes (inl whole) =
        few_or_limited.gap_proofs (with_facts s fewer) (initial_atoms table sigma row) 0 shapes few-here whole.1
    finding-unlimited kept shapes (inr (atom, alone, loose, limited)) =
        let more = loose-more (initial_atoms table sigma row) loose.0 loose.1 loose.2 in
        let closes : Contains (all_gaps_of (all_placed_in s.facts loose.1)) atom =
        subst (λ (l : List Atom). Contains l atom) (sym (all_placed-gaps s.facts loose.1)) loose.3 in
        atom-unlimited atom shapes (known.atoms atom (loose.0, all_placed_in s.facts loose.1, more, closes))
        (subst (λ (l : List Atom). IsLimited (with_facts s fewer) l 0 shapes) alone limited)

    loose-fits : (objects : List ℕ) (ds : Derivations)
        → IsList (loose_gaps_in (with_facts s fewer)) (with_facts s fewer) (initial_atoms table sigma row) 0 objects ds
        → FitsOne choices sigma
    loose-fits objects ds list =
        let more = loose-more (initial_atoms table sigma row) objects ds list in
        known.covers objects (all_gaps_of (all_placed_in s.facts ds)) (all_placed_in s.facts ds, more, λ atom. (λ h. h, λ h. h))

    pub answer-fits : (objects : List ℕ) (ds : Derivations)
        → IsList (proofs_in (with_facts s fewer)) (with_facts s fewer) (initial_atoms table sigma row) 0 objects ds → FitsOne choices sigma
    answer-fits objects ds list =
        loose-fits objects ds
        (list_by (with_facts s fewer) (initial_atoms table sigma row) 0 objects ds (proofs_in (with_facts s fewer))
        (loose_gaps_in (with_facts s fewer)) (record { choices = λ t h. h; facts = λ leaf h. h; opens = λ h. h })
        (λ atom has h. absurd h) list)

    pub gap-fits : (objects : List ℕ) (ds : Derivations)
        → IsList (gaps_in (with_facts s fewer)) (with_facts s fewer) (initial_atoms table sigma row) 0 objects ds → FitsOne choices sigma
    gap-fits objects ds list =
        loose-fits objects ds
        (list_by (with_facts s fewer) (initial_atoms table sigma row) 0 objects ds (gaps_in (with_facts s fewer))
        (loose_gaps_in (with_facts s fewer)) (record { choices = λ t h. h; facts = λ leaf h. h; opens = λ h. h })
        (λ atom has h. h.0) list)
