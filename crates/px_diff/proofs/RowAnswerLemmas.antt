-- What the patterns of a row say of the objects that its lists of loose gap proofs have.
use Rattle.std.proofs.Common.{◌≡◌, ◌∙◌, ℕ, zero, suc, Some, List, [], ◌∷◌, length, map, slice_get, get_or, refl, ap, sym, subst, arith}
use Rattle.std.specs.Prelude.{◌↔◌, ◌==◌, ◌&&◌, All, Contains, filter, slice_index}
use Rattle.std.proofs.lemmas.List.{length-map}
use Rattle.std.proofs.lemmas.List.Elements.{All-filter, All-map}
use Rattle.px_base.specs.Answers.{some_same}
use Rattle.px_base.specs.ListLaws.{All-at, All-each}
use Rattle.px_prover.proofs.PatternLists.{patterns-are}
use Rattle.px_prover.specs.PatternLists.{lists_of}
use Rattle.px_prover.specs.Patterns.{AreGapPatterns, IsPattern, object_under}
use Rattle.px_prover.specs.declared.pattern.GapPattern.{GapPattern}
use Rattle.px_proof.specs.Literals.{positive_of}
use Rattle.px_proof.specs.PlaceLaws.{slice_get-read}
use Rattle.px_proof.specs.Derivation.{Derivations}
use Rattle.px_question.specs.Answers.{IsList, literals_of}
use Rattle.px_question.specs.Limits.{AreFewGapShapes}
use Rattle.px_question.specs.Settings.{Setting, loose_gaps_in, setting_of}
use Rattle.px_table.specs.Tables.{IsTable}
use Rattle.px_table.specs.declared.mark.Mark.{Mark}
use Rattle.px_table.specs.declared.table.Table.{Table}
use Rattle.px_terms.specs.Language.{IsVariableBelow, substitute, object_of}
use Rattle.px_terms.specs.Substitution.{substitute_atom}
use Rattle.px_terms.specs.Validity.{IsAtomOf, IsTermOf, IsValid}
use Rattle.px_terms.specs.declared.atom.Atom.{Atom}
use Rattle.px_terms.specs.declared.problem.Problem.{Problem}
use Rattle.px_terms.specs.declared.term.Term.{Term}
use Rattle.px_terms.specs.declared.term.Term.TheVariants.{Obj, Var, Any}
use Rattle.px_gaps.specs.Bindings.{ExtendsTerms, IsBinding, IsPlain}
use Rattle.px_gaps.specs.Closings.{OneOf}
use Rattle.px_entries.specs.Entries.{initial_atoms}
use Rattle.px_gaps.specs.Forms.{form_by}
use Rattle.px_entries.specs.Parameters.{FitsTerms, row_formula}
use Rattle.px_diff.specs.RowQuestions.{AreInstancesKnown, FitsOne, IsRowAnswer}
use Rattle.px_gaps.proofs.Describing.{forms-closed}
use Rattle.px_gaps.proofs.GapLemmas.{closed-are}
use Rattle.px_gaps.proofs.GapLists.{loose_is}
use Rattle.px_gaps.proofs.Substituting.{atom_in}
use Rattle.px_diff.proofs.RowLemmas.{few-full, list-wide, row-same}
use Rattle.px_entries.proofs.RowSteps.{marks-variables}
use Rattle.px_gaps.proofs.Proving.{slot-of}

-- ---- the atoms that patterns close

ground-same : (problem : Problem) (ts : List Term) → All (IsTermOf problem 0) ts → map (substitute []) ts ≡ ts
ground-same problem [] of = refl
ground-same problem (Obj n ∷ ts) of =
    ap (λ (us : List Term). Obj n ∷ us) (ground-same problem ts (λ k d within. of (suc k) d (omega (arith, within))))
ground-same problem (Var v ∷ ts) of = absurd (omega (arith, of 0 Any (omega arith)))
ground-same problem (Any ∷ ts) of = absurd (of 0 Any (omega arith))

module _ (problem : Problem) (valid : IsValid problem) (facts formula : List Atom) (variable_count : ℕ) (of : All (IsAtomOf problem variable_count) formula)
    (patterns : List GapPattern) (are : AreGapPatterns (setting_of problem facts) formula variable_count patterns)
    (forms : List Atom) (forms_are : (form : Atom) → Contains forms form
    ↔ OneOf patterns (λ (pattern : GapPattern). OneOf pattern.atoms (λ atom. form_by atom ≡ form))) where
  pub row-answer : AreFewGapShapes (setting_of problem facts) formula variable_count
      → All (λ (form : Atom). AreFewGapShapes (setting_of problem facts) (form ∷ []) (length form.args)) forms
      → IsRowAnswer (setting_of problem facts) formula variable_count patterns
  row-answer few all_few = record {
    all = are;
    few = few;
    atoms = λ q closed.
        let stood = (forms-closed problem valid facts formula variable_count of patterns are forms forms_are q).1 closed in
        let is_atom =
        closed-are problem facts formula variable_count (lists_of problem.objects patterns) valid of
        (patterns-are (setting_of problem facts) formula variable_count patterns are) q closed in
        let args = ground-same problem q.args is_atom.1 in
        let here : substitute_atom [] q ≡ q = λ i. record { pred = q.pred; args = args i } in
        let same : literals_of (stood.0 ∷ []) stood.2.0 ≡ literals_of (q ∷ []) [] =
        ap (λ (a : Atom). positive_of a ∷ []) (stood.2.2 ∙ sym here) in
        few-full (setting_of problem facts) (length stood.0.args) (stood.0 ∷ []) (q ∷ []) stood.2.0 stood.2.1.count stood.2.1.below same
        (All-at (λ (form : Atom). AreFewGapShapes (setting_of problem facts) (form ∷ []) (length form.args)) forms stood.0 all_few stood.1);
  }

-- ---- the objects of patterns

object-mapped : (values : List ℕ) (terms : List Term) (v n : ℕ) → slice_get terms v ≡ Some (Obj n)
    → slice_index (map (object_under values) terms) v ≡ n
object-mapped values [] v n at = absurd (cc)
object-mapped values (t ∷ terms) zero n at = let same : t ≡ Obj n = some_same at in ap (object_under values) same
object-mapped values (t ∷ terms) (suc v) n at = object-mapped values terms v n at

pub patterns-long : (s : Setting) (formula : List Atom) (variable_count : ℕ) (patterns : List GapPattern) → AreGapPatterns s formula variable_count patterns
    → All (λ (pattern : GapPattern). length pattern.terms ≡ variable_count) patterns
patterns-long s formula variable_count patterns are =
    All-each (λ (pattern : GapPattern). length pattern.terms ≡ variable_count) patterns
    (λ pattern has. (All-at (IsPattern s.objects variable_count) patterns pattern are.form has).count)

-- what the patterns say of the row with objects that extend the terms
module _ (s : Setting) (table : Table) (terms : List Term) (binding : IsBinding s.objects terms) (long : length terms ≡ table.params)
    (plain : All (λ (mark : Mark). IsPlain (length terms) mark.atom) table.marks)
    (row : ℕ) (patterns : List GapPattern) (answer : IsRowAnswer s (row_formula table terms row) table.params patterns)
    (choices : List (List Term))
    (covers : (sigma : List ℕ) → ExtendsTerms s.objects terms sigma
    → OneOf patterns (λ (pattern : GapPattern). FitsTerms pattern.terms sigma)
    → FitsOne choices sigma) where
  wide-list : (sigma : List ℕ) → ExtendsTerms s.objects terms sigma → (nothing : List ℕ) (ds : Derivations)
      → IsList (loose_gaps_in s) s (initial_atoms table sigma row) 0 nothing ds
      → IsList (loose_gaps_in s) s (row_formula table terms row) table.params sigma ds
  wide-list sigma extends nothing ds list =
      list-wide s table.params (row_formula table terms row) (initial_atoms table sigma row) sigma (extends.count ∙ long) extends.below
      (row-same s.objects terms binding sigma extends table row plain) (loose_gaps_in s) nothing ds list

  pub instances-known : AreInstancesKnown s table row (ExtendsTerms s.objects terms) choices
  instances-known sigma extends = record {
    few = few-full s table.params (row_formula table terms row) (initial_atoms table sigma row) sigma (extends.count ∙ long) extends.below
        (row-same s.objects terms binding sigma extends table row plain) answer.few;
    atoms = λ atom loose.
        answer.atoms atom
        ((loose_is s (row_formula table terms row) table.params (lists_of s.objects patterns)
        (patterns-are s (row_formula table terms row) table.params patterns answer.all) atom).0
        (sigma, loose.1, wide-list sigma extends loose.0 loose.1 loose.2, loose.3));
    covers = λ objects gaps list.
        let offer = (answer.all.exact sigma gaps).0 (list.0, wide-list sigma extends objects list.0 list.1, list.2) in
        let describes = offer.2 in
        covers sigma extends (
          offer.0,
          offer.1,
          λ v n at. ap (λ (l : List ℕ). slice_index l v) describes.objects_are
              ∙ object-mapped describes.values offer.0.terms v n at,
        );
  }

-- ---- the formula of a row

-- a term that is an object, or the parameter itself, is one of the problem over the parameters
module _ (problem : Problem) (table : Table) (terms : List Term) (is_table : IsTable problem table)
    (long : length terms ≡ table.params) where
  pub row-variables : All (λ (mark : Mark). All (IsVariableBelow (length terms)) mark.atom.args) table.marks
  row-variables =
      let objects : List ℕ = map object_of terms in
      let same : length objects ≡ length terms = length-map terms object_of in
      subst (λ (n : ℕ). All (λ (mark : Mark). All (IsVariableBelow n) mark.atom.args) table.marks) same
      (marks-variables problem table objects is_table (same ∙ long))

  terms-of : IsBinding problem.objects terms → All (IsTermOf problem table.params) terms
  terms-of binding k d within =
      slot-of problem table.params k (get_or terms k d) (omega (arith, within, long))
      (binding.each k (get_or terms k d) (slice_get-read terms k d within))

  pub row-formula-of : IsBinding problem.objects terms → (row : ℕ) → All (IsAtomOf problem table.params) (row_formula table terms row)
  row-formula-of binding row =
      let chosen : List Mark = filter (λ (mark : Mark). (mark.row == row) && (mark.column == 0)) table.marks in
      let atoms : All (λ (mark : Mark). IsAtomOf problem table.params mark.atom) chosen =
      All-filter (λ (mark : Mark). (mark.row == row) && (mark.column == 0))
      (λ (mark : Mark). IsAtomOf problem table.params mark.atom) table.marks is_table.atoms in
      All-map (IsAtomOf problem table.params) (λ (mark : Mark). substitute_atom terms mark.atom) chosen (λ k d below.
      atom_in problem table.params terms (terms-of binding) (get_or chosen k d).atom
      (subst (λ (n : ℕ). IsAtomOf problem n (get_or chosen k d).atom) (sym long) (atoms k d below)))
