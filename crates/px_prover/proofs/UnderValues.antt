-- The gap lists that patterns stand for, made one after the other.
use Rattle.std.proofs.Common.{◌≡◌, ◌∙◌, ◌↔◌, ℕ, zero, suc, ◌+◌, ◌<◌, ◌≤◌, List, [], ◌∷◌, ◌++◌, length, map, take, get_or, refl, ap, sym, subst, arith, append_assoc}
use Rattle.std.specs.Prelude.{All, Contains}
use Rattle.std.specs.List.Sorted.{IsStrictlySortedBy}
use Rattle.std.proofs.lemmas.List.{append-nil, length-map, map-append, take_all, take_more}
use Rattle.px_base.specs.ListLaws.{All-each}
use Rattle.px_base.specs.SetLaws.{same_set, set_of-members}
use Rattle.px_prover.proofs.PatternLists.{patterns-are, under-members, under-set}
use Rattle.px_prover.proofs.Tupling.{tuples-only}
use Rattle.px_prover.specs.PatternLists.{all_under, list_under}
use Rattle.px_prover.specs.Patterns.{AreGapPatterns, IsOverItsVariables, atoms_under, object_under, objects_under}
use Rattle.px_prover.specs.Tuples.{tuples_of}
use Rattle.px_prover.specs.declared.pattern.GapPattern.{GapPattern}
use Rattle.px_question.proofs.GapOrderLaws.{gap_list_cmp-same, gap_list_cmp-total}
use Rattle.px_question.specs.Answers.{object_terms}
use Rattle.px_question.specs.Gaps.{AreGapLists, gap_list_cmp}
use Rattle.px_question.specs.Settings.{Setting}
use Rattle.px_question.specs.declared.gap_list.GapList.{GapList}
use Rattle.px_terms.specs.AtomSets.{IsAtomSet}
use Rattle.px_terms.specs.Language.{IsVariableBelow, object_of}
use Rattle.px_terms.specs.Order.{atom_cmp}
use Rattle.px_terms.specs.OrderLaws.{atom_cmp-same, atom_cmp-total}
use Rattle.px_terms.specs.Substitution.{substitute_atom}
use Rattle.px_terms.specs.declared.atom.Atom.{Atom}
use Rattle.px_terms.specs.declared.term.Term.{Term}
use Rattle.px_terms.specs.declared.term.Term.TheVariants.{Obj, Var, Any}
use Rattle.px_proof_walk.specs.Values.{value_of}
use Rattle.px_proof_walk.proofs.Values.{term_at}

-- ---- the list of one pattern

-- the object of a term under values is its value
value-under : (values : List ℕ) (t : Term) → IsVariableBelow (length values) t → value_of values t ≡ object_under values t
value-under values (Obj n) below = refl
value-under values (Var v) below = sym (ap object_of (term_at values v below))
value-under values Any below = refl

values-under : (values : List ℕ) (ts : List Term) → All (IsVariableBelow (length values)) ts
    → map (value_of values) ts ≡ map (object_under values) ts
values-under values [] below = refl
values-under values (t ∷ ts) below =
    let here = value-under values t (below 0 t (omega arith)) in
    let rest = values-under values ts (λ k d within. below (suc k) d (omega (arith, within))) in
    λ i. here i ∷ rest i

module _ (pattern : GapPattern) (values : List ℕ) where
  pub terms-within : (read : List Term) → IsOverItsVariables pattern → length values ≡ pattern.variable_count → read ≡ pattern.terms
      → All (IsVariableBelow (length values)) read
  terms-within read over count is =
      subst (λ (n : ℕ). All (IsVariableBelow n) read) (sym count)
      (subst (λ (ts : List Term). All (IsVariableBelow pattern.variable_count) ts) (sym is) over.terms)

  pub atoms-within : (read : List Atom) (terms : List Term) → IsOverItsVariables pattern → length values ≡ pattern.variable_count
      → read ≡ pattern.atoms → terms ≡ object_terms values → All (λ (atom : Atom). All (IsVariableBelow (length terms)) atom.args) read
  atoms-within read terms over count is terms_are =
      let long : length terms ≡ pattern.variable_count = ap length terms_are ∙ length-map values (λ (n : ℕ). Obj n) ∙ count in
      subst (λ (n : ℕ). All (λ (atom : Atom). All (IsVariableBelow n) atom.args) read) (sym long)
      (subst (λ (xs : List Atom). All (λ (atom : Atom). All (IsVariableBelow pattern.variable_count) atom.args) xs) (sym is) over.atoms)

  pub list-made : (read_terms : List Term) (read_atoms : List Atom) (terms : List Term) (atoms : List Atom) (list : GapList)
      → IsOverItsVariables pattern → length values ≡ pattern.variable_count → read_terms ≡ pattern.terms → read_atoms ≡ pattern.atoms
      → terms ≡ object_terms values → atoms ≡ map (substitute_atom terms) read_atoms → list.objects ≡ map (value_of values) read_terms
      → IsAtomSet list.gaps → ((a : Atom) → Contains list.gaps a ↔ Contains atoms a) → list ≡ list_under pattern values
  list-made read_terms read_atoms terms atoms list over count terms_is atoms_is terms_are atoms_are objects_are is_set members =
      let objects : list.objects ≡ objects_under values pattern =
      objects_are ∙ ap (map (value_of values)) terms_is
      ∙ values-under values pattern.terms (subst (λ (n : ℕ). All (IsVariableBelow n) pattern.terms) (sym count) over.terms) in
      let under : atoms ≡ atoms_under values pattern =
      atoms_are ∙ ap (λ (ts : List Term). map (substitute_atom ts) read_atoms) terms_are
      ∙ ap (map (substitute_atom (object_terms values))) atoms_is in
      let gaps : list.gaps ≡ (list_under pattern values).gaps =
      same_set atom_cmp atom_cmp-total atom_cmp-same list.gaps (list_under pattern values).gaps is_set (under-set pattern values)
      (λ a. (
        λ has. (under-members pattern values a).1 (subst (λ (xs : List Atom). Contains xs a) under ((members a).0 has)),
        λ has. (members a).1 (subst (λ (xs : List Atom). Contains xs a) (sym under) ((under-members pattern values a).0 has)),
      )) in
      λ i. record { objects = objects i; gaps = gaps i }

-- ---- the lists of one pattern

module _ (pattern : GapPattern) (tuples : List (List ℕ)) where
  pub lists-start : (old : List GapList) → old ≡ old ++ map (list_under pattern) (take 0 tuples)
  lists-start old = sym (append-nil old)

  pub lists-next : (i : ℕ) (x read : List ℕ) (old made new : List GapList) (list : GapList) → i < length tuples → x ≡ get_or tuples i x
      → read ≡ x → made ≡ old ++ map (list_under pattern) (take i tuples) → list ≡ list_under pattern read → new ≡ made ++ list ∷ []
      → new ≡ old ++ map (list_under pattern) (take (i + 1) tuples)
  lists-next i x read old made new list within is read_is made_is list_is new_is =
      let more : take (i + 1) tuples ≡ take i tuples ++ x ∷ [] =
      take_more tuples i x within ∙ ap (λ (y : List ℕ). take i tuples ++ y ∷ []) (sym is) in
      new_is
      ∙ ap (λ (xs : List GapList). xs ++ list ∷ []) made_is
      ∙ append_assoc old (map (list_under pattern) (take i tuples)) (list ∷ [])
      ∙ ap (λ (l : GapList). old ++ (map (list_under pattern) (take i tuples) ++ l ∷ [])) (list_is ∙ ap (list_under pattern) read_is)
      ∙ ap (λ (xs : List GapList). old
      ++ xs) (sym (ap (map (list_under pattern)) more ∙ map-append (list_under pattern) (take i tuples) (x ∷ [])))

  pub lists-end : (i : ℕ) (old made : List GapList) → length tuples ≤ i → made ≡ old ++ map (list_under pattern) (take i tuples)
      → made ≡ old ++ map (list_under pattern) tuples
  lists-end i old made past is = is ∙ ap (λ (ts : List (List ℕ)). old ++ map (list_under pattern) ts) (take_all i tuples past)

pub tuple-long : (tuples : List (List ℕ)) (n i : ℕ) (x read : List ℕ) → i < length tuples → x ≡ get_or tuples i x → read ≡ x
    → All (λ (tuple : List ℕ). length tuple ≡ n) tuples → length read ≡ n
tuple-long tuples n i x read within is read_is all = ap length (read_is ∙ is) ∙ all i x within

pub tuples-long : (objects n : ℕ) (read : List (List ℕ)) → read ≡ tuples_of objects n → All (λ (tuple : List ℕ). length tuple ≡ n) read
tuples-long objects n read is =
    All-each (λ (tuple : List ℕ). length tuple ≡ n) read
    (λ tuple has. (tuples-only objects n tuple (subst (λ (ts : List (List ℕ)). Contains ts tuple) is has)).0)

-- ---- the lists of all patterns

pub all-over : (patterns : List GapPattern) (i : ℕ) (x : GapPattern) → i < length patterns → x ≡ get_or patterns i x
    → All IsOverItsVariables patterns → IsOverItsVariables x
all-over patterns i x within is all = subst IsOverItsVariables (sym is) (all i x within)

all-more : (objects : ℕ) (patterns : List GapPattern) (i : ℕ) (x : GapPattern) → i < length patterns → x ≡ get_or patterns i x
    → all_under objects (take (i + 1) patterns) ≡ all_under objects (take i patterns) ++ map (list_under x) (tuples_of objects x.variable_count)
all-more objects [] i x within is = absurd (omega (arith, within))
all-more objects (p ∷ patterns) zero x within is = rw is (append-nil (map (list_under p) (tuples_of objects p.variable_count)))
all-more objects (p ∷ patterns) (suc i) x within is =
    let one : suc i + 1 ≡ suc (i + 1) = omega arith in
    rw one
    (ap (λ (ls : List GapList). map (list_under p) (tuples_of objects p.variable_count) ++ ls)
    (all-more objects patterns i x (omega (arith, within)) is)
    ∙ sym (append_assoc (map (list_under p) (tuples_of objects p.variable_count)) (all_under objects (take i patterns))
    (map (list_under x) (tuples_of objects x.variable_count))))

pub all-next : (objects : ℕ) (patterns : List GapPattern) (i : ℕ) (x : GapPattern) (tuples : List (List ℕ)) (made new : List GapList)
    → i < length patterns → x ≡ get_or patterns i x → tuples ≡ tuples_of objects x.variable_count
    → made ≡ all_under objects (take i patterns) → new ≡ made ++ map (list_under x) tuples → new ≡ all_under objects (take (i + 1) patterns)
all-next objects patterns i x tuples made new within is tuples_are made_is new_is =
    new_is ∙ ap (λ (ls : List GapList). ls ++ map (list_under x) tuples) made_is
    ∙ ap (λ (ts : List (List ℕ)). all_under objects (take i patterns) ++ map (list_under x) ts) tuples_are
    ∙ sym (all-more objects patterns i x within is)

module _ (s : Setting) (formula : List Atom) (variable_count : ℕ) (patterns : List GapPattern) (read : List GapPattern) where
  pub patterns-over : read ≡ patterns → AreGapPatterns s formula variable_count patterns → All IsOverItsVariables read
  patterns-over is are =
      subst (All IsOverItsVariables) (sym is) (λ k d within. let form = are.form k d within in
      record { terms = form.terms_below; atoms = form.atoms_below })

  -- in order, each once, they are the gap lists
  pub lists-ordered : (made ordered : List GapList) → AreGapPatterns s formula variable_count patterns → read ≡ patterns
      → made ≡ all_under s.objects read
      → IsStrictlySortedBy gap_list_cmp ordered → ((list : GapList) → Contains ordered list ↔ Contains made list)
      → AreGapLists s formula variable_count ordered
  lists-ordered made ordered are is made_is ascending members = record {
    ascending = ascending;
    members = λ list.
        let here : made ≡ all_under s.objects patterns = made_is ∙ ap (all_under s.objects) is in
        let there = set_of-members gap_list_cmp gap_list_cmp-total gap_list_cmp-same (all_under s.objects patterns) list in
        let listed = (patterns-are s formula variable_count patterns are).members list in (
          λ has. listed.0 (there.1 (subst (λ (ls : List GapList). Contains ls list) here ((members list).0 has))),
          λ is_list. (members list).1 (subst (λ (ls : List GapList). Contains ls list) (sym here) (there.0 (listed.1 is_list))),
        );
  }
