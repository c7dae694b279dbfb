-- What the patterns of a formula close.
use Rattle.std.proofs.Common.{◌≡◌, ◌∙◌, ◌⊎◌, ◌↔◌, ℕ, zero, suc, ◌+◌, ◌<◌, List, [], ◌∷◌, length, map, take, replicate, get_or, refl, ap, sym, subst, inl, inr, arith}
use Rattle.std.specs.Prelude.{All, Any, Contains}
use Rattle.std.proofs.lemmas.List.{length-map, length-replicate}
use Rattle.px_base.specs.ListLaws.{All-at, All-each, Contains-none}
use Rattle.px_proof.specs.PlaceLaws.{Contains-mapped}
use Rattle.px_prover.proofs.PatternLists.{lists-from, lists-have, patterns-are, under-members}
use Rattle.px_prover.specs.PatternLists.{list_under, lists_of}
use Rattle.px_prover.specs.Patterns.{AreChosen, AreGapClosings, AreGapPatterns, IsPattern, atoms_under}
use Rattle.px_prover.specs.declared.pattern.GapPattern.{GapPattern}
use Rattle.px_question.specs.Answers.{IsProvable, object_terms}
use Rattle.px_proof.specs.declared.shape.Tick.{Tick}
use Rattle.px_question.specs.Gaps.{MeetsGapLimit}
use Rattle.px_question.specs.Limits.{AreFewGapShapes}
use Rattle.px_question.specs.Settings.{Setting, setting_of}
use Rattle.px_question.specs.declared.gap_list.GapList.{GapList}
use Rattle.px_terms.specs.Instances.{IsGround}
use Rattle.px_terms.specs.Language.{IsPlainBelow, IsVariableBelow, substitute}
use Rattle.px_terms.specs.Substitution.{substitute_atom}
use Rattle.px_terms.specs.Validity.{IsAtomOf, IsTermOf, IsValid}
use Rattle.px_terms.specs.ValidityLaws.{atom_of-is_ground}
use Rattle.px_terms.specs.declared.atom.Atom.{Atom}
use Rattle.px_terms.specs.declared.problem.Problem.{Problem}
use Rattle.px_terms.specs.declared.term.Term.{Term}
use Rattle.px_terms.specs.declared.term.Term.TheVariants.{Obj, Var, Any as Wild}
use Rattle.px_gaps.specs.Bindings.{AreUnbound, ExtendsTerms, IsBinding, IsOpenAs, IsOpenInstance, IsPlain, IsSlot}
use Rattle.px_gaps.specs.Closings.{IsChosenIn, IsClosedIn, IsMissingIn, OneOf}
use Rattle.px_gaps.specs.Described.{IsChosenBy, IsClosedBy, IsMissingBy, IsPlainPattern}
use Rattle.px_gaps.specs.Forms.{IsForm, IsInstanceIn, IsStoodFor, form_by}
use Rattle.px_gaps.specs.GapAnswers.{IsClosingAnswer, IsGapAnswer}
use Rattle.px_gaps.specs.Listed.{AreListed}
use Rattle.px_gaps.specs.Provable.{FindsProvable, LimitsOne}
use Rattle.px_gaps.proofs.ClosedLists.{AreClosedLists, closings-closed, patterns-closed}
use Rattle.px_gaps.proofs.FormLemmas.{form-is, form-same}
use Rattle.px_gaps.proofs.GapAtoms.{listed-are}
use Rattle.px_gaps.proofs.GapLemmas.{atom_limited}
use Rattle.px_gaps.proofs.Grows.{grouped, grown, one_next, any-of, of-any}
use Rattle.px_table.specs.KernelLaws.{Contains-from_map}

-- ---- variables for which no object is chosen

pub unbound-binding : (limit variable_count : ℕ) (terms : List Term) → AreUnbound variable_count terms → (0 < variable_count → 0 < limit) → IsBinding limit terms
unbound-binding limit variable_count terms are some = record {
  each = λ v t at. subst (IsSlot limit v) (sym (are.each v t at)) refl;
  some_object = λ one. some (omega (arith, one, are.count));
}

pub chosen-extends : (limit variable_count : ℕ) (terms : List Term) (values : List ℕ) → AreUnbound variable_count terms → AreChosen limit variable_count values
    → ExtendsTerms limit terms values
chosen-extends limit variable_count terms values are chosen = record {
  count = chosen.count ∙ sym are.count;
  below = chosen.below;
  same = λ v n at. absurd (let never : Obj n ≡ Var v = are.each v (Obj n) at in cc);
}

-- with none chosen, the values are any
pub unbound-open : {X : Type 0} (limit variable_count : ℕ) (terms : List Term) (atoms taken : List Atom) (made : List ℕ → X) (x : X)
    → AreUnbound variable_count terms → IsOpenAs limit terms atoms taken made x
    ↔ ((values : List ℕ) × AreChosen limit variable_count values × (¬ Any (Contains taken) (map (substitute_atom (object_terms values)) atoms))
    × (made values ≡ x))
unbound-open limit variable_count terms atoms taken made x are = (
  λ is. (is.0, record { count = is.1.extends.count ∙ are.count; below = is.1.extends.below }, is.1.avoids, is.2),
  λ is. (is.0, record { extends = chosen-extends limit variable_count terms is.0 are is.1; avoids = is.2 }, is.3),
)

-- ---- the patterns' lists

-- the same lists have an item that is taken
pub same-any : (taken xs ys : List Atom) → ((atom : Atom) → Contains xs atom → Contains ys atom) → Any (Contains taken) xs
    → Any (Contains taken) ys
same-any taken xs ys f any = let r = any-of (Contains taken) xs any in of-any (Contains taken) ys r.0 (f r.0 r.1) r.2

pub none-taken : (atoms : List Atom) → ¬ Any (Contains []) atoms
none-taken atoms any = let r = any-of (Contains []) atoms any in Contains-none r.0 r.2

-- what a pattern closes under some objects is in their list
closed-under : (pattern : GapPattern) (values : List ℕ) (target atom : Atom) → Contains pattern.atoms target
    → substitute_atom (object_terms values) target ≡ atom → Contains (list_under pattern values).gaps atom
closed-under pattern values target atom has same =
    (under-members pattern values atom).1 (subst (Contains (atoms_under values pattern)) same
    (Contains-mapped (substitute_atom (object_terms values)) pattern.atoms target has))

-- and what is in a list comes from there
closed-from : (limit : ℕ) (patterns : List GapPattern) (list : GapList) (atom : Atom) → Contains (lists_of limit patterns) list
    → Contains list.gaps atom
    → (pattern : GapPattern) × (values : List ℕ) × (target : Atom) × Contains patterns pattern × AreChosen limit pattern.variable_count values
    × (list_under pattern values ≡ list) × Contains pattern.atoms target × (substitute_atom (object_terms values) target ≡ atom)
closed-from limit patterns list atom listed closes =
    let from = lists-from limit patterns list listed in
    let pattern = from.0 in
    let values = from.2.0 in
    let has : Contains (atoms_under values pattern) atom =
    (under-members pattern values atom).0 (subst (λ (l : GapList). Contains l.gaps atom) (sym from.2.2) closes) in
    let target = Contains-from_map (substitute_atom (object_terms values)) pattern.atoms atom has in
    (pattern, values, target.0, from.1, from.2.1, from.2.2, target.1, target.2)

-- what the patterns close is what their lists close
pub closed-by : (limit : ℕ) (patterns : List GapPattern) (atom : Atom) → OneOf patterns (λ pattern. IsClosedBy limit pattern atom)
    ↔ IsClosedIn (lists_of limit patterns) atom
closed-by limit patterns atom = (
  λ (pattern, among, (target, has, (values, chosen, same))).
      (list_under pattern values, lists-have limit patterns pattern values among chosen, closed-under pattern values target atom has same),
  λ (list, listed, closes).
      let from = closed-from limit patterns list atom listed closes in
      (from.0, from.3, (from.2, from.6, (from.1, from.4, from.7))),
)

-- and what they close together with nothing that is taken, too
pub missing-by : (limit : ℕ) (patterns : List GapPattern) (taken : List Atom) (atom : Atom)
    → OneOf patterns (λ pattern. IsMissingBy limit taken pattern atom) ↔ IsMissingIn (lists_of limit patterns) taken atom
missing-by limit patterns taken atom = (
  λ (pattern, among, (target, has, (values, chosen, avoids, same))). (
    list_under pattern values,
    lists-have limit patterns pattern values among chosen,
    (
      closed-under pattern values target atom has same,
      λ any. avoids (same-any taken (list_under pattern values).gaps (atoms_under values pattern)
          (λ a. (under-members pattern values a).0) any),
    ),
  ),
  λ (list, listed, (closes, avoids)).
      let from = closed-from limit patterns list atom listed closes in (
        from.0,
        from.3,
        (
          from.2,
          from.6,
          (
            from.1,
            from.4,
            λ any. avoids (subst (λ (l : GapList). Any (Contains taken) l.gaps) from.5
                (same-any taken (atoms_under from.1 from.0) (list_under from.0 from.1).gaps (λ a. (under-members from.0 from.1 a).1) any)),
            from.7,
          ),
        ),
      ),
)

-- and the objects under which they close nothing that is taken are those of such lists
pub chosen-by : (limit : ℕ) (patterns : List GapPattern) (taken : List Atom) (objects : List ℕ)
    → OneOf patterns (λ pattern. IsChosenBy limit taken pattern objects) ↔ IsChosenIn (lists_of limit patterns) taken objects
chosen-by limit patterns taken objects = (
  λ one.
      let pattern = one.0 in
      let values = one.2.0 in (
        list_under pattern values,
        lists-have limit patterns pattern values one.1 one.2.1,
        (
          one.2.3,
          λ any. one.2.2 (same-any taken (list_under pattern values).gaps (atoms_under values pattern)
              (λ a. (under-members pattern values a).0) any),
        ),
      ),
  λ chosen.
      let from = lists-from limit patterns chosen.0 chosen.1 in
      let pattern = from.0 in
      let values = from.2.0 in (
        pattern,
        from.1,
        (
          values,
          from.2.1,
          λ any. chosen.2.1 (subst (λ (l : GapList). Any (Contains taken) l.gaps) from.2.2
              (same-any taken (atoms_under values pattern) (list_under pattern values).gaps (λ a. (under-members pattern values a).1) any)),
          ap (λ (l : GapList). l.objects) from.2.2 ∙ chosen.2.0,
        ),
      ),
)

-- ---- the patterns of a formula of the problem

-- the forms of the atoms that the patterns close
abbrev pub AreForms : List GapPattern → List Atom → Type 0
AreForms patterns forms =
    (form : Atom) → Contains forms form ↔ OneOf patterns (λ (pattern : GapPattern). OneOf pattern.atoms (λ atom. form_by atom ≡ form))

pub answer-listed : (s : Setting) (formula : List Atom) (variable_count : ℕ) (patterns : List GapPattern) (provable : List Atom)
    → IsGapAnswer s formula variable_count patterns provable → AreListed s formula variable_count (lists_of s.objects patterns)
answer-listed s formula variable_count patterns provable is = record { all = patterns-are s formula variable_count patterns is.all; few = is.few }

zeros-below : (limit n : ℕ) → (0 < n → 0 < limit) → All (λ m. m < limit) (replicate n 0)
zeros-below limit zero some k d within = absurd (omega (arith, within))
zeros-below limit (suc n) some zero d within = some (omega arith)
zeros-below limit (suc n) some (suc k) d within = zeros-below limit n (λ one. some (omega arith)) k d (omega (arith, within))

term-of : (problem : Problem) (variable_count : ℕ) (values : List ℕ) (t : Term) → IsVariableBelow variable_count t
    → IsTermOf problem 0 (substitute (object_terms values) t) → IsTermOf problem variable_count t
term-of problem variable_count values (Obj n) below of = of
term-of problem variable_count values (Var v) below of = below
term-of problem variable_count values Wild below of = absurd of

terms-of : (problem : Problem) (variable_count : ℕ) (values : List ℕ) (ts : List Term) → All (IsVariableBelow variable_count) ts
    → All (IsTermOf problem 0) (map (substitute (object_terms values)) ts) → All (IsTermOf problem variable_count) ts
terms-of problem variable_count values [] below of k d within = absurd (omega (arith, within))
terms-of problem variable_count values (t ∷ ts) below of zero d within =
    term-of problem variable_count values t (below 0 t (omega arith)) (of 0 t (omega arith))
terms-of problem variable_count values (t ∷ ts) below of (suc k) d within =
    terms-of problem variable_count values ts (λ i e inside. below (suc i) e (omega (arith, inside)))
    (λ i e inside. of (suc i) e (omega (arith, inside))) k d (omega (arith, within))

plain-of : (problem : Problem) (variable_count : ℕ) (t : Term) → IsTermOf problem variable_count t → IsPlainBelow variable_count t
plain-of problem variable_count (Obj n) of = tt
plain-of problem variable_count (Var v) of = of
plain-of problem variable_count Wild of = absurd of

pub atom-plain : (problem : Problem) (variable_count : ℕ) (atom : Atom) → IsAtomOf problem variable_count atom → IsPlain variable_count atom
atom-plain problem variable_count atom of k d within = plain-of problem variable_count _ (of.1 k d within)

-- patterns with some terms of a formula of the problem close atoms of the problem
module _ (problem : Problem) (valid : IsValid problem) (facts formula : List Atom) (variable_count : ℕ) (of : All (IsAtomOf problem variable_count) formula)
    (patterns : List GapPattern) (kept : ℕ) (made : All (IsPattern problem.objects kept) patterns)
    (are : AreClosedLists (setting_of problem facts) formula variable_count (lists_of problem.objects patterns)) where
  kept-of : (pattern : GapPattern) → Contains patterns pattern → (atom : Atom) → Contains pattern.atoms atom
      → IsAtomOf problem pattern.variable_count atom
  kept-of pattern has atom inside =
      let form : IsPattern problem.objects kept pattern = All-at (IsPattern problem.objects kept) patterns pattern made has in
      let values = replicate pattern.variable_count 0 in
      let chosen : AreChosen problem.objects pattern.variable_count values =
      record { count = length-replicate {A = ℕ} pattern.variable_count 0; below = zeros-below problem.objects pattern.variable_count form.some_object } in
      let known =
      listed-are problem valid facts formula variable_count (lists_of problem.objects patterns) of are (list_under pattern values)
      (lists-have problem.objects patterns pattern values has chosen) in
      let there : Contains (list_under pattern values).gaps (substitute_atom (object_terms values) atom) =
      (under-members pattern values (substitute_atom (object_terms values) atom)).1
      (Contains-mapped (substitute_atom (object_terms values)) pattern.atoms atom inside) in
      let here : IsAtomOf problem 0 (substitute_atom (object_terms values) atom) =
      All-at (IsAtomOf problem 0) (list_under pattern values).gaps (substitute_atom (object_terms values) atom) known there in (
        (here.0.0, sym (length-map atom.args (substitute (object_terms values))) ∙ here.0.1),
        terms-of problem pattern.variable_count values atom.args
            (All-at (λ (a : Atom). All (IsVariableBelow pattern.variable_count) a.args) pattern.atoms atom form.atoms_below inside) here.1,
      )

  pub kept-plain : All (IsPlainPattern problem.objects) patterns
  kept-plain = All-each (IsPlainPattern problem.objects) patterns (λ pattern has.
      let form : IsPattern problem.objects kept pattern = All-at (IsPattern problem.objects kept) patterns pattern made has in record {
        atoms_plain =
            All-each (IsPlain pattern.variable_count) pattern.atoms
            (λ atom inside. atom-plain problem pattern.variable_count atom (kept-of pattern has atom inside));
        terms_below = form.terms_below;
        some_object = form.some_object;
      })

  -- the atoms of a kind that stands for what they close
  module _ (forms : List Atom) (forms_are : AreForms patterns forms) where
    pub kept-forms : All (IsForm problem) forms
    kept-forms = All-each (IsForm problem) forms (λ form has.
        let one = (forms_are form).0 has in
        let pattern = one.0 in
        let is : IsPattern problem.objects kept pattern = All-at (IsPattern problem.objects kept) patterns pattern made one.1 in
        subst (IsForm problem) one.2.2 (form-is problem pattern.variable_count one.2.0 (kept-of pattern one.1 one.2.0 one.2.1) is.some_object))

    pub kept-closed : (q : Atom) → IsStoodFor problem.objects forms q ↔ IsClosedIn (lists_of problem.objects patterns) q
    kept-closed q = (
      λ stood.
          let one = (forms_are stood.0).0 stood.1 in
          let pattern = one.0 in
          let is : IsPattern problem.objects kept pattern = All-at (IsPattern problem.objects kept) patterns pattern made one.1 in
          let same = form-same problem pattern.variable_count one.2.0 (kept-of pattern one.1 one.2.0 one.2.1) is.some_object q in
          (closed-by problem.objects patterns q).0 (
            pattern,
            one.1,
            (one.2.0, one.2.1, same.1 (subst (λ (f : Atom). IsInstanceIn problem.objects f q) (sym one.2.2) stood.2)),
          ),
      λ closed.
          let one = (closed-by problem.objects patterns q).1 closed in
          let pattern = one.0 in
          let atom = one.2.0 in
          let is : IsPattern problem.objects kept pattern = All-at (IsPattern problem.objects kept) patterns pattern made one.1 in
          let same = form-same problem pattern.variable_count atom (kept-of pattern one.1 atom one.2.1) is.some_object q in
          (form_by atom, (forms_are (form_by atom)).1 (pattern, one.1, (atom, one.2.1, refl)), same.0 one.2.2),
    )

    -- what is found of the forms is what is provable of what they close
    pub kept-provable : (provable : List Atom)
        → FindsProvable (setting_of problem facts) (IsStoodFor problem.objects forms) [] provable → (atom : Atom)
        → Contains provable atom ↔ (IsClosedIn (lists_of problem.objects patterns) atom × IsProvable (setting_of problem facts) atom)
    kept-provable provable finds atom = (
      λ has. elim ((finds.exact atom).0 has) [
        | inl before ↦ absurd (Contains-none atom before)
        | inr is ↦ ((kept-closed atom).0 is.0, is.1)
      ],
      λ h. (finds.exact atom).1 (inr ((kept-closed atom).1 h.0, h.1)),
    )

    pub kept-limit : (shapes_kept : List Atom) (shapes : List (List Tick))
        → LimitsOne (setting_of problem facts) (IsStoodFor problem.objects forms) shapes_kept shapes
        → MeetsGapLimit (setting_of problem facts) formula variable_count shapes_kept shapes
    kept-limit shapes_kept shapes one =
        atom_limited (setting_of problem facts) formula variable_count (lists_of problem.objects patterns) are shapes_kept shapes
        (one.0, (kept-closed one.0).0 one.1, one.2, one.3)

  -- what is provable of what they close are ground atoms
  pub kept-ground : (provable : List Atom) → ((atom : Atom) → Contains provable atom
      ↔ (IsClosedIn (lists_of problem.objects patterns) atom × IsProvable (setting_of problem facts) atom)) → All IsGround provable
  kept-ground provable provable_are = All-each IsGround provable (λ atom has.
      let closed = ((provable_are atom).0 has).0 in
      atom_of-is_ground problem atom (All-at (IsAtomOf problem 0) closed.0.gaps atom
      (listed-are problem valid facts formula variable_count (lists_of problem.objects patterns) of are closed.0 closed.1) closed.2))

-- the patterns of the formula
module _ (problem : Problem) (valid : IsValid problem) (facts formula : List Atom) (variable_count : ℕ) (of : All (IsAtomOf problem variable_count) formula)
    (patterns : List GapPattern) (are : AreGapPatterns (setting_of problem facts) formula variable_count patterns) where
  closed : AreClosedLists (setting_of problem facts) formula variable_count (lists_of problem.objects patterns)
  closed = patterns-closed (setting_of problem facts) formula variable_count patterns are

  pub patterns-plain : All (IsPlainPattern problem.objects) patterns
  patterns-plain = kept-plain problem valid facts formula variable_count of patterns variable_count are.form closed

  module _ (forms : List Atom) (forms_are : AreForms patterns forms) where
    pub forms-are : All (IsForm problem) forms
    forms-are = kept-forms problem valid facts formula variable_count of patterns variable_count are.form closed forms forms_are

    pub forms-closed : (q : Atom) → IsStoodFor problem.objects forms q ↔ IsClosedIn (lists_of problem.objects patterns) q
    forms-closed = kept-closed problem valid facts formula variable_count of patterns variable_count are.form closed forms forms_are

    -- what is found of the forms is the answer to the question of gaps
    pub answer-of : AreFewGapShapes (setting_of problem facts) formula variable_count → (provable : List Atom)
        → FindsProvable (setting_of problem facts) (IsStoodFor problem.objects forms) [] provable
        → IsGapAnswer (setting_of problem facts) formula variable_count patterns provable
    answer-of few provable finds = record {
      all = are;
      few = few;
      provable_are = kept-provable problem valid facts formula variable_count of patterns variable_count are.form closed forms forms_are provable finds;
      unlimited = λ atom shapes is_closed. finds.unlimited atom shapes ((forms-closed atom).1 is_closed);
    }

    pub limit-of : (kept : List Atom) (shapes : List (List Tick))
        → LimitsOne (setting_of problem facts) (IsStoodFor problem.objects forms) kept shapes
        → MeetsGapLimit (setting_of problem facts) formula variable_count kept shapes
    limit-of = kept-limit problem valid facts formula variable_count of patterns variable_count are.form closed forms forms_are

pub provable-ground : (problem : Problem) (valid : IsValid problem) (facts formula : List Atom) (variable_count : ℕ)
    (of : All (IsAtomOf problem variable_count) formula) (patterns : List GapPattern) (provable : List Atom)
    → IsGapAnswer (setting_of problem facts) formula variable_count patterns provable → All IsGround provable
provable-ground problem valid facts formula variable_count of patterns provable is =
    kept-ground problem valid facts formula variable_count of patterns variable_count is.all.form
    (patterns-closed (setting_of problem facts) formula variable_count patterns is.all) provable is.provable_are

-- what its gaps close together, whatever the objects
module _ (problem : Problem) (valid : IsValid problem) (facts formula : List Atom) (variable_count : ℕ) (of : All (IsAtomOf problem variable_count) formula)
    (closings : List GapPattern) (are : AreGapClosings (setting_of problem facts) formula variable_count closings) where
  lists_are : AreClosedLists (setting_of problem facts) formula variable_count (lists_of problem.objects closings)
  lists_are = closings-closed (setting_of problem facts) formula variable_count closings are

  pub closings-plain : All (IsPlainPattern problem.objects) closings
  closings-plain = kept-plain problem valid facts formula variable_count of closings 0 are.form lists_are

  module _ (forms : List Atom) (forms_are : AreForms closings forms) where
    pub closings-forms : All (IsForm problem) forms
    closings-forms = kept-forms problem valid facts formula variable_count of closings 0 are.form lists_are forms forms_are

    pub closings-answer : AreFewGapShapes (setting_of problem facts) formula variable_count → (provable : List Atom)
        → FindsProvable (setting_of problem facts) (IsStoodFor problem.objects forms) [] provable
        → IsClosingAnswer (setting_of problem facts) formula variable_count closings provable
    closings-answer few provable finds = record {
      all = are;
      few = few;
      provable_are = kept-provable problem valid facts formula variable_count of closings 0 are.form lists_are forms forms_are provable finds;
      unlimited = λ atom shapes is_closed. finds.unlimited atom shapes
          ((kept-closed problem valid facts formula variable_count of closings 0 are.form lists_are forms forms_are atom).1 is_closed);
    }

    pub closings-limit : (kept : List Atom) (shapes : List (List Tick))
        → LimitsOne (setting_of problem facts) (IsStoodFor problem.objects forms) kept shapes
        → MeetsGapLimit (setting_of problem facts) formula variable_count kept shapes
    closings-limit = kept-limit problem valid facts formula variable_count of closings 0 are.form lists_are forms forms_are

  pub closings-ground : (provable : List Atom) → IsClosingAnswer (setting_of problem facts) formula variable_count closings provable
      → All IsGround provable
  closings-ground provable is = kept-ground problem valid facts formula variable_count of closings 0 are.form lists_are provable is.provable_are

-- ---- the loops

pub then-same : {Old New A B : Type 0} → New ↔ (Old ⊎ A) → A ↔ B → New ↔ (Old ⊎ B)
then-same new same = (
  λ h. elim (new.0 h) [ inl before ↦ inl before | inr a ↦ inr (same.0 a) ],
  λ h. new.1 (elim h [ inl before ↦ inl before | inr b ↦ inr (same.1 b) ]),
)

-- the kinds of values that a target is reached by
abbrev pub IsReached : ℕ → ℕ → List Atom → List Atom → Atom → Atom → Type 0
IsReached limit variable_count atoms taken q target =
    (values : List ℕ) × AreChosen limit variable_count values × (¬ Any (Contains taken) (map (substitute_atom (object_terms values)) atoms))
    × (substitute_atom (object_terms values) target ≡ q)

-- one more of the pattern's atoms
pub target-next : (limit variable_count : ℕ) (terms passed : List Term) (atoms taken targets : List Atom) (i : ℕ) (target q : Atom)
    → AreUnbound variable_count terms → passed ≡ terms → i < length targets → target ≡ get_or targets i target → {Initial Old New : Type 0}
    → Old ↔ (Initial ⊎ OneOf (take i targets) (IsReached limit variable_count atoms taken q)) → New
    ↔ (Old ⊎ IsOpenInstance limit passed atoms taken target q)
    → New ↔ (Initial ⊎ OneOf (take (i + 1) targets) (IsReached limit variable_count atoms taken q))
target-next limit variable_count terms passed atoms taken targets i target q are is within read before here =
    grown before
    (then-same here (unbound-open limit variable_count passed atoms taken (λ values. substitute_atom (object_terms values) target) q
    (subst (AreUnbound variable_count) (sym is) are)))
    (grouped (one_next (IsReached limit variable_count atoms taken q) targets i target within read))
