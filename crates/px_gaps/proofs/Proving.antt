-- What a question about an atom with variables says of its instances.
use Rattle.std.proofs.Common.{◌≡◌, ◌∙◌, ◌⊎◌, ◌↔◌, ℕ, zero, suc, ◌+◌, ◌<◌, ◌≤◌, Some, List, [], ◌∷◌, length, map, set, slice_get, get_or, refl, ap, sym, subst, inl, inr, arith}
use Rattle.std.specs.Prelude.{All, Contains}
use Rattle.std.proofs.lemmas.List.{length-map, nil_from_length}
use Rattle.px_proof.specs.declared.shape.Tick.{Tick}
use Rattle.px_proof.specs.Derivation.{Derivations}
use Rattle.px_proof.specs.Literals.{positive_of}
use Rattle.px_proof.specs.Proves.{Rules, ProvesEach, or_open}
use Rattle.px_question.specs.Answers.{IsAnswer, IsList, IsProvable, literals_of, object_terms}
use Rattle.px_question.specs.Limits.{AreFewShapes, IsLimited, IsPartialShape}
use Rattle.px_question.specs.Settings.{Setting, proofs_in, setting_of}
use Rattle.px_terms.specs.Instances.{IsGround}
use Rattle.px_terms.specs.Language.{IsObject, IsVariableBelow, substitute}
use Rattle.px_terms.specs.Substitution.{substitute_atom}
use Rattle.px_terms.specs.Validity.{IsAtomOf, IsTermOf}
use Rattle.px_terms.specs.ValidityLaws.{atom_of-is_ground, atom-is_of}
use Rattle.px_terms.specs.declared.atom.Atom.{Atom}
use Rattle.px_terms.specs.declared.problem.Problem.{Problem}
use Rattle.px_terms.specs.declared.term.Term.{Term}
use Rattle.px_terms.specs.declared.term.Term.TheVariants.{Obj, Var, Any as Wild}
use Rattle.px_prover.specs.Patterns.{AreChosen}
use Rattle.px_gaps.specs.Bindings.{AreUnbound, IsBinding, IsInstanceUnder, IsOpenBefore, IsPlain, IsSlot}
use Rattle.px_gaps.specs.Forms.{IsInstanceIn}
use Rattle.px_gaps.specs.Provable.{FindsProvable, LimitsOne}
use Rattle.px_gaps.proofs.Choosing.{atom-under, before-all, before-next, closed-under, some-values}
use Rattle.px_gaps.proofs.Describing.{atom-plain, chosen-extends, none-taken}
use Rattle.px_gaps.proofs.GapAtoms.{object_terms-are}
use Rattle.px_question.specs.FewerShapes.{few_firsts}
use Rattle.px_gaps.proofs.Substituting.{term_variable}

-- ---- atoms of the problem under a binding

pub slot-of : (problem : Problem) (variable_count v : ℕ) (t : Term) → v < variable_count → IsSlot problem.objects v t → IsTermOf problem variable_count t
slot-of problem variable_count v (Obj n) below slot = slot
slot-of problem variable_count v (Var w) below slot = subst (λ (k : ℕ). k < variable_count) slot below
slot-of problem variable_count v Wild below slot = absurd slot

module _ (problem : Problem) (terms : List Term) (binding : IsBinding problem.objects terms) where
  bound-of : (t : Term) → IsTermOf problem (length terms) t → IsTermOf problem (length terms) (substitute terms t)
  bound-of (Obj n) of = of
  bound-of (Var v) of = all v Wild of
    where
      all : All (IsTermOf problem (length terms)) terms
      all k d within = at-place terms k d within (λ t at. slot-of problem (length terms) k t within (binding.each k t at))
        where
          at-place : (ts : List Term) (k : ℕ) (d : Term) → k < length ts
              → ((t : Term) → slice_get ts k ≡ Some t → IsTermOf problem (length terms) t) → IsTermOf problem (length terms) (get_or ts k d)
          at-place [] k d within h = absurd (omega (arith, within))
          at-place (t ∷ ts) zero d within h = h t refl
          at-place (t ∷ ts) (suc k) d within h = at-place ts k d (omega (arith, within)) h
  bound-of Wild of = absurd of

  bounds-of : (ts : List Term) → All (IsTermOf problem (length terms)) ts
      → All (IsTermOf problem (length terms)) (map (substitute terms) ts)
  bounds-of [] of k d within = absurd (omega (arith, within))
  bounds-of (t ∷ ts) of zero d within = bound-of t (of 0 t (omega arith))
  bounds-of (t ∷ ts) of (suc k) d within = bounds-of ts (λ i e inside. of (suc i) e (omega (arith, inside))) k d (omega (arith, within))

  pub here-of : (form : Atom) → IsAtomOf problem (length terms) form → IsAtomOf problem (length terms) (substitute_atom terms form)
  here-of form of = ((of.0.0, length-map form.args (substitute terms) ∙ of.0.1), bounds-of form.args of.1)

-- a ground atom is one over no variables
pub ground-of : (problem : Problem) (variable_count : ℕ) (atom : Atom) → IsAtomOf problem variable_count atom → IsGround atom → IsAtomOf problem 0 atom
ground-of problem variable_count atom of closed = (of.0, terms-of atom.args of.1 closed)
  where
    term-of : (t : Term) → IsTermOf problem variable_count t → IsObject t → IsTermOf problem 0 t
    term-of (Obj n) is object = is
    term-of (Var v) is object = absurd object
    term-of Wild is object = absurd object

    terms-of : (ts : List Term) → All (IsTermOf problem variable_count) ts → All IsObject ts → All (IsTermOf problem 0) ts
    terms-of [] are objects k d within = absurd (omega (arith, within))
    terms-of (t ∷ ts) are objects zero d within = term-of t (are 0 t (omega arith)) (objects 0 t (omega arith))
    terms-of (t ∷ ts) are objects (suc k) d within =
        terms-of ts (λ i e inside. are (suc i) e (omega (arith, inside))) (λ i e inside. objects (suc i) e (omega (arith, inside))) k d
        (omega (arith, within))

pub atom-variables : (problem : Problem) (variable_count : ℕ) (atom : Atom) → IsAtomOf problem variable_count atom → All (IsVariableBelow variable_count) atom.args
atom-variables problem variable_count atom of k d within = term_variable problem variable_count _ (of.1 k d within)

-- ---- an instance has the proofs that the atom has under its objects

closed-args : (ts : List Term) → All IsObject ts → map (substitute []) ts ≡ ts
closed-args [] objects = refl
closed-args (Obj n ∷ ts) objects =
    ap (λ (us : List Term). Obj n ∷ us) (closed-args ts (λ k d within. objects (suc k) d (omega (arith, within))))
closed-args (Var v ∷ ts) objects = absurd (objects 0 (Var v) (omega arith))
closed-args (Wild ∷ ts) objects = absurd (objects 0 Wild (omega arith))

module _ (s : Setting) (atom q : Atom) (variable_count : ℕ) (values : List ℕ) (chosen : AreChosen s.objects variable_count values)
    (is : substitute_atom (object_terms values) atom ≡ q) (closed : IsGround q) where
  literals-same : literals_of (atom ∷ []) values ≡ literals_of (q ∷ []) []
  literals-same =
      let args = closed-args q.args closed in
      let same : substitute_atom [] q ≡ q = λ i. record { pred = q.pred; args = args i } in
      ap (λ (a : Atom). positive_of a ∷ []) (is ∙ sym same)

  list-over : (rules : Rules) (none : List ℕ) (ds : Derivations) → IsList rules s (q ∷ []) 0 none ds
      → IsList rules s (atom ∷ []) variable_count values ds
  list-over rules none ds list = record {
    count = chosen.count;
    below = chosen.below;
    proved =
        subst (λ l. ProvesEach rules s.axioms [] l ds)
        (ap (literals_of (q ∷ [])) (nil_from_length none list.count) ∙ sym literals-same) list.proved;
    low = list.low;
  }

  shape-over : (shape : List Tick) → IsPartialShape (proofs_in s) s (q ∷ []) 0 shape → IsPartialShape (proofs_in s) s (atom ∷ []) variable_count shape
  shape-over shape partly = (partly.0, (values, partly.1.1, list-over (or_open (proofs_in s)) partly.1.0 partly.1.1 partly.1.2, partly.1.3))

  -- where the atom has no answer, the instance has no proof
  pub none-provable : (¬ IsAnswer s (atom ∷ []) variable_count) → ¬ IsProvable s q
  none-provable none proved = none (values, proved.1, list-over (proofs_in s) proved.0 proved.1 proved.2)

  -- where the atom has few shapes, the instance has
  pub none-limited : AreFewShapes s (atom ∷ []) variable_count → (shapes : List (List Tick)) → ¬ IsLimited s (q ∷ []) 0 shapes
  none-limited few shapes limited =
      few_firsts (IsPartialShape (proofs_in s) s (atom ∷ []) variable_count)
      (IsPartialShape (proofs_in s) s (q ∷ []) 0) s.limit shapes few shape-over limited.count limited.kept

-- an instance under a binding is a ground atom of the problem
pub instance-of : (problem : Problem) (terms : List Term) (form q : Atom) → IsAtomOf problem (length terms) form
    → IsInstanceUnder problem.objects terms form q → IsAtomOf problem 0 q
instance-of problem terms form q of is =
    let long : length (object_terms is.0) ≡ length terms = length-map is.0 (λ n. Obj n) ∙ is.1.extends.count in
    subst (IsAtomOf problem 0) is.2 (atom-is_of problem (object_terms is.0) (object_terms-are problem is.0 is.1.extends.below) form
    (subst (λ (n : ℕ). IsAtomOf problem n form) (sym long) of))

-- ---- finding them

module _ (s : Setting) where
  -- none of the kind is provable, and proving none meets the limit
  pub finds-none : (IsKind : Atom → Type 0) (old : List Atom) → ((q : Atom) → IsKind q → ¬ IsProvable s q)
      → ((q : Atom) (shapes : List (List Tick)) → IsKind q → ¬ IsLimited s (q ∷ []) 0 shapes) → FindsProvable s IsKind old old
  finds-none IsKind old none few =
      record {
        exact = λ q. (λ there. inl there, λ h. elim h [ inl before ↦ before | inr is ↦ absurd (none q is.0 is.1) ]);
        unlimited = few;
      }

  -- the same kind
  pub finds-same : (IsKind IsOther : Atom → Type 0) (old new : List Atom) → ((q : Atom) → IsKind q ↔ IsOther q)
      → FindsProvable s IsKind old new → FindsProvable s IsOther old new
  finds-same IsKind IsOther old new same finds = record {
    exact = λ q. (
      λ there. elim ((finds.exact q).0 there) [ inl before ↦ inl before | inr is ↦ inr ((same q).0 is.0, is.1) ],
      λ h. (finds.exact q).1 (elim h [ inl before ↦ inl before | inr is ↦ inr ((same q).1 is.0, is.1) ]),
    );
    unlimited = λ q shapes is. finds.unlimited q shapes ((same q).1 is);
  }

  -- the one atom is provable
  pub finds-here : (atom : Atom) (old new : List Atom) → ((q : Atom) → Contains new q ↔ (Contains old q ⊎ (atom ≡ q))) → IsProvable s atom
      → ((shapes : List (List Tick)) → ¬ IsLimited s (atom ∷ []) 0 shapes) → FindsProvable s (λ q. atom ≡ q) old new
  finds-here atom old new put proved few = record {
    exact = λ q. (
      λ there. elim ((put q).0 there) [ inl before ↦ inl before | inr is ↦ inr (is, subst (IsProvable s) is proved) ],
      λ h. (put q).1 (elim h [ inl before ↦ inl before | inr is ↦ inr is.0 ]),
    );
    unlimited = λ q shapes is limited. few shapes (subst (λ (a : Atom). IsLimited s (a ∷ []) 0 shapes) (sym is) limited);
  }

  -- or it is not
  pub finds-not : (atom : Atom) (old : List Atom) → (¬ IsProvable s atom)
      → ((shapes : List (List Tick)) → ¬ IsLimited s (atom ∷ []) 0 shapes) → FindsProvable s (λ q. atom ≡ q) old old
  finds-not atom old none few =
      finds-none (λ q. atom ≡ q) old (λ q is proved. none (subst (IsProvable s) (sym is) proved))
      (λ q shapes is limited. few shapes (subst (λ (a : Atom). IsLimited s (a ∷ []) 0 shapes) (sym is) limited))

  -- one kind, and then another
  pub finds-both : (IsKind IsOther IsWhole : Atom → Type 0) (old made new : List Atom) → ((q : Atom) → IsWhole q ↔ (IsKind q ⊎ IsOther q))
      → FindsProvable s IsKind old made → FindsProvable s IsOther made new → FindsProvable s IsWhole old new
  finds-both IsKind IsOther IsWhole old made new whole one two = record {
    exact = λ q. (
      λ there. elim ((two.exact q).0 there) [
        | inl before ↦ elim ((one.exact q).0 before) [ inl first ↦ inl first | inr is ↦ inr ((whole q).1 (inl is.0), is.1) ]
        | inr is ↦ inr ((whole q).1 (inr is.0), is.1)
      ],
      λ h. elim h [
        | inl first ↦ (two.exact q).1 (inl ((one.exact q).1 (inl first)))
        | inr is ↦ elim ((whole q).0 is.0) [
          | inl kind ↦ (two.exact q).1 (inl ((one.exact q).1 (inr (kind, is.1))))
          | inr other ↦
              (two.exact q).1 (inr (other, is.1))
        ]
      ],
    );
    unlimited = λ q shapes is. elim ((whole q).0 is) [ inl kind ↦ one.unlimited q shapes kind | inr other ↦ two.unlimited q shapes other ];
  }

  pub limits-among : (IsKind IsOther : Atom → Type 0) → ((q : Atom) → IsKind q → IsOther q)
      → (formula : List Atom) (shapes : List (List Tick)) → LimitsOne s IsKind formula shapes → LimitsOne s IsOther formula shapes
  limits-among IsKind IsOther among formula shapes one = (one.0, among one.0 one.1, one.2, one.3)

-- an atom of a form, under a binding
module _ (problem : Problem) (facts : List Atom) (terms : List Term) (binding : IsBinding problem.objects terms) (form : Atom)
    (of : IsAtomOf problem (length terms) form) where
  abbrev s : Setting
  s = setting_of problem facts

  plain : IsPlain (length terms) form
  plain = atom-plain problem (length terms) form of

  -- where all variables have objects, there is one instance
  pub one-instance : IsGround (substitute_atom terms form) → (here : Atom) → here ≡ substitute_atom terms form → (q : Atom) → (here ≡ q)
      ↔ IsInstanceUnder problem.objects terms form q
  one-instance closed here is q = (
    λ same. let some = some-values problem.objects terms binding in (
      some.0,
      record { extends = some.1; avoids = none-taken [] },
      closed-under problem.objects terms binding some.0 some.1 form plain closed ∙ sym is ∙ same,
    ),
    λ instance. is ∙ sym (closed-under problem.objects terms binding instance.0 instance.1.extends form plain closed) ∙ instance.2,
  )

  -- where the atom has no answer and few shapes, no instance is provable, and proving none meets the limit
  pub none-found : (here : Atom) → here ≡ substitute_atom terms form → (¬ IsAnswer s (here ∷ []) (length terms))
      → AreFewShapes s (here ∷ []) (length terms) → (old : List Atom) → FindsProvable s (IsInstanceUnder problem.objects terms form) old old
  none-found here is none few old = finds-none s (IsInstanceUnder problem.objects terms form) old
      (λ q instance proved. none-provable s here q (length terms) instance.0 (chosen q instance) (same q instance)
      (ground q instance) none proved)
      (λ q shapes instance limited. none-limited s here q (length terms) instance.0 (chosen q instance) (same q instance)
      (ground q instance) few shapes limited)
    where
      chosen : (q : Atom) (instance : IsInstanceUnder problem.objects terms form q) → AreChosen problem.objects (length terms) instance.0
      chosen q instance = record { count = instance.1.extends.count; below = instance.1.extends.below }

      same : (q : Atom) (instance : IsInstanceUnder problem.objects terms form q) → substitute_atom (object_terms instance.0) here ≡ q
      same q instance =
          ap (substitute_atom (object_terms instance.0)) is
          ∙ atom-under problem.objects terms binding instance.0 instance.1.extends form plain ∙ instance.2

      ground : (q : Atom) (instance : IsInstanceUnder problem.objects terms form q) → IsGround q
      ground q instance = atom_of-is_ground problem q (instance-of problem terms form q of instance)

-- an instance under values that have an object before this one for the variable
abbrev pub IsFoundBefore : ℕ → List Term → Atom → ℕ → ℕ → Atom → Type 0
IsFoundBefore limit terms form v object = IsOpenBefore limit terms [] [] (λ values. substitute_atom (object_terms values) form) v object

-- one object more
module _ (limit : ℕ) (terms : List Term) (form : Atom) (v : ℕ) (is_open : slice_get terms v ≡ Some (Var v)) where
  pub found-next : (s : Setting) (object : ℕ) (passed : List Term) → passed ≡ set terms v (Obj object) → (old made new : List Atom)
      → FindsProvable s (IsFoundBefore limit terms form v object) old made → FindsProvable s (IsInstanceUnder limit passed form) made new
      → FindsProvable s (IsFoundBefore limit terms form v (object + 1)) old new
  found-next s object passed is old made new =
      finds-both s (IsFoundBefore limit terms form v object) (IsInstanceUnder limit passed form)
      (IsFoundBefore limit terms form v (object + 1)) old made new
      (before-next limit terms [] [] (λ values. substitute_atom (object_terms values) form) v is_open object passed is)

  pub found-end : (s : Setting) (object : ℕ) → limit ≤ object → (old new : List Atom)
      → FindsProvable s (IsFoundBefore limit terms form v object) old new → FindsProvable s (IsInstanceUnder limit terms form) old new
  found-end s object past old new =
      finds-same s (IsFoundBefore limit terms form v object) (IsInstanceUnder limit terms form) old new
      (before-all limit terms [] [] (λ values. substitute_atom (object_terms values) form) v is_open object past)

  pub under-next : (object : ℕ) (passed : List Term) → passed ≡ set terms v (Obj object) → (q : Atom) → IsInstanceUnder limit passed form q
      → IsInstanceUnder limit terms form q
  under-next object passed is q instance =
      let b =
      (before-next limit terms [] [] (λ values. substitute_atom (object_terms values) form) v is_open object passed is q).1
      (inr instance) in (b.0, b.1, b.3)

-- with no object chosen, an instance under the binding is one of the form
pub unbound-instance : (limit : ℕ) (terms : List Term) (form : Atom) → AreUnbound (length form.args) terms → (q : Atom)
    → IsInstanceUnder limit terms form q ↔ IsInstanceIn limit form q
unbound-instance limit terms form are q = (
  λ is. (is.0, record { count = is.1.extends.count ∙ are.count; below = is.1.extends.below }, is.2),
  λ is. (is.0, record { extends = chosen-extends limit (length form.args) terms is.0 are is.1; avoids = none-taken [] }, is.2),
)
