-- Choosing objects for variables one after the other.
use Rattle.std.proofs.Common.{◌≡◌, ◌∙◌, ◌⊎◌, ◌↔◌, ℕ, zero, suc, ◌+◌, ◌<◌, ◌≤◌, Bool, true, false, Option, Some, None, List, [], ◌∷◌, length, map, set, slice_get, get_or, refl, ap, sym, subst, inl, inr, arith}
use Rattle.std.specs.Prelude.{All, Any, Contains, IfNone, IfSome, MatchBool, slice_index, slice_index_or}
use Rattle.std.proofs.lemmas.List.{length-map, length-set}
use Rattle.std.proofs.lemmas.Option.{get_or_from_slice_get, slice_get_within}
use Rattle.px_base.specs.ListLaws.{All-at, Contains-cases, Contains-none}
use Rattle.px_base.specs.Answers.{some_same}
use Rattle.px_proof.specs.PlaceLaws.{slice_get-read}
use Rattle.px_question.specs.Answers.{object_terms}
use Rattle.px_terms.specs.Instances.{IsGround}
use Rattle.px_terms.specs.Language.{IsObject, IsPlainBelow, substitute, object_of}
use Rattle.px_terms.specs.Substitution.{substitute_atom}
use Rattle.px_terms.specs.declared.atom.Atom.{Atom}
use Rattle.px_terms.specs.declared.term.Term.{Term}
use Rattle.px_terms.specs.declared.term.Term.TheVariants.{Obj, Var, Any as Wild}
use Rattle.px_gaps.specs.Bindings.{ArePlain, Avoids, CanAvoid, ExtendsTerms, IsBinding, IsOpenAs, IsOpenBefore, IsPlain, IsSlot, first_values, open_term_count}
use Rattle.px_base.proofs.Loops.{level_or_below}

-- ---- lists with one place changed

pub set-at : (xs : List Term) (v w : ℕ) (x t : Term) → slice_get (set xs v x) w ≡ Some t → ((v ≡ w) × (x ≡ t)) ⊎ (slice_get xs w ≡ Some t)
set-at [] v w x t at = inr at
set-at (y ∷ xs) zero zero x t at = inl (refl, some_same at)
set-at (y ∷ xs) zero (suc w) x t at = inr at
set-at (y ∷ xs) (suc v) zero x t at = inr at
set-at (y ∷ xs) (suc v) (suc w) x t at = elim (set-at xs v w x t at) [ inl h ↦ inl (ap suc h.0, h.1) | inr h ↦ inr h ]

set-there : (xs : List Term) (v : ℕ) (x : Term) → v < length xs → slice_get (set xs v x) v ≡ Some x
set-there [] v x within = absurd (omega (arith, within))
set-there (y ∷ xs) zero x within = refl
set-there (y ∷ xs) (suc v) x within = set-there xs v x (omega (arith, within))

set-kept : (xs : List Term) (v w : ℕ) (x t : Term) → (¬ (v ≡ w)) → slice_get xs w ≡ Some t → slice_get (set xs v x) w ≡ Some t
set-kept [] v w x t differs at = at
set-kept (y ∷ xs) zero zero x t differs at = absurd (differs refl)
set-kept (y ∷ xs) zero (suc w) x t differs at = at
set-kept (y ∷ xs) (suc v) zero x t differs at = at
set-kept (y ∷ xs) (suc v) (suc w) x t differs at = set-kept xs v w x t (λ e. differs (ap suc e)) at

-- a variable less
pub count-falls : (terms : List Term) (v w object : ℕ) → slice_get terms v ≡ Some (Var w)
    → open_term_count (set terms v (Obj object)) < open_term_count terms
count-falls [] v w object at = absurd (cc)
count-falls (Obj n ∷ terms) zero w object at = absurd (cc)
count-falls (Var u ∷ terms) zero w object at = omega arith
count-falls (Wild ∷ terms) zero w object at = absurd (cc)
count-falls (Obj n ∷ terms) (suc v) w object at = count-falls terms v w object at
count-falls (Var u ∷ terms) (suc v) w object at = let less = count-falls terms v w object at in omega (arith, less)
count-falls (Wild ∷ terms) (suc v) w object at = count-falls terms v w object at

-- ---- values that extend what is chosen

pub term-at : (values : List ℕ) (v : ℕ) → v < length values → slice_index_or (object_terms values) v Wild ≡ Obj (slice_index values v)
term-at [] v within = absurd (omega (arith, within))
term-at (x ∷ values) zero within = refl
term-at (x ∷ values) (suc v) within = term-at values v (omega (arith, within))

module _ (limit : ℕ) (terms : List Term) (binding : IsBinding limit terms) where
  slots-below : (ts : List Term) → ((v : ℕ) (t : Term) → slice_get ts v ≡ Some t → object_of t < limit)
      → All (λ n. n < limit) (map object_of ts)
  slots-below [] each k d within = absurd (omega (arith, within))
  slots-below (t ∷ ts) each zero d within = each 0 t refl
  slots-below (t ∷ ts) each (suc k) d within = slots-below ts (λ v u at. each (suc v) u at) k d (omega (arith, within))

  slot-below : (v : ℕ) (t : Term) → slice_get terms v ≡ Some t → object_of t < limit
  slot-below v (Obj n) at = binding.each v (Obj n) at
  slot-below v (Var w) at = binding.some_object (omega (arith, slice_get_within terms v (Var w) at))
  slot-below v Wild at = absurd (binding.each v Wild at)

  index-slots : (ts : List Term) (v n : ℕ) → slice_get ts v ≡ Some (Obj n) → slice_index (map object_of ts) v ≡ n
  index-slots [] v n at = absurd (cc)
  index-slots (t ∷ ts) zero n at = let same : t ≡ Obj n = some_same at in ap object_of same
  index-slots (t ∷ ts) (suc v) n at = index-slots ts v n at

  -- object 0 is one for each other variable
  pub first-extends : ExtendsTerms limit terms (first_values terms)
  first-extends = record { count = length-map terms object_of; below = slots-below terms slot-below; same = index-slots terms }

  pub some-values : (values : List ℕ) × ExtendsTerms limit terms values
  some-values = (first_values terms, first-extends)

  module _ (values : List ℕ) (extends : ExtendsTerms limit terms values) where
    term-under : (t : Term) → IsPlainBelow (length terms) t
        → substitute (object_terms values) (substitute terms t) ≡ substitute (object_terms values) t
    term-under (Obj n) plain = refl
    term-under (Var v) plain =
        let at = slice_get-read terms v Wild plain in
        go (get_or terms v Wild) at (binding.each v (get_or terms v Wild) at)
      where
        go : (t : Term) → slice_get terms v ≡ Some t → IsSlot limit v t
            → substitute (object_terms values) (slice_index_or terms v Wild) ≡ slice_index_or (object_terms values) v Wild
        go (Obj n) at slot =
            ap (substitute (object_terms values)) (get_or_from_slice_get terms v (Obj n) Wild at)
            ∙ ap (λ (m : ℕ). Obj m) (sym (extends.same v n at)) ∙ sym (term-at values v (omega (arith, plain, extends.count)))
        go (Var w) at slot =
            ap (substitute (object_terms values)) (get_or_from_slice_get terms v (Var w) Wild at)
            ∙ ap (λ (m : ℕ). slice_index_or (object_terms values) m Wild) (sym slot)
        go Wild at slot = absurd slot
    term-under Wild plain = absurd plain

    args-under : (ts : List Term) → All (IsPlainBelow (length terms)) ts
        → map (substitute (object_terms values)) (map (substitute terms) ts) ≡ map (substitute (object_terms values)) ts
    args-under [] plain = refl
    args-under (t ∷ ts) plain =
        let here = term-under t (plain 0 t (omega arith)) in
        let rest = args-under ts (λ k d within. plain (suc k) d (omega (arith, within))) in
        λ i. here i ∷ rest i

    pub atom-under : (atom : Atom) → IsPlain (length terms) atom
        → substitute_atom (object_terms values) (substitute_atom terms atom) ≡ substitute_atom (object_terms values) atom
    atom-under atom plain = let args = args-under atom.args plain in λ i. record { pred = atom.pred; args = args i }

    args-closed : (ts : List Term) → All IsObject ts → map (substitute (object_terms values)) ts ≡ ts
    args-closed [] objects = refl
    args-closed (Obj n ∷ ts) objects =
        ap (λ (us : List Term). Obj n ∷ us) (args-closed ts (λ k d within. objects (suc k) d (omega (arith, within))))
    args-closed (Var v ∷ ts) objects = absurd (objects 0 (Var v) (omega arith))
    args-closed (Wild ∷ ts) objects = absurd (objects 0 Wild (omega arith))

    -- an atom whose variables all have objects is as these have it
    pub closed-under : (atom : Atom) → IsPlain (length terms) atom → IsGround (substitute_atom terms atom)
        → substitute_atom (object_terms values) atom ≡ substitute_atom terms atom
    closed-under atom plain is_ground =
        let args = args-closed (map (substitute terms) atom.args) is_ground in
        sym (atom-under atom plain) ∙ (λ i. record { pred = atom.pred; args = args i })

-- ---- one object more

module _ (limit : ℕ) (terms : List Term) (v : ℕ) (is_open : slice_get terms v ≡ Some (Var v)) (object : ℕ) where
  pub bound-binding : IsBinding limit terms → object < limit → IsBinding limit (set terms v (Obj object))
  bound-binding binding less = record {
    each = λ w t at. elim (set-at terms v w (Obj object) t at) [
      | inl h ↦ subst (IsSlot limit w) h.1 less
      | inr before ↦ binding.each w t before
    ];
    some_object = λ some. binding.some_object (omega (arith, some, length-set terms v (Obj object)));
  }

  pub bound-extends : (values : List ℕ) → ExtendsTerms limit terms values → slice_index values v ≡ object
      → ExtendsTerms limit (set terms v (Obj object)) values
  bound-extends values extends is = record {
    count = extends.count ∙ sym (length-set terms v (Obj object));
    below = extends.below;
    same = λ w n at. elim (set-at terms v w (Obj object) (Obj n) at) [
      | inl h ↦ ap (slice_index values) (sym h.0) ∙ is ∙ object_same h.1
      | inr before ↦ extends.same w n before
    ];
  }
    where
      object_same : {m n : ℕ} → Obj m ≡ Obj n → m ≡ n
      object_same e = cc

  pub extends-bound : (values : List ℕ) → ExtendsTerms limit (set terms v (Obj object)) values
      → ExtendsTerms limit terms values × (slice_index values v ≡ object)
  extends-bound values extends = (
    record {
      count = extends.count ∙ length-set terms v (Obj object);
      below = extends.below;
      same = λ w n at. extends.same w n (set-kept terms v w (Obj object) (Obj n) (other w n at) at);
    },
    extends.same v object (set-there terms v (Obj object) (slice_get_within terms v (Var v) is_open)),
  )
    where
      other : (w n : ℕ) → slice_get terms w ≡ Some (Obj n) → ¬ (v ≡ w)
      other w n at same = let both : Some (Var v) ≡ Some (Obj n) = sym is_open ∙ ap (slice_get terms) same ∙ at in cc

  pub bound-plain : (atoms : List Atom) → ArePlain (length terms) atoms → ArePlain (length (set terms v (Obj object))) atoms
  bound-plain atoms plain = subst (λ (n : ℕ). ArePlain n atoms) (sym (length-set terms v (Obj object))) plain

  pub bound-plain_one : (atom : Atom) → IsPlain (length terms) atom → IsPlain (length (set terms v (Obj object))) atom
  bound-plain_one atom plain = subst (λ (n : ℕ). IsPlain n atom) (sym (length-set terms v (Obj object))) plain

-- ---- avoiding

any-mapped : (values : List ℕ) (atoms taken : List Atom) (k : ℕ) (atom : Atom) → k < length atoms → get_or atoms k atom ≡ atom
    → Contains taken (substitute_atom (object_terms values) atom) → Any (Contains taken) (map (substitute_atom (object_terms values)) atoms)
any-mapped values [] taken k atom within is has = absurd (omega (arith, within))
any-mapped values (a ∷ atoms) taken zero atom within is has =
    (0, substitute_atom (object_terms values) atom, omega arith, ap (substitute_atom (object_terms values)) is, has)
any-mapped values (a ∷ atoms) taken (suc k) atom within is has =
    let r = any-mapped values atoms taken k atom (omega (arith, within)) is has in
    (suc r.0, r.1, omega (arith, r.2), r.3, r.4)

mapped-any : (values : List ℕ) (atoms taken : List Atom) (k : ℕ) (q : Atom) → k < length (map (substitute_atom (object_terms values)) atoms)
    → get_or (map (substitute_atom (object_terms values)) atoms) k q ≡ q
    → (atom : Atom) × (k < length atoms) × (get_or atoms k atom ≡ atom) × (substitute_atom (object_terms values) atom ≡ q)
mapped-any values [] taken k q within is = absurd (omega (arith, within))
mapped-any values (a ∷ atoms) taken zero q within is = (a, omega arith, refl, is)
mapped-any values (a ∷ atoms) taken (suc k) q within is =
    let r = mapped-any values atoms taken k q (omega (arith, within)) is in (r.0, omega (arith, r.1), r.2, r.3)

module _ (limit : ℕ) (terms : List Term) (binding : IsBinding limit terms) (atoms taken : List Atom) (plain : ArePlain (length terms) atoms)
    (closed : All IsGround taken) where
  -- an atom that is in the set as far as objects are chosen is in it however the others are
  pub met-none : Any (λ atom. Contains taken (substitute_atom terms atom)) atoms → ¬ CanAvoid limit terms atoms taken
  met-none any can =
      let values = can.0 in
      let atom = any.1 in
      let here : IsPlain (length terms) atom = subst (IsPlain (length terms)) any.3 (plain any.0 atom any.2) in
      let same =
      closed-under limit terms binding values can.1.extends atom here
      (All-at IsGround taken (substitute_atom terms atom) closed any.4) in
      can.1.avoids (any-mapped values atoms taken any.0 atom any.2 any.3 (subst (Contains taken) (sym same) any.4))

  -- where all variables of the atoms have objects, it is enough that none is in it
  pub closed-some : (¬ Any (λ atom. Contains taken (substitute_atom terms atom)) atoms)
      → All (λ atom. IsGround (substitute_atom terms atom)) atoms → CanAvoid limit terms atoms taken
  closed-some none all =
      let some = some-values limit terms binding in (
        some.0,
        record {
          extends = some.1;
          avoids = λ any.
              let from = mapped-any some.0 atoms taken any.0 any.1 any.2 any.3 in
              let atom = from.0 in
              let here : IsPlain (length terms) atom = subst (IsPlain (length terms)) from.2 (plain any.0 atom from.1) in
              let is_ground : IsGround (substitute_atom terms atom) =
              subst (λ (a : Atom). IsGround (substitute_atom terms a)) from.2 (all any.0 atom from.1) in
              let same = closed-under limit terms binding some.0 some.1 atom here is_ground in
              none (any.0, atom, from.1, from.2, subst (Contains taken) (sym from.3 ∙ same) any.4);
        },
      )

-- the first objects will do, where they lead to no atom that is in the set
pub first-avoids : (limit : ℕ) (terms : List Term) (binding : IsBinding limit terms) (atoms taken : List Atom)
    → (¬ Any (λ atom. Contains taken (substitute_atom (object_terms (first_values terms)) atom)) atoms) → CanAvoid limit terms atoms taken
first-avoids limit terms binding atoms taken none = (
  first_values terms,
  record {
    extends = first-extends limit terms binding;
    avoids = λ any.
        let from = mapped-any (first_values terms) atoms taken any.0 any.1 any.2 any.3 in
        none (any.0, from.0, from.1, from.2, subst (Contains taken) (sym from.3) any.4);
  },
)

pub first-long : (terms : List Term) → length (object_terms (first_values terms)) ≡ length terms
first-long terms = length-map (first_values terms) (λ n. Obj n) ∙ length-map terms object_of

-- ---- one variable after the other

pub avoids-bound : (limit : ℕ) (terms : List Term) (atoms taken : List Atom) (v : ℕ) → slice_get terms v ≡ Some (Var v)
    → (object : ℕ) (values : List ℕ) → Avoids limit (set terms v (Obj object)) atoms taken values → Avoids limit terms atoms taken values
avoids-bound limit terms atoms taken v is_open object values a =
    record { extends = (extends-bound limit terms v is_open object values a.extends).0; avoids = a.avoids }

pub bound-avoids : (limit : ℕ) (terms : List Term) (atoms taken : List Atom) (v : ℕ) → slice_get terms v ≡ Some (Var v)
    → (object : ℕ) (values : List ℕ) → slice_index values v ≡ object → Avoids limit terms atoms taken values
    → Avoids limit (set terms v (Obj object)) atoms taken values
bound-avoids limit terms atoms taken v is_open object values is a =
    record { extends = bound-extends limit terms v is_open object values a.extends is; avoids = a.avoids }

pub value-within : (limit : ℕ) (terms : List Term) (v : ℕ) → slice_get terms v ≡ Some (Var v) → (values : List ℕ)
    → ExtendsTerms limit terms values → slice_index values v < limit
value-within limit terms v is_open values extends =
    extends.below v 0 (omega (arith, extends.count, slice_get_within terms v (Var v) is_open))

-- ---- an atom whose variables all have objects

pub said : {P : Type 0} (Q : Type 0) (b : Bool) → MatchBool b P Q → b ≡ true → P
said Q true is says = is
said Q false is says = absurd (both says)
  where
    both : ¬ (false ≡ true)
    both e = cc

pub said_not : (P : Type 0) {Q : Type 0} (b : Bool) → MatchBool b P Q → b ≡ false → Q
said_not P true is says = absurd (both says)
  where
    both : ¬ (true ≡ false)
    both e = cc
said_not P false is says = is

-- nothing is open where the atoms can't be avoided
pub none-open : {X : Type 0} (limit : ℕ) (terms : List Term) (atoms taken : List Atom) (made : List ℕ → X) (found : List X)
    → (¬ CanAvoid limit terms atoms taken) → (x : X) → Contains found x ↔ (Contains found x ⊎ IsOpenAs limit terms atoms taken made x)
none-open limit terms atoms taken made found none x =
    (λ there. inl there, λ h. elim h [ inl before ↦ before | inr is ↦ absurd (none (is.0, is.1)) ])

-- what is made of the values is the same for all
module _ {X : Type 0} (limit : ℕ) (terms : List Term) (atoms taken : List Atom) (made : List ℕ → X) (here : X)
    (fixed : (values : List ℕ) → ExtendsTerms limit terms values → made values ≡ here) where
  -- it is there already
  pub one-there : (found : List X) → Contains found here → (x : X) → Contains found x
      ↔ (Contains found x ⊎ IsOpenAs limit terms atoms taken made x)
  one-there found has x =
      (λ there. inl there, λ h. elim h [ inl before ↦ before | inr is ↦ subst (Contains found) (sym (fixed is.0 is.1.extends) ∙ is.2) has ])

  -- it is put in
  pub one-put : (found new : List X) → ((x : X) → Contains new x ↔ (Contains found x ⊎ (here ≡ x))) → CanAvoid limit terms atoms taken
      → (x : X) → Contains new x ↔ (Contains found x ⊎ IsOpenAs limit terms atoms taken made x)
  one-put found new put can x = (
    λ there. elim ((put x).0 there) [ inl before ↦ inl before | inr same ↦ inr (can.0, can.1, fixed can.0 can.1.extends ∙ same) ],
    λ h. (put x).1 (elim h [ inl before ↦ inl before | inr is ↦ inr (sym (fixed is.0 is.1.extends) ∙ is.2) ]),
  )

-- such is an atom whose variables all have objects
pub atom-fixed : (limit : ℕ) (terms : List Term) (binding : IsBinding limit terms) (target here : Atom) → IsPlain (length terms) target
    → IsGround (substitute_atom terms target) → here ≡ substitute_atom terms target
    → (values : List ℕ) → ExtendsTerms limit terms values → substitute_atom (object_terms values) target ≡ here
atom-fixed limit terms binding target here plain is_ground is values extends =
    closed-under limit terms binding values extends target plain is_ground ∙ sym is

-- ---- variables for which no object is chosen

pub some-map : (o : Option ℕ) (P Q : ℕ → Type 0) → ((v : ℕ) → P v → Q v) → IfSome o P → IfSome o Q
some-map None P Q f h = tt
some-map (Some v) P Q f h = f v h

pub none-map : (o : Option ℕ) (P Q : Type 0) → (P → Q) → IfNone o P → IfNone o Q
none-map None P Q f h = f h
none-map (Some v) P Q f h = tt

module _ (limit : ℕ) (terms : List Term) (binding : IsBinding limit terms) where
  -- what stands for a term that is no `Any`
  term-cases : (t : Term) → IsPlainBelow (length terms) t
      → ((n : ℕ) × (substitute terms t ≡ Obj n)) ⊎ ((v : ℕ) × (substitute terms t ≡ Var v) × (slice_get terms v ≡ Some (Var v)))
  term-cases (Obj n) plain = inl (n, refl)
  term-cases (Var w) plain =
      let at = slice_get-read terms w Wild plain in
      go (get_or terms w Wild) at (binding.each w (get_or terms w Wild) at)
    where
      go : (t : Term) → slice_get terms w ≡ Some t → IsSlot limit w t
          → ((n : ℕ) × (slice_index_or terms w Wild ≡ Obj n))
          ⊎ ((v : ℕ) × (slice_index_or terms w Wild ≡ Var v) × (slice_get terms v ≡ Some (Var v)))
      go (Obj n) at slot = inl (n, get_or_from_slice_get terms w (Obj n) Wild at)
      go (Var u) at slot =
          inr (u, get_or_from_slice_get terms w (Var u) Wild at, subst (λ (k : ℕ). slice_get terms k ≡ Some (Var u)) slot at)
      go Wild at slot = absurd slot
  term-cases Wild plain = absurd plain

  same-variable : (v w : ℕ) (t : Term) → t ≡ Var v → t ≡ Var w → slice_get terms w ≡ Some (Var w) → slice_get terms v ≡ Some (Var v)
  same-variable v w t is_v is_w at =
      let both : Var w ≡ Var v = sym is_w ∙ is_v in subst (λ (k : ℕ). slice_get terms k ≡ Some (Var k)) (numbers both) at
    where
      numbers : Var w ≡ Var v → w ≡ v
      numbers e = cc

  pub variable-open : (ts : List Term) → All (IsPlainBelow (length terms)) ts → (v : ℕ) → Contains (map (substitute terms) ts) (Var v)
      → slice_get terms v ≡ Some (Var v)
  variable-open [] plain v has = absurd (Contains-none (Var v) has)
  variable-open (t ∷ ts) plain v has = elim (Contains-cases (substitute terms t) (map (substitute terms) ts) (Var v) has) [
    | inl is ↦ elim (term-cases t (plain 0 t (omega arith))) [
      | inl object ↦ absurd (let both : Obj object.0 ≡ Var v = sym object.1 ∙ is in cc)
      | inr variable ↦ same-variable v variable.0 (substitute terms t) is variable.1 variable.2
    ]
    | inr later ↦ variable-open ts (λ k d within. plain (suc k) d (omega (arith, within))) v later
  ]

  pub no-variable : (ts : List Term) → All (IsPlainBelow (length terms)) ts → All (λ t. (v : ℕ) → ¬ (t ≡ Var v)) (map (substitute terms) ts)
      → All IsObject (map (substitute terms) ts)
  no-variable [] plain none k d within = absurd (omega (arith, within))
  no-variable (t ∷ ts) plain none zero d within = elim (term-cases t (plain 0 t (omega arith))) [
    | inl object ↦ subst IsObject (sym object.1) tt
    | inr variable ↦ absurd (none 0 d within variable.0 variable.1)
  ]
  no-variable (t ∷ ts) plain none (suc k) d within =
      no-variable ts (λ i e inside. plain (suc i) e (omega (arith, inside))) (λ i e inside. none (suc i) e (omega (arith, inside))) k d
      (omega (arith, within))

-- ---- the objects of one variable, one after the other

module _ {X : Type 0} (limit : ℕ) (terms : List Term) (atoms taken : List Atom) (made : List ℕ → X) (v : ℕ)
    (is_open : slice_get terms v ≡ Some (Var v)) where
  pub before-next : (object : ℕ) (passed : List Term) → passed ≡ set terms v (Obj object) → (x : X)
      → IsOpenBefore limit terms atoms taken made v (object + 1) x
      ↔ (IsOpenBefore limit terms atoms taken made v object x ⊎ IsOpenAs limit passed atoms taken made x)
  before-next object passed is x = (
    λ b. elim (level_or_below (slice_index b.0 v) object b.2) [
      | inl less ↦ inl (b.0, b.1, less, b.3)
      | inr level ↦ inr (
        b.0,
        subst (λ (ts : List Term). Avoids limit ts atoms taken b.0) (sym is)
            (bound-avoids limit terms atoms taken v is_open object b.0 level b.1),
        b.3,
      )
    ],
    λ h. elim h [
      | inl b ↦ (b.0, b.1, omega (arith, b.2), b.3)
      | inr one ↦
          let a = subst (λ (ts : List Term). Avoids limit ts atoms taken one.0) is one.1 in
          let level = (extends-bound limit terms v is_open object one.0 a.extends).1 in
          (one.0, avoids-bound limit terms atoms taken v is_open object one.0 a, omega (arith, level), one.2)
    ],
  )

  pub before-all : (object : ℕ) → limit ≤ object → (x : X) → IsOpenBefore limit terms atoms taken made v object x
      ↔ IsOpenAs limit terms atoms taken made x
  before-all object past x = (
    λ b. (b.0, b.1, b.3),
    λ one. (one.0, one.1, omega (arith, past, value-within limit terms v is_open one.0 one.1.extends), one.2),
  )

  pub before-none : (x : X) → ¬ IsOpenBefore limit terms atoms taken made v 0 x
  before-none x b = omega (arith, b.2)

-- ---- a place that is set again and again

-- the terms, with another one at the place
abbrev pub IsSetAt : List Term → ℕ → List Term → Type 0
IsSetAt terms v next = (x : Term) × (next ≡ set terms v x)

pub set-again : (xs : List Term) (v : ℕ) (x y : Term) → set (set xs v x) v y ≡ set xs v y
set-again [] v x y = refl
set-again (z ∷ xs) zero x y = refl
set-again (z ∷ xs) (suc v) x y = ap (λ l. z ∷ l) (set-again xs v x y)

pub put-again : (terms next new : List Term) (v : ℕ) (y : Term) → IsSetAt terms v next → new ≡ set next v y → new ≡ set terms v y
put-again terms next new v y is made = made ∙ ap (λ l. set l v y) is.1 ∙ set-again terms v is.0 y

pub long-again : (terms next : List Term) (v : ℕ) → IsSetAt terms v next → length next ≡ length terms
long-again terms next v is = ap length is.1 ∙ length-set terms v is.0
