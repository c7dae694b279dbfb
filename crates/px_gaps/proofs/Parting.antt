-- Atoms that share no variable without an object are avoided apart.
use Rattle.std.proofs.Common.{◌≡◌, ◌∙◌, ◌⊎◌, ℕ, zero, suc, ◌+◌, ◌<◌, Bool, true, false, Some, List, [], ◌∷◌, ◌++◌, length, map, slice_get, get_or, refl, ap, sym, subst, inl, inr, arith}
use Rattle.std.specs.Prelude.{◌==◌, All, Contains, cond, slice_index}
use Rattle.std.proofs.lemmas.Bool.Decides.{eqb_tells}
use Rattle.std.proofs.lemmas.List.{map-append}
use Rattle.std.proofs.lemmas.List.Elements.{Contains-append_left, Contains-append_right, Contains-append_cases}
use Rattle.px_base.specs.ListLaws.{Contains-first, Contains-later}
use Rattle.std.proofs.lemmas.Option.{get_or_from_slice_get}
use Rattle.px_proof.specs.PlaceLaws.{Contains-mapped, slice_get-read}
use Rattle.px_question.specs.Answers.{object_terms}
use Rattle.px_terms.specs.Language.{IsPlainBelow, substitute}
use Rattle.px_terms.specs.Substitution.{substitute_atom}
use Rattle.px_terms.specs.declared.atom.Atom.{Atom}
use Rattle.px_terms.specs.declared.term.Term.{Term}
use Rattle.px_terms.specs.declared.term.Term.TheVariants.{Obj, Var, Any as Wild}
use Rattle.px_gaps.specs.Apart.{ShareNoVariable, StandsIn}
use Rattle.px_gaps.specs.Bindings.{ArePlain, CanAvoid, ExtendsTerms, IsBinding, IsSlot}
use Rattle.px_gaps.specs.Closings.{OneOf}
use Rattle.px_gaps.proofs.Choosing.{term-at}
use Rattle.px_table.specs.KernelLaws.{Contains-from_map}
use Rattle.px_gaps.proofs.Grows.{any-of, of-any}

-- the variable stands in one of the atoms
abbrev pub Occurs : ℕ → List Atom → Type 0
Occurs v atoms = OneOf atoms (λ (atom : Atom). Contains atom.args (Var v))

-- whether it does
abbrev is_variable : ℕ → Term → Bool
is_variable v (Obj n) = false
is_variable v (Var w) = v == w
is_variable v Wild = false

abbrev in_terms : ℕ → List Term → Bool
in_terms v [] = false
in_terms v (t ∷ ts) = cond (is_variable v t) true (in_terms v ts)

abbrev in_atoms : ℕ → List Atom → Bool
in_atoms v [] = false
in_atoms v (a ∷ atoms) = cond (in_terms v a.args) true (in_atoms v atoms)

terms-say : (v : ℕ) (ts : List Term) → in_terms v ts ≡ true → Contains ts (Var v)
terms-say v [] says = absurd (let e : false ≡ true = says in cc)
terms-say v (Obj n ∷ ts) says = Contains-later (Obj n) ts (Var v) (terms-say v ts says)
terms-say v (Var w ∷ ts) says = elim (eqb_tells v w) [
  | inl same ↦ subst (λ (k : ℕ). Contains (Var k ∷ ts) (Var v)) same.1 (Contains-first (Var v) ts)
  | inr other ↦ Contains-later (Var w) ts (Var v) (terms-say v ts (sym (ap (λ (b : Bool). cond b true (in_terms v ts)) other.0) ∙ says))
]
terms-say v (Wild ∷ ts) says = Contains-later Wild ts (Var v) (terms-say v ts says)

atoms-say : (v : ℕ) (atoms : List Atom) → in_atoms v atoms ≡ true → Occurs v atoms
atoms-say v [] says = absurd (let e : false ≡ true = says in cc)
atoms-say v (a ∷ atoms) says = go (in_terms v a.args) refl (λ later. atoms-say v atoms later)
  where
    go : (b : Bool) → in_terms v a.args ≡ b → (in_atoms v atoms ≡ true → Occurs v atoms) → Occurs v (a ∷ atoms)
    go true is rest = (a, Contains-first a atoms, terms-say v a.args is)
    go false is rest =
        let r = rest (sym (ap (λ (b : Bool). cond b true (in_atoms v atoms)) is) ∙ says) in (r.0, Contains-later a atoms r.0 r.1, r.2)

always : (b : Bool) → cond b true true ≡ true
always true = refl
always false = refl

terms-have : (v : ℕ) (ts : List Term) (k : ℕ) → k < length ts → get_or ts k (Var v) ≡ Var v → in_terms v ts ≡ true
terms-have v [] k within is = absurd (omega (arith, within))
terms-have v (t ∷ ts) zero within is =
    ap (λ (u : Term). cond (is_variable v u) true (in_terms v ts)) is
    ∙ elim (eqb_tells v v) [ inl same ↦ ap (λ (b : Bool). cond b true (in_terms v ts)) same.0 | inr other ↦ absurd (other.1 refl) ]
terms-have v (t ∷ ts) (suc k) within is =
    ap (cond (is_variable v t) true) (terms-have v ts k (omega (arith, within)) is) ∙ always (is_variable v t)

atoms-have : (v : ℕ) (atoms : List Atom) (k : ℕ) (a : Atom) → k < length atoms → get_or atoms k a ≡ a → Contains a.args (Var v)
    → in_atoms v atoms ≡ true
atoms-have v [] k a within is has = absurd (omega (arith, within))
atoms-have v (b ∷ atoms) zero a within is has =
    ap (λ (c : Bool). cond c true (in_atoms v atoms)) (ap (λ (x : Atom). in_terms v x.args) is ∙ terms-have v a.args has.0 has.1 has.2)
atoms-have v (b ∷ atoms) (suc k) a within is has =
    ap (cond (in_terms v b.args) true) (atoms-have v atoms k a (omega (arith, within)) is has) ∙ always (in_terms v b.args)

both_ways : (b : Bool) → (b ≡ true) ⊎ (b ≡ false)
both_ways true = inl refl
both_ways false = inr refl

-- ---- values that are the first at some variables, and the second at the others

abbrev mixed : (ℕ → Bool) → ℕ → List ℕ → List ℕ → List ℕ
mixed f start [] ys = []
mixed f start (x ∷ xs) [] = x ∷ xs
mixed f start (x ∷ xs) (y ∷ ys) = cond (f start) x y ∷ mixed f (suc start) xs ys

mixed-long : (f : ℕ → Bool) (start : ℕ) (xs ys : List ℕ) → length (mixed f start xs ys) ≡ length xs
mixed-long f start [] ys = refl
mixed-long f start (x ∷ xs) [] = refl
mixed-long f start (x ∷ xs) (y ∷ ys) = ap suc (mixed-long f (suc start) xs ys)

mixed-first : (f : ℕ → Bool) (start : ℕ) (xs ys : List ℕ) (v w : ℕ) → start + v ≡ w → f w ≡ true
    → slice_index (mixed f start xs ys) v ≡ slice_index xs v
mixed-first f start [] ys v w is says = refl
mixed-first f start (x ∷ xs) [] v w is says = refl
mixed-first f start (x ∷ xs) (y ∷ ys) zero w is says =
    let e : start ≡ w = omega (arith, is) in ap (λ (b : Bool). cond b x y) (ap f e ∙ says)
mixed-first f start (x ∷ xs) (y ∷ ys) (suc v) w is says = mixed-first f (suc start) xs ys v w (omega (arith, is)) says

mixed-second : (f : ℕ → Bool) (start : ℕ) (xs ys : List ℕ) (v w : ℕ) → length xs ≡ length ys → start + v ≡ w → f w ≡ false
    → slice_index (mixed f start xs ys) v ≡ slice_index ys v
mixed-second f start [] [] v w long is says = refl
mixed-second f start [] (y ∷ ys) v w long is says = absurd (omega (arith, long))
mixed-second f start (x ∷ xs) [] v w long is says = absurd (omega (arith, long))
mixed-second f start (x ∷ xs) (y ∷ ys) zero w long is says =
    let e : start ≡ w = omega (arith, is) in ap (λ (b : Bool). cond b x y) (ap f e ∙ says)
mixed-second f start (x ∷ xs) (y ∷ ys) (suc v) w long is says =
    mixed-second f (suc start) xs ys v w (omega (arith, long)) (omega (arith, is)) says

mixed-below : (limit : ℕ) (f : ℕ → Bool) (start : ℕ) (xs ys : List ℕ) → All (λ n. n < limit) xs → All (λ n. n < limit) ys
    → All (λ n. n < limit) (mixed f start xs ys)
mixed-below limit f start [] ys below others k d within = absurd (omega (arith, within))
mixed-below limit f start (x ∷ xs) [] below others k d within = below k d within
mixed-below limit f start (x ∷ xs) (y ∷ ys) below others zero d within = go (f start)
  where
    go : (b : Bool) → cond b x y < limit
    go true = below 0 0 (omega arith)
    go false = others 0 0 (omega arith)
mixed-below limit f start (x ∷ xs) (y ∷ ys) below others (suc k) d within =
    mixed-below limit f (suc start) xs ys (λ i e inside. below (suc i) e (omega (arith, inside)))
    (λ i e inside. others (suc i) e (omega (arith, inside))) k d (omega (arith, within))

-- ---- apart

args-same : (n : ℕ) (xs ys : List ℕ) → length xs ≡ n → length ys ≡ n → (ts : List Term) → All (IsPlainBelow n) ts
    → ((w : ℕ) → w < n → Contains ts (Var w) → slice_index xs w ≡ slice_index ys w)
    → map (substitute (object_terms xs)) ts ≡ map (substitute (object_terms ys)) ts
args-same n xs ys long longer [] plain same = refl
args-same n xs ys long longer (t ∷ ts) plain same =
    let here =
    one t (plain 0 t (omega arith)) (λ w less is. same w less
    (subst (λ (u : Term). Contains (u ∷ ts) (Var w)) (sym is) (Contains-first (Var w) ts))) in
    let rest =
    args-same n xs ys long longer ts (λ k d within. plain (suc k) d (omega (arith, within)))
    (λ w less has. same w less (Contains-later t ts (Var w) has)) in
    λ i. here i ∷ rest i
  where
    one : (t : Term) → IsPlainBelow n t → ((w : ℕ) → w < n → t ≡ Var w → slice_index xs w ≡ slice_index ys w)
        → substitute (object_terms xs) t ≡ substitute (object_terms ys) t
    one (Obj m) below is = refl
    one (Var w) below is =
        term-at xs w (omega (arith, below, long)) ∙ ap (λ (m : ℕ). Obj m) (is w below refl)
        ∙ sym (term-at ys w (omega (arith, below, longer)))
    one Wild below is = absurd below

atoms-same : (n : ℕ) (xs ys : List ℕ) → length xs ≡ n → length ys ≡ n → (atoms : List Atom) → ArePlain n atoms
    → ((w : ℕ) → w < n → Occurs w atoms → slice_index xs w ≡ slice_index ys w)
    → map (substitute_atom (object_terms xs)) atoms ≡ map (substitute_atom (object_terms ys)) atoms
atoms-same n xs ys long longer [] plain same = refl
atoms-same n xs ys long longer (a ∷ atoms) plain same =
    let args =
    args-same n xs ys long longer a.args (plain 0 a (omega arith)) (λ w less has. same w less (a, Contains-first a atoms, has)) in
    let rest =
    atoms-same n xs ys long longer atoms (λ k d within. plain (suc k) d (omega (arith, within)))
    (λ w less occurs. same w less (occurs.0, Contains-later a atoms occurs.0 occurs.1, occurs.2)) in
    λ i. record { pred = a.pred; args = args i } ∷ rest i

module _ (limit : ℕ) (terms : List Term) (binding : IsBinding limit terms) (first second taken : List Atom)
    (plain_first : ArePlain (length terms) first) (plain_second : ArePlain (length terms) second)
    (share_none : (v : ℕ) → slice_get terms v ≡ Some (Var v) → Occurs v first → ¬ Occurs v second) where
  -- values for the first atoms and values for the second ones are put together
  apart-both : CanAvoid limit terms first taken → CanAvoid limit terms second taken → CanAvoid limit terms (first ++ second) taken
  apart-both one two =
      let xs = one.0 in
      let ys = two.0 in
      let f : ℕ → Bool = λ v. in_atoms v first in
      let values = mixed f 0 xs ys in
      let long_xs = one.1.extends.count in
      let long_ys = two.1.extends.count in
      let long : length values ≡ length terms = mixed-long f 0 xs ys ∙ long_xs in
      let at_first : (w : ℕ) → f w ≡ true → slice_index values w ≡ slice_index xs w =
      λ w says. mixed-first f 0 xs ys w w (omega arith) says in
      let at_second : (w : ℕ) → f w ≡ false → slice_index values w ≡ slice_index ys w =
      λ w says. mixed-second f 0 xs ys w w (omega (arith, long_xs, long_ys)) (omega arith) says in (
        values,
        record {
          extends = record {
            count = long;
            below = mixed-below limit f 0 xs ys one.1.extends.below two.1.extends.below;
            same = λ v n at. elim (both_ways (f v)) [
              | inl says ↦ at_first v says ∙ one.1.extends.same v n at
              | inr says ↦ at_second v says ∙ two.1.extends.same v n at
            ];
          };
          avoids = λ any.
              let r = any-of (Contains taken) (map (substitute_atom (object_terms values)) (first ++ second)) any in
              let split = subst (λ (l : List Atom). Contains l r.0) (map-append (substitute_atom (object_terms values)) first second) r.1 in
              elim (Contains-append_cases (map (substitute_atom (object_terms values)) first)
              (map (substitute_atom (object_terms values)) second) r.0 split) [
                | inl here ↦
                    let same = atoms-same (length terms) values xs long long_xs first plain_first (λ w less occurs. elim (both_ways (f w)) [
                      | inl says ↦ at_first w says
                      | inr says ↦ absurd (missed w first occurs says)
                    ]) in
                    one.1.avoids (of-any (Contains taken) (map (substitute_atom (object_terms xs)) first) r.0
                    (subst (λ (l : List Atom). Contains l r.0) same here) r.2)
                | inr there ↦
                    let same =
                    atoms-same (length terms) values ys long long_ys second plain_second (λ w less occurs. elim (both_ways (f w)) [
                      | inl says ↦ at_first w says ∙ settled w less (atoms-say w first says) occurs xs ys one.1.extends two.1.extends
                      | inr says ↦ at_second w says
                    ]) in
                    two.1.avoids (of-any (Contains taken) (map (substitute_atom (object_terms ys)) second) r.0
                    (subst (λ (l : List Atom). Contains l r.0) same there) r.2)
              ];
        },
      )
    where
      missed : (v : ℕ) (atoms : List Atom) → Occurs v atoms → ¬ (in_atoms v atoms ≡ false)
      missed v atoms occurs says =
          let both : false ≡ true = sym says ∙ atoms-have v atoms occurs.1.0 occurs.0 occurs.1.1 occurs.1.2 occurs.2 in cc

      -- a variable that both have has an object
      settled : (w : ℕ) → w < length terms → Occurs w first → Occurs w second → (xs ys : List ℕ) → ExtendsTerms limit terms xs
          → ExtendsTerms limit terms ys → slice_index xs w ≡ slice_index ys w
      settled w less here there xs ys ex ey =
          let at = slice_get-read terms w Wild less in
          go (get_or terms w Wild) at (binding.each w (get_or terms w Wild) at)
        where
          go : (t : Term) → slice_get terms w ≡ Some t → IsSlot limit w t → slice_index xs w ≡ slice_index ys w
          go (Obj n) at slot = ex.same w n at ∙ sym (ey.same w n at)
          go (Var u) at slot = absurd (share_none w (at ∙ ap (λ (k : ℕ). Some (Var k)) (sym slot)) here there)
          go Wild at slot = absurd slot

-- ---- parts of atoms

-- what avoids all avoids some of them
pub avoid-fewer : (limit : ℕ) (terms : List Term) (atoms fewer taken : List Atom)
    → ((atom : Atom) → Contains fewer atom → Contains atoms atom) → CanAvoid limit terms atoms taken → CanAvoid limit terms fewer taken
avoid-fewer limit terms atoms fewer taken among can = (
  can.0,
  record {
    extends = can.1.extends;
    avoids = λ any.
        let r = any-of (Contains taken) (map (substitute_atom (object_terms can.0)) fewer) any in
        let from = Contains-from_map (substitute_atom (object_terms can.0)) fewer r.0 r.1 in
        can.1.avoids (of-any (Contains taken) (map (substitute_atom (object_terms can.0)) atoms) r.0
        (subst (Contains (map (substitute_atom (object_terms can.0)) atoms)) from.2
        (Contains-mapped (substitute_atom (object_terms can.0)) atoms from.0 (among from.0 from.1))) r.2);
  },
)

-- a variable without an object stands in the atom as it stands among its arguments
stands-in : (terms : List Term) (v : ℕ) (atom : Atom) → slice_get terms v ≡ Some (Var v) → Contains atom.args (Var v)
    → StandsIn terms v atom
stands-in terms v atom is_open has =
    subst (Contains (map (substitute terms) atom.args)) (get_or_from_slice_get terms v (Var v) Wild is_open)
    (Contains-mapped (substitute terms) atom.args (Var v) has)

-- atoms of which two parts share no variable without an object are avoided where the parts are
pub parts-both : (limit : ℕ) (terms : List Term) → IsBinding limit terms → (atoms first second taken : List Atom)
    → ArePlain (length terms) first → ArePlain (length terms) second → ShareNoVariable terms first second
    → ((atom : Atom) → Contains atoms atom → Contains first atom ⊎ Contains second atom) → CanAvoid limit terms first taken
    → CanAvoid limit terms second taken → CanAvoid limit terms atoms taken
parts-both limit terms binding atoms first second taken plain_first plain_second apart members one two =
    avoid-fewer limit terms (first ++ second) atoms taken
    (λ atom has. elim (members atom has) [
      | inl here ↦ Contains-append_left first second atom here
      | inr there ↦ Contains-append_right first
          second atom there
    ])
    (apart-both limit terms binding first second taken plain_first plain_second (λ v is_open here there. apart v
    (here.0, here.1, stands-in terms v here.0 is_open here.2)
    (there.0, there.1, stands-in terms v there.0 is_open there.2)) one two)
