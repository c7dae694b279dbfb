-- An atom and its form have the same instances.
use Rattle.std.proofs.Common.{◌≡◌, ◌∙◌, ◌⊎◌, ◌↔◌, ℕ, zero, suc, ◌+◌, ◌<◌, Bool, true, false, Some, List, [], ◌∷◌, length, map, slice_get, get_or, refl, ap, sym, subst, inl, inr, arith}
use Rattle.std.specs.Prelude.{All, Contains, cond, slice_index}
use Rattle.std.proofs.lemmas.List.{length-map, get_or-map}
use Rattle.std.proofs.lemmas.Option.{get_or_from_slice_get, slice_get_within}
use Rattle.px_base.specs.ListLaws.{Contains-cases, Contains-first, Contains-later, Contains-none}
use Rattle.px_proof.specs.PlaceLaws.{slice_get-map}
use Rattle.px_prover.specs.Patterns.{AreChosen, object_under}
use Rattle.px_table.specs.KernelLaws.{Contains-from_map}
use Rattle.px_question.specs.Answers.{object_terms}
use Rattle.px_terms.specs.Language.{substitute, object_of}
use Rattle.px_terms.specs.Order.{term_eq}
use Rattle.px_terms.specs.OrderLaws.{term_eq-decides}
use Rattle.px_terms.specs.Substitution.{substitute_atom}
use Rattle.px_terms.specs.Validity.{IsAtomOf, IsTermOf}
use Rattle.px_terms.specs.declared.atom.Atom.{Atom}
use Rattle.px_terms.specs.declared.problem.Problem.{Problem}
use Rattle.px_terms.specs.declared.term.Term.{Term}
use Rattle.px_terms.specs.declared.term.Term.TheVariants.{Obj, Var, Any as Wild}
use Rattle.px_gaps.specs.Forms.{IsForm, IsInstanceIn, form_by, named_by, place_in}
use Rattle.px_gaps.proofs.Choosing.{term-at}
use Rattle.px_base.specs.Answers.{both_answers}

-- ---- places of terms

either : (b : Bool) → (b ≡ true) ⊎ (b ≡ false)
either true = inl refl
either false = inr refl

place-here : (u t : Term) (args : List Term) → term_eq u t ≡ true → place_in (u ∷ args) t ≡ 0
place-here u t args says = ap (λ (b : Bool). cond b 0 (suc (place_in args t))) says

place-later : (u t : Term) (args : List Term) → term_eq u t ≡ false → place_in (u ∷ args) t ≡ suc (place_in args t)
place-later u t args says = ap (λ (b : Bool). cond b 0 (suc (place_in args t))) says

-- the term stands at its place
place-there : (args : List Term) (t : Term) → Contains args t → slice_get args (place_in args t) ≡ Some t
place-there [] t has = absurd (Contains-none t has)
place-there (u ∷ args) t has = elim (either (term_eq u t)) [
  | inl says ↦ ap (slice_get (u ∷ args)) (place-here u t args says) ∙ ap (λ (x : Term). Some x) ((term_eq-decides u t).0 says)
  | inr says ↦ ap (slice_get (u ∷ args)) (place-later u t args says) ∙ elim (Contains-cases u args t has) [
    | inl is ↦ absurd (both_answers (term_eq u t) says ((term_eq-decides u t).1 is))
    | inr later ↦ place-there args t later
  ]
]

place-within : (args : List Term) (t : Term) → Contains args t → place_in args t < length args
place-within args t has = slice_get_within args (place_in args t) t (place-there args t has)

-- ---- objects for all variables, from those for the places

abbrev chosen_from : List Term → List ℕ → ℕ → ℕ → List ℕ
chosen_from args values start zero = []
chosen_from args values start (suc n) = slice_index values (place_in args (Var start)) ∷ chosen_from args values (suc start) n

from-long : (args : List Term) (values : List ℕ) (start n : ℕ) → length (chosen_from args values start n) ≡ n
from-long args values start zero = refl
from-long args values start (suc n) = ap suc (from-long args values (suc start) n)

from-at : (args : List Term) (values : List ℕ) (start n v w : ℕ) → v < n → start + v ≡ w
    → slice_index (chosen_from args values start n) v ≡ slice_index values (place_in args (Var w))
from-at args values start zero v w less is = absurd (omega (arith, less))
from-at args values start (suc n) zero w less is =
    let e : start ≡ w = omega (arith, is) in ap (λ (k : ℕ). slice_index values (place_in args (Var k))) e
from-at args values start (suc n) (suc v) w less is = from-at args values (suc start) n v w (omega (arith, less)) (omega (arith, is))

-- what stands past the end of a list of numbers is 0
index-below : (k : ℕ) (xs : List ℕ) (i : ℕ) → 0 < k → All (λ n. n < k) xs → slice_index xs i < k
index-below k [] i some all = some
index-below k (x ∷ xs) zero some all = all 0 0 (omega arith)
index-below k (x ∷ xs) (suc i) some all = index-below k xs i some (λ j d inside. all (suc j) d (omega (arith, inside)))

from-below : (limit : ℕ) (args : List Term) (values : List ℕ) (start n : ℕ) → 0 < limit → All (λ m. m < limit) values
    → All (λ m. m < limit) (chosen_from args values start n)
from-below limit args values start zero some below k d within = absurd (omega (arith, within))
from-below limit args values start (suc n) some below zero d within = index-below limit values (place_in args (Var start)) some below
from-below limit args values start (suc n) some below (suc k) d within =
    from-below limit args values (suc start) n some below k d (omega (arith, within))

-- ---- the same arguments

same-args : (terms others args ts : List Term) → ((t : Term) → Contains ts t → substitute terms t ≡ substitute others (named_by args t))
    → map (substitute terms) ts ≡ map (substitute others) (map (named_by args) ts)
same-args terms others args [] same = refl
same-args terms others args (t ∷ ts) same =
    let here = same t (Contains-first t ts) in
    let rest = same-args terms others args ts (λ u has. same u (Contains-later t ts u has)) in
    λ i. here i ∷ rest i

same-atom : (terms others : List Term) (atom : Atom)
    → ((t : Term) → Contains atom.args t → substitute terms t ≡ substitute others (named_by atom.args t))
    → substitute_atom terms atom ≡ substitute_atom others (form_by atom)
same-atom terms others atom same =
    let args = same-args terms others atom.args atom.args same in λ i. record { pred = atom.pred; args = args i }

module _ (problem : Problem) (variable_count : ℕ) (atom : Atom) (of : IsAtomOf problem variable_count atom) where
  arg-of : (t : Term) → Contains atom.args t → IsTermOf problem variable_count t
  arg-of t has = subst (IsTermOf problem variable_count) has.2 (of.1 has.0 t has.1)

  -- an atom with arguments is over objects
  some-object : (0 < variable_count → 0 < problem.objects) → 0 < length atom.args → 0 < problem.objects
  some-object some long = go (get_or atom.args 0 Wild) (of.1 0 Wild long)
    where
      go : (t : Term) → IsTermOf problem variable_count t → 0 < problem.objects
      go (Obj n) is = omega (arith, is)
      go (Var v) is = some (omega (arith, is))
      go Wild is = absurd is

  -- the form is one of the problem
  pub form-is : (0 < variable_count → 0 < problem.objects) → IsForm problem (form_by atom)
  form-is some = record {
    is_atom = (
      (of.0.0, long ∙ of.0.1),
      subst (λ (n : ℕ). All (IsTermOf problem n) (map (named_by atom.args) atom.args)) (sym long)
          (terms-of atom.args (λ t has. has)),
    );
    some_object = λ filled. some-object some (omega (arith, filled, long));
    places = λ v has. let made = Contains-from_map (named_by atom.args) atom.args (Var v) has in place-named v made.0 made.1 made.2;
  }
    where
      place-named : (v : ℕ) (t : Term) → Contains atom.args t → named_by atom.args t ≡ Var v
          → slice_get (map (named_by atom.args) atom.args) v ≡ Some (Var v)
      place-named v (Obj n) has is = absurd (cc)
      place-named v (Var w) has is =
          let same : place_in atom.args (Var w) ≡ v = cc in
          ap (slice_get (map (named_by atom.args) atom.args)) (sym same)
          ∙ slice_get-map (named_by atom.args) atom.args (place_in atom.args (Var w)) (Var w) (place-there atom.args (Var w) has)
          ∙ ap (λ (t : Term). Some t) is
      place-named v Wild has is = absurd (cc)

      long : length (map (named_by atom.args) atom.args) ≡ length atom.args
      long = length-map atom.args (named_by atom.args)

      term-of : (t : Term) → Contains atom.args t → IsTermOf problem (length atom.args) (named_by atom.args t)
      term-of (Obj n) has = arg-of (Obj n) has
      term-of (Var v) has = place-within atom.args (Var v) has
      term-of Wild has = absurd (arg-of Wild has)

      terms-of : (ts : List Term) → ((t : Term) → Contains ts t → Contains atom.args t)
          → All (IsTermOf problem (length atom.args)) (map (named_by atom.args) ts)
      terms-of [] inside k d within = absurd (omega (arith, within))
      terms-of (t ∷ ts) inside zero d within = term-of t (inside t (Contains-first t ts))
      terms-of (t ∷ ts) inside (suc k) d within = terms-of ts (λ u has. inside u (Contains-later t ts u has)) k d (omega (arith, within))

  -- objects for the atom's variables, from those for the form's
  module _ (values : List ℕ) (chosen : AreChosen problem.objects (length (form_by atom).args) values) where
    abbrev back : List ℕ
    back = chosen_from atom.args values 0 variable_count

    back-term : (t : Term) → Contains atom.args t
        → substitute (object_terms back) t ≡ substitute (object_terms values) (named_by atom.args t)
    back-term (Obj n) has = refl
    back-term (Var v) has =
        let below : v < variable_count = arg-of (Var v) has in
        let within : place_in atom.args (Var v) < length values =
        omega (arith, place-within atom.args (Var v) has, chosen.count, length-map atom.args (named_by atom.args)) in
        term-at back v (omega (arith, below, from-long atom.args values 0 variable_count))
        ∙ ap (λ (n : ℕ). Obj n) (from-at atom.args values 0 variable_count v v below (omega arith))
        ∙ sym (term-at values (place_in atom.args (Var v)) within)
    back-term Wild has = refl

    pub back-atom : substitute_atom (object_terms back) atom ≡ substitute_atom (object_terms values) (form_by atom)
    back-atom = same-atom (object_terms back) (object_terms values) atom back-term

    pub back-chosen : (0 < variable_count → 0 < problem.objects) → AreChosen problem.objects variable_count back
    back-chosen some = record { count = from-long atom.args values 0 variable_count; below = below variable_count refl }
      where
        below : (n : ℕ) → n ≡ variable_count → All (λ m. m < problem.objects) (chosen_from atom.args values 0 n)
        below zero is k d within = absurd (omega (arith, within))
        below (suc n) is k d within =
            from-below problem.objects atom.args values 0 (suc n) (some (omega (arith, is))) chosen.below k d within

  -- objects for the form's variables, from those for the atom's
  module _ (values : List ℕ) (chosen : AreChosen problem.objects variable_count values) where
    abbrev forth : List ℕ
    forth = map (object_under values) atom.args

    is_object : (t : Term) → IsTermOf problem variable_count t → substitute (object_terms values) t ≡ Obj (object_under values t)
    is_object (Obj n) is = refl
    is_object (Var v) is = let at = term-at values v (omega (arith, is, chosen.count)) in at ∙ ap (λ (u : Term). Obj (object_of u)) (sym at)
    is_object Wild is = absurd is

    forth-term : (t : Term) → Contains atom.args t
        → substitute (object_terms values) t ≡ substitute (object_terms forth) (named_by atom.args t)
    forth-term (Obj n) has = refl
    forth-term (Var v) has =
        let place = place_in atom.args (Var v) in
        let within : place < length forth = omega (arith, place-within atom.args (Var v) has, length-map atom.args (object_under values)) in
        let here : slice_index forth place ≡ object_under values (Var v) =
        get_or-map (object_under values) atom.args place (Var v) 0 (place-within atom.args (Var v) has)
        ∙ ap (object_under values) (get_or_from_slice_get atom.args place (Var v) (Var v) (place-there atom.args (Var v) has)) in
        is_object (Var v) (arg-of (Var v) has) ∙ ap (λ (n : ℕ). Obj n) (sym here) ∙ sym (term-at forth place within)
    forth-term Wild has = absurd (arg-of Wild has)

    pub forth-atom : substitute_atom (object_terms values) atom ≡ substitute_atom (object_terms forth) (form_by atom)
    forth-atom = same-atom (object_terms values) (object_terms forth) atom forth-term

    under-below : (t : Term) → IsTermOf problem variable_count t → object_under values t < problem.objects
    under-below (Obj n) is = is
    under-below (Var v) is =
        subst (λ (n : ℕ). n < problem.objects) (sym
        (same_object (sym (is_object (Var v) is) ∙ term-at values v (omega (arith, is, chosen.count)))))
        (chosen.below v 0 (omega (arith, is, chosen.count)))
      where
        same_object : {m n : ℕ} → Obj m ≡ Obj n → m ≡ n
        same_object e = cc
    under-below Wild is = absurd is

    pub forth-chosen : AreChosen problem.objects (length (form_by atom).args) forth
    forth-chosen =
        record {
          count = length-map atom.args (object_under values)
              ∙ sym (length-map atom.args (named_by atom.args));
          below = below atom.args (λ t has. has);
        }
      where
        below : (ts : List Term) → ((t : Term) → Contains ts t → Contains atom.args t)
            → All (λ m. m < problem.objects) (map (object_under values) ts)
        below [] inside k d within = absurd (omega (arith, within))
        below (t ∷ ts) inside zero d within = under-below t (arg-of t (inside t (Contains-first t ts)))
        below (t ∷ ts) inside (suc k) d within = below ts (λ u has. inside u (Contains-later t ts u has)) k d (omega (arith, within))

  -- an atom and its form have the same instances
  pub form-same : (0 < variable_count → 0 < problem.objects) → (q : Atom)
      → ((values : List ℕ) × AreChosen problem.objects variable_count values × (substitute_atom (object_terms values) atom ≡ q))
      ↔ IsInstanceIn problem.objects (form_by atom) q
  form-same some q = (
    λ h. (forth h.0 h.1, forth-chosen h.0 h.1, sym (forth-atom h.0 h.1) ∙ h.2),
    λ h. (back h.0 h.1, back-chosen h.0 h.1 some, back-atom h.0 h.1 ∙ h.2),
  )
