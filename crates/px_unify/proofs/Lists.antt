-- Two lists of arguments that are made equal one by one, and the atoms that have them.
use Rattle.std.proofs.Common.{◌≡◌, ◌↔◌, ℕ, ◌+◌, ◌<◌, List, [], ◌∷◌, ◌++◌, length, get_or, map, take, replicate, refl, ap, sym, ◌∙◌, arith, add-one}
use Rattle.std.proofs.Math.Seq.{take-suc, take-length}
use Rattle.std.proofs.lemmas.List.{map-append, take-map, length-map, length-take, length-replicate}
use Rattle.px_terms.specs.declared.atom.Atom.{Atom}
use Rattle.px_terms.specs.declared.term.Term.{Term}
use Rattle.px_terms.specs.declared.term.Term.TheVariants.{Any}
use Rattle.px_terms.specs.Language.{substitute}
use Rattle.px_unify.specs.declared.change.Change.{Change}
use Rattle.px_unify.specs.Changes.{variables_of, Fits, MakesEqual, NarrowedBy, NoneFits, HasSolutions}
use Rattle.px_unify.specs.ChangeLaws.{NarrowedBy-both}

heads : {X : Type 0} {x y : X} {xs ys : List X} → x ∷ xs ≡ y ∷ ys → x ≡ y
heads e = cc

tails : {X : Type 0} {x y : X} {xs ys : List X} → x ∷ xs ≡ y ∷ ys → xs ≡ ys
tails e = cc

-- two lists with one more element are equal where the lists and the elements are
snoc-equal : {X : Type 0} (xs ys : List X) (x y : X) → length xs ≡ length ys → (xs ++ x ∷ [] ≡ ys ++ y ∷ []) ↔ ((xs ≡ ys) × (x ≡ y))
snoc-equal [] [] x y same = (λ e. (refl, heads e), λ h. λ i. h.1 i ∷ [])
snoc-equal [] (w ∷ ys) x y same = absurd (omega (arith, same))
snoc-equal (z ∷ xs) [] x y same = absurd (omega (arith, same))
snoc-equal (z ∷ xs) (w ∷ ys) x y same =
    let later = snoc-equal xs ys x y (omega (arith, same)) in (
      λ e. let parts = later.0 (tails e) in let first = heads e in (λ i. first i ∷ parts.0 i, parts.1),
      λ h. let rest = later.1 (tails h.0, h.1) in let first = heads h.0 in λ i. first i ∷ rest i,
    )

-- the first arguments are equal under the substitution
abbrev pub AreEqualBelow : ℕ → List Term → List Term → List Term → Type 0
AreEqualBelow k xs ys sigma = map (substitute sigma) (take k xs) ≡ map (substitute sigma) (take k ys)

module _ (xs ys : List Term) (same_length : length xs ≡ length ys) (k : ℕ) (x y : Term) (within : k < length xs) where
  one_more : (sigma : List Term) → AreEqualBelow (k + 1) xs ys sigma
      ↔ (AreEqualBelow k xs ys sigma × (substitute sigma (get_or xs k x) ≡ substitute sigma (get_or ys k y)))
  one_more sigma =
      let within_ys : k < length ys = omega (arith, within, same_length) in
      let prefixes : length (map (substitute sigma) (take k xs)) ≡ length (map (substitute sigma) (take k ys)) =
      simp (length-map, length-take) (rw same_length refl) in
      rw (add-one, take-suc xs k x within, take-suc ys k y within_ys, map-append, map-append)
      (snoc-equal (map (substitute sigma) (take k xs)) (map (substitute sigma) (take k ys)) (substitute sigma (get_or xs k x))
      (substitute sigma (get_or ys k y)) prefixes)

  module _ (start now : List Change) (so_far : NarrowedBy start now (AreEqualBelow k xs ys)) where
    -- one more pair of arguments is made equal
    pub narrowed-more : (new : List Change)
        → NarrowedBy now new (λ sigma. substitute sigma (get_or xs k x) ≡ substitute sigma (get_or ys k y))
        → NarrowedBy start new (AreEqualBelow (k + 1) xs ys)
    narrowed-more new agrees sigma =
        let both =
        NarrowedBy-both start now new (AreEqualBelow k xs ys)
        (λ tau. substitute tau (get_or xs k x) ≡ substitute tau (get_or ys k y)) so_far agrees sigma in (
          λ fits. ((both.0 fits).0, (one_more sigma).1 (both.0 fits).1),
          λ h. both.1 (h.0, (one_more sigma).0 h.1),
        )

    -- where the next two arguments can't be made equal, the lists can't
    pub never-more : NoneFits now (λ sigma. substitute sigma (get_or xs k x) ≡ substitute sigma (get_or ys k y))
        → NoneFits start (λ sigma. map (substitute sigma) xs ≡ map (substitute sigma) ys)
    never-more never sigma fits equal =
        let prefix : AreEqualBelow (k + 1) xs ys sigma =
        sym (take-map (substitute sigma) (k + 1) xs) ∙ ap (take (k + 1)) equal ∙ take-map (substitute sigma) (k + 1) ys in
        let parts = (one_more sigma).0 prefix in
        never sigma ((so_far sigma).1 (fits, parts.0)) parts.1

-- the two atoms are equal where their arguments are, as they have one predicate
module _ (a b : Atom) (same_pred : a.pred ≡ b.pred) (xs ys : List Term) (xs_are : xs ≡ a.args) (ys_are : ys ≡ b.args) where
  pub atoms-narrowed : (start now : List Change) (k : ℕ) → length xs ≡ length ys → k ≡ length xs
      → NarrowedBy start now (AreEqualBelow k xs ys) → NarrowedBy start now (MakesEqual a b)
  atoms-narrowed start now k same_length all narrowed sigma =
      let whole_xs : take k xs ≡ a.args = ap (λ n. take n xs) all ∙ take-length xs ∙ xs_are in
      let whole_ys : take k ys ≡ b.args = ap (λ n. take n ys) (all ∙ same_length) ∙ take-length ys ∙ ys_are in (
        λ fits.
            let both = (narrowed sigma).0 fits in
            let args : map (substitute sigma) a.args ≡ map (substitute sigma) b.args =
            ap (map (substitute sigma)) (sym whole_xs) ∙ both.1 ∙ ap (map (substitute sigma)) whole_ys in
            (both.0, λ i. record { pred = same_pred i; args = args i }),
        λ h.
            let args : map (substitute sigma) a.args ≡ map (substitute sigma) b.args = ap (λ (atom : Atom). atom.args) h.1 in
            (narrowed sigma).1 (h.0, ap (map (substitute sigma)) whole_xs ∙ args ∙ ap (map (substitute sigma)) (sym whole_ys)),
      )

  pub atoms-never : (start : List Change) → NoneFits start (λ sigma. map (substitute sigma) xs ≡ map (substitute sigma) ys)
      → NoneFits start (MakesEqual a b)
  atoms-never start never sigma fits equal =
      let args : map (substitute sigma) a.args ≡ map (substitute sigma) b.args = ap (λ (atom : Atom). atom.args) equal in
      never sigma fits (ap (map (substitute sigma)) xs_are ∙ args ∙ ap (map (substitute sigma)) (sym ys_are))

-- some substitution fits
pub some-fits : (changes : List Change) → HasSolutions changes → (sigma : List Term) × Fits sigma changes
some-fits changes solvable =
    let found = solvable (replicate (variables_of changes) Any) (length-replicate (variables_of changes) Any) in
    (found.0, found.2)

-- after unifying, some substitution that fitted before makes the atoms equal
pub never-clash : (start now : List Change) (Condition : List Term → Type 0) → HasSolutions now → NarrowedBy start now Condition
    → ¬ NoneFits start Condition
never-clash start now Condition solvable narrowed never =
    let found = some-fits now solvable in
    let both = (narrowed found.0).0 found.1 in
    never found.0 both.0 both.1
