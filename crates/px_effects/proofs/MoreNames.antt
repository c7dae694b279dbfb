-- The names of a kind with more of them.
use Rattle.px_effects.proofs.Common.{AllByRecursion, AreOfKind, IsFresh, IsName, drop, take-append-drop, arith, length-append, subst, ◌≡◌, ◌<◌, ◌+◌, ℕ, List, [], ◌∷◌, ◌++◌, map, take, length, get_or, refl, sym, ap, ◌∙◌, append_assoc, append-nil, map-append, NameLists, with_name, with_more, SoFar, text_of, get_or_append_left, All-from_recursion, names_in, Kind, Bor, map_more}
use Rattle.px_names.specs.declared.kind.Kind.TheVariants as kind

pub more-none : (k : Kind) (names : NameLists) → names ≡ with_more k [] names
more-none kind.Object names = rw append-nil refl
more-none kind.Predicate names = rw append-nil refl
more-none kind.Operator names = rw append-nil refl
more-none kind.Result names = rw append-nil refl

pub more-next : (k : Kind) (ns : List (List ℕ)) (n : List ℕ) (names : NameLists)
    → with_name k n (with_more k ns names) ≡ with_more k (ns ++ n ∷ []) names
more-next kind.Object ns n names = rw append_assoc refl
more-next kind.Predicate ns n names = rw append_assoc refl
more-next kind.Operator ns n names = rw append_assoc refl
more-next kind.Result ns n names = rw append_assoc refl

more-names : (k : Kind) (ns : List (List ℕ)) (names : NameLists) → names_in k (with_more k ns names) ≡ names_in k names ++ ns
more-names kind.Object ns names = refl
more-names kind.Predicate ns names = refl
more-names kind.Operator ns names = refl
more-names kind.Result ns names = refl

-- names in front of others of their kind
prefix-names : (k : Kind) (xs ys : List (List ℕ)) → AreOfKind k (xs ++ ys) → AreOfKind k xs
prefix-names k xs ys all = let both = length-append xs ys in let few = all.few in record {
  distinct = λ i j d before below same. all.distinct i j d before (omega (arith, below, both))
      (get_or_append_left xs ys d i (omega (arith, before, below)) ∙ same ∙ sym (get_or_append_left xs ys d j below));
  few = omega (arith, few, both);
}

-- the next of the names that are declared in turn
pub next-fresh : (k : Kind) (first now : NameLists) (names : List (Bor (List ℕ))) (i : ℕ) (x : Bor (List ℕ))
    → now ≡ with_more k (map text_of (take i names)) first → AllByRecursion (λ n. IsName n.now) names
    → AreOfKind k (names_in k first ++ map text_of names) → i < length names → IsFresh k now (get_or names i x).now
next-fresh k first now names i x is named all below = let prefix = take (i + 1) names in
    let parts : map text_of names ≡ map text_of prefix ++ map text_of (drop (i + 1) names) =
    ap (map text_of) (sym (take-append-drop (i + 1) names)) ∙ map-append text_of prefix (drop (i + 1) names) in
    let whole = ap (λ t. names_in k first ++ t) parts
    ∙ sym (append_assoc (names_in k first) (map text_of prefix) (map text_of (drop (i + 1) names))) in
    let these : names_in k first ++ map text_of prefix ≡ names_in k now ++ (get_or names i x).now ∷ [] =
    ap (λ t. names_in k first ++ t) (map_more text_of names i x below) ∙ sym (append_assoc (names_in k first) _ _)
    ∙ ap (λ t. t ++ (get_or names i x).now ∷ []) (sym (ap (names_in k) is ∙ more-names k _ first)) in (
      All-from_recursion (λ n. IsName n.now) names named i x below,
      subst (AreOfKind k) these (prefix-names k _ _ (subst (AreOfKind k) whole all)),
    )

-- the so_far with one more of the names
pub one-more-name : (k : Kind) (first now after : SoFar) (names : List (Bor (List ℕ))) (i : ℕ) (x : Bor (List ℕ))
    → after ≡ record now { names = with_name k (get_or names i x).now now.names }
    → now ≡ record first { names = with_more k (map text_of (take i names)) first.names } → i < length names
    → after ≡ record first { names = with_more k (map text_of (take (i + 1) names)) first.names }
one-more-name k first now after names i x is was below =
    let step : SoFar → SoFar = λ r. record r { names = with_name k (get_or names i x).now r.names } in
    let known : List (List ℕ) → SoFar = λ ns. record first { names = with_more k ns first.names } in
    let changed : NameLists → SoFar = λ t. record first { names = t } in
    is ∙ ap step was ∙ ap changed (more-next k (map text_of (take i names)) (get_or names i x).now first.names)
    ∙ ap known (sym (map_more text_of names i x below))
