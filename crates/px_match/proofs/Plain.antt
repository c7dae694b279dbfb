-- A mark without parameters covers only itself.
use Rattle.std.specs.Prelude.{◌≡◌, ◌==◌, ℕ, Bool, true, false, not, List, [], ◌∷◌, length, All, Contains}
use Rattle.std.proofs.Common.{suc, refl, sym, ap, ◌∙◌, subst, arith}
use Rattle.std.proofs.lemmas.Bool.Decides.{nat_tests}
use Rattle.std.proofs.lemmas.List.Elements.{All-head, All-tail}
use Rattle.std.specs.Cmp.{first_so, second_so}
use Rattle.std.specs.Cmp.Lexicographic.{pointwise}
use borrow.Author.Tests.{eqb-true}
use Rattle.px_base.specs.ListLaws.{Contains-filter, Contains-first, Contains-none}
use Rattle.px_base.specs.Answers.{both_answers}
use Rattle.px_terms.specs.declared.atom.Atom.{Atom}
use Rattle.px_terms.specs.declared.term.Term.{Term}
use Rattle.px_terms.specs.declared.term.Term.TheVariants.{Obj, Var, Any}
use Rattle.px_terms.specs.Instances.{IsGround}
use Rattle.px_terms.specs.Language.{IsObject}
use Rattle.px_terms.specs.OrderLaws.{term_eq-decides}
use Rattle.px_match.specs.Keeping.{covers, covers_term, matches}

covered-terms : (terms found : List Term) → All IsObject terms → pointwise covers_term terms found ≡ true → found ≡ terms
covered-terms [] [] objects covered = refl
covered-terms [] (y ∷ ys) objects covered = absurd (cc)
covered-terms (t ∷ ts) [] objects covered = absurd (cc)
covered-terms (Obj m ∷ ts) (y ∷ ys) objects covered =
    let same = (term_eq-decides (Obj m) y).0 (first_so _ _ covered) in
    let rest = covered-terms ts ys (All-tail IsObject (Obj m) ts objects) (second_so _ _ covered) in
    λ i. sym same i ∷ rest i
covered-terms (Var v ∷ ts) (y ∷ ys) objects covered = absurd (All-head IsObject (Var v) ts objects)
covered-terms (Any ∷ ts) (y ∷ ys) objects covered = absurd (All-head IsObject Any ts objects)

pub covered-ground : (mark atom : Atom) → IsGround mark → covers mark atom ≡ true → atom ≡ mark
covered-ground mark atom plain covered =
    let pred = eqb-true mark.pred atom.pred (first_so _ _ covered) in
    let args = covered-terms mark.args atom.args plain (second_so _ _ covered) in
    λ i. record { pred = sym pred i; args = args i }

no_items : (xs : List Atom) → ((q : Atom) → ¬ Contains xs q) → length xs ≡ 0
no_items [] none = refl
no_items (x ∷ xs) none = absurd (none x (Contains-first x xs))

-- while the only atom that it covers isn't there, its list is empty
pub none_covered : (mark : Atom) (kept : List Atom) (atom : Atom) → IsGround mark → covers mark atom ≡ true → ¬ Contains kept atom
    → length (matches mark kept) ≡ 0
none_covered mark kept atom plain covered hasnt = no_items (matches mark kept) (λ q has.
    let there = (Contains-filter (covers mark) kept q).0 has in
    hasnt (subst (Contains kept) (covered-ground mark q plain there.1 ∙ sym (covered-ground mark atom plain covered)) there.0))

-- and where its list isn't empty, this atom is there
pub first_covered : (mark : Atom) (kept list : List Atom) (atom : Atom) (empty : Bool) → IsGround mark → covers mark atom ≡ true
    → list ≡ matches mark kept → empty ≡ (length list == 0) → not empty ≡ true → Contains kept atom
first_covered mark kept [] atom empty plain covered is test some = absurd (both_answers (not empty) (ap not test) some)
first_covered mark kept (x ∷ xs) atom empty plain covered is test some =
    let there = (Contains-filter (covers mark) kept x).0 (subst (λ l. Contains l x) is (Contains-first x xs)) in
    subst (Contains kept) (covered-ground mark x plain there.1 ∙ sym (covered-ground mark atom plain covered)) there.0

some_length : (n : ℕ) → (suc n == 0) ≡ false
some_length n = grind (arith, nat_tests)

-- a list with an atom isn't empty
pub has_some : (list : List Atom) (atom : Atom) (empty : Bool) → Contains list atom → empty ≡ (length list == 0) → not empty ≡ true
has_some [] atom empty has test = absurd (Contains-none atom has)
has_some (x ∷ xs) atom empty has test = ap not (test ∙ some_length (length xs))
