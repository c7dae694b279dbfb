-- `cmp` of terms, atoms and operator instances is the order that is said in words.
use Rattle.std.specs.Prelude.{◌≡◌, ◌<◌, ◌↔◌, ◌⊎◌, ℕ, Bool, true, List, [], ◌∷◌, nat_lt}
use Rattle.std.proofs.Common.{refl, sym, ◌∙◌, inl, inr, eq-eqb}
use borrow.Author.Tests.{lt-ltb}
use Rattle.std.specs.Bool.{Decides}
use Rattle.std.specs.Cmp.{IsTotalOrder, Equal-is, ranked, unsigned_ties}
use Rattle.std.specs.Cmp.Lexicographic.{slice_cmp}
use Rattle.std.specs.Ordering.{nat_cmp, ordering_then, ordering_reverse, eq_by_cmp}
use Rattle.std.specs.declared.cmp.Ordering.{Ordering}
use Rattle.std.specs.declared.cmp.Ordering.TheVariants.{Less, Equal, Greater}
use Rattle.px_terms.specs.contracts.term.TermOrd.TheImpl.Laws as term_order
use Rattle.px_terms.specs.declared.term.Term.{Term}
use Rattle.px_terms.specs.declared.term.Term.TheVariants.{Obj, Var, Any}
use Rattle.px_terms.specs.Before.{IsTermBefore, AreTermsBefore, IsAtomBefore, IsInstanceBefore, IsOrder, AtomsAreOrdered}
use Rattle.px_terms.specs.Language.{AtomValue, InstanceValue}
use Rattle.px_terms.specs.Order.{term_eq, term_cmp, atom_cmp, instance_cmp}
use Rattle.px_terms.specs.OrderLaws.{term_eq-decides, atom_eq-decides, atom_cmp-total, atom_cmp-matches_eq, instance_eq-decides, instance_cmp-total, instance_cmp-matches_eq}

nat_cmp-less : (m n : ℕ) → (nat_cmp m n ≡ Less) ↔ (m < n)
nat_cmp-less m n = (λ e. ranked m n Less (sym e), λ below. let test : nat_lt m n ≡ true = lt-ltb m n below in rw test refl)

nat_cmp-same : (m n : ℕ) → (nat_cmp m n ≡ Equal) ↔ (m ≡ n)
nat_cmp-same m n = (λ e. ranked m n Equal (sym e), λ same. (Equal-is (nat_cmp m n)).0 (sym (unsigned_ties m n) ∙ eq-eqb m n same))

then-less : (r s : Ordering) → (ordering_then r s ≡ Less) ↔ ((r ≡ Less) ⊎ ((r ≡ Equal) × (s ≡ Less)))
then-less Less s = (λ _. inl refl, λ _. refl)
then-less Equal s = (λ h. inr (refl, h), λ h. elim h [ inl e ↦ absurd (cc) | inr both ↦ both.1 ])
then-less Greater s = (λ h. absurd (cc), λ h. elim h [ inl e ↦ absurd (cc) | inr both ↦ absurd (let e = both.0 in cc) ])

-- first by one comparison, and where that ties by another
first_then : {A B C : Type 0} (r s : Ordering) → (r ≡ Less) ↔ A → (r ≡ Equal) ↔ B → (s ≡ Less) ↔ C → (ordering_then r s ≡ Less)
    ↔ (A ⊎ (B × C))
first_then r s less same later = (
  λ h. elim ((then-less r s).0 h) [ inl e ↦ inl (less.0 e) | inr both ↦ inr (same.0 both.0, later.0 both.1) ],
  λ h. (then-less r s).1 (elim h [ inl a ↦ inl (less.1 a) | inr both ↦ inr (same.1 both.0, later.1 both.1) ]),
)

reversed : (r : Ordering) → (ordering_reverse r ≡ Greater) ↔ (r ≡ Less)
reversed Less = (λ _. refl, λ _. refl)
reversed Equal = (λ h. cc, λ h. cc)
reversed Greater = (λ h. cc, λ h. cc)

-- what comes before, and that equal ones tie, make an order of a total comparison
order : {K : Type 0} (compared : K → K → Ordering) (IsBefore : K → K → Type 0) → IsTotalOrder compared
    → ((x y : K) → (compared x y ≡ Less) ↔ IsBefore x y)
    → ((x y : K) → (compared x y ≡ Equal) ↔ (x ≡ y)) → IsOrder compared IsBefore
order compared IsBefore total less same = record {
  less = less;
  same = same;
  greater = λ x y. (
    λ e. (less y x).0 ((reversed (compared y x)).0 (sym (total.antisymm x y) ∙ e)),
    λ before. total.antisymm x y ∙ (reversed (compared y x)).1 ((less y x).1 before),
  );
}

-- where `==` is equality, those that tie are the same
ties : {K : Type 0} (equal : K → K → Bool) (compared : K → K → Ordering) → ((x y : K) → Decides (equal x y) (x ≡ y))
    → ((x y : K) → equal x y ≡ eq_by_cmp compared x y)
    → (x y : K) → (compared x y ≡ Equal) ↔ (x ≡ y)
ties equal compared decides tied x y =
    (λ e. (decides x y).0 (tied x y ∙ (Equal-is (compared x y)).1 e), λ e. (Equal-is (compared x y)).0 (sym (tied x y) ∙ (decides x y).1 e))

term_cmp-same : (s t : Term) → (term_cmp s t ≡ Equal) ↔ (s ≡ t)
term_cmp-same = ties term_eq term_cmp term_eq-decides term_order.matches_eq-law

term_cmp-less : (s t : Term) → (term_cmp s t ≡ Less) ↔ IsTermBefore s t
term_cmp-less (Obj m) (Obj n) = nat_cmp-less m n
term_cmp-less (Obj m) (Var n) = (λ _. tt, λ _. refl)
term_cmp-less (Obj m) Any = (λ _. tt, λ _. refl)
term_cmp-less (Var m) (Obj n) = (λ e. cc, λ h. absurd h)
term_cmp-less (Var m) (Var n) = nat_cmp-less m n
term_cmp-less (Var m) Any = (λ _. tt, λ _. refl)
term_cmp-less Any (Obj n) = (λ e. cc, λ h. absurd h)
term_cmp-less Any (Var n) = (λ e. cc, λ h. absurd h)
term_cmp-less Any Any = (λ e. cc, λ h. absurd h)

terms_cmp-less : (ss ts : List Term) → (slice_cmp term_cmp ss ts ≡ Less) ↔ AreTermsBefore ss ts
terms_cmp-less [] [] = (λ e. cc, λ h. absurd h)
terms_cmp-less [] (t ∷ ts) = (λ _. tt, λ _. refl)
terms_cmp-less (s ∷ ss) [] = (λ e. cc, λ h. absurd h)
terms_cmp-less (s ∷ ss) (t ∷ ts) =
    first_then (term_cmp s t) (slice_cmp term_cmp ss ts) (term_cmp-less s t) (term_cmp-same s t) (terms_cmp-less ss ts)

atom_cmp-less : (a b : AtomValue) → (atom_cmp a b ≡ Less) ↔ IsAtomBefore a b
atom_cmp-less a b =
    first_then (nat_cmp a.pred b.pred) (slice_cmp term_cmp a.args b.args) (nat_cmp-less a.pred b.pred) (nat_cmp-same a.pred b.pred)
    (terms_cmp-less a.args b.args)

instance_cmp-less : (a b : InstanceValue) → (instance_cmp a b ≡ Less) ↔ IsInstanceBefore a b
instance_cmp-less a b =
    first_then (nat_cmp a.op b.op) (slice_cmp term_cmp a.args b.args) (nat_cmp-less a.op b.op) (nat_cmp-same a.op b.op)
    (terms_cmp-less a.args b.args)

pub atoms_are_ordered : AtomsAreOrdered
atoms_are_ordered = record {
  terms = order term_cmp IsTermBefore term_order.total-law term_cmp-less term_cmp-same;
  atoms = order atom_cmp IsAtomBefore atom_cmp-total atom_cmp-less (ties _ atom_cmp atom_eq-decides atom_cmp-matches_eq);
  instances =
      order instance_cmp IsInstanceBefore instance_cmp-total instance_cmp-less
      (ties _ instance_cmp instance_eq-decides instance_cmp-matches_eq);
  term_equality = term_eq-decides;
  atom_equality = atom_eq-decides;
  instance_equality = instance_eq-decides;
}
