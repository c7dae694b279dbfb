-- A most general solution of pairs of atoms: as terms have no function symbols, it is made by giving one variable after the other another
-- term.
use Rattle.std.specs.Prelude.{◌≡◌, ◌⊎◌, ◌↔◌, ◌+◌, ◌<◌, ℕ, Bool, true, false, cond, Option, Some, None, List, [], ◌∷◌, ◌++◌, map, length, replicate, set, slice_get, All}
use Rattle.std.proofs.Common.{refl, sym, ap, ◌∙◌, subst, inl, inr, arith}
use Rattle.std.proofs.lemmas.List.{length-map, length-set}
use Rattle.std.proofs.lemmas.List.Elements.{All-nil, All-cons, All-head, All-tail}
use Rattle.px_terms.specs.declared.atom.Atom.{Atom}
use Rattle.px_terms.specs.declared.term.Term.{Term}
use Rattle.px_terms.specs.declared.term.Term.TheVariants.{Obj, Var, Any as WildCard}
use Rattle.px_terms.specs.Language.{IsPlainBelow, substitute}
use Rattle.px_terms.specs.Order.{term_eq}
use Rattle.px_terms.specs.OrderLaws.{term_eq-decides}
use Rattle.px_terms.specs.Substitution.{variables_from}
use Rattle.px_terms.proofs.VariableLemmas.{length-variables}
use Rattle.px_unify.specs.declared.change.Change.{Change}
use Rattle.px_unify.specs.declared.change.Change.TheVariants.{Fresh, Bound}
use Rattle.px_unify.specs.Changes.{AreOneUnder, Fits, HasSolutions, IsRoot, IsUnbound, MakesEachEqual, MakesPairEqual, slots_of, variables_of}
use Rattle.px_unify.specs.ChangeLaws.{Fits-bound, IsUnbound-fresh, slots_after-append}
use Rattle.px_proof.specs.PlaceLaws.{slice_get-within}
use Rattle.px_replay.proofs.GoalSteps.{read-variable}
use Rattle.px_general.specs.Naming.{IsResolved, IsSolutionOf}
use Rattle.px_general.proofs.GeneralSteps.{fresh-fit, fresh-solutions, fresh-variables}
use Rattle.px_general.proofs.LabelSteps.{set_cases, set_elsewhere, set_same}
use Rattle.px_general.proofs.Opening.{read-at}
use Rattle.px_general.proofs.PlainPairs.{IsPlainPair}
use Rattle.px_general.proofs.Reading.{cons_same, read-map, read-one}

-- Bindings of this number of variables always have solutions and fit exactly the terms of which the condition holds, and each variable was
-- followed to its end in them.
pub record Solves (Condition : List Term → Type 0) (count : ℕ) : Type 0 where
  pub changes : List Change
  pub resolved : List Term
  pub solutions : HasSolutions changes
  pub fits : (terms : List Term) → Fits terms changes ↔ Condition terms
  pub variables : variables_of changes ≡ count
  pub resolved_are : IsResolved changes resolved

solves-same : (One Other : List Term → Type 0) (count : ℕ) → ((terms : List Term) → One terms ↔ Other terms) → Solves One count
    → Solves Other count
solves-same One Other count same before = record {
  changes = before.changes;
  resolved = before.resolved;
  solutions = before.solutions;
  fits = λ terms. ((λ fits. (same terms).0 ((before.fits terms).0 fits)), λ holds. (before.fits terms).1 ((same terms).1 holds));
  variables = before.variables;
  resolved_are = before.resolved_are;
}

-- ---- nothing is asked

abbrev pub Always : List Term → Type 0
Always terms = Unit {0}

module _ (count : ℕ) where
  abbrev fresh : List Change
  fresh = replicate count Fresh

  below-count : (v : ℕ) → v < variables_of fresh → v < count
  below-count v below = subst (λ (n : ℕ). v < n) (fresh-variables count) below

  own-variable : (v : ℕ) → v < variables_of fresh → substitute (variables_from 0 count) (Var v) ≡ Var v
  own-variable v below = read-variable 0 count v (below-count v below) ∙ ap Var (omega arith)

  unbound-fresh : (v : ℕ) → v < variables_of fresh → IsUnbound fresh v
  unbound-fresh v below = subst (IsUnbound fresh) none_before (IsUnbound-fresh [] count v (below-count v below))
    where
      none_before : variables_of [] + v ≡ v
      none_before = omega arith

  solves-none : Solves Always count
  solves-none = record {
    changes = fresh;
    resolved = variables_from 0 count;
    solutions = fresh-solutions count;
    fits = λ terms. ((λ fits. tt), λ holds. fresh-fit count terms);
    variables = fresh-variables count;
    resolved_are = record {
      count = length-variables 0 count ∙ sym (fresh-variables count);
      value = λ v below sigma fits. ap (substitute sigma) (sym (own-variable v below));
      root = λ v below. subst (IsRoot fresh) (sym (own-variable v below)) (unbound-fresh v below);
    };
  }

-- ---- a variable that is not bound is given another root

-- the term, or the other one where it is the variable of this number
abbrev replaced : ℕ → Term → Term → Term
replaced w to t = cond (term_eq t (Var w)) to t

replaced-is : (w : ℕ) (to t : Term) → ((t ≡ Var w) × (replaced w to t ≡ to)) ⊎ ((¬ (t ≡ Var w)) × (replaced w to t ≡ t))
replaced-is w to t = by (term_eq t (Var w)) refl
  where
    by : (b : Bool) → term_eq t (Var w) ≡ b → ((t ≡ Var w) × (replaced w to t ≡ to)) ⊎ ((¬ (t ≡ Var w)) × (replaced w to t ≡ t))
    by true e = inl ((term_eq-decides t (Var w)).0 e, ap (λ (b : Bool). cond b to t) e)
    by false e = inr ((λ same. differ (sym ((term_eq-decides t (Var w)).1 same) ∙ e)), ap (λ (b : Bool). cond b to t) e)
      where
        differ : ¬ (true ≡ false)
        differ f = cc

module _ (Condition : List Term → Type 0) (count : ℕ) (before : Solves Condition count) (w : ℕ) (to : Term)
    (unbound : IsUnbound before.changes w) (root : IsRoot before.changes to) (other : ¬ (to ≡ Var w)) where
  abbrev now : List Change
  now = before.changes ++ Bound w to ∷ []

  abbrev slots : List (Option Term)
  slots = slots_of before.changes

  slots-now : slots_of now ≡ set slots w (Some to)
  slots-now = slots_after-append before.changes (Bound w to ∷ []) []

  variables-now : variables_of now ≡ variables_of before.changes
  variables-now = ap length slots-now ∙ length-set slots w (Some to)

  -- each other root stays one
  root-stays : (t : Term) → IsRoot before.changes t → ¬ (t ≡ Var w) → IsRoot now t
  root-stays (Obj n) is differs = tt
  root-stays (Var v) is differs =
      ap (λ (s : List (Option Term)). slice_get s v) slots-now ∙ set_elsewhere slots w (Some to) v (λ e. differs (ap Var e)) ∙ is
  root-stays WildCard is differs = absurd is

  root-replaced : (t : Term) → IsRoot before.changes t → IsRoot now (replaced w to t)
  root-replaced t is = elim (replaced-is w to t) [
    | inl h ↦ subst (IsRoot now) (sym h.1) (root-stays to root other)
    | inr h ↦ subst (IsRoot now) (sym h.1) (root-stays t is h.0)
  ]

  value-replaced : (sigma : List Term) → substitute sigma (Var w) ≡ substitute sigma to → (t : Term)
      → substitute sigma t ≡ substitute sigma (replaced w to t)
  value-replaced sigma same t = elim (replaced-is w to t) [
    | inl h ↦ ap (substitute sigma) h.0 ∙ same ∙ ap (substitute sigma) (sym h.1)
    | inr h ↦ ap (substitute sigma) (sym h.1)
  ]

  read-replaced : (v : ℕ) → v < variables_of before.changes
      → substitute (map (replaced w to) before.resolved) (Var v) ≡ replaced w to (substitute before.resolved (Var v))
  read-replaced v below = read-map (replaced w to) before.resolved v (subst (λ (n : ℕ). v < n) (sym before.resolved_are.count) below)

  was-below : (v : ℕ) → v < variables_of now → v < variables_of before.changes
  was-below v below = subst (λ (n : ℕ). v < n) variables-now below

  resolved-now : IsResolved now (map (replaced w to) before.resolved)
  resolved-now = record {
    count = length-map before.resolved (replaced w to) ∙ before.resolved_are.count ∙ sym variables-now;
    value = λ v below sigma fits.
        let both = (Fits-bound sigma before.changes w to).0 fits in
        before.resolved_are.value v (was-below v below) sigma both.0
        ∙ value-replaced sigma both.1 (substitute before.resolved (Var v))
        ∙ ap (substitute sigma) (sym (read-replaced v (was-below v below)));
    root = λ v below. subst (IsRoot now) (sym (read-replaced v (was-below v below)))
        (root-replaced (substitute before.resolved (Var v)) (before.resolved_are.root v (was-below v below)));
  }

  -- another root has the value that is chosen for it, whatever is chosen for the variable
  value-stays : (t : Term) → IsRoot before.changes t → ¬ (t ≡ Var w) → (one two chosen : List Term) (x : Term)
      → ((v : ℕ) → IsUnbound before.changes v → slice_get one v ≡ slice_get chosen v)
      → ((v : ℕ) → IsUnbound before.changes v → slice_get two v ≡ slice_get (set chosen w x) v)
      → substitute two t ≡ substitute one t
  value-stays (Obj n) is differs one two chosen x first again = refl
  value-stays (Var v) is differs one two chosen x first again =
      read-one two one v (again v is ∙ set_elsewhere chosen w x v (λ e. differs (ap Var e)) ∙ sym (first v is))
  value-stays WildCard is differs one two chosen x first again = absurd is

  solutions-now : HasSolutions now
  solutions-now chosen long =
      let many : length chosen ≡ variables_of before.changes = long ∙ variables-now in
      let first = before.solutions chosen many in
      let value : Term = substitute first.0 to in
      let again = before.solutions (set chosen w value) (length-set chosen w value ∙ many) in
      let inside : w < length chosen = subst (λ (n : ℕ). w < n) (sym many) (slice_get-within slots w None unbound) in
      let here : substitute again.0 (Var w) ≡ value = read-at again.0 w value (again.3 w unbound ∙ set_same chosen w value inside) in
      let there : substitute again.0 to ≡ value = value-stays to root other first.0 again.0 chosen value first.3 again.3 in (
        again.0,
        again.1 ∙ sym variables-now,
        (Fits-bound again.0 before.changes w to).1 (again.2, here ∙ sym there),
        λ v free. elim (set_cases slots w (Some to) None v (ap (λ (s : List (Option Term)). slice_get s v) (sym slots-now) ∙ free)) [
          | inl h ↦ again.3 v h.1 ∙ set_elsewhere chosen w value v h.0
          | inr h ↦ absurd (bound h.1)
        ],
      )
    where
      bound : ¬ (Some to ≡ None)
      bound e = cc

  solves-bound : Solves (λ terms. Condition terms × (substitute terms (Var w) ≡ substitute terms to)) count
  solves-bound = record {
    changes = now;
    resolved = map (replaced w to) before.resolved;
    solutions = solutions-now;
    fits = λ terms.
        let bound = Fits-bound terms before.changes w to in (
          λ fits. let both = bound.0 fits in ((before.fits terms).0 both.0, both.1),
          λ holds. bound.1 ((before.fits terms).1 holds.0, holds.1),
        );
    variables = variables-now ∙ before.variables;
    resolved_are = resolved-now;
  }

-- ---- two terms are made equal

module _ (Condition : List Term → Type 0) (count : ℕ) (before : Solves Condition count) where
  plain : (t : Term) → IsPlainBelow count t → IsPlainBelow (variables_of before.changes) t
  plain t below = subst (λ (n : ℕ). IsPlainBelow n t) (sym before.variables) below

  root-of : (t : Term) → IsPlainBelow (variables_of before.changes) t → IsRoot before.changes (substitute before.resolved t)
  root-of (Obj n) below = tt
  root-of (Var v) below = before.resolved_are.root v below
  root-of WildCard below = absurd below

  value-of : (t : Term) → IsPlainBelow (variables_of before.changes) t → AreOneUnder before.changes t (substitute before.resolved t)
  value-of (Obj n) below = λ sigma fits. refl
  value-of (Var v) below = before.resolved_are.value v below
  value-of WildCard below = absurd below

  module _ (s t : Term) (s_below : IsPlainBelow count s) (t_below : IsPlainBelow count t)
      (solved : (sigma : List Term) × Condition sigma × (substitute sigma s ≡ substitute sigma t)) where
    -- the terms are one exactly where what they are bound to is
    roots-tell : (terms : List Term) → Condition terms
        → (substitute terms (substitute before.resolved s) ≡ substitute terms (substitute before.resolved t))
        ↔ (substitute terms s ≡ substitute terms t)
    roots-tell terms holds =
        let fits = (before.fits terms).1 holds in
        let of_s = value-of s (plain s s_below) terms fits in
        let of_t = value-of t (plain t t_below) terms fits in
        (λ same. of_s ∙ same ∙ sym of_t, λ same. sym of_s ∙ same ∙ of_t)

    abbrev Met : List Term → Type 0
    Met terms = Condition terms × (substitute terms s ≡ substitute terms t)

    met-already : substitute before.resolved s ≡ substitute before.resolved t → Solves Met count
    met-already same = solves-same Condition Met count (λ terms.
        (λ holds. (holds, (roots-tell terms holds).0 (ap (substitute terms) same)), λ both. both.0)) before

    by-roots : (r q : Term) → substitute before.resolved s ≡ r → substitute before.resolved t ≡ q → IsRoot before.changes r
        → IsRoot before.changes q → ¬ (r ≡ q) → Solves Met count
    by-roots (Obj m) (Obj n) r_is q_is r_root q_root differ =
        absurd (differ (ap (substitute solved.0) (sym r_is) ∙ (roots-tell solved.0 solved.1).1 solved.2 ∙ ap (substitute solved.0) q_is))
    by-roots (Var v) q r_is q_is r_root q_root differ =
        solves-same (λ terms. Condition terms × (substitute terms (Var v) ≡ substitute terms q)) Met count (λ terms. (
          λ both. (both.0, (roots-tell terms both.0).0 (ap (substitute terms) r_is ∙ both.1 ∙ ap (substitute terms) (sym q_is))),
          λ both. (both.0, ap (substitute terms) (sym r_is) ∙ (roots-tell terms both.0).1 both.1 ∙ ap (substitute terms) q_is),
        )) (solves-bound Condition count before v q r_root q_root (λ e. differ (sym e)))
    by-roots (Obj m) (Var w) r_is q_is r_root q_root differ =
        solves-same (λ terms. Condition terms × (substitute terms (Var w) ≡ substitute terms (Obj m))) Met count (λ terms. (
          λ both. (both.0, (roots-tell terms both.0).0 (ap (substitute terms) r_is ∙ sym both.1 ∙ ap (substitute terms) (sym q_is))),
          λ both. (both.0, sym (ap (substitute terms) (sym r_is) ∙ (roots-tell terms both.0).1 both.1 ∙ ap (substitute terms) q_is)),
        )) (solves-bound Condition count before w (Obj m) q_root tt differ)
    by-roots (Obj m) WildCard r_is q_is r_root q_root differ = absurd q_root
    by-roots WildCard q r_is q_is r_root q_root differ = absurd r_root

    solves-terms : Solves Met count
    solves-terms =
        let r = substitute before.resolved s in
        let q = substitute before.resolved t in
        by (term_eq r q) refl
      where
        by : (b : Bool) → term_eq (substitute before.resolved s) (substitute before.resolved t) ≡ b → Solves Met count
        by true e = met-already ((term_eq-decides (substitute before.resolved s) (substitute before.resolved t)).0 e)
        by false e =
            by-roots (substitute before.resolved s) (substitute before.resolved t) refl refl (root-of s (plain s s_below))
            (root-of t (plain t t_below))
            (λ same. differ (sym ((term_eq-decides (substitute before.resolved s) (substitute before.resolved t)).1 same) ∙ e))
          where
            differ : ¬ (true ≡ false)
            differ f = cc

-- ---- the atoms of pairs are made equal

solves-args : (Condition : List Term → Type 0) (count : ℕ) → Solves Condition count → (xs ys : List Term) → All (IsPlainBelow count) xs
    → All (IsPlainBelow count) ys → (sigma : List Term) × Condition sigma × (map (substitute sigma) xs ≡ map (substitute sigma) ys)
    → Solves (λ terms. Condition terms × (map (substitute terms) xs ≡ map (substitute terms) ys)) count
solves-args Condition count before [] [] xs_below ys_below solved =
    solves-same Condition _ count (λ terms. ((λ holds. (holds, refl)), λ both. both.0)) before
solves-args Condition count before [] (y ∷ ys) xs_below ys_below solved = absurd (let e = solved.2 in cc)
solves-args Condition count before (x ∷ xs) [] xs_below ys_below solved = absurd (let e = solved.2 in cc)
solves-args Condition count before (x ∷ xs) (y ∷ ys) xs_below ys_below solved =
    let heads : (terms : List Term) → (map (substitute terms) (x ∷ xs) ≡ map (substitute terms) (y ∷ ys))
    → (substitute terms x ≡ substitute terms y) × (map (substitute terms) xs ≡ map (substitute terms) ys) =
    λ terms same. cons_same (substitute terms x) (substitute terms y) (map (substitute terms) xs) (map (substitute terms) ys) same in
    let here = heads solved.0 solved.2 in
    let first =
    solves-terms Condition count before x y (All-head (IsPlainBelow count) x xs xs_below) (All-head (IsPlainBelow count) y ys ys_below)
    (solved.0, solved.1, here.0) in
    let rest =
    solves-args (λ terms. Condition terms × (substitute terms x ≡ substitute terms y)) count first xs ys
    (All-tail (IsPlainBelow count) x xs xs_below) (All-tail (IsPlainBelow count) y ys ys_below)
    (solved.0, (solved.1, here.0), here.1) in
    solves-same (λ terms. (Condition terms × (substitute terms x ≡ substitute terms y))
    × (map (substitute terms) xs ≡ map (substitute terms) ys)) _ count (λ terms. (
      λ all. (all.0.0, λ i. all.0.1 i ∷ all.1 i),
      λ both. let parts = heads terms both.1 in ((both.0, parts.0), parts.1),
    )) rest

solves-pairs : (Condition : List Term → Type 0) (count : ℕ) → Solves Condition count → (pairs : List (Atom × Atom))
    → All (IsPlainPair count) pairs → (sigma : List Term) × Condition sigma × MakesEachEqual pairs sigma
    → Solves (λ terms. Condition terms × MakesEachEqual pairs terms) count
solves-pairs Condition count before [] below solved =
    solves-same Condition _ count (λ terms. ((λ holds. (holds, All-nil (MakesPairEqual terms))), λ both. both.0)) before
solves-pairs Condition count before (pair ∷ pairs) below solved =
    let sigma = solved.0 in
    let plain_pair = All-head (IsPlainPair count) pair pairs below in
    let here = All-head (MakesPairEqual sigma) pair pairs solved.2 in
    let pred : pair.0.pred ≡ pair.1.pred = ap (λ (atom : Atom). atom.pred) here in
    let args : map (substitute sigma) pair.0.args ≡ map (substitute sigma) pair.1.args = ap (λ (atom : Atom). atom.args) here in
    let first = solves-args Condition count before pair.0.args pair.1.args plain_pair.0 plain_pair.1 (sigma, solved.1, args) in
    let rest =
    solves-pairs (λ terms. Condition terms × (map (substitute terms) pair.0.args ≡ map (substitute terms) pair.1.args)) count first pairs
    (All-tail (IsPlainPair count) pair pairs below)
    (sigma, (solved.1, args), All-tail (MakesPairEqual sigma) pair pairs solved.2) in
    solves-same (λ terms. (Condition terms × (map (substitute terms) pair.0.args ≡ map (substitute terms) pair.1.args))
    × MakesEachEqual pairs terms) _ count (λ terms. (
      λ all. (all.0.0, All-cons (MakesPairEqual terms) pair pairs (λ i. record { pred = pred i; args = all.0.1 i }) all.1),
      λ both. (
        (both.0, ap (λ (atom : Atom). atom.args) (All-head (MakesPairEqual terms) pair pairs both.1)),
        All-tail (MakesPairEqual terms) pair pairs both.1,
      ),
    )) rest

-- pairs of which each can be made equal, all at once, have a most general solution
pub solution-there : (count : ℕ) (pairs : List (Atom × Atom)) → All (IsPlainPair count) pairs
    → (sigma : List Term) × MakesEachEqual pairs sigma → (resolved : List Term) × IsSolutionOf pairs count resolved
solution-there count pairs below solved =
    let all = solves-pairs Always count (solves-none count) pairs below (solved.0, tt, solved.1) in (
      all.resolved,
      (
        all.changes,
        record {
          solutions = all.solutions;
          fits = λ terms. ((λ fits. ((all.fits terms).0 fits).1), λ equal. (all.fits terms).1 (tt, equal));
          variables = all.variables;
          resolved_are = all.resolved_are;
        },
      ),
    )
