-- Goals speak only of the variables so far, so a solution is read only so far.
use Rattle.std.proofs.Common.{◌≡◌, ℕ, zero, suc, ◌+◌, ◌<◌, ◌≤◌, Bool, Some, List, [], ◌∷◌, ◌++◌, length, map, slice_index_or, refl, sym, ◌∙◌, arith}
use Rattle.std.specs.List.{AllByRecursion}
use Rattle.px_terms.specs.declared.atom.Atom.{Atom}
use Rattle.px_terms.specs.declared.clause.Lit.{Lit}
use Rattle.px_terms.specs.declared.term.Term.{Term}
use Rattle.px_terms.specs.declared.term.Term.TheVariants.{Obj, Var, Any}
use Rattle.px_terms.specs.Language.{substitute, IsObject, IsPlainBelow}
use Rattle.px_proof.specs.declared.shape.Tick.{Tick}
use Rattle.px_proof.specs.declared.shape.Tick.TheVariants.{Fact, Anc, Step, Gap, Open}
use Rattle.px_proof.specs.Literals.{substitute_literal}
use Rattle.px_proof.specs.Proves.{IsObjectOrParameter}
use Rattle.px_question.specs.Settings.{Setting}
use Rattle.px_terms.specs.Substitution.{variables_from}
use Rattle.px_proof_walk.specs.Pending.{Goal, Closing, Pending, Solves, open_after, closing_at, fresh_of, goals_of}
use Rattle.px_proof_walk.specs.Scope.{IsAtomIn, IsClosingOf, HasGoalTerms, IsLitOf, IsSetting}
use Rattle.px_proof_walk.proofs.Closings.{AreTerms, FactIsOver, closing-of_terms, solves-moved}
use Rattle.px_proof_walk.proofs.Every.{all-weaker}

abbrev pub IsLitOver : ℕ → Lit → Type 0
IsLitOver n = IsLitOf (IsPlainBelow n)

abbrev pub IsGoalOver : ℕ → Goal → Type 0
IsGoalOver n = HasGoalTerms (IsPlainBelow n)

term-more : (m n : ℕ) → m ≤ n → (t : Term) → IsPlainBelow m t → IsPlainBelow n t
term-more m n more (Obj o) below = tt
term-more m n more (Var v) below = omega (arith, more, below)
term-more m n more Any below = below

ground-below : (n : ℕ) (t : Term) → IsObject t → IsPlainBelow n t
ground-below n (Obj o) is_object = tt
ground-below n (Var v) is_object = absurd is_object
ground-below n Any is_object = is_object

pub scoped-below : (objects n : ℕ) (t : Term) → IsObjectOrParameter objects n t → IsPlainBelow n t
scoped-below objects n (Obj o) within = tt
scoped-below objects n (Var v) within = within
scoped-below objects n Any within = within

new-term : (objects first count : ℕ) (t : Term) → IsObjectOrParameter objects count t
    → IsPlainBelow (first + count) (substitute (variables_from first count) t)
new-term objects first count (Obj o) within = tt
new-term objects first count Any within = within
new-term objects first count (Var v) within = go first count v within
  where
    go : (first count v : ℕ) → v < count → IsPlainBelow (first + count) (slice_index_or (variables_from first count) v Any)
    go first zero v within = absurd (omega (arith, within))
    go first (suc count) zero within = omega arith
    go first (suc count) (suc v) within =
        let e : first + suc count ≡ suc first + count = omega arith in rw e (go (suc first) count v (omega (arith, within)))

-- objects, and variables below the number
pub plain-terms : (objects : ℕ) → AreTerms objects IsPlainBelow
plain-terms objects = record { more = term-more; new = new-term objects }

module _ (s : Setting) (valid : IsSetting s) where
  facts-plain : (tick : Tick) → FactIsOver s IsPlainBelow tick
  facts-plain (Fact i) = λ a e. all-weaker IsObject (IsPlainBelow 0) a.args (ground-below 0) (valid.facts i a e)
  facts-plain (Anc i) = tt
  facts-plain (Step number place) = tt
  facts-plain Gap = tt
  facts-plain Open = tt

  all-plain : (ticks : List Tick) → AllByRecursion (FactIsOver s IsPlainBelow) ticks
  all-plain [] = tt
  all-plain (tick ∷ ticks) = (facts-plain tick, all-plain ticks)

  pub closing-over : (loose : Bool) (n : ℕ) (goal : Goal) → IsGoalOver n goal → (tick : Tick) (closing : Closing)
      → closing_at loose s n goal tick ≡ Some closing → IsClosingOf (IsPlainBelow (n + fresh_of s tick)) closing
  closing-over loose n goal over tick closing is =
      closing-of_terms loose s valid IsPlainBelow (plain-terms s.objects) n goal over tick closing (facts-plain tick) is

-- a term over the first variables doesn't read the later ones
pub term-prefix : (xs ys : List Term) (n : ℕ) → n ≤ length xs → (t : Term) → IsPlainBelow n t → substitute (xs ++ ys) t ≡ substitute xs t
term-prefix xs ys n long (Obj o) below = refl
term-prefix xs ys n long Any below = refl
term-prefix xs ys n long (Var v) below = go xs v (omega (arith, long, below))
  where
    go : (xs : List Term) (v : ℕ) → v < length xs → slice_index_or (xs ++ ys) v Any ≡ slice_index_or xs v Any
    go [] v within = absurd (omega (arith, within))
    go (x ∷ xs) zero within = refl
    go (x ∷ xs) (suc v) within = go xs v (omega (arith, within))

pub args-prefix : (xs ys : List Term) (n : ℕ) → n ≤ length xs → (ts : List Term) → AllByRecursion (IsPlainBelow n) ts
    → map (substitute (xs ++ ys)) ts ≡ map (substitute xs) ts
args-prefix xs ys n long [] over = refl
args-prefix xs ys n long (t ∷ ts) over = rw (term-prefix xs ys n long t over.0, args-prefix xs ys n long ts over.1) refl

pub lit-prefix : (xs ys : List Term) (n : ℕ) → n ≤ length xs → (l : Lit) → IsLitOver n l
    → substitute_literal (xs ++ ys) l ≡ substitute_literal xs l
lit-prefix xs ys n long l over = rw (args-prefix xs ys n long l.atom.args over) refl

module _ (loose : Bool) (s : Setting) (valid : IsSetting s) (xs ys : List Term) where
  -- a solution's front solves, as far as there are variables
  pub solves-extended : (ticks : List Tick) (n : ℕ) (goals : List Goal) (p : Pending) → AllByRecursion (IsGoalOver n) goals
      → open_after loose s n goals ticks ≡ Some p → p.variables ≤ length xs
      → Solves loose s (xs ++ ys) n goals ticks → Solves loose s xs n goals ticks
  solves-extended ticks n goals p over =
      solves-moved loose s valid IsPlainBelow (plain-terms s.objects) (xs ++ ys) xs (length xs)
      (λ m long a b a_over b_over same. sym (lit-prefix xs ys m long a a_over) ∙ same ∙ lit-prefix xs ys m long b b_over)
      ticks n goals p (all-plain s valid ticks) over

-- the goals of a formula are over its variables
pub goals-over : (s : Setting) (variable_count : ℕ) (formula : List Atom) → AllByRecursion (IsAtomIn s.objects variable_count) formula
    → AllByRecursion (IsGoalOver variable_count) (goals_of s formula)
goals-over s variable_count [] scoped = tt
goals-over s variable_count (a ∷ formula) scoped = (
  record {
    lit = all-weaker (IsObjectOrParameter s.objects variable_count) (IsPlainBelow variable_count) a.args (scoped-below s.objects variable_count) scoped.0;
    path = tt;
  },
  goals-over s variable_count formula scoped.1,
)
