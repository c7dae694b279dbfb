-- Goals speak only of objects of the problem, so each solution gives one by objects of the problem.
use Rattle.std.proofs.Common.{◌≡◌, ℕ, zero, suc, ◌+◌, ◌<◌, ◌≤◌, Bool, true, false, cond, Some, List, [], ◌∷◌, length, map, replicate, slice_index_or, refl, ap, sym, ◌∙◌, arith}
use Rattle.std.specs.Prelude.{nat_lt}
use Rattle.std.specs.List.{AllByRecursion}
use Rattle.std.proofs.lemmas.List.{length-replicate}
use Rattle.std.proofs.lemmas.List.Elements.{All-from_recursion}
use Rattle.px_terms.specs.declared.atom.Atom.{Atom}
use Rattle.px_terms.specs.declared.clause.Lit.{Lit}
use Rattle.px_terms.specs.declared.term.Term.{Term}
use Rattle.px_terms.specs.declared.term.Term.TheVariants.{Obj, Var, Any}
use Rattle.px_terms.specs.Language.{substitute}
use Rattle.px_proof.specs.declared.shape.Tick.{Tick}
use Rattle.px_proof.specs.Literals.{substitute_literal}
use Rattle.px_proof.specs.Proves.{IsObjectOrParameter}
use Rattle.px_unify.specs.declared.change.Change.{Change}
use Rattle.px_unify.specs.Changes.{HasSolutions, variables_of}
use Rattle.px_question.specs.Answers.{object_terms}
use Rattle.px_question.specs.Settings.{Setting}
use Rattle.px_terms.specs.Substitution.{variables_from}
use Rattle.px_proof_walk.specs.Pending.{Goal, Closing, Pending, Solves, IsFeasible, open_after, closing_at, fresh_of, goals_of}
use Rattle.px_proof_walk.specs.Scope.{IsAtomIn, IsClosingOf, IsGoalIn, IsLitIn, IsSetting}
use Rattle.px_proof_walk.proofs.Attempts.{AreMatched}
use Rattle.px_proof_walk.proofs.Closings.{AreTerms, FactIsOver, closing-of_terms, goal-more_of, lit-more_of, new-lit_of, solves-moved}

pub term-more : (objects m n : ℕ) → m ≤ n → (t : Term) → IsObjectOrParameter objects m t → IsObjectOrParameter objects n t
term-more objects m n more (Obj o) within = within
term-more objects m n more (Var v) within = omega (arith, more, within)
term-more objects m n more Any within = within

pub new-term : (objects first count : ℕ) (t : Term) → IsObjectOrParameter objects count t
    → IsObjectOrParameter objects (first + count) (substitute (variables_from first count) t)
new-term objects first count (Obj o) within = within
new-term objects first count Any within = within
new-term objects first count (Var v) within = go first count v within
  where
    go : (first count v : ℕ) → v < count → IsObjectOrParameter objects (first + count) (slice_index_or (variables_from first count) v Any)
    go first zero v within = absurd (omega (arith, within))
    go first (suc count) zero within = omega arith
    go first (suc count) (suc v) within =
        let e : first + suc count ≡ suc first + count = omega arith in rw e (go (suc first) count v (omega (arith, within)))

-- objects of the problem, and variables below the number
pub names : (objects : ℕ) → AreTerms objects (IsObjectOrParameter objects)
names objects = record { more = term-more objects; new = new-term objects }

pub lit-more : (objects m n : ℕ) → m ≤ n → (l : Lit) → IsLitIn objects m l → IsLitIn objects n l
lit-more objects = lit-more_of objects (IsObjectOrParameter objects) (names objects)

pub goal-more : (objects m n : ℕ) → m ≤ n → (g : Goal) → IsGoalIn objects m g → IsGoalIn objects n g
goal-more objects = goal-more_of objects (IsObjectOrParameter objects) (names objects)

pub new-lit : (objects first count : ℕ) (l : Lit) → IsLitIn objects count l
    → IsLitIn objects (first + count) (substitute_literal (variables_from first count) l)
new-lit objects = new-lit_of objects (IsObjectOrParameter objects) (names objects)

-- a fact that a tick uses has objects of the problem alone
abbrev pub FactIsIn : Setting → Tick → Type 0
FactIsIn s = FactIsOver s (IsObjectOrParameter s.objects)

abbrev pub IsClosingIn : ℕ → ℕ → Closing → Type 0
IsClosingIn objects n = IsClosingOf (IsObjectOrParameter objects n)

pub closing-in : (loose : Bool) (s : Setting) → IsSetting s → (n : ℕ) (goal : Goal) → IsGoalIn s.objects n goal
    → (tick : Tick) (closing : Closing) → FactIsIn s tick → closing_at loose s n goal tick ≡ Some closing
    → IsClosingIn s.objects (n + fresh_of s tick) closing
closing-in loose s valid = closing-of_terms loose s valid (IsObjectOrParameter s.objects) (names s.objects)

-- an object of the problem for each term
abbrev pub object_at : ℕ → Term → ℕ
object_at objects (Obj o) = cond (nat_lt o objects) o 0
object_at objects (Var v) = 0
object_at objects Any = 0

object-kept : (objects o : ℕ) → o < objects → cond (nat_lt o objects) o 0 ≡ o
object-kept objects o within = let e : nat_lt o objects ≡ true = grind (arith, within) in rw e refl

pub term-projected : (objects : ℕ) (tau : List Term) (n : ℕ) → n ≤ length tau → (t : Term) → IsObjectOrParameter objects n t
    → substitute (object_terms (map (object_at objects) tau)) t ≡ Obj (object_at objects (substitute tau t))
term-projected objects tau n long (Obj o) within = ap (λ (k : ℕ). Obj k) (sym (object-kept objects o within))
term-projected objects tau n long Any within = absurd within
term-projected objects tau n long (Var v) within = go tau v (omega (arith, long, within))
  where
    go : (tau : List Term) (v : ℕ) → v < length tau
        → slice_index_or (object_terms (map (object_at objects) tau)) v Any ≡ Obj (object_at objects (slice_index_or tau v Any))
    go [] v inside = absurd (omega (arith, inside))
    go (t ∷ tau) zero inside = refl
    go (t ∷ tau) (suc v) inside = go tau v (omega (arith, inside))

args-projected : (objects : ℕ) (tau : List Term) (n : ℕ) → n ≤ length tau → (ts : List Term)
    → AllByRecursion (IsObjectOrParameter objects n) ts
    → map (substitute (object_terms (map (object_at objects) tau))) ts ≡ map (λ t. Obj (object_at objects t)) (map (substitute tau) ts)
args-projected objects tau n long [] within = refl
args-projected objects tau n long (t ∷ ts) within =
    rw (term-projected objects tau n long t within.0, args-projected objects tau n long ts within.1) refl

lit_as : ℕ → Lit → Lit
lit_as objects l =
    record { positive = l.positive; atom = record { pred = l.atom.pred; args = map (λ t. Obj (object_at objects t)) l.atom.args } }

lit-projected : (objects : ℕ) (tau : List Term) (n : ℕ) → n ≤ length tau → (l : Lit) → IsLitIn objects n l
    → substitute_literal (object_terms (map (object_at objects) tau)) l ≡ lit_as objects (substitute_literal tau l)
unfolding lit_as
lit-projected objects tau n long l within = rw (args-projected objects tau n long l.atom.args within) refl

pub projected-below : (objects : ℕ) → 0 < objects → (tau : List Term) → AllByRecursion (λ o. o < objects) (map (object_at objects) tau)
projected-below objects some [] = tt
projected-below objects some (t ∷ tau) = (here t, projected-below objects some tau)
  where
    by_test : (o : ℕ) (b : Bool) → nat_lt o objects ≡ b → cond b o 0 < objects
    by_test o true is = grind (arith, is)
    by_test o false is = some

    here : (t : Term) → object_at objects t < objects
    here (Obj o) = by_test o (nat_lt o objects) refl
    here (Var v) = some
    here Any = some

module _ (loose : Bool) (s : Setting) (valid : IsSetting s) (tau : List Term) where
  -- whatever terms solve, objects of the problem solve
  pub solves-objects : (ticks : List Tick) (n : ℕ) (goals : List Goal) (p : Pending) → AllByRecursion (FactIsIn s) ticks
      → AllByRecursion (IsGoalIn s.objects n) goals → open_after loose s n goals ticks ≡ Some p → p.variables ≤ length tau
      → Solves loose s tau n goals ticks → Solves loose s (object_terms (map (object_at s.objects) tau)) n goals ticks
  solves-objects =
      solves-moved loose s valid (IsObjectOrParameter s.objects) (names s.objects) tau (object_terms (map (object_at s.objects) tau))
      (length tau)
      (λ m long a b a_over b_over same. lit-projected s.objects tau m long a a_over ∙ ap (lit_as s.objects) same
      ∙ sym (lit-projected s.objects tau m long b b_over))

pub all-below : (objects : ℕ) (tau : List Term) → (0 < length tau → 0 < objects)
    → AllByRecursion (λ o. o < objects) (map (object_at objects) tau)
all-below objects [] some = tt
all-below objects (t ∷ tau) some = projected-below objects (some (omega arith)) (t ∷ tau)

pub length-projected : (objects : ℕ) (tau : List Term) → length (map (object_at objects) tau) ≡ length tau
length-projected objects [] = refl
length-projected objects (t ∷ tau) = ap suc (length-projected objects tau)

-- the goals of a formula have objects of the problem and its variables
pub goals-in : (s : Setting) (variable_count : ℕ) (formula : List Atom) → AllByRecursion (IsAtomIn s.objects variable_count) formula
    → AllByRecursion (IsGoalIn s.objects variable_count) (goals_of s formula)
goals-in s variable_count [] within = tt
goals-in s variable_count (a ∷ formula) within = (record { lit = within.0; path = tt }, goals-in s variable_count formula within.1)

-- bindings that fit some substitution fit objects of the problem: the ticks are feasible
pub feasible-from_bindings : (loose : Bool) (s : Setting) (formula : List Atom) (variable_count : ℕ) (ticks : List Tick) (p : Pending)
    (changes : List Change) → IsSetting s → AllByRecursion (IsAtomIn s.objects variable_count) formula
    → AllByRecursion (FactIsIn s) ticks → open_after loose s variable_count (goals_of s formula) ticks ≡ Some p → p.variables ≡ variables_of changes
    → AreMatched loose s formula variable_count ticks changes → HasSolutions changes → (0 < p.variables → 0 < s.objects)
    → IsFeasible loose s formula variable_count ticks
feasible-from_bindings loose s formula variable_count ticks p changes valid scoped facts_in now count matched solvable some =
    let found = solvable (replicate (variables_of changes) (Obj 0)) (length-replicate (variables_of changes) (Obj 0)) in
    let long : p.variables ≤ length found.0 = omega (arith, count, found.1) in
    let solves = (matched found.0).0 found.2 in
    let given : 0 < length found.0 → 0 < s.objects = λ h. some (omega (arith, h, count, found.1)) in (
      p,
      now,
      (
        map (object_at s.objects) found.0,
        omega (arith, long, length-projected s.objects found.0),
        All-from_recursion (λ o. o < s.objects) (map (object_at s.objects) found.0) (all-below s.objects found.0 given),
        solves-objects loose s valid found.0 ticks variable_count (goals_of s formula) p facts_in (goals-in s variable_count formula scoped) now long solves,
      ),
    )
