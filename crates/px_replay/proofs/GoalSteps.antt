-- The goal with other terms for its objects, one argument and one atom more.
use Rattle.std.specs.Prelude.{◌≡◌, ◌<◌, ◌≤◌, ◌+◌, ℕ, cond, List, [], ◌∷◌, ◌++◌, take, set, length, count_by, slice_index_or}
use Rattle.std.proofs.Common.{zero, suc, refl, sym, ap, ◌∙◌, arith, get_or}
use Rattle.std.proofs.lemmas.List.Sums.{sum_by-cons}
use Rattle.px_terms.specs.declared.atom.Atom.{Atom}
use Rattle.px_terms.specs.declared.term.Term.{Term}
use Rattle.px_terms.specs.declared.term.Term.TheVariants.{Obj, Var, Any as WildCard}
use Rattle.px_terms.specs.Substitution.{variables_from}
use Rattle.px_replay.specs.FreshVariables.{is_object}
use Rattle.px_replay.specs.Opened.{goal_objects, named_args, named_goal, named_term, opened_args, opened_goal}

abbrev pub objects_one : Term → ℕ
objects_one t = cond (is_object t) 1 0

pub objects-cons : (t : Term) (ts : List Term) → count_by is_object (t ∷ ts) ≡ objects_one t + count_by is_object ts
objects-cons t ts = sum_by-cons objects_one t ts

pub take-set : {X : Type 0} (xs : List X) (k : ℕ) (x : X) → k < length xs → take (k + 1) (set xs k x) ≡ take k xs ++ x ∷ []
take-set [] k x below = absurd (omega (arith, below))
take-set (y ∷ ys) zero x below =
    let a : zero + 1 ≡ suc zero = omega arith in
    ap (λ n. take n (x ∷ ys)) a
take-set (y ∷ ys) (suc k) x below =
    let a : suc k + 1 ≡ suc (k + 1) = omega arith in
    ap (λ n. take n (y ∷ set ys k x)) a ∙ ap (λ l. y ∷ l) (take-set ys k x (omega (arith, below)))

pub length-set : {X : Type 0} (xs : List X) (k : ℕ) (x : X) → length (set xs k x) ≡ length xs
length-set [] k x = refl
length-set (y ∷ ys) zero x = refl
length-set (y ∷ ys) (suc k) x = ap suc (length-set ys k x)

-- ---- arguments

pub named_args-cons : (names : List Term) (own first : ℕ) (t : Term) (ts : List Term)
    → named_args names own first (t ∷ ts) ≡ named_term names own first t ∷ named_args names own (first + objects_one t) ts
named_args-cons names own first (Obj n) ts = refl
named_args-cons names own first (Var v) ts =
    let same : first ≡ first + 0 = omega arith in
    ap (λ k. Var (own + v) ∷ named_args names own k ts) same
named_args-cons names own first WildCard ts =
    let same : first ≡ first + 0 = omega arith in
    ap (λ k. WildCard ∷ named_args names own k ts) same

pub named_args-more : (names : List Term) (own first k : ℕ) (args : List Term) (d : Term) → k < length args
    → named_args names own first (take (k + 1) args)
    ≡ named_args names own first (take k args) ++ named_term names own (first + count_by is_object (take k args)) (get_or args k d) ∷ []
named_args-more names own first k [] d below = absurd (omega (arith, below))
named_args-more names own first zero (t ∷ ts) d below =
    let a : zero + 1 ≡ suc zero = omega arith in
    let b : first ≡ first + count_by is_object [] = omega arith in
    ap (λ n. named_args names own first (take n (t ∷ ts))) a ∙ named_args-cons names own first t []
    ∙ ap (λ k. named_term names own k t ∷ []) b
named_args-more names own first (suc k) (t ∷ ts) d below =
    let a : suc k + 1 ≡ suc (k + 1) = omega arith in
    let later : ℕ = first + objects_one t in
    let b : later + count_by is_object (take k ts) ≡ first + count_by is_object (t ∷ take k ts) =
    omega (arith, objects-cons t (take k ts)) in
    ap (λ n. named_args names own first (take n (t ∷ ts))) a
    ∙ named_args-cons names own first t (take (k + 1) ts)
    ∙ ap (λ l. named_term names own first t ∷ l) (named_args-more names own later k ts d (omega (arith, below))
    ∙ ap (λ n. named_args names own later (take k ts) ++ named_term names own n (get_or ts k d) ∷ []) b)
    ∙ sym (ap (λ l. l ++ named_term names own (first + count_by is_object (t ∷ take k ts)) (get_or ts k d) ∷ [])
    (named_args-cons names own first t (take k ts)))

pub objects-more : (args : List Term) (k : ℕ) (d : Term) → k < length args
    → count_by is_object (take (k + 1) args) ≡ count_by is_object (take k args) + objects_one (get_or args k d)
objects-more [] k d below = absurd (omega (arith, below))
objects-more (t ∷ ts) zero d below =
    let a : zero + 1 ≡ suc zero = omega arith in
    ap (λ n. count_by is_object (take n (t ∷ ts))) a ∙ omega (arith, objects-cons t [])
objects-more (t ∷ ts) (suc k) d below =
    let a : suc k + 1 ≡ suc (k + 1) = omega arith in
    ap (λ n. count_by is_object (take n (t ∷ ts))) a
    ∙ omega (arith, objects-cons t (take (k + 1) ts), objects-cons t (take k ts), objects-more ts k d (omega (arith, below)))

-- ---- atoms

abbrev pub objects_of : Atom → ℕ
objects_of atom = count_by is_object atom.args

pub named_goal-more : (names : List Term) (own first k : ℕ) (goal : List Atom) (d : Atom) → k < length goal
    → named_goal names own first (take (k + 1) goal)
    ≡ named_goal names own first (take k goal)
    ++ record { pred = (get_or goal k d).pred; args = named_args names own (first + goal_objects (take k goal)) (get_or goal k d).args }
    ∷ []
named_goal-more names own first k [] d below = absurd (omega (arith, below))
named_goal-more names own first zero (a ∷ goal) d below =
    let one : zero + 1 ≡ suc zero = omega arith in
    let b : first ≡ first + goal_objects [] = omega arith in
    ap (λ n. named_goal names own first (take n (a ∷ goal))) one
    ∙ ap (λ n. record { pred = a.pred; args = named_args names own n a.args } ∷ []) b
named_goal-more names own first (suc k) (a ∷ goal) d below =
    let one : suc k + 1 ≡ suc (k + 1) = omega arith in
    let b : first + objects_of a + goal_objects (take k goal) ≡ first + goal_objects (a ∷ take k goal) =
    omega (arith, sum_by-cons objects_of a (take k goal)) in
    ap (λ n. named_goal names own first (take n (a ∷ goal))) one
    ∙ ap (λ l. record { pred = a.pred; args = named_args names own first a.args } ∷ l)
    (named_goal-more names own (first + objects_of a) k goal d (omega (arith, below))
    ∙ ap (λ n. named_goal names own (first + objects_of a) (take k goal)
    ++ record { pred = (get_or goal k d).pred; args = named_args names own n (get_or goal k d).args } ∷ []) b)

-- ---- with variables for the objects

pub read-variable : (first count k : ℕ) → k < count → slice_index_or (variables_from first count) k WildCard ≡ Var (first + k)
read-variable first zero k below = absurd (omega (arith, below))
read-variable first (suc count) zero below = ap Var (omega arith)
read-variable first (suc count) (suc k) below = read-variable (suc first) count k (omega (arith, below)) ∙ ap Var (omega arith)

args-opened : (own first : ℕ) (args : List Term) → first + count_by is_object args ≤ own
    → named_args (variables_from 0 own) own first args ≡ opened_args first own args
args-opened own first [] within = refl
args-opened own first (Obj n ∷ ts) within =
    let counted = objects-cons (Obj n) ts in
    let read : slice_index_or (variables_from 0 own) first WildCard ≡ Var first =
    read-variable 0 own first (omega (arith, within, counted)) ∙ ap Var (omega arith) in
    ap (λ t. t ∷ named_args (variables_from 0 own) own (first + 1) ts) read
    ∙ ap (λ l. Var first ∷ l) (args-opened own (first + 1) ts (omega (arith, within, counted)))
args-opened own first (Var v ∷ ts) within =
    ap (λ l. Var (own + v) ∷ l) (args-opened own first ts (omega (arith, within, objects-cons (Var v) ts)))
args-opened own first (WildCard ∷ ts) within =
    ap (λ l. WildCard ∷ l) (args-opened own first ts (omega (arith, within, objects-cons WildCard ts)))

-- with variables in order for the objects it is the opened goal
pub goal-opened : (own first : ℕ) (goal : List Atom) → first + goal_objects goal ≤ own
    → named_goal (variables_from 0 own) own first goal ≡ opened_goal first own goal
goal-opened own first [] within = refl
goal-opened own first (a ∷ goal) within =
    let counted = sum_by-cons objects_of a goal in
    ap (λ args. record { pred = a.pred; args = args } ∷ named_goal (variables_from 0 own) own (first + objects_of a) goal)
    (args-opened own first a.args (omega (arith, within, counted)))
    ∙ ap (λ l. record { pred = a.pred; args = opened_args first own a.args } ∷ l)
    (goal-opened own (first + objects_of a) goal (omega (arith, within, counted)))
