-- What is open after the ticks is over the problem's objects and the variables, and no further below the top than there are ticks.
use Rattle.std.proofs.Common.{◌≡◌, ℕ, zero, suc, ◌+◌, ◌<◌, ◌≤◌, Bool, true, false, ◌&&◌, cond, Option, Some, None, List, [], ◌∷◌, ◌++◌, length, slice_get, refl, ap, sym, ◌∙◌, arith}
use Rattle.std.specs.Prelude.{All, nat_eq}
use Rattle.std.specs.List.{AllByRecursion, list_any}
use Rattle.std.proofs.lemmas.List.Elements.{All-from_recursion}
use Rattle.px_base.specs.Answers.{some_same}
use Rattle.px_proof.specs.Proves.{IsObjectOrParameter, instance_of, parts_of}
use Rattle.px_proof.specs.declared.shape.Tick.{Tick}
use Rattle.px_proof.specs.declared.shape.Tick.TheVariants.{Fact, Anc, Step, Gap, Open}
use Rattle.px_question.specs.Settings.{Setting}
use Rattle.px_terms.specs.Language.{IsPlainBelow}
use Rattle.px_terms.specs.declared.atom.Atom.{Atom}
use Rattle.px_terms.specs.declared.clause.Clause.{Clause}
use Rattle.px_terms.specs.declared.clause.Lit.{Lit}
use Rattle.px_terms.specs.declared.term.Term.{Term}
use Rattle.px_terms.specs.declared.term.Term.TheVariants.{Obj, Var, Any}
use Rattle.px_terms.specs.Substitution.{variables_from}
use Rattle.px_proof_walk.specs.Pending.{Goal, Closing, Pending, open_after, closing_at, fresh_of, variable_count_of, goals_of, goals_below, by_fact, by_ancestor, by_literal, by_step, has_room}
use Rattle.px_proof_walk.specs.Scope.{IsSetting, IsLitIn, IsGoalIn}
use Rattle.px_proof_walk.proofs.Every.{all-both, all-weaker}
use Rattle.px_proof_walk.proofs.Lifting.{open_after-step}
use Rattle.px_proof_walk.proofs.Objects.{FactIsIn, closing-in, goal-more}

name-plain : (objects n : ℕ) (t : Term) → IsObjectOrParameter objects n t → IsPlainBelow n t
name-plain objects n (Obj o) h = tt
name-plain objects n (Var v) h = h
name-plain objects n Any h = h

pub lit-plain : (objects n : ℕ) (l : Lit) → IsLitIn objects n l → All (IsPlainBelow n) l.atom.args
lit-plain objects n l h =
    All-from_recursion (IsPlainBelow n) l.atom.args
    (all-weaker (IsObjectOrParameter objects n) (IsPlainBelow n) l.atom.args (name-plain objects n) h)

pub lits-plain : (objects n : ℕ) (ls : List Lit) → AllByRecursion (IsLitIn objects n) ls
    → All (λ (l : Lit). All (IsPlainBelow n) l.atom.args) ls
lits-plain objects n ls h =
    All-from_recursion (λ (l : Lit). All (IsPlainBelow n) l.atom.args) ls
    (all-weaker (IsLitIn objects n) (λ (l : Lit). All (IsPlainBelow n) l.atom.args) ls (lit-plain objects n) h)

module _ (loose : Bool) (s : Setting) (valid : IsSetting s) where
  -- the goals that are open have the problem's objects and the variables
  pub open-in : (ticks : List Tick) (n : ℕ) (goals : List Goal) (p : Pending) → AllByRecursion (FactIsIn s) ticks
      → AllByRecursion (IsGoalIn s.objects n) goals
      → open_after loose s n goals ticks ≡ Some p → AllByRecursion (IsGoalIn s.objects p.variables) p.goals
  open-in [] n goals p facts_in over ends =
      let same = some_same ends in
      let n_is : n ≡ p.variables = ap (λ (q : Pending). q.variables) same in
      let goals_is : goals ≡ p.goals = ap (λ (q : Pending). q.goals) same in
      rw (← n_is, ← goals_is) over
  open-in (tick ∷ ticks) n [] p facts_in over ends = absurd (cc)
  open-in (tick ∷ ticks) n (goal ∷ goals) p facts_in over ends =
      go (closing_at loose s n goal tick) refl (λ closing. open-in ticks (n + fresh_of s tick) (closing.parts ++ goals) p facts_in.1)
    where
      go : (o : Option Closing) → closing_at loose s n goal tick ≡ o
          → ((closing : Closing) → AllByRecursion (IsGoalIn s.objects (n + fresh_of s tick)) (closing.parts ++ goals)
          → open_after loose s (n + fresh_of s tick) (closing.parts ++ goals) ticks ≡ Some p
          → AllByRecursion (IsGoalIn s.objects p.variables) p.goals)
          → AllByRecursion (IsGoalIn s.objects p.variables) p.goals
      go None is later = absurd (let none = rw is at ends in cc)
      go (Some closing) is later =
          later closing
          (all-both (IsGoalIn s.objects (n + fresh_of s tick)) closing.parts goals
          (closing-in loose s valid n goal over.0 tick closing facts_in.0 is).parts
          (all-weaker (IsGoalIn s.objects n) (IsGoalIn s.objects (n + fresh_of s tick)) goals
          (goal-more s.objects n (n + fresh_of s tick) (omega arith)) over.1))
          (sym (open_after-step loose s n goal goals tick ticks closing is) ∙ ends)

  -- where there are variables there is an object
  pub object-there : (ticks : List Tick) (n : ℕ) (goals : List Goal) (p : Pending) → open_after loose s n goals ticks ≡ Some p
      → (0 < n → 0 < s.objects) → 0 < p.variables → 0 < s.objects
  object-there [] n goals p ends given some = given (rw (ap (λ (q : Pending). q.variables) (some_same ends)) some)
  object-there (tick ∷ ticks) n [] p ends given some = absurd (cc)
  object-there (tick ∷ ticks) n (goal ∷ goals) p ends given some =
      go (closing_at loose s n goal tick) refl (λ closing. object-there ticks (n + fresh_of s tick) (closing.parts ++ goals) p)
    where
      by_clause : (number : ℕ) (o : Option Clause) → slice_get s.axioms number ≡ o → 0 < variable_count_of o → 0 < s.objects
      by_clause number None is there = absurd (omega (arith, there))
      by_clause number (Some clause) is there = valid.some_object number clause is there

      new : (t : Tick) → 0 < fresh_of s t → 0 < s.objects
      new (Fact i) there = absurd (omega (arith, there))
      new (Anc i) there = absurd (omega (arith, there))
      new (Step number place) there = by_clause number (slice_get s.axioms number) refl there
      new Gap there = absurd (omega (arith, there))
      new Open there = absurd (omega (arith, there))

      either : (m k : ℕ) → (0 < m → 0 < s.objects) → (0 < k → 0 < s.objects) → 0 < m + k → 0 < s.objects
      either zero k f g there = g (omega (arith, there))
      either (suc m) k f g there = f (omega arith)

      go : (o : Option Closing) → closing_at loose s n goal tick ≡ o
          → ((closing : Closing) → open_after loose s (n + fresh_of s tick) (closing.parts ++ goals) ticks ≡ Some p
          → (0 < n + fresh_of s tick → 0 < s.objects) → 0 < p.variables → 0 < s.objects) → 0 < s.objects
      go None is later = absurd (let none = rw is at ends in cc)
      go (Some closing) is later =
          later closing (sym (open_after-step loose s n goal goals tick ticks closing is) ∙ ends)
          (either n (fresh_of s tick) given (new tick)) some

-- a goal has at most `k` literals above it
abbrev pub IsNear : ℕ → Goal → Type 0
IsNear k goal = length goal.path ≤ k

module _ (loose : Bool) (s : Setting) (n : ℕ) (goal : Goal) (k : ℕ) (near : IsNear k goal) where
  below-near : (lits : List Lit) → AllByRecursion (IsNear (suc k)) (goals_below goal lits)
  below-near [] = tt
  below-near (l ∷ lits) = (omega (arith, near), below-near lits)

  literal-near : (parts : List Lit) (o : Option Lit) (closing : Closing) → by_literal goal parts o ≡ Some closing
      → AllByRecursion (IsNear (suc k)) closing.parts
  literal-near parts None closing is = absurd (cc)
  literal-near parts (Some lit) closing is = let same = some_same is in rw (← same) (below-near parts)

  room-near : (b : Bool) (parts : List Lit) (o : Option Lit) (closing : Closing) → cond b (by_literal goal parts o) None ≡ Some closing
      → AllByRecursion (IsNear (suc k)) closing.parts
  room-near true parts o closing is = literal-near parts o closing is
  room-near false parts o closing is = absurd (cc)

  step-near : (theta : List Term) (place : ℕ) (o : Option Clause) (closing : Closing) → by_step goal theta place o ≡ Some closing
      → AllByRecursion (IsNear (suc k)) closing.parts
  step-near theta place None closing is = absurd (cc)
  step-near theta place (Some clause) closing is =
      room-near (has_room goal clause) (parts_of clause.lits theta place) (slice_get (instance_of clause.lits theta) place) closing is

  fact-near : (o : Option Atom) (closing : Closing) → by_fact o ≡ Some closing → AllByRecursion (IsNear (suc k)) closing.parts
  fact-near None closing is = absurd (cc)
  fact-near (Some a) closing is = let same = some_same is in rw (← same) tt

  ancestor-near : (o : Option Lit) (closing : Closing) → by_ancestor o ≡ Some closing → AllByRecursion (IsNear (suc k)) closing.parts
  ancestor-near None closing is = absurd (cc)
  ancestor-near (Some a) closing is = let same = some_same is in rw (← same) tt

  same-near : (b : Bool) (closing : Closing) → cond b (Some (record { equal_to = goal.lit; parts = [] })) None ≡ Some closing
      → AllByRecursion (IsNear (suc k)) closing.parts
  same-near true closing is = let same = some_same is in rw (← same) tt
  same-near false closing is = absurd (cc)

  closing-near : (tick : Tick) (closing : Closing) → closing_at loose s n goal tick ≡ Some closing
      → AllByRecursion (IsNear (suc k)) closing.parts
  closing-near (Fact i) closing is = fact-near (slice_get s.facts i) closing is
  closing-near (Anc i) closing is = ancestor-near (slice_get goal.path i) closing is
  closing-near (Step number place) closing is =
      step-near (variables_from n (variable_count_of (slice_get s.axioms number))) place (slice_get s.axioms number) closing is
  closing-near Gap closing is = same-near (loose && goal.lit.positive && list_any (nat_eq goal.lit.atom.pred) s.added) closing is
  closing-near Open closing is = same-near true closing is

module _ (loose : Bool) (s : Setting) where
  -- no open goal has more literals above it than there are ticks
  pub open-near : (ticks : List Tick) (n k : ℕ) (goals : List Goal) (p : Pending) → AllByRecursion (IsNear k) goals
      → open_after loose s n goals ticks ≡ Some p → AllByRecursion (IsNear (k + length ticks)) p.goals
  open-near [] n k goals p near ends =
      let goals_is : goals ≡ p.goals = ap (λ (q : Pending). q.goals) (some_same ends) in
      let e : k + 0 ≡ k = omega arith in
      rw (e, ← goals_is) near
  open-near (tick ∷ ticks) n k [] p near ends = absurd (cc)
  open-near (tick ∷ ticks) n k (goal ∷ goals) p near ends =
      go (closing_at loose s n goal tick) refl (λ closing. open-near ticks (n + fresh_of s tick) (suc k) (closing.parts ++ goals) p)
    where
      go : (o : Option Closing) → closing_at loose s n goal tick ≡ o
          → ((closing : Closing) → AllByRecursion (IsNear (suc k)) (closing.parts ++ goals)
          → open_after loose s (n + fresh_of s tick) (closing.parts ++ goals) ticks ≡ Some p
          → AllByRecursion (IsNear (suc k + length ticks)) p.goals)
          → AllByRecursion (IsNear (k + suc (length ticks))) p.goals
      go None is later = absurd (let none = rw is at ends in cc)
      go (Some closing) is later =
          let e : k + suc (length ticks) ≡ suc k + length ticks = omega arith in
          rw e (later closing
          (all-both (IsNear (suc k)) closing.parts goals (closing-near loose s n goal k near.0 tick closing is)
          (all-weaker (IsNear k) (IsNear (suc k)) goals (λ g h. omega (arith, h)) near.1))
          (sym (open_after-step loose s n goal goals tick ticks closing is) ∙ ends))

  pub goals-near : (formula : List Atom) → AllByRecursion (IsNear 0) (goals_of s formula)
  goals-near [] = tt
  goals-near (a ∷ formula) = (omega arith, goals-near formula)
