-- What closes a goal has the terms that the goal has, and new variables.
use Rattle.std.proofs.Common.{◌≡◌, ℕ, ◌+◌, ◌-◌, ◌≤◌, Bool, true, false, ◌&&◌, cond, Option, Some, None, List, [], ◌∷◌, ◌++◌, slice_get, refl, sym, ◌∙◌, arith}
use Rattle.std.specs.Prelude.{IsSomeAnd, remove, nat_eq}
use Rattle.std.specs.List.{AllByRecursion, list_any}
use Rattle.px_terms.specs.declared.atom.Atom.{Atom}
use Rattle.px_terms.specs.declared.clause.Clause.{Clause}
use Rattle.px_terms.specs.declared.clause.Lit.{Lit}
use Rattle.px_terms.specs.declared.term.Term.{Term}
use Rattle.px_terms.specs.Language.{substitute}
use Rattle.px_proof.specs.declared.shape.Tick.{Tick}
use Rattle.px_proof.specs.declared.shape.Tick.TheVariants.{Fact, Anc, Step, Gap, Open}
use Rattle.px_proof.specs.Literals.{substitute_literal, complement_of, positive_of}
use Rattle.px_base.specs.Answers.{some_same}
use Rattle.px_proof.specs.Proves.{IsObjectOrParameter, instance_of, parts_of}
use Rattle.px_question.specs.Settings.{Setting}
use Rattle.px_terms.specs.Substitution.{variables_from}
use Rattle.px_proof_walk.specs.Pending.{Goal, Closing, Pending, Solves, open_after, closing_at, fresh_of, variable_count_of, goals_below, by_fact, by_ancestor, by_literal, by_step, has_room}
use Rattle.px_proof_walk.specs.Scope.{IsClosingOf, HasGoalTerms, IsLitIn, IsLitOf, IsSetting}
use Rattle.px_proof_walk.proofs.Every.{all-at, all-both, all-mapped, all-removed, all-weaker}
use Rattle.px_proof_walk.proofs.Lifting.{open_after-step, variables_grow}

-- such terms for each number of variables: those for fewer are among those for more, and new variables are among those for as many
-- more
pub record AreTerms (objects : ℕ) (Over : ℕ → Term → Type 0) : Type 0 where
  pub more : (m n : ℕ) → m ≤ n → (t : Term) → Over m t → Over n t
  pub new : (first count : ℕ) (t : Term) → IsObjectOrParameter objects count t
      → Over (first + count) (substitute (variables_from first count) t)

module _ (objects : ℕ) (Over : ℕ → Term → Type 0) (terms : AreTerms objects Over) where
  pub lit-more_of : (m n : ℕ) → m ≤ n → (l : Lit) → IsLitOf (Over m) l → IsLitOf (Over n) l
  lit-more_of m n more l over = all-weaker (Over m) (Over n) l.atom.args (terms.more m n more) over

  pub goal-more_of : (m n : ℕ) → m ≤ n → (g : Goal) → HasGoalTerms (Over m) g → HasGoalTerms (Over n) g
  goal-more_of m n more g over =
      record {
        lit = lit-more_of m n more g.lit over.lit;
        path = all-weaker (IsLitOf (Over m)) (IsLitOf (Over n)) g.path (lit-more_of m n more) over.path;
      }

  pub new-lit_of : (first count : ℕ) (l : Lit) → IsLitIn objects count l
      → IsLitOf (Over (first + count)) (substitute_literal (variables_from first count) l)
  new-lit_of first count l within =
      all-mapped (IsObjectOrParameter objects count) (Over (first + count)) (substitute (variables_from first count)) l.atom.args
      (terms.new first count) within

-- a fact that the tick uses has such terms without variables
abbrev pub FactIsOver : Setting → (ℕ → Term → Type 0) → Tick → Type 0
FactIsOver s Over (Fact i) = (a : Atom) → slice_get s.facts i ≡ Some a → AllByRecursion (Over 0) a.args
FactIsOver s Over (Anc i) = Unit {0}
FactIsOver s Over (Step number place) = Unit {0}
FactIsOver s Over Gap = Unit {0}
FactIsOver s Over Open = Unit {0}

module _ (loose : Bool) (s : Setting) (valid : IsSetting s) (Over : ℕ → Term → Type 0) (terms : AreTerms s.objects Over) where
  module _ (n : ℕ) (goal : Goal) (over : HasGoalTerms (Over n) goal) where
    fact-over : (i : ℕ) (at : Option Atom) (closing : Closing) → slice_get s.facts i ≡ at → FactIsOver s Over (Fact i)
        → by_fact at ≡ Some closing → IsClosingOf (Over (n + 0)) closing
    fact-over i None closing e fact_in is = absurd (cc)
    fact-over i (Some a) closing e fact_in is =
        let same : record { equal_to = positive_of a; parts = [] } ≡ closing = some_same is in
        rw (← same) (record {
          equal_to = all-weaker (Over 0) (Over (n + 0)) a.args (terms.more 0 (n + 0) (omega arith)) (fact_in a e);
          parts = tt;
        })

    same-lit : IsLitOf (Over (n + 0)) goal.lit
    same-lit = lit-more_of s.objects Over terms n (n + 0) (omega arith) goal.lit over.lit

    ancestor-over : (i : ℕ) (at : Option Lit) (closing : Closing) → slice_get goal.path i ≡ at → by_ancestor at ≡ Some closing
        → IsClosingOf (Over (n + 0)) closing
    ancestor-over i None closing e is = absurd (cc)
    ancestor-over i (Some above) closing e is =
        let same : record { equal_to = complement_of above; parts = [] } ≡ closing = some_same is in
        rw (← same) (record {
          equal_to =
              lit-more_of s.objects Over terms n (n + 0) (omega arith) above (all-at (IsLitOf (Over n)) goal.path i above over.path e);
          parts = tt;
        })

    part-over : (m : ℕ) → n ≤ m → (l : Lit) → IsLitOf (Over m) l
        → HasGoalTerms (Over m) (record { lit = l; path = goal.lit ∷ goal.path; budget = goal.budget - 1 })
    part-over m more l lit =
        record {
          lit = lit;
          path = (
            lit-more_of s.objects Over terms n m more goal.lit over.lit,
            all-weaker (IsLitOf (Over n)) (IsLitOf (Over m)) goal.path (lit-more_of s.objects Over terms n m more) over.path,
          );
        }

    step-over : (number place : ℕ) (clause : Clause) (at : Option Lit) (closing : Closing) → slice_get s.axioms number ≡ Some clause
        → slice_get (instance_of clause.lits (variables_from n clause.variable_count)) place ≡ at
        → by_literal goal (parts_of clause.lits (variables_from n clause.variable_count) place) at ≡ Some closing
        → IsClosingOf (Over (n + clause.variable_count)) closing
    step-over number place clause None closing is e made = absurd (cc)
    step-over number place clause (Some lit) closing is e made =
        let all : AllByRecursion (IsLitOf (Over (n + clause.variable_count))) (instance_of clause.lits (variables_from n clause.variable_count)) =
        all-mapped (IsLitIn s.objects clause.variable_count) (IsLitOf (Over (n + clause.variable_count)))
        (substitute_literal (variables_from n clause.variable_count)) clause.lits (new-lit_of s.objects Over terms n clause.variable_count)
        (valid.clauses number clause is) in
        let same : record { equal_to = lit; parts = goals_below goal (parts_of clause.lits (variables_from n clause.variable_count) place) }
        ≡ closing = some_same made in
        rw (← same)
        (record {
          equal_to = all-at (IsLitOf (Over (n + clause.variable_count))) (instance_of clause.lits (variables_from n clause.variable_count)) place lit all e;
          parts =
              all-mapped (IsLitOf (Over (n + clause.variable_count))) (HasGoalTerms (Over (n + clause.variable_count)))
              (λ l. record { lit = l; path = goal.lit ∷ goal.path; budget = goal.budget - 1 })
              (parts_of clause.lits (variables_from n clause.variable_count) place) (part-over (n + clause.variable_count) (omega arith))
              (all-mapped (IsLitOf (Over (n + clause.variable_count))) (IsLitOf (Over (n + clause.variable_count))) complement_of
              (remove (instance_of clause.lits (variables_from n clause.variable_count)) place) (λ l h. h)
              (all-removed (IsLitOf (Over (n + clause.variable_count))) (instance_of clause.lits (variables_from n clause.variable_count)) place all));
        })

    clause-over : (number place : ℕ) (at : Option Clause) (closing : Closing) → slice_get s.axioms number ≡ at
        → by_step goal (variables_from n (variable_count_of at)) place at ≡ Some closing → IsClosingOf (Over (n + variable_count_of at)) closing
    clause-over number place None closing e made = absurd (cc)
    clause-over number place (Some clause) closing e made = by_room (has_room goal clause) made
      where
        by_room : (b : Bool) → cond b (by_literal goal (parts_of clause.lits (variables_from n clause.variable_count) place)
            (slice_get (instance_of clause.lits (variables_from n clause.variable_count)) place)) None ≡ Some closing
            → IsClosingOf (Over (n + clause.variable_count)) closing
        by_room false is = absurd (cc)
        by_room true is =
            step-over number place clause (slice_get (instance_of clause.lits (variables_from n clause.variable_count)) place) closing e refl is

    gap-over : (b : Bool) (closing : Closing) → cond b (Some (record { equal_to = goal.lit; parts = [] })) None ≡ Some closing
        → IsClosingOf (Over (n + 0)) closing
    gap-over false closing is = absurd (cc)
    gap-over true closing is =
        let same : record { equal_to = goal.lit; parts = [] } ≡ closing =
        some_same is in rw (← same) (record { equal_to = same-lit; parts = tt })

    pub closing-of_terms : (tick : Tick) (closing : Closing) → FactIsOver s Over tick → closing_at loose s n goal tick ≡ Some closing
        → IsClosingOf (Over (n + fresh_of s tick)) closing
    closing-of_terms (Fact i) closing fact_in is = fact-over i (slice_get s.facts i) closing refl fact_in is
    closing-of_terms (Anc i) closing fact_in is = ancestor-over i (slice_get goal.path i) closing refl is
    closing-of_terms (Step number place) closing fact_in is = clause-over number place (slice_get s.axioms number) closing refl is
    closing-of_terms Gap closing fact_in is =
        gap-over (loose && goal.lit.positive && list_any (nat_eq goal.lit.atom.pred) s.added) closing is
    closing-of_terms Open closing fact_in is = gap-over true closing is

  module _ (tau other : List Term) (most : ℕ)
      (moves : (m : ℕ) → m ≤ most → (a b : Lit) → IsLitOf (Over m) a → IsLitOf (Over m) b
      → substitute_literal tau a ≡ substitute_literal tau b → substitute_literal other a ≡ substitute_literal other b) where
    -- where literals of such terms that are one under tau are one under the other, it solves what tau solves
    pub solves-moved : (ticks : List Tick) (n : ℕ) (goals : List Goal) (p : Pending) → AllByRecursion (FactIsOver s Over) ticks
        → AllByRecursion (HasGoalTerms (Over n)) goals → open_after loose s n goals ticks ≡ Some p → p.variables ≤ most
        → Solves loose s tau n goals ticks → Solves loose s other n goals ticks
    solves-moved [] n goals p facts_in over ends long solves = tt
    solves-moved (tick ∷ ticks) n [] p facts_in over ends long solves = absurd solves
    solves-moved (tick ∷ ticks) n (goal ∷ goals) p facts_in over ends long solves =
        go (closing_at loose s n goal tick) refl solves
        (λ closing later. solves-moved ticks (n + fresh_of s tick) (closing.parts ++ goals) p facts_in.1 later)
      where
        go : (o : Option Closing) → closing_at loose s n goal tick ≡ o
            → IsSomeAnd o (λ closing. (substitute_literal tau goal.lit ≡ substitute_literal tau closing.equal_to)
            × Solves loose s tau (n + fresh_of s tick) (closing.parts ++ goals) ticks)
            → ((closing : Closing) → AllByRecursion (HasGoalTerms (Over (n + fresh_of s tick))) (closing.parts ++ goals)
            → open_after loose s (n + fresh_of s tick) (closing.parts ++ goals) ticks ≡ Some p → p.variables ≤ most
            → Solves loose s tau (n + fresh_of s tick) (closing.parts ++ goals) ticks
            → Solves loose s other (n + fresh_of s tick) (closing.parts ++ goals) ticks)
            → IsSomeAnd o (λ closing. (substitute_literal other goal.lit ≡ substitute_literal other closing.equal_to)
            × Solves loose s other (n + fresh_of s tick) (closing.parts ++ goals) ticks)
        go None is closes later = closes
        go (Some closing) is closes later =
            let ends_later = sym (open_after-step loose s n goal goals tick ticks closing is) ∙ ends in
            let grown = variables_grow loose s ticks (n + fresh_of s tick) (closing.parts ++ goals) p ends_later in
            let one = closing-of_terms n goal over.0 tick closing facts_in.0 is in (
              moves (n + fresh_of s tick) (omega (arith, grown, long)) goal.lit closing.equal_to
                  (lit-more_of s.objects Over terms n (n + fresh_of s tick) (omega arith) goal.lit over.0.lit) one.equal_to closes.0,
              later closing
                  (all-both (HasGoalTerms (Over (n + fresh_of s tick))) closing.parts goals one.parts
                  (all-weaker (HasGoalTerms (Over n)) (HasGoalTerms (Over (n + fresh_of s tick))) goals
                  (goal-more_of s.objects Over terms n (n + fresh_of s tick) (omega arith)) over.1))
                  ends_later long closes.1,
            )
