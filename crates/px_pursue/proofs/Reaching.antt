-- A pursuit that ends in the goal ends where the goal holds.
use Rattle.std.specs.Prelude.{◌≡◌, ℕ, true, false, ◌<◌, ◌≤◌, ◌+◌, ◌-◌, List, [], ◌∷◌, map, drop, length, slice_index_or, All, Contains}
use Rattle.std.proofs.Common.{zero, suc, refl, sym, ap, ◌∙◌, subst, inl, inr, arith}
use Rattle.std.proofs.lemmas.List.{length-map}
use Rattle.std.proofs.lemmas.List.Elements.{All-head, All-tail}
use Rattle.px_base.specs.ListLaws.{All-at, All-each}
use Rattle.px_terms.specs.declared.atom.Atom.{Atom}
use Rattle.px_terms.specs.declared.instance.OpInst.{OpInst}
use Rattle.px_terms.specs.declared.problem.Problem.{Problem}
use Rattle.px_terms.specs.declared.term.Term.{Term}
use Rattle.px_terms.specs.declared.term.Term.TheVariants.{Obj, Var, Any}
use Rattle.px_terms.specs.Language.{substitute}
use Rattle.px_terms.specs.Plans.{Carries}
use Rattle.px_terms.specs.States.{Holds, State}
use Rattle.px_terms.specs.Substitution.{substitute_atom, variables_from}
use Rattle.px_terms.specs.Validity.{IsAtomOf, IsTermOf}
use Rattle.px_table.specs.declared.table.Table.{Table}
use Rattle.px_table.specs.KernelLaws.{kernels_carry}
use Rattle.px_table.specs.Kernels.{goal_under, instance_under, kernel_under, steps_under}
use Rattle.px_table.specs.Tables.{IsTable}
use Rattle.px_ends.specs.Tasks.{task_of}
use Rattle.px_match.specs.Matching.{KernelFits}
use Rattle.px_planex.specs.declared.event.Outcome.{Outcome}
use Rattle.px_planex.specs.declared.event.Outcome.TheVariants.{Disturbed, Sensed, Acted, Slipped, Goal, NoKernel, NotSensed}
use Rattle.px_planex.specs.declared.event.Event.TheVariants.{Sense}
use Rattle.px_planex.specs.Execution.{Happens, Running}
use Rattle.px_planex.specs.Turns.{AtGoal, AtNoKernel, ByActing, BySlipping, EndsTurn, Recorded, TakesTurns, TurnValue, disturbed_by, edits_at}
use Rattle.px_turns.specs.Told.{EndsRun}
use Rattle.px_pursue.specs.PursuitLaws.{GoalsAreReached}
use Rattle.px_pursue.proofs.FoundTables.{found-table, searchable-from}

-- ---- the goal without objects

read_variable : (first count k v : ℕ) → k < count → v ≡ first + k → slice_index_or (variables_from first count) k Any ≡ Var v
read_variable first zero k v below is = absurd (omega (arith, below))
read_variable first (suc count) zero v below is = ap Var (let e : first ≡ v = omega (arith, is) in e)
read_variable first (suc count) (suc k) v below is = read_variable (suc first) count k v (omega (arith, below)) (omega (arith, is))

own-term : (problem : Problem) (variable_count : ℕ) (t : Term) → IsTermOf problem variable_count t → substitute (variables_from 0 variable_count) t ≡ t
own-term problem variable_count (Obj n) of = refl
own-term problem variable_count (Var v) of = read_variable 0 variable_count v v of (omega arith)
own-term problem variable_count Any of = elim of [ ]

own-terms : (problem : Problem) (variable_count : ℕ) (args : List Term) → All (IsTermOf problem variable_count) args
    → map (substitute (variables_from 0 variable_count)) args ≡ args
own-terms problem variable_count [] of = refl
own-terms problem variable_count (t ∷ args) of =
    let one = own-term problem variable_count t (All-head (IsTermOf problem variable_count) t args of) in
    let rest = own-terms problem variable_count args (All-tail (IsTermOf problem variable_count) t args of) in
    λ i. one i ∷ rest i

own-atoms : (problem : Problem) (variable_count : ℕ) (goal : List Atom) → All (IsAtomOf problem variable_count) goal
    → map (substitute_atom (variables_from 0 variable_count)) goal ≡ goal
own-atoms problem variable_count [] of = refl
own-atoms problem variable_count (atom ∷ goal) of =
    let terms = own-terms problem variable_count atom.args (All-head (IsAtomOf problem variable_count) atom goal of).1 in
    let rest = own-atoms problem variable_count goal (All-tail (IsAtomOf problem variable_count) atom goal of) in
    λ i. (record { pred = atom.pred; args = terms i }) ∷ rest i

none_left : {A : Type 0} (xs : List A) (n : ℕ) → length xs ≤ n → drop n xs ≡ []
none_left [] zero less = refl
none_left [] (suc n) less = refl
none_left (x ∷ xs) zero less = absurd (omega (arith, less))
none_left (x ∷ xs) (suc n) less = none_left xs n (omega (arith, less))

-- what some facts carry, more facts carry
carries_more : (problem : Problem) (facts more : List Atom) (steps : List OpInst) (variable_count : ℕ) (goal : List Atom)
    → All (Contains more) facts → Carries problem facts steps variable_count goal → Carries problem more steps variable_count goal
carries_more problem facts more steps variable_count goal among carries =
    let fewer : (state : State) → All (Holds state) more → All (Holds state) facts =
    λ state hold. All-each (Holds state) facts
    (λ atom has. All-at (Holds state) more atom hold (All-at (Contains more) facts atom among has)) in
    record {
      meets = λ state later run hold. carries.meets state later run (fewer state hold);
      ends = λ state later run hold whole. carries.ends state later run (fewer state hold) whole;
    }

-- ---- the last turn

module _ {E : Type 0} (leaves : E → List Atom → List Atom) (p : Problem) (t : Table) (bound : List (ℕ × ℕ))
    (recorded : List (Recorded E)) where
  abbrev AtLast : List Atom → Type 0
  AtLast atoms = (objects : List ℕ) × KernelFits p t bound atoms (length t.steps + 1) objects

  goal_turn : (between : List E) (old sensed mid : Running) (turn : TurnValue) (outcome : Outcome)
      → Happens leaves p t bound old Sense outcome sensed → EndsTurn leaves p t bound between sensed outcome turn mid → turn.end ≡ AtGoal
      → AtLast mid.atoms
  goal_turn between old sensed mid turn Disturbed senses takes is = absurd senses
  goal_turn between old sensed mid turn Acted senses takes is = absurd senses
  goal_turn between old sensed mid turn Slipped senses takes is = absurd senses
  goal_turn between old sensed mid turn NotSensed senses takes is = absurd senses
  goal_turn between old sensed mid turn NoKernel senses takes is =
      let e : AtNoKernel ≡ AtGoal = sym (ap (λ (t : TurnValue). t.end) takes.0) ∙ is in absurd (cc (e))
  goal_turn between old sensed mid turn (Sensed i) senses (inl takes) is =
      let e : ByActing ≡ AtGoal = sym (ap (λ (t : TurnValue). t.end) takes.0) ∙ is in absurd (cc (e))
  goal_turn between old sensed mid turn (Sensed i) senses (inr takes) is =
      let e : BySlipping ≡ AtGoal = sym (ap (λ (t : TurnValue). t.end) takes.0) ∙ is in absurd (cc (e))
  goal_turn between old sensed mid turn Goal senses takes is =
      let atoms : old.atoms ≡ mid.atoms = sym (ap (λ (r : Running). r.atoms) (takes.1 ∙ senses.3)) in (
        senses.0.objects,
        subst (λ (xs : List Atom). KernelFits p t bound xs (length t.steps + 1) senses.0.objects) atoms
            (subst (λ n. KernelFits p t bound old.atoms n senses.0.objects) senses.2 senses.1.fits),
      )

  pub run_reaches : (run : List TurnValue) (number : ℕ) (old new : Running) → TakesTurns leaves p t bound recorded number old run new
      → EndsRun AtGoal run → AtLast new.atoms
  run_reaches [] number old new takes ends = absurd takes
  run_reaches (turn ∷ turns) number old new (mid, (outcome, (sensed, senses, ending)), inl last) ends =
      let is : turn.end ≡ AtGoal = subst (λ (ts : List TurnValue). EndsRun AtGoal (turn ∷ ts)) last.1 ends in
      let fits = goal_turn (edits_at recorded number true) (disturbed_by leaves (edits_at recorded number false) old) sensed mid
      turn outcome senses ending is in
      subst (λ (r : Running). AtLast r.atoms) (sym last.2) fits
  run_reaches (turn ∷ []) number old new (mid, takes, inr more) ends = absurd more.1
  run_reaches (turn ∷ next ∷ turns) number old new (mid, takes, inr more) ends = run_reaches (next ∷ turns) (suc number) mid new more.1 ends

-- ---- the goal

-- where the last kernel of a table without parameters fits, the atoms carry no steps to its goal
last_carries : (problem : Problem) (plan : Table) (atoms : List Atom) (objects : List ℕ) → IsTable problem plan → plan.params ≡ 0
    → KernelFits problem plan [] atoms (length plan.steps + 1) objects → Carries problem atoms [] plan.goal_variable_count plan.goal
last_carries problem plan atoms (n ∷ ns) is_table none fits =
    let count = fits.instantiation.count in absurd (omega (arith, count, none))
last_carries problem plan atoms [] is_table none fits =
    let tail = (kernels_carry problem plan is_table).carry [] fits.instantiation (length plan.steps + 1) (omega arith) (omega arith)
    fits.proper in
    let here = carries_more problem (kernel_under plan [] (length plan.steps + 1)) atoms _ plan.goal_variable_count (goal_under plan [])
    fits.holds tail in
    let steps = none_left (steps_under plan []) (length plan.steps + 1 - 1) (omega (arith, length-map plan.steps (instance_under []))) in
    let sum : plan.params + plan.goal_variable_count ≡ plan.goal_variable_count = omega (arith, none) in
    let of = subst (λ n. All (IsAtomOf problem n) plan.goal) sum is_table.in_range.goal in
    let goal = own-atoms problem plan.goal_variable_count plan.goal of in
    subst (λ (g : List Atom). Carries problem atoms [] plan.goal_variable_count g) goal
    (subst (λ (os : List OpInst). Carries problem atoms os plan.goal_variable_count (goal_under plan [])) steps here)

pub goals_are_reached : {E : Type 0} (leaves : E → List Atom → List Atom) → GoalsAreReached leaves
goals_are_reached leaves problem tables goal variable_count recorded atoms after searches turns searchable is =
    let run = is.ends.0 in
    let plan = run.plan in
    let last = run_reaches leaves problem plan [] recorded is.last (length is.before + 1) _ _ run.takes is.ends.1 in
    let is_table = found-table (task_of problem tables is.mid goal variable_count) (searchable-from problem tables goal variable_count atoms is.mid searchable)
    run.moves plan run.found run.made in
    let here = last_carries problem plan after last.0 is_table run.made.params last.1 in
    subst (λ (g : List Atom). Carries problem after [] variable_count g) run.made.goal
    (subst (λ n. Carries problem after [] n plan.goal) run.made.goal_variable_count here)
