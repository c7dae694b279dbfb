-- Runs in vain are few: each uses a disturbance, and none uses that of another.
use Rattle.std.specs.Prelude.{◌≡◌, ℕ, ◌<◌, ◌≤◌, ◌+◌, true, false, Bool, cond, nat_le, List, [], ◌∷◌, ◌++◌, length}
use Rattle.std.proofs.Common.{zero, suc, refl, sym, ap, ◌∙◌, subst, arith}
use Rattle.std.proofs.lemmas.List.{append-nil, append_assoc, length-append}
use Rattle.px_terms.specs.declared.atom.Atom.{Atom}
use Rattle.px_terms.specs.declared.problem.Problem.{Problem}
use Rattle.px_table.specs.declared.table.Table.{Table}
use Rattle.px_ends.specs.Tasks.{task_of}
use Rattle.px_match.specs.Matching.{NoKernelFits}
use Rattle.px_planex.specs.Execution.{nothing_sensed}
use Rattle.px_planex.specs.Executors.{running}
use Rattle.px_planex.specs.Turns.{AtNoKernel, Recorded, TurnValue}
use Rattle.px_turns.proofs.Vain.{count-falls, vain_runs_use}
use Rattle.px_turns.specs.Told.{EndsRun}
use Rattle.px_turns.specs.Vain.{count_from}
use Rattle.px_pursue.specs.Pursuits.{RunsInVain, RunsPlan}
use Rattle.px_pursue.specs.PursuitLaws.{SearchesAreFew, VainRunsAreFew}
use Rattle.px_pursue.specs.Searches.{IsSearchable}
use Rattle.px_pursue.proofs.Fitting.{plans_fit}
use Rattle.px_pursue.proofs.FoundTables.{found-table, searchable-from}

module _ {E : Type 0} where
  pub count-all : (number : ℕ) (rs : List (Recorded E)) → count_from number rs ≤ length rs
  count-all number [] = omega arith
  count-all number (r ∷ rs) = by (nat_le number r.turn) (count-all number rs)
    where
      by : (b : Bool) → count_from number rs ≤ length rs → cond b 1 0 + count_from number rs ≤ suc (length rs)
      by true h = omega arith
      by false h = omega arith

module _ {E : Type 0} (leaves : E → List Atom → List Atom) (problem : Problem) (tables : List Table) (goal : List Atom) (variable_count : ℕ)
    (recorded : List (Recorded E)) where
  abbrev Plan : ℕ → List Atom → List TurnValue → List Atom → Type 0
  Plan = RunsPlan leaves problem tables goal variable_count recorded

  abbrev Vain : ℕ → ℕ → List Atom → List TurnValue → List Atom → Type 0
  Vain = RunsInVain leaves problem tables goal variable_count recorded

  -- one run in vain more, at the end
  pub one_more : (count number : ℕ) (atoms : List Atom) (turns : List TurnValue) (mid : List Atom) (run : List TurnValue)
      (after : List Atom) → Vain count number atoms turns mid → Plan (number + length turns) mid run after → EndsRun AtNoKernel run
      → Vain (suc count) number atoms (turns ++ run) after
  one_more zero number atoms turns mid run after is plan ends =
      let first : number + length turns ≡ number = omega (arith, ap length is.0) in
      let here : Plan number atoms run after =
      subst (λ (start : List Atom). Plan number start run after) is.1 (subst (λ n. Plan n mid run after) first plan) in
      (run, [], (after, here, ends, ap (λ ts. ts ++ run) is.0 ∙ sym (append-nil run), (refl, refl)))
  one_more (suc count) number atoms turns mid run after (one, rest, (next, first, ended, are, later)) plan ends =
      let place : number + length turns ≡ (number + length one) + length rest = omega (arith, ap length are, length-append one rest) in (
        one,
        rest ++ run,
        (
          next,
          first,
          ended,
          ap (λ ts. ts ++ run) are ∙ append_assoc one rest run,
          one_more count (number + length one) next rest mid run after later
              (subst (λ n. Plan n mid run after) place plan) ends,
        ),
      )

  module _ (start : List Atom) (searchable : IsSearchable (task_of problem tables start goal variable_count)) where
    -- a run in vain leaves fewer disturbances for the turns after it
    pub plan_uses : (number : ℕ) (atoms : List Atom) (run : List TurnValue) (after : List Atom) → Plan number atoms run after
        → EndsRun AtNoKernel run → count_from (number + length run) recorded < count_from number recorded
    plan_uses number atoms run after plan ends =
        let here = searchable-from problem tables goal variable_count start atoms searchable in
        let task = task_of problem tables atoms goal variable_count in
        let fits = plans_fit task plan.moves plan.plan here plan.found plan.made in
        let some : ¬ NoKernelFits problem plan.plan [] atoms = λ none. none 1 [] fits in
        vain_runs_use leaves problem plan.plan [] recorded number (running atoms nothing_sensed) (running after plan.memory) run
        searchable.valid (found-table task here plan.moves plan.plan plan.found plan.made) some plan.takes ends

    pub vain_use : (count number : ℕ) (atoms : List Atom) (turns : List TurnValue) (after : List Atom) → Vain count number atoms turns after
        → count + count_from (number + length turns) recorded ≤ count_from number recorded
    vain_use zero number atoms turns after is =
        let falls = count-falls number (number + length turns) recorded (omega arith) in omega (arith, falls)
    vain_use (suc count) number atoms turns after (run, rest, (mid, plan, ends, are, later)) =
        let used = plan_uses number atoms run mid plan ends in
        let more = vain_use count (number + length run) mid rest after later in
        let same : (number + length run) + length rest ≡ number + length turns =
        omega (arith, ap length are, length-append run rest) in
        let moved : count + count_from (number + length turns) recorded ≤ count_from (number + length run) recorded =
        subst (λ n. count + count_from n recorded ≤ count_from (number + length run) recorded) same more in
        omega (arith, used, moved)

pub vain_runs_are_few : {E : Type 0} (leaves : E → List Atom → List Atom) → VainRunsAreFew leaves
vain_runs_are_few leaves problem tables goal variable_count recorded count atoms after turns searchable is =
    let few = vain_use leaves problem tables goal variable_count recorded atoms searchable count 1 atoms turns after is in
    let all = count-all 1 recorded in
    omega (arith, few, all)

-- with D recorded disturbances there are at most D + 1 searches
pub searches_are_few : {E : Type 0} (leaves : E → List Atom → List Atom) → SearchesAreFew leaves
searches_are_few leaves problem tables goal variable_count recorded atoms after searches turns end searchable is =
    let few = vain_runs_are_few leaves problem tables goal variable_count recorded is.in_vain atoms is.mid is.before searchable is.vain in
    omega (arith, few, is.searches_are)
